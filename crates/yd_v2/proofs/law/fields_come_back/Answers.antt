use Rattle.yd_v2.proofs.WrittenLemmas.{written_come_back}
use Rattle.yd_v2.proofs.law.fields_come_back.Goals as goal

pub returns : goal.returns
returns c start = written_come_back
