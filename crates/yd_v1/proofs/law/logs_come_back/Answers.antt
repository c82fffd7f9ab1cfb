use Rattle.yd_v1.proofs.LogWrittenLemmas.{logs_back}
use Rattle.yd_v1.proofs.law.logs_come_back.Goals as goal

pub returns : goal.returns
returns c = logs_back
