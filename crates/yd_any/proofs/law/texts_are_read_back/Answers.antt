use Rattle.yd_any.proofs.TextLemmas.{read_back}
use Rattle.yd_any.proofs.law.texts_are_read_back.Goals as goal

pub returns : goal.returns
returns c = read_back
