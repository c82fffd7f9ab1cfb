use Rattle.yd_v1.proofs.ExactLemmas.{fields_exact}
use Rattle.yd_v1.proofs.law.fields_are_read.Goals as goal

pub returns : goal.returns
returns c = fields_exact
