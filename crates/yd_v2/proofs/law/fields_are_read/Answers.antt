use Rattle.yd_v2.proofs.FieldExactLemmas.{v2_fields_exact}
use Rattle.yd_v2.proofs.law.fields_are_read.Goals as goal

pub returns : goal.returns
returns c = v2_fields_exact
