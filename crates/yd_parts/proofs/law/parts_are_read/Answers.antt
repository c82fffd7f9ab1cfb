use Rattle.yd_parts.proofs.PartExactLemmas.{parts_exact}
use Rattle.yd_parts.proofs.law.parts_are_read.Goals as goal

pub returns : goal.returns
returns c = parts_exact
