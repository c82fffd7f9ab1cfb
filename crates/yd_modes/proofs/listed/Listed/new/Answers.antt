use Rattle.std.proofs.Common.{false, None}
use Rattle.yd_any.specs.Tree.{no_fields}
use Rattle.yd_modes.specs.Roles.{Values}
use Rattle.yd_modes.specs.Gathering.{parts}
use Rattle.yd_modes.specs.Listed.{plain_told}
use Rattle.yd_modes.proofs.listed.Listed.new.Goals as goal

pub returns : goal.returns
returns c = λ show us. (λ i. parts Values show (plain_told (c.new.ensures i)) (c.new-2.ensures.items i) false None no_fields no_fields us)
