-- Whether two units are the halves of one pair, by their ids.
use Rattle.std.specs.Prelude.{Bool, false, ◌&&◌, List, Option, Some, None}
use Rattle.yd_ids.specs.declared.id.Id.{Id}
use Rattle.yd_ids.specs.Ids.{is_same}
use Rattle.yd_ops.specs.Operation.{Operation, later_id}
use Rattle.yd_editing.specs.Refused.{has_high}

-- whether the second unit, where there are two, is the one behind the first, which is a first half among the units of a list
abbrev pub are_halves : List Operation → Option Id → Option Id → Bool
are_halves units None behind = false
are_halves units (Some high) None = false
are_halves units (Some high) (Some low) = is_same low (later_id high 1) && has_high units high
