-- The unit that stands last in a list, as it is lent.
use Rattle.std.specs.Prelude.{get_or}
use Rattle.yd_ops.specs.Operation.{gone_unit, units_of_content}
use Rattle.yd_ops.specs.View.{content_value}
use Rattle.yd_state.specs.declared.listing.RunView.{RunView}
use Rattle.yd_state.specs.Lent.{Lent}

-- the one unit of a piece
abbrev pub unit_of_view : RunView → Lent
unit_of_view view = record { id = view.id; content = get_or (units_of_content (content_value view.content.now)) view.offset gone_unit; is_deleted = view.deleted }
