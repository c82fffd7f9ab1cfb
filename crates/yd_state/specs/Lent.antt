-- The units of a list as they are lent.
use Rattle.std.specs.Prelude.{◌+◌, ◌≤◌, Bool, List, Option, map, take, drop}
use Rattle.yd_ids.specs.declared.id.Id.{Id}
use Rattle.yd_ids.specs.Id.{IsClient, IsClock}
use Rattle.yd_ops.specs.declared.lists.List.{List as DocList}
use Rattle.yd_ops.specs.Operation.{Operation, units_of_content}
use Rattle.yd_ops.specs.Value.{len_of}
use Rattle.yd_ops.specs.View.{content_value}
use Rattle.yd_origins.specs.Deleted.{last_of}
use Rattle.yd_meaning.specs.Document.{Document}
pub use Rattle.yd_listing.specs.Lending.{Lent, lent_from}
use Rattle.yd_listing.specs.Lending.{Walk}
pub use Rattle.yd_listing.specs.Listing.{BeginsApart, IsAround}
use Rattle.yd_listing.specs.Listing.{units_to_come}
use Rattle.yd_state.specs.declared.listing.RunView.{RunView}

-- an operation as it is lent
abbrev pub lent : (Id → Bool) → Operation → Lent
lent deleted o = record { id = o.id; content = o.content; is_deleted = deleted o.id }

-- the units of a document's list, in order, as they are lent
abbrev pub lent_units : Document → DocList → List Lent
lent_units document list = map (lent document.deleted) (document.units list)

-- the id that stands last in a list of a document
abbrev pub last_unit : Document → DocList → Option Id
last_unit document list = last_of (map (λ (o : Operation). o.id) (document.units list))

-- the units that a piece lends
abbrev pub units_of_view : RunView → List Lent
units_of_view view = lent_from view.id view.deleted (take view.len (drop view.offset (units_of_content (content_value view.content.now))))

-- the units of a piece are its content's, and their ids are in range
pub record IsWithin (view : RunView) : Type 0 where
  pub units : view.offset + view.len ≤ len_of (content_value view.content.now)
  pub client : IsClient view.id.client
  pub ids : IsClock (view.id.clock + view.len)

-- the units that are still to come
abbrev pub units_left : Option Walk → List Lent
units_left walk = units_to_come walk
