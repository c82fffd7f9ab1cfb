-- The lists of a store with names, in the words of the document that it tells (own).
use Rattle.std.specs.Prelude.{◌≡◌, ◌≢◌, ◌↔◌, ◌⊎◌, ◌+◌, ◌++◌, true, List, [], ◌∷◌, Option, Some, None, map}
use Rattle.yd_words.specs.Each.{Each}
use Rattle.yd_words.specs.Member.{IsIn}
use Rattle.yd_ids.specs.declared.id.Id.{Id}
use Rattle.yd_ids.specs.Id.{IsClient, IsClock}
use Rattle.yd_ops.specs.declared.lists.List.{List as DocList}
use Rattle.yd_ops.specs.declared.lists.Parent.{Parent}
use Rattle.yd_ops.specs.Operation.{Operation}
use Rattle.yd_meaning.specs.Document.{Document}
use Rattle.yd_store.specs.Units.{HasMarked}
use Rattle.yd_listing.specs.Lending.{Lent, lent, Walk, units_left}
use Rattle.yd_listing.specs.declared.lent.LentRun.{LentRun}
use Rattle.yd_kept.specs.Telling.{TellsLists}
use Rattle.yd_kept.specs.Kept.{KeptValue}

-- a store tells a document: it has the operations of each list under its name, and none under others, and it deletes what is marked
pub record Tells (it : KeptValue) (document : Document) : Type 0 where
  pub lists : TellsLists document it.names it.store
  pub marks : (id : Id) → (document.deleted id ≡ true) ↔ HasMarked it.store id

-- the operations of a document's list, in order, each as it is lent
abbrev pub lent_units : Document → DocList → List Lent
lent_units document list = map (λ (o : Operation). lent (document.deleted o.id) o) (document.units list)

-- the units that a walk still has to come, and none where there is no walk
abbrev pub units_to_come : Option Walk → List Lent
units_to_come None = []
units_to_come (Some walk) = units_left walk

-- the name of a parent's own list, which is under no key
abbrev pub own_name : Parent → DocList
own_name parent = record { parent = parent; key = None }

-- some units stand behind others, and are the last of all
abbrev pub EndIn : List Lent → List Lent → Type 0
EndIn all units = (front : List Lent) × (all ≡ front ++ units)

-- some units stand behind others, none of which has the id; there are none, or one of them has it
pub record IsFrom (id : Id) (all units : List Lent) : Type 0 where
  pub front : List Lent
  pub parts : all ≡ front ++ units
  pub apart : (unit : Lent) → IsIn unit front → unit.id ≢ id
  pub found : (units ≡ []) ⊎ ((unit : Lent) × IsIn unit units × (unit.id ≡ id))

-- the first of some units has another id
abbrev pub BeginsApart : Id → List Lent → Type 0
BeginsApart id [] = ⊥
BeginsApart id (unit ∷ units) = unit.id ≢ id

-- some units stand behind others, none of which has the id; where there are others, the first of the units has another id, so the unit before the one with the id is among them
pub record IsAround (id : Id) (all units : List Lent) : Type 0 where
  pub front : List Lent
  pub parts : all ≡ front ++ units
  pub apart : (unit : Lent) → IsIn unit front → unit.id ≢ id
  pub before : (front ≡ []) ⊎ BeginsApart id units

-- the id of a unit is in range, and so is the clock behind it
pub record HasRoom (unit : Lent) : Type 0 where
  pub client : IsClient unit.id.client
  pub end : IsClock (unit.id.clock + 1)

-- so it is with all that are still to come
abbrev pub AreInRange : Option Walk → Type 0
AreInRange walk = Each HasRoom (units_to_come walk)

-- the ids of a run are in range
pub record IsInRange (run : LentRun) : Type 0 where
  pub client : IsClient run.id.client
  pub ids : IsClock (run.id.clock + run.len)
