-- A list of a store as it is lent: its runs from the first place to the last, and their units (own).
use Rattle.std.specs.Prelude.{◌≡◌, ◌≢◌, ◌↔◌, ◌<◌, ◌++◌, ℕ, Bool, true, List, [], ◌∷◌, Option, Some, None, map, flat_map}
use Rattle.yd_words.specs.Member.{IsIn}
use Rattle.yd_ids.specs.declared.id.Id.{Id}
use Rattle.yd_ops.specs.Operation.{UnitContent, gone_unit, Operation, later_id, units_of_content}
use Rattle.yd_ops.specs.View.{content_value}
use Rattle.yd_chains.specs.Chain.{last_of, behind, before, up_to}
use Rattle.yd_arena.specs.Lists.{AreLists}
use Rattle.yd_arena.specs.Arena.{runs_of, count_of, places_in, HasUnit, IsArena}
use Rattle.yd_arena.specs.Marks.{mark_at}
use Rattle.yd_store.specs.Contents.{told_of}
use Rattle.yd_store.specs.Store.{Stored, AreTold}
use Rattle.yd_store.specs.Units.{operations_at, operations_in, HasMarked}
use Rattle.yd_listing.specs.declared.lent.LentRun.{LentRun}
use Rattle.yd_listing.specs.declared.row.Ends.{Ends}

-- a unit as it is lent: its id, what it holds, and whether it is deleted
pub record Lent : Type 0 where
  pub id : Id
  pub content : UnitContent
  pub is_deleted : Bool

-- an operation as it is lent, deleted or not
abbrev pub lent : Bool → Operation → Lent
lent deleted o = record { id = o.id; content = o.content; is_deleted = deleted }

-- units of a content as they are lent, from an id on
abbrev pub lent_from : Id → Bool → List UnitContent → List Lent
lent_from id deleted [] = []
lent_from id deleted (unit ∷ units) = record { id = id; content = unit; is_deleted = deleted } ∷ lent_from (later_id id 1) deleted units

-- the units that a run lends
abbrev pub units_of_run : LentRun → List Lent
units_of_run run = lent_from run.id run.deleted (units_of_content (content_value run.content.now))

-- the operations of the run at a place as they are lent, with the run's mark
abbrev pub lent_at : Stored → ℕ → List Lent
lent_at it place = map (lent (mark_at it.marks.rows place).deleted) (operations_at (runs_of it.placed) (told_of it.contents) place)

-- the units of a list as they are lent, in order
abbrev pub lent_in : Stored → ℕ → List Lent
lent_in it list = flat_map (lent_at it) (places_in it.placed list)

-- and from a place of it on
abbrev pub lent_from_place : Stored → ℕ → ℕ → List Lent
lent_from_place it list place = flat_map (lent_at it) (place ∷ behind (Some place) (places_in it.placed list))

-- no unit of a list is gone
abbrev pub HasNoGone : Stored → ℕ → Type 0
HasNoGone it list = (o : Operation) → IsIn o (operations_in it list) → o.content ≢ gone_unit

-- a run of a list has the unit with the id
pub record StandsAt (it : Stored) (list : ℕ) (id : Id) (place : ℕ) : Type 0 where
  pub before : ℕ
  pub has : HasUnit (runs_of it.placed) place before id
  pub member : IsIn place (places_in it.placed list)

-- a place of a list stands directly before that of the run with a unit
pub record StandsBefore (it : Stored) (list : ℕ) (id : Id) (place : ℕ) : Type 0 where
  pub next : ℕ
  pub stands : StandsAt it list id next
  pub is_prev : Some place ≡ last_of (before next (places_in it.placed list))

-- ---- a walk

-- the ends of a row of places
abbrev pub last_or : ℕ → List ℕ → ℕ
last_or place [] = place
last_or place (other ∷ places) = last_or other places

abbrev pub ends_of : List ℕ → Option Ends
ends_of [] = None
ends_of (place ∷ places) = Some (record { first = place; last = last_or place places })

-- the store, the list, and the ends of what is still to come
pub record Walk : Type 0 where
  pub store : Stored
  pub list : ℕ
  pub ends : Option Ends

-- the places from one to another
abbrev pub places_between : Option Ends → List ℕ → List ℕ
places_between None places = []
places_between (Some ends) places = up_to (Some ends.last) (ends.first ∷ behind (Some ends.first) places)

-- the places that are still to come
abbrev pub places_left : Walk → List ℕ
places_left walk = places_between walk.ends (places_in walk.store.placed walk.list)

-- and the units that are
abbrev pub units_left : Walk → List Lent
units_left walk = flat_map (lent_at walk.store) (places_left walk)

-- places stand in a row of a list of the store, and these are their ends
pub record IsRow (it : Stored) (list : ℕ) (row : List ℕ) (ends : Option Ends) : Type 0 where
  pub front : List ℕ
  pub back : List ℕ
  pub parts : places_in it.placed list ≡ front ++ (row ++ back)
  pub ends_are : ends ≡ ends_of row

-- what is still to come stands in a row of a list of which no unit is gone, in a sound store
pub record IsWalk (walk : Walk) : Type 0 where
  pub within : walk.list < count_of walk.store.placed
  pub row : List ℕ
  pub is_row : IsRow walk.store walk.list row walk.ends
  pub has_no_gone : HasNoGone walk.store walk.list
  pub lists : AreLists walk.store.placed.linked
  pub told : AreTold (runs_of walk.store.placed) (told_of walk.store.contents)

-- ---- the law

-- what is lent of a list is its operations in their order, each with whether the store has it marked
abbrev pub ListsLendUnits : Type 0
ListsLendUnits = (it : Stored) → IsArena it.placed.lines (runs_of it.placed) → AreLists it.placed.linked → AreTold (runs_of it.placed) (told_of it.contents) →
    (deleted : Id → Bool) → ((id : Id) → (deleted id ≡ true) ↔ HasMarked it id) → (list : ℕ) → list < count_of it.placed →
    lent_in it list ≡ map (λ (o : Operation). lent (deleted o.id) o) (operations_in it list)
