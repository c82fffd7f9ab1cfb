-- What is deleted and what waits once more is held or named (own).
use Rattle.std.specs.Prelude.{◌≡◌, ◌↔◌, ◌≤◌, ◌⊎◌, ℕ, Bool, true, false, List, Option, Some, None}
use Rattle.yd_ids.specs.declared.id.Id.{Id}
use Rattle.yd_ids.specs.declared.id.Span.{Span}
use Rattle.yd_ids.specs.Set.{HasId, union_of}
use Rattle.yd_ids.specs.Vector.{clock_of}
use Rattle.yd_ops.specs.declared.lists.List.{List as DocList}
use Rattle.yd_ops.specs.Operation.{Operation}
use Rattle.yd_origins.specs.Growing.{GrowsByScan}
use Rattle.yd_meaning.specs.Held.{standing, is_named, is_lost}
use Rattle.yd_meaning.specs.Grown.{table_in}
use Rattle.yd_meaning.specs.Staying.{StaysHeld}
use Rattle.yd_kept.specs.Telling.{IsSoundStore}
use Rattle.yd_kept.specs.Kept.{KeptValue}
use Rattle.yd_received.specs.Received.{held_of}
use Rattle.yd_held.specs.Held.{HeldValue}
use Rattle.yd_held.specs.Turn.{AreHeldInTurn}
use Rattle.yd_listing.specs.declared.came.Came.{Came}
use Rattle.yd_listing.specs.Falling.{IsNamedIn, Drops}
use Rattle.yd_listing.specs.Law.{BecameNamed}
use Rattle.yd_state.specs.Placing.{KeepsIds, KeepsAll, CanBePlaced}
use Rattle.yd_state.specs.Telling.{CanBeLess}
use Rattle.yd_state.specs.declared.sets.Sets.{Sets as SetsValue}
use Rattle.yd_state.specs.Grown.{ids_of, AreOwnDeletions, AreMarked}
use Rattle.yd_state.specs.Coming.{AreCame}

-- a set, or what it grew to
abbrev pub grown_to : List Span → Option (List Span) → List Span
grown_to set None = set
grown_to set (Some grown) = grown

-- ---- what is deleted

-- a set grew to have what is deleted besides, since some entries came into a store
pub record DeletesBy (k : HeldValue) (order : List ℕ) (it : KeptValue) (deleted waiting more besides now : List Span) : Type 0 where
  pub came : List Came
  pub came_are : AreCame k it order came
  pub drops : Drops it deleted (IsNamedIn waiting more) came besides
  pub grown : now ≡ union_of deleted besides

-- what was held of a part stays held, in a store that had just its ids, with its own deletions; and named are those that were
-- and more, of which all are among the waiting and the new ones that are held now and were not, or were not named
pub record GoesOnFrom (k : HeldValue) (part : List Operation) (was : KeptValue) (deleted named waiting more news : List Span) : Type 0 where
  pub stays : StaysHeld part (held_of k.received)
  pub keeps : KeepsIds part was
  pub store : IsSoundStore was.store
  pub own : AreOwnDeletions was part named deleted
  pub became : BecameNamed part (held_of k.received) (is_named named) (is_named news) (IsNamedIn waiting more)

-- from each such part on the set is a store's own deletions again
abbrev pub DeletesOn : HeldValue → List Span → List Span → List Span → KeptValue → KeptValue → List Span → Type 0
DeletesOn k deleted waiting more was new now = (part : List Operation) (named news : List Span) → GoesOnFrom k part was deleted named waiting more news →
    AreOwnDeletions new (held_of k.received) news now

-- where what was deleted was marked, and all that is lost is deleted now, so it is with what is deleted now
abbrev pub MarksOn : HeldValue → KeptValue → KeptValue → List Span → List Span → Type 0
MarksOn k was new deleted now = AreMarked was.store deleted → ((x : Id) → is_lost (held_of k.received) x ≡ true → HasId now x) → AreMarked new.store now

-- ---- what waits

-- what waits of two sets: their ids that are not held
abbrev pub AreLeft : HeldValue → List Span → List Span → List Span → Type 0
AreLeft k waiting more left = (x : Id) → HasId left x ↔ ((HasId waiting x ⊎ HasId more x) × (clock_of k.vector x.client.0 ≤ x.clock))

-- ---- how lists grow

-- from a sound store to another each list grew by scans, of what is held then
abbrev pub ListsGrow : HeldValue → KeptValue → KeptValue → Type 0
ListsGrow k was new = IsSoundStore was.store → (list : DocList) → GrowsByScan (table_in (standing (held_of k.received)) list) (ids_of was list) (ids_of new list)

-- so it is, unless all was held anew
abbrev pub GrowsThen : Bool → HeldValue → KeptValue → KeptValue → Type 0
GrowsThen false k was new = ListsGrow k was new
GrowsThen true k was new = Unit {0}

-- ---- all of this

-- what became held can be placed: in a store with what was held, of which less can be told; or, where all was held anew, in
-- an empty one
abbrev pub CanSettle : Bool → HeldValue → List ℕ → List ℕ → KeptValue → Type 0
CanSettle false k told order it = CanBePlaced k order it × CanBeLess k told it.store
CanSettle true k told order it = AreHeldInTurn k.received.runs k.received.entries (λ client. 0) order (clock_of k.vector)

-- the set is a store's own deletions, where all was held anew and deletions name what either set has
abbrev pub DeletesAnew : HeldValue → List Span → List Span → KeptValue → List Span → Type 0
DeletesAnew k named more new now = (news : List Span) → ((x : Id) → HasId news x ↔ (HasId named x ⊎ HasId more x)) → AreOwnDeletions new (held_of k.received) news now

-- where all that is lost is deleted now, what is deleted now is marked
abbrev pub MarksAnew : HeldValue → KeptValue → List Span → Type 0
MarksAnew k new now = ((x : Id) → is_lost (held_of k.received) x ≡ true → HasId now x) → AreMarked new.store now

-- the marks go on from those that were, or are set anew
abbrev pub MarksThen : Bool → HeldValue → SetsValue → KeptValue → KeptValue → List Span → Type 0
MarksThen false k sets was new now = MarksOn k was new sets.deletes now
MarksThen true k sets was new now = MarksAnew k new now

-- what is deleted goes on from what was, or is found anew
abbrev pub DeletesThen : Bool → HeldValue → SetsValue → List Span → KeptValue → KeptValue → List Span → Type 0
DeletesThen false k sets more was new now = DeletesOn k sets.deletes sets.waiting more was new now
DeletesThen true k sets more was new now = DeletesAnew k sets.named more new now

-- the named ids that may wait: those that waited, or, where all was held anew, all of them
abbrev pub known_of : Bool → SetsValue → List Span
known_of false sets = sets.waiting
known_of true sets = sets.named

-- the store has just what is held, what waits and what is deleted is so, what is deleted is marked, and the lists grew
pub record Settles (anew : Bool) (k : HeldValue) (sets : SetsValue) (more : List Span) (was new : KeptValue) (left now : List Span) : Type 0 where
  pub keeps : KeepsAll (held_of k.received) new
  pub store : IsSoundStore new.store
  pub waits : AreLeft k (known_of anew sets) more left
  pub deletes : DeletesThen anew k sets more was new now
  pub marks : MarksThen anew k sets was new now
  pub grows : GrowsThen anew k was new
