-- The laws of what is deleted besides, as statements.
use Rattle.std.specs.Prelude.{◌≡◌, ◌⊎◌, ◌<◌, ◌||◌, ℕ, Bool, true, List, [], Some, None, filter, slice_get}
use Rattle.yd_words.specs.Member.{IsIn}
use Rattle.yd_ids.specs.declared.id.Id.{Id}
use Rattle.yd_ids.specs.declared.id.Span.{Span}
use Rattle.yd_ops.specs.declared.lists.List.{List as DocList}
use Rattle.yd_ops.specs.Operation.{Operation}
use Rattle.yd_arena.specs.Arena.{next_clock}
use Rattle.yd_ops.specs.Received.{has_operation, IsWritten}
use Rattle.yd_meaning.specs.Held.{is_lost, is_named}
use Rattle.yd_meaning.specs.Staying.{StaysHeld}
use Rattle.yd_meaning.specs.Deletions.{AreClosedDeletions, AreLeastDeletions}
use Rattle.yd_kept.specs.Filling.{AreFilledLists}
use Rattle.yd_kept.specs.Telling.{ListsAreGrown}
use Rattle.yd_kept.specs.Kept.{KeptValue}
use Rattle.yd_listing.specs.declared.came.Came.{Came}
use Rattle.yd_listing.specs.Falling.{units_of_list, IsCame, IsNamedIn, CameInto, Drops}

-- lists by their names
pub record HasLists (it : KeptValue) (lists : DocList → List Id) : Type 0 where
  pub named : (n : ℕ) (name : DocList) → slice_get it.names n ≡ Some name → lists name ≡ units_of_list it n
  pub others : (name : DocList) → (IsIn name it.names → ⊥) → lists name ≡ []

-- a store has just what is held, in lists that grew; what came is what became held, in its list, or lost; and each list had
-- what was held before, in its order
pub record BecameHeld (it : KeptValue) (came : List Came) (old_lists lists : DocList → List Id) (part held : List Operation) : Type 0 where
  pub by_name : HasLists it lists
  pub filled : AreFilledLists held it.names it.store.placed
  pub grown : ListsAreGrown held it.names it.store
  pub there : (x : Id) → (has_operation held x ≡ true) → x.clock < next_clock it.store.placed x.client.0
  pub no_more : (x : Id) → x.clock < next_clock it.store.placed x.client.0 → has_operation held x ≡ true
  pub before : (list : DocList) → old_lists list ≡ filter (has_operation part) (lists list)
  pub stand : (one : Came) → IsIn one came → IsCame it one
  pub comes : (n : ℕ) (x : Id) → IsIn x (units_of_list it n) → (has_operation part x ≡ true) ⊎ CameInto came (Some n) x
  pub lost : (x : Id) → CameInto came None x → is_lost held x ≡ true
  pub losses : (x : Id) → is_lost held x ≡ true → (is_lost part x ≡ true) ⊎ CameInto came None x

-- what is named is what was and some more, and all of it is known that is held and was not so, or was not named
pub record BecameNamed (part held : List Operation) (named more : Id → Bool) (these : Id → Type 0) : Type 0 where
  pub stays : (x : Id) → named x ≡ true → more x ≡ true
  pub known : (x : Id) → these x → more x ≡ true
  pub all : (x : Id) → has_operation held x ≡ true → more x ≡ true → ((has_operation part x ≡ true) × (named x ≡ true)) ⊎ these x

-- whether an id was deleted, or is so now
abbrev pub is_gone : List Span → List Span → Id → Bool
is_gone old besides x = is_named old x || is_named besides x

-- all is deleted that must be, and nothing else
pub record GoesOnDeleted (lists : DocList → List Id) (held : List Operation) (more now : Id → Bool) : Type 0 where
  pub closed : AreClosedDeletions lists held more now
  pub least : AreLeastDeletions lists held more now

-- so it is with what is deleted besides, where it was so with what was deleted in a part
abbrev pub DeletionsGoOn : Type 0
DeletionsGoOn = (it : KeptValue) (old waiting news : List Span) (came : List Came) (besides : List Span) → Drops it old (IsNamedIn waiting news) came besides →
    (part held : List Operation) → IsWritten held → StaysHeld part held → (old_lists lists : DocList → List Id) → BecameHeld it came old_lists lists part held →
    (named more : Id → Bool) → BecameNamed part held named more (IsNamedIn waiting news) → AreClosedDeletions old_lists part named (is_named old) →
    AreLeastDeletions old_lists part named (is_named old) → GoesOnDeleted lists held more (is_gone old besides)
