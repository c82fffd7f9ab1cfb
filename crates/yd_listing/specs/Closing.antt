-- How the lists under what falls are opened, one after another (own).
use Rattle.std.specs.Prelude.{◌≡◌, ◌⊎◌, ◌↔◌, ◌<◌, ◌++◌, ℕ, true, List}
use Rattle.std.specs.Ordering.{nat_cmp}
use Rattle.std.specs.BTreeSet.{BTreeSet, contains}
use Rattle.yd_words.specs.Each.{Each}
use Rattle.yd_words.specs.Member.{IsIn, AreDistinct}
use Rattle.yd_ids.specs.declared.id.Id.{Id}
use Rattle.yd_ids.specs.declared.id.Span.{Span}
use Rattle.yd_ids.specs.Id.{IsSpan}
use Rattle.yd_ids.specs.Set.{HasId}
use Rattle.yd_arena.specs.Arena.{count_of}
use Rattle.yd_kept.specs.Kept.{KeptValue}
use Rattle.yd_listing.specs.Falling.{units_of_list, IsUnder}
use Rattle.yd_listing.specs.Steps.{Adds}

-- each number stands in the queue once, and is known
pub record IsQueue (lists : List ℕ) (seen : BTreeSet ℕ) : Type 0 where
  pub distinct : AreDistinct lists
  pub known : (n : ℕ) → IsIn n lists ↔ (contains nat_cmp seen n ≡ true)

-- numbers come behind those that are there, and no others but such
pub record Queues (may : ℕ → Type 0) (old new : List ℕ) : Type 0 where
  pub more : List ℕ
  pub front : new ≡ old ++ more
  pub only : (n : ℕ) → IsIn n more → may n

-- a list is there, and its item passes
pub record IsListOf (it : KeptValue) (test : Id → Type 0) (n : ℕ) : Type 0 where
  pub within : n < count_of it.store.placed
  pub item : Id
  pub under : IsUnder it n item
  pub passes : test item

-- each list of an item that passes is queued, unless the item was deleted
abbrev pub AreQueued : KeptValue → List Span → (Id → Type 0) → List ℕ → Type 0
AreQueued it deleted test lists = (n : ℕ) (y : Id) → IsUnder it n y → test y → HasId deleted y ⊎ IsIn n lists

-- the lists of some items come into the queue
pub record NotesLists (it : KeptValue) (deleted : List Span) (test : Id → Type 0) (old new : List ℕ) : Type 0 where
  pub queues : Queues (IsListOf it test) old new
  pub all : AreQueued it deleted test new

-- the units of a list are among the spans
abbrev pub IsOpen : KeptValue → List Span → ℕ → Type 0
IsOpen it spans n = (x : Id) → IsIn x (units_of_list it n) → HasId spans x

-- a list is opened: its units come to the spans, and their lists into the queue
pub record OpensList (it : KeptValue) (deleted : List Span) (n : ℕ) (old new : List Span) (lists more : List ℕ) : Type 0 where
  pub adds : Adds (λ x. IsIn x (units_of_list it n)) old new
  pub queues : Queues (IsListOf it (λ y. IsIn y (units_of_list it n))) lists more
  pub opened : IsOpen it new n
  pub noted : AreQueued it deleted (HasId old) lists → AreQueued it deleted (HasId new) more

-- an id hangs on others: it is one of them, or in a list whose item does
pub data HangsOn (it : KeptValue) (starts : Id → Type 0) : Id → Type 0 where
  itself : {x : Id} → starts x → HangsOn it starts x
  under : {x y : Id} (n : ℕ) → IsUnder it n y → IsIn x (units_of_list it n) → HangsOn it starts y → HangsOn it starts x

-- what hangs on the spans comes to them, but for what is under an item that was deleted
pub record Closes (it : KeptValue) (deleted : List Span) (old new : List Span) : Type 0 where
  pub kept : (x : Id) → HasId old x → HasId new x
  pub only : (x : Id) → HasId new x → HangsOn it (HasId old) x
  pub closed : (n : ℕ) (x y : Id) → IsUnder it n y → IsIn x (units_of_list it n) → HasId new y → HasId deleted y ⊎ HasId new x
  pub spans : Each IsSpan new
