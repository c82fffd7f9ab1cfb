-- What is told less of held units while an update is taken: what is left to do, and what it does (own).
use Rattle.std.specs.Prelude.{◌≡◌, ◌↔◌, ◌⊎◌, ◌≤◌, ◌+◌, ◌++◌, ℕ, true, List, Some, slice_get}
use Rattle.yd_words.specs.Member.{IsIn}
use Rattle.yd_words.specs.Each.{Each}
use Rattle.yd_ids.specs.declared.id.Id.{Id}
use Rattle.yd_ids.specs.Span.{InSpan}
use Rattle.yd_ops.specs.Operation.{Operation, gone_operation, level_of, text_unit}
use Rattle.yd_arena.specs.Arena.{count_of, next_clock}
use Rattle.yd_store.specs.Store.{Stored}
use Rattle.yd_store.specs.Units.{HasOperation, HasMarked}
use Rattle.yd_store.specs.Lowering.{number_of, lowered_in}
use Rattle.yd_store.specs.Halves.{IsKnown, IsFreed, torn_at}
use Rattle.yd_meaning.specs.Held.{is_gone}
use Rattle.yd_kept.specs.Kept.{KeptValue, KeepsHeld}
use Rattle.yd_kept.specs.Marking.{IsParted}
use Rattle.yd_entries.specs.declared.entry.Entry.{Entry}
use Rattle.yd_entries.specs.Entries.{operations_of_taken, covers, is_held}
use Rattle.yd_entries.specs.Staying.{IsLess}
use Rattle.yd_received.specs.Received.{held_of}
use Rattle.yd_held.specs.Held.{HeldValue}
use Rattle.yd_held.specs.Turn.{IsToldAs, IsToldAnew}
use Rattle.yd_state.specs.declared.less.Less.{Less}
use Rattle.yd_state.specs.declared.less.Less.TheVariants.{Down, Half}

-- ---- what is there meanwhile

-- an operation is held as it is, or its id is one of which less is to be told; one that is gone has its id alone
pub record IsHeldAs (k : HeldValue) (left : Id → Type 0) (o : Operation) : Type 0 where
  pub held : Operation
  pub there : IsIn held (held_of k.received)
  pub told : IsToldAs o held
  pub gone : is_gone o ≡ true → o ≡ gone_operation o.id
  pub same_or_left : (held ≡ o) ⊎ left o.id

-- so is each operation of a store
abbrev pub EachIsHeld : HeldValue → (Id → Type 0) → Stored → Type 0
EachIsHeld k left it = (o : Operation) → HasOperation it o → IsHeldAs k left o

-- the entry with a number is held, and each unit of it is gone, or deleted, or U+FFFD
pub record IsLessEntry (k : HeldValue) (at : ℕ) : Type 0 where
  pub entry : Entry
  pub there : slice_get k.received.entries at ≡ Some entry
  pub held : is_held entry ≡ true
  pub less : (q : Operation) → IsIn q (operations_of_taken k.received.runs entry) → (is_gone q ≡ true) ⊎ IsLess q

-- less can be told of the entries with these numbers: they are so, and besides them the store has what is held
pub record CanBeLess (k : HeldValue) (told : List ℕ) (it : Stored) : Type 0 where
  pub each : EachIsHeld k (IsToldAnew k.received told) it
  pub less : Each (IsLessEntry k) told

-- the entry is held, each unit of it is gone, or deleted, or U+FFFD, and where it is U+FFFD the store has a text unit there
pub record IsLessIn (k : HeldValue) (t : Entry) (it : Stored) : Type 0 where
  pub here : IsIn t k.received.entries
  pub held : is_held t ≡ true
  pub less : (q : Operation) → IsIn q (operations_of_taken k.received.runs t) → (is_gone q ≡ true) ⊎ IsLess q
  pub known : (q : Operation) → IsIn q (operations_of_taken k.received.runs t) → q.content ≡ text_unit 0xFFFD → IsKnown it q.id

-- ---- what is to be done

-- it is for the id
abbrev pub IsFor : Less → Id → Type 0
IsFor (Down span level) x = InSpan span x
IsFor (Half torn) x = torn.half ≡ x

-- one of them is
abbrev pub IsToTell : List Less → Id → Type 0
IsToTell less x = (one : Less) × IsIn one less × IsFor one x

-- what is told of an operation then
abbrev pub told_by : Less → Operation → Operation
told_by (Down span level) o = lowered_in span (number_of level) o
told_by (Half torn) o = torn_at (Some torn.half) o

-- it tells what is held
abbrev pub TellsHeld : HeldValue → Less → Type 0
TellsHeld k (Down span level) = (q : Operation) → IsIn q (held_of k.received) → InSpan span q.id → level_of q.content ≡ number_of level
TellsHeld k (Half torn) = (q : Operation) → IsIn q (held_of k.received) → q.id ≡ torn.half → q.content ≡ text_unit 0xFFFD

-- it takes no memory
abbrev pub IsReady : Stored → Less → Type 0
IsReady it (Down span level) = (span.clock + span.len ≤ next_clock it.placed span.client.0) × IsParted it span
IsReady it (Half torn) = IsFreed it (Some torn.half) (Some torn)

-- all is ready
pub record AreReady (k : HeldValue) (less : List Less) (it : Stored) : Type 0 where
  pub ready : Each (IsReady it) less
  pub tell : Each (TellsHeld k) less

-- all is ready, and with it the store tells what is held
pub record LeavesLess (k : HeldValue) (less : List Less) (it : Stored) : Type 0 where
  pub ready : AreReady k less it
  pub each : EachIsHeld k (IsToTell less) it

-- more is ready than was: with it all units of an entry
pub record ReadiesMore (k : HeldValue) (t : Entry) (old_less less : List Less) (it : Stored) : Type 0 where
  pub more : List Less
  pub less_is : less ≡ old_less ++ more
  pub ready : AreReady k more it
  pub left : (x : Id) → covers t x ≡ true → IsToTell more x

-- ---- what is done

-- runs were cut, and nothing else has changed
pub record CutsRuns (old new : KeptValue) : Type 0 where
  pub keeps : KeepsHeld old new
  pub names : new.names ≡ old.names
  pub count : count_of new.store.placed ≡ count_of old.store.placed

-- the store tells less, and where it stands and what is marked is as it was
pub record KeepsStanding (old new : KeptValue) : Type 0 where
  pub names : new.names ≡ old.names
  pub placed : new.store.placed ≡ old.store.placed
  pub marks : (id : Id) → HasMarked new.store id ↔ HasMarked old.store id
