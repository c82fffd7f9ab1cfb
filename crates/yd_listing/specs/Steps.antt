-- How spans are gathered that fall, step by step (own).
use Rattle.std.specs.Prelude.{◌≡◌, ◌≢◌, ◌⊎◌, ◌-◌, ◌+◌, ℕ, true, min, List, Some, None}
use Rattle.yd_words.specs.Each.{Each}
use Rattle.yd_words.specs.Member.{IsIn}
use Rattle.yd_ids.specs.declared.id.Id.{Id}
use Rattle.yd_ids.specs.declared.id.Span.{Span}
use Rattle.yd_ids.specs.Id.{IsSpan}
use Rattle.yd_ids.specs.Span.{InSpan}
use Rattle.yd_ids.specs.Set.{HasId}
use Rattle.yd_ops.specs.declared.lists.List.{List as DocList}
use Rattle.yd_origins.specs.Deleted.{last_of}
use Rattle.yd_meaning.specs.Names.{has_key, item_of_list}
use Rattle.yd_scan.specs.declared.stretch.Stretch.{Stretch}
use Rattle.yd_kept.specs.Kept.{KeptValue}
use Rattle.yd_listing.specs.declared.came.Came.{Came}
use Rattle.yd_listing.specs.Falling.{units_of_list, IsUnder, IsKeyed, IsGone, IsOutlived}

-- the span's ids below a clock
abbrev pub span_below : Span → ℕ → Span
span_below span clock = record { client = span.client; clock = span.clock; len = min span.len (clock - span.clock) }

-- the ids of a run
abbrev pub span_of : Stretch → Span
span_of run = record { client = run.id.client; clock = run.id.clock; len = run.len }

-- the last id of a span
abbrev pub last_of_span : Span → Id
last_of_span span = record { client = span.client; clock = span.clock + (span.len - 1) }

-- the span's ids behind a clock
abbrev pub span_behind : Span → ℕ → Span
span_behind span clock = record { client = span.client; clock = clock + 1; len = span.clock + span.len - (clock + 1) }

-- spans have the ids that they had, and no others but such
pub record Adds (may : Id → Type 0) (old new : List Span) : Type 0 where
  pub kept : (x : Id) → HasId old x → HasId new x
  pub only : (x : Id) → HasId new x → HasId old x ⊎ may x
  pub spans : Each IsSpan old → Each IsSpan new

-- spans get each of some ids that was not deleted, and no others
pub record AddsAll (deleted : List Span) (these : Id → Type 0) (old new : List Span) : Type 0 where
  pub adds : Adds these old new
  pub all : (x : Id) → these x → IsGone deleted new x

-- an id of a span, but for one
abbrev pub InSpanBut : Span → Id → Id → Type 0
InSpanBut span last x = InSpan span x × (x ≢ last)

-- an id of a list that is not its last
abbrev pub IsOther : List Id → Id → Type 0
IsOther units x = IsIn x units × (last_of units ≢ Some x)

-- an id of a span whose list has a deleted item
abbrev pub InSpanUnder : List Span → DocList → Span → Id → Type 0
InSpanUnder deleted name span x = InSpan span x × ((y : Id) × (item_of_list name ≡ Some y) × HasId deleted y)

-- an id of a list with a key that is not its last
abbrev pub IsOtherUnder : DocList → List Id → Id → Type 0
IsOtherUnder name units x = IsOther units x × (has_key name ≡ true)

-- an id that came may fall with its item, or under its key
pub record MayFall (it : KeptValue) (deleted : List Span) (one : Came) (x : Id) : Type 0 where
  pub why : ((one.list ≡ None) × InSpan one.span x) ⊎ (n : ℕ) × IsIn x (units_of_list it n)
      × (((y : Id) × IsUnder it n y × HasId deleted y) ⊎ (IsKeyed it n × (last_of (units_of_list it n) ≢ Some x)))

-- what falls since some units came
pub record IsTaken (it : KeptValue) (deleted : List Span) (one : Came) (spans : List Span) : Type 0 where
  pub lost : one.list ≡ None → (x : Id) → InSpan one.span x → IsGone deleted spans x
  pub under : (n : ℕ) (x y : Id) → one.list ≡ Some n → InSpan one.span x → IsUnder it n y → HasId deleted y → IsGone deleted spans x
  pub keys : (n : ℕ) (x : Id) → one.list ≡ Some n → InSpan one.span x → IsKeyed it n → last_of (units_of_list it n) ≢ Some x → IsGone deleted spans x
  pub outlived : (n : ℕ) (x : Id) → one.list ≡ Some n → InSpan one.span x → IsKeyed it n → last_of (units_of_list it n) ≡ Some x →
      IsOutlived deleted spans (units_of_list it n)

-- spans take what falls since some units came
pub record Takes (it : KeptValue) (deleted : List Span) (one : Came) (old new : List Span) : Type 0 where
  pub adds : Adds (MayFall it deleted one) old new
  pub taken : IsTaken it deleted one new

-- spans take what falls since all of some units came
pub record TakesAll (it : KeptValue) (deleted : List Span) (came : List Came) (old new : List Span) : Type 0 where
  pub adds : Adds (λ x. (one : Came) × IsIn one came × MayFall it deleted one x) old new
  pub taken : (one : Came) → IsIn one came → IsTaken it deleted one new
