-- Which items have lists, found by spans of ids (own).
use Rattle.std.specs.Prelude.{◌≡◌, ◌≤◌, ◌<◌, ◌⊎◌, ℕ, ◌-◌, ◌+◌, ◌*◌, min, true, List, Option, Some, None, slice_get}
use Rattle.std.specs.Ordering.{nat_cmp}
use Rattle.std.specs.BTreeSet.{BTreeSet, contains}
use Rattle.yd_ids.specs.declared.id.Id.{Id}
use Rattle.yd_ids.specs.declared.id.Span.{Span}
use Rattle.yd_ids.specs.Id.{IsSpan}
use Rattle.yd_ids.specs.Span.{InSpan}
use Rattle.yd_ops.specs.declared.lists.List.{List as DocList}
use Rattle.yd_meaning.specs.Names.{item_of_list}

-- the code of an item: those of a client are in the order of their clocks, and greater clients have greater codes
abbrev pub code_of_item : Id → ℕ
code_of_item id = id.client.0 * 18446744073709551616 + id.clock

-- the item has a list
pub record HasList (names : List DocList) (item : Id) : Type 0 where
  pub number : ℕ
  pub list : DocList
  pub there : slice_get names number ≡ Some list
  pub own : item_of_list list ≡ Some item

-- each code is greater than those before it
abbrev pub IsRising : List ℕ → Type 0
IsRising codes = (m n a b : ℕ) → m < n → slice_get codes m ≡ Some a → slice_get codes n ≡ Some b → a < b

-- the code stands among these
abbrev pub IsAt : List ℕ → ℕ → Type 0
IsAt codes code = (n : ℕ) × (slice_get codes n ≡ Some code)

abbrev pub IsOther : BTreeSet ℕ → ℕ → Type 0
IsOther others code = contains nat_cmp others code ≡ true

-- the code is known: it is among those that came in order, or one of the others
abbrev pub IsKnown : List ℕ → BTreeSet ℕ → ℕ → Type 0
IsKnown rising others code = IsAt rising code ⊎ IsOther others code

-- each item that has a list is known by its code
abbrev pub HasItems : List DocList → (ℕ → Type 0) → Type 0
HasItems names known = (item : Id) → HasList names item → known (code_of_item item)

-- no code is as great as one, or the least that is
abbrev pub IsFirstFrom : List ℕ → ℕ → Option ℕ → Type 0
IsFirstFrom codes low None = (other : ℕ) → IsAt codes other → other < low
IsFirstFrom codes low (Some first) = (low ≤ first) × IsAt codes first × ((other : ℕ) → IsAt codes other → low ≤ other → first ≤ other)

-- no item of a span has a list, or the first that has one
abbrev pub IsFirstItem : List DocList → Span → Option Id → Type 0
IsFirstItem names span None = (item : Id) → HasList names item → InSpan span item → ⊥
IsFirstItem names span (Some first) = InSpan span first × ((item : Id) → HasList names item → InSpan span item → first.clock ≤ item.clock) × HasList names first

-- the items of a span that have a list are those of the rest of it
pub record IsLookedThrough (names : List DocList) (span rest : Span) : Type 0 where
  pub is_span : IsSpan rest
  pub among : (item : Id) → InSpan rest item → InSpan span item
  pub all : (item : Id) → HasList names item → InSpan span item → InSpan rest item

-- the span's ids behind a clock
abbrev pub span_behind : Span → ℕ → Span
span_behind span clock = record { client = span.client; clock = clock + 1; len = span.clock + span.len - (clock + 1) }

-- no known item of a span is below a clock of it
abbrev pub IsFirstClock : (ℕ → Type 0) → Span → Option ℕ → Type 0
IsFirstClock known span None = (item : Id) → known (code_of_item item) → InSpan span item → ⊥
IsFirstClock known span (Some clock) = (span.clock ≤ clock) × (clock < span.clock + span.len)
    × ((item : Id) → known (code_of_item item) → InSpan span item → clock ≤ item.clock)

-- the lesser of two clocks, where there is one
abbrev pub earlier : Option ℕ → Option ℕ → Option ℕ
earlier None other = other
earlier (Some clock) None = Some clock
earlier (Some clock) (Some other) = Some (min clock other)
