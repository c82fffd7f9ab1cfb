-- How the operations of a list are judged, by places in it (own).
use Rattle.std.specs.Prelude.{◌≡◌, ◌<◌, ◌≤◌, ◌⊎◌, ℕ, Bool, true, false, List, Option, Some, None, length, slice_get, ◌-◌, nat_le, if◌then◌else◌, IfSome}
use Rattle.std.proofs.Math.ListN.{get_or}
use Rattle.yd_words.specs.Each.{Each}
use Rattle.yd_words.specs.Member.{IsIn}
use Rattle.yd_ids.specs.Ids.{is_smaller}
use Rattle.yd_origins.specs.Table.{IsTable}
use Rattle.yd_order.specs.Stretch.{EndsAtClock, among_rows, rows_of_stretches}
use Rattle.yd_order.specs.declared.stretch.Stretch.{Stretch}
use Rattle.yd_ids.specs.declared.id.Id.{Id}
use Rattle.yd_ops.specs.Operation.{Operation}
use Rattle.yd_ops.specs.declared.lists.List.{List as DocList}
use Rattle.yd_origins.specs.Operations.{table_of_list}
use Rattle.yd_meaning.specs.Held.{standing}
use Rattle.yd_meaning.specs.Order.{operation_set, list_of, IsPast, MeetsRules}
use Rattle.yd_order.specs.Comparing.{HasCells, is_told_before}
use Rattle.yd_firsts.specs.Firsts.{ComparesFirsts}
use Rattle.yd_ids.specs.Id.{IsClient}
use Rattle.yd_ops.specs.Received.{has_operation}
use Rattle.yd_entries.specs.declared.entry.Entry.{Entry}
use Rattle.yd_entries.specs.Entries.{is_listed}
use Rattle.yd_received.specs.Received.{ReceivedValue, held_of, listed_of}
use Rattle.yd_stretches.specs.Stretches.{stretch_of}
use Rattle.yd_honesty.specs.Pasts.{IsHeldWhole}

-- all that can be held is held, and what is in lists are the held operations that are not lost
pub record IsKept (r : ReceivedValue) : Type 0 where
  pub whole : IsHeldWhole r
  pub stands : listed_of r ≡ standing (held_of r)

-- the ids are the first and the last units of the pieces of a list, compared by their origins
pub record IsList (r : ReceivedValue) (ids lasts : List Id) (is_strict : Bool) (cells : List Bool) : Type 0 where
  pub name : DocList
  pub compares : ComparesFirsts (table_of_list (operation_set (listed_of r)) name) ids lasts is_strict cells

-- the origins are those of the operation in a list with the id
abbrev pub AreOrigins : ReceivedValue → Id → Option Id → Option Id → Type 0
AreOrigins r x left right = (o : Operation) → IsIn o (listed_of r) → o.id ≡ x → (left ≡ o.left_origin) × (right ≡ o.right_origin)

-- the place is that of the id, where there is one and the list has it
abbrev pub IsPlaceOf : List Id → Option Id → Option ℕ → Type 0
IsPlaceOf ids None None = Unit {0}
IsPlaceOf ids None (Some at) = ⊥
IsPlaceOf ids (Some x) None = IsIn x ids → ⊥
IsPlaceOf ids (Some x) (Some at) = slice_get ids at ≡ Some x

-- whether a place is absent, or told to be before another
abbrev pub is_behind : Bool → List Bool → ℕ → Option ℕ → ℕ → Bool
is_behind is_strict cells count None y = true
is_behind is_strict cells count (Some p) y = is_told_before is_strict cells count p y

-- whether one is absent, or the place is told to be before it
abbrev pub is_ahead : Bool → List Bool → ℕ → ℕ → Option ℕ → Bool
is_ahead is_strict cells count y None = true
is_ahead is_strict cells count y (Some r) = is_told_before is_strict cells count y r

-- an id of the past of the one at a place stands strictly between two places
pub record IsParted (r : ReceivedValue) (ids : List Id) (is_strict : Bool) (cells : List Bool) (x : Id) (left right : Option ℕ) : Type 0 where
  pub at : ℕ
  pub other : Id
  pub there : slice_get ids at ≡ Some other
  pub of_past : IsPast (held_of r) x other
  pub behind : is_behind is_strict cells (length ids) left at ≡ true
  pub ahead : is_ahead is_strict cells (length ids) at right ≡ true

-- from a place up to its end all ids have the one at the place in their past, or are it
pub record AreEnds (r : ReceivedValue) (ids : List Id) (ends : List ℕ) (from : ℕ) : Type 0 where
  pub size : length ends ≡ length ids
  pub above : (y : ℕ) → from ≤ y → y < length ids → y < get_or ends y 0
  pub within : (y : ℕ) → from ≤ y → y < length ids → get_or ends y 0 ≤ length ids
  pub each : (y m : ℕ) (x z : Id) → from ≤ y → slice_get ids y ≡ Some x → slice_get ids m ≡ Some z → y ≤ m → m < get_or ends y 0 → (z ≡ x) ⊎ IsPast (held_of r) z x

-- each id is that of a held operation, in range
abbrev pub AreHeld : ReceivedValue → List Id → Type 0
AreHeld r ids = (y : ℕ) (x : Id) → slice_get ids y ≡ Some x → (has_operation (held_of r) x ≡ true) × IsClient x.client

-- from a place up to an end all ids have the one at the place in their past, or are it
pub record IsEnd (r : ReceivedValue) (ids : List Id) (at end : ℕ) : Type 0 where
  pub above : at < end
  pub within : end ≤ length ids
  pub each : (m : ℕ) (x z : Id) → slice_get ids at ≡ Some x → slice_get ids m ≡ Some z → at ≤ m → m < end → (z ≡ x) ⊎ IsPast (held_of r) z x

-- the left origin of an entry's unit: that of the entry for its first, and the unit before for each later one
abbrev pub left_in : Entry → Id → Option Id
left_in t x = if nat_le x.clock t.id.clock then t.left else Some (record { client = x.client; clock = x.clock - 1 })

-- whether two places are told to be in order, where both are there
abbrev pub are_in_order : Bool → List Bool → ℕ → Option ℕ → Option ℕ → Bool
are_in_order is_strict cells count None right = true
are_in_order is_strict cells count (Some p) None = true
are_in_order is_strict cells count (Some p) (Some r) = is_told_before is_strict cells count p r

-- both origins are there, and the right one is not in the list
abbrev pub IsApart : Option Id → Option Id → Option ℕ → Type 0
IsApart (Some a) (Some b) None = Unit {0}
IsApart (Some a) (Some b) (Some at) = ⊥
IsApart (Some a) None place = ⊥
IsApart None right place = ⊥

-- at none of the first so many places stands an id of the past of one, strictly between two places
abbrev pub NonePartsBefore : ReceivedValue → List Id → Bool → List Bool → Id → Option ℕ → Option ℕ → ℕ → Type 0
NonePartsBefore r ids is_strict cells x left right count = (m : ℕ) (z : Id) → m < count → slice_get ids m ≡ Some z → IsPast (held_of r) x z →
    is_behind is_strict cells (length ids) left m ≡ true → is_ahead is_strict cells (length ids) m right ≡ true → ⊥

-- the list's comparison has its cells, and the place is one of the list, if there is one
pub record IsPlaced (ids : List Id) (is_strict : Bool) (cells : List Bool) (left right : Option ℕ) : Type 0 where
  pub size : HasCells is_strict cells (length ids)
  pub left_inside : IfSome left (λ p. p < length ids)
  pub right_inside : IfSome right (λ p. p < length ids)

-- no place before this one is behind another
pub record BeginsAt (ids : List Id) (is_strict : Bool) (cells : List Bool) (left : Option ℕ) (from : ℕ) : Type 0 where
  pub within : from ≤ length ids
  pub none : (m : ℕ) → m < from → is_behind is_strict cells (length ids) left m ≡ false

-- no place from this one on is ahead of another
pub record EndsAt (ids : List Id) (is_strict : Bool) (cells : List Bool) (right : Option ℕ) (to : ℕ) : Type 0 where
  pub within : to ≤ length ids
  pub none : (m : ℕ) → to ≤ m → m < length ids → is_ahead is_strict cells (length ids) m right ≡ false

-- an operation in a list has the id, and breaks the edit rules
pub record Breaks (r : ReceivedValue) (x : Id) : Type 0 where
  pub one : Operation
  pub there : IsIn one (listed_of r)
  pub id : one.id ≡ x
  pub broken : MeetsRules (held_of r) one → ⊥

-- there is an id that is no greater
pub record IsUpTo (found : Option Id) (y : Id) : Type 0 where
  pub least : Id
  pub is : found ≡ Some least
  pub up_to : is_smaller y least ≡ false

-- the first of some ids were judged besides: the one that is found now was found before, or breaks the rules; and it is no greater
-- than the one before, and than each that breaks them
pub record IsBest (r : ReceivedValue) (ids : List Id) (count : ℕ) (old new : Option Id) : Type 0 where
  pub sound : IfSome new (λ x. (old ≡ Some x) ⊎ Breaks r x)
  pub old_up_to : (y : Id) → old ≡ Some y → IsUpTo new y
  pub all : (n : ℕ) (y : Id) → n < count → slice_get ids n ≡ Some y → Breaks r y → IsUpTo new y

-- so it is of a list with a name
pub record IsBestOf (r : ReceivedValue) (name : DocList) (old new : Option Id) : Type 0 where
  pub sound : IfSome new (λ x. (old ≡ Some x) ⊎ Breaks r x)
  pub old_up_to : (y : Id) → old ≡ Some y → IsUpTo new y
  pub all : (y : Id) → has_operation (listed_of r) y ≡ true → list_of (listed_of r) y ≡ name → Breaks r y → IsUpTo new y

-- and of the first lists
pub record IsBestOfAll (r : ReceivedValue) (names : List DocList) (count : ℕ) (found : Option Id) : Type 0 where
  pub sound : IfSome found (Breaks r)
  pub all : (n : ℕ) (name : DocList) (y : Id) → n < count → slice_get names n ≡ Some name → has_operation (listed_of r) y ≡ true → list_of (listed_of r) y ≡ name →
      Breaks r y → IsUpTo found y

-- the stretches are those of the list with a name, one for each entry in it
pub record AreOfList (r : ReceivedValue) (name : DocList) (stretches : List Stretch) : Type 0 where
  pub clocks : Each EndsAtClock stretches
  pub table : IsTable (among_rows (rows_of_stretches stretches))
  pub rows : table_of_list (operation_set (listed_of r)) name ≡ among_rows (rows_of_stretches stretches)
  pub starts : (t : Entry) → IsIn t r.entries → is_listed t ≡ true → list_of (listed_of r) t.id ≡ name → IsIn (stretch_of t) stretches

-- whether an id is smaller than the one that was found, or none was
abbrev pub is_better : Option Id → Id → Bool
is_better None x = true
is_better (Some least) x = is_smaller x least

-- the stretches at a place are those of the list with a name
abbrev pub AreAt : ReceivedValue → DocList → List (List Stretch) → ℕ → Type 0
AreAt r name lists n = (stretches : List Stretch) → slice_get lists n ≡ Some stretches → AreOfList r name stretches
