-- An entry that is split in two, and a pair that this parts (own).
use Rattle.std.specs.Prelude.{◌≡◌, ℕ, zero, suc, ◌+◌, ◌-◌, ◌<◌, Bool, true, false, ◌&&◌, nat_eq, nat_lt, List, [], ◌∷◌, Some, length, set, slice_get, map, ◌++◌, ◌≤◌}
use Rattle.yd_words.specs.Each.{Each}
use Rattle.yd_ids.specs.declared.id.Id.{Id}
use Rattle.yd_ids.specs.Id.{IsClock}
use Rattle.yd_ops.specs.declared.runs.Run.{Run}
use Rattle.yd_ops.specs.Operation.{Operation, later_id}
use Rattle.yd_ops.specs.Value.{ContentValue, string}
use Rattle.yd_ops.specs.View.{content_value, run_value}
use Rattle.yd_entries.specs.declared.entry.Entry.{Entry}
use Rattle.yd_entries.specs.Entries.{IsTakenOf, AreInOrder, operations_in, PartsPair}
use Rattle.yd_entries.specs.Lowering.{IsBeside, torn_at, with_run, own_run}
use Rattle.yd_entries.specs.Staying.{KeepsPlaces}

-- the units are on both sides of the id
pub record IsAstride (x : Id) (t : Entry) : Type 0 where
  pub client : t.id.client ≡ x.client
  pub begins : t.id.clock < x.clock
  pub ends : x.clock < t.id.clock + t.len

-- whether the units are of the id's client and begin before it
abbrev pub begins_before : Id → Entry → Bool
begins_before x t = nat_eq t.id.client.0 x.client.0 && nat_lt t.id.clock x.clock

-- ---- an entry in two

-- an entry can be split before its unit n
pub record IsSplittable (t : Entry) (n : ℕ) : Type 0 where
  pub some : 0 < n
  pub fewer : n < t.len
  pub end : IsClock (t.id.clock + t.len)
  pub fits : t.is_gone ≡ false → IsClock (t.offset + t.len)

-- the units before unit n
abbrev pub front_of : Entry → ℕ → Entry
front_of t n = record { id = t.id; len = n; left = t.left; right = t.right; run = t.run; offset = t.offset; is_gone = t.is_gone; place = t.place }

-- the units from unit n on
abbrev pub back_told : Bool → Entry → ℕ → Entry
back_told true t n = record {
  id = later_id t.id n;
  len = t.len - n;
  left = t.left;
  right = t.right;
  run = t.run;
  offset = t.offset;
  is_gone = t.is_gone;
  place = t.place;
}
back_told false t n = record {
  id = later_id t.id n;
  len = t.len - n;
  left = Some (later_id t.id (n - 1));
  right = t.right;
  run = t.run;
  offset = t.offset + n;
  is_gone = t.is_gone;
  place = t.place;
}

abbrev pub back_of : Entry → ℕ → Entry
back_of t n = back_told t.is_gone t n

-- the entries, of which one is split before its unit n
abbrev pub split_in : ℕ → ℕ → List Entry → List Entry
split_in at n [] = []
split_in zero n (t ∷ ts) = front_of t n ∷ back_of t n ∷ ts
split_in (suc at) n (t ∷ ts) = t ∷ split_in at n ts

-- the entries, of which one is split before its unit n, unless that is its first
abbrev pub split_behind : ℕ → ℕ → List Entry → List Entry
split_behind at zero ts = ts
split_behind at (suc n) ts = split_in at (suc n) ts

-- which of them begins with that unit
abbrev pub place_behind : ℕ → ℕ → ℕ
place_behind at zero = at
place_behind at (suc n) = at + 1

-- ---- a pair that is parted

-- a cut before unit n of an entry parts a pair
abbrev pub PartsPairOf : List Run → Entry → ℕ → Type 0
PartsPairOf runs t n = (t.is_gone ≡ false) × ((run : Run) × (slice_get runs t.run ≡ Some run) × PartsPair (content_value run.content) (t.offset + n))

-- the entries are the same units at their places, which a function changes, and no entry has units on both sides of an id
-- where none had
pub record Recuts (old_runs : List Run) (old : List Entry) (runs : List Run) (taken : List Entry) (change : Operation → Operation) : Type 0 where
  pub operations : operations_in runs taken ≡ map change (operations_in old_runs old)
  pub each : Each (IsTakenOf runs) taken
  pub in_order : AreInOrder taken
  pub others : (y : Id) → Each (IsBeside y) old → Each (IsBeside y) taken
  pub places : KeepsPlaces old_runs old runs taken

-- an entry is split behind its first two units, unless it has no more
pub record KeepsTwo (old taken : List Entry) (at : ℕ) : Type 0 where
  pub more : (t : Entry) → slice_get old at ≡ Some t → 2 < t.len → taken ≡ split_in at 2 old
  pub no_more : (t : Entry) → slice_get old at ≡ Some t → t.len ≤ 2 → taken ≡ old

-- two units that are U+FFFD
abbrev pub two_torn : ContentValue
two_torn = string (0xFFFD ∷ 0xFFFD ∷ [])

-- the units of an entry are U+FFFD twice, in a run of their own
pub record Tears (old_runs : List Run) (old : List Entry) (runs : List Run) (taken : List Entry) (at : ℕ) : Type 0 where
  pub entry : Entry
  pub run : Run
  pub there : slice_get old at ≡ Some entry
  pub runs_are : runs ≡ old_runs ++ run ∷ []
  pub own : run_value run ≡ own_run old_runs entry two_torn
  pub placed : taken ≡ set old at (with_run entry (length old_runs) 0)

-- an entry is split before its unit n, where that parted a pair
pub record SplitsPair (old_runs : List Run) (old : List Entry) (runs : List Run) (taken : List Entry) (at n : ℕ) : Type 0 where
  pub entry : Entry
  pub there : slice_get old at ≡ Some entry
  pub recuts : Recuts old_runs old runs taken (torn_at (later_id entry.id n))
  pub beside : Each (IsBeside (later_id entry.id n)) taken
