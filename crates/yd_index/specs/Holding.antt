-- The index and the runs at the places of its entries (own).
use Rattle.std.specs.Prelude.{◌≡◌, ◌<◌, ◌+◌, ◌-◌, ℕ, List, [], ◌∷◌, ◌++◌, Option, Some, None, length, set}
use Rattle.yd_ids.specs.declared.id.Id.{Id}
use Rattle.yd_words.specs.Member.{IsIn}
use Rattle.yd_scan.specs.declared.stretch.Stretch.{Stretch}
use Rattle.yd_scan.specs.Stretches.{stretch_at}
use Rattle.yd_index.specs.declared.line.Entry.{Entry}
use Rattle.yd_index.specs.Line.{Lined}
use Rattle.yd_index.specs.Lines.{entries_of, next_of, entry_at}

-- the place of an entry, if there is one
abbrev pub place_in : Option Entry → Option ℕ
place_in None = None
place_in (Some e) = Some e.place

-- the place of the run that has a unit
abbrev pub places_of : List Lined → Id → Option ℕ
places_of lines id = place_in (entry_at lines id)

-- the entry is that of a run of the client with this first clock
pub record IsStretchOf (stretches : List Stretch) (client clock : ℕ) (e : Entry) : Type 0 where
  pub begins : e.clock ≡ clock
  pub within : e.place < length stretches
  pub client_is : (stretch_at stretches e.place).id.client.0 ≡ client
  pub clock_is : (stretch_at stretches e.place).id.clock ≡ clock
  pub filled : 0 < (stretch_at stretches e.place).len

-- the lengths of the runs at the places of the entries fill a client's clocks to the next one, without a gap
abbrev pub StretchesFill : List Stretch → ℕ → ℕ → List Entry → ℕ → Type 0
StretchesFill stretches client clock [] next = clock ≡ next
StretchesFill stretches client clock (e ∷ es) next = IsStretchOf stretches client clock e × StretchesFill stretches client (clock + (stretch_at stretches e.place).len) es next

-- the entry of the run at a place
abbrev pub entry_for : List Stretch → ℕ → Entry
entry_for stretches i = record { clock = (stretch_at stretches i).id.clock; place = i }

-- the entries of each client are runs that fill its clocks from 0, and each run that is not empty has its entry
pub record Holds (lines : List Lined) (stretches : List Stretch) : Type 0 where
  pub fills : (k : ℕ) → StretchesFill stretches k 0 (entries_of lines k) (next_of lines k)
  pub each : (i : ℕ) → i < length stretches → 0 < (stretch_at stretches i).len → IsIn (entry_for stretches i) (entries_of lines (stretch_at stretches i).id.client.0)

-- so many units of a run, from its first on
abbrev pub front_of : Stretch → ℕ → Stretch
front_of stretch n = record { id = stretch.id; len = n; left = stretch.left; right = stretch.right }

-- the others, which go on from there
abbrev pub rest_of : Stretch → ℕ → Stretch
rest_of stretch n = record {
  id = record { client = stretch.id.client; clock = stretch.id.clock + n };
  len = stretch.len - n;
  left = Some (record { client = stretch.id.client; clock = stretch.id.clock + n - 1 });
  right = stretch.right;
}

-- the runs with the one at a place cut, its second part being a run more
abbrev pub cut_stretches : List Stretch → ℕ → ℕ → List Stretch
cut_stretches stretches i n = set stretches i (front_of (stretch_at stretches i) n) ++ rest_of (stretch_at stretches i) n ∷ []
