-- The units of a list as the order sees them: stretches of one client, in the order of writing (own).
use Rattle.std.specs.Prelude.{◌≡◌, ℕ, zero, suc, true, Bool, List, [], ◌∷◌, ◌++◌, Some, filter, map, slice_get, length}
use Rattle.std.specs.Global.{Vec}
use Rattle.yd_order.specs.declared.stretch.Stretch.{Stretch}
use Rattle.yd_entries.specs.declared.entry.Entry.{Entry}
use Rattle.yd_held.specs.Numbered.{is_in_list}

-- units that were taken, as a stretch
abbrev pub stretch_of : Entry → Stretch
stretch_of t = record { id = t.id; len = t.len; left = t.left; right = t.right }

-- the stretches in the list with a number
abbrev pub stretches_in : ℕ → List Entry → List Stretch
stretches_in n taken = map stretch_of (filter (is_in_list n) taken)

-- ---- as they are gathered

-- vectors of stretches as lists
abbrev pub stretch_lists : List (Vec Stretch) → List (List Stretch)
stretch_lists buckets = map (λ (bucket : Vec Stretch). bucket.items) buckets

-- lists where the one with a number has one more behind
abbrev pub with_last : {X : Type 0} → ℕ → X → List (List X) → List (List X)
with_last n x [] = []
with_last zero x (list ∷ lists) = (list ++ x ∷ []) ∷ lists
with_last (suc n) x (list ∷ lists) = list ∷ with_last n x lists

-- there are stretches for each mark, and where it is set they are those in the list
pub record AreGathered (stale : List Bool) (taken : List Entry) (buckets : List (List Stretch)) : Type 0 where
  pub each : length buckets ≡ length stale
  pub gathered : (n : ℕ) → slice_get stale n ≡ Some true → slice_get buckets n ≡ Some (stretches_in n taken)

-- whatever entries were gathered before, the entry is gathered behind them
abbrev pub Gathers : List Bool → Entry → List (List Stretch) → List (List Stretch) → Type 0
Gathers stale entry old new = (seen : List Entry) → AreGathered stale seen old → AreGathered stale (seen ++ entry ∷ []) new
