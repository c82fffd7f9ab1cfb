-- How the ids of units in a range of indexes are gathered piece by piece (own).
use Rattle.std.specs.Prelude.{◌↔◌, ◌⊎◌, ℕ, ◌-◌, List, ◌++◌, take, drop}
use Rattle.yd_words.specs.Member.{IsIn}
use Rattle.yd_ids.specs.declared.id.Id.{Id}
use Rattle.yd_ids.specs.declared.id.Span.{Span}
use Rattle.yd_ids.specs.Set.{HasId}

-- of a row of ids those were taken that are wanted, where so many are skipped first: whatever comes behind it, what was had and
-- what is wanted of all is what is had then and what is still wanted
abbrev pub TakesRange : List Span → List Span → List Id → ℕ → ℕ → ℕ → ℕ → Type 0
TakesRange old new row skip want skip_then want_then =
    (rest : List Id) (x : Id) → (HasId new x ⊎ IsIn x (take want_then (drop skip_then rest))) ↔ (HasId old x ⊎ IsIn x (take want (drop skip (row ++ rest))))

-- of a row of ids before which so many stand, those were taken that have an index in a range
abbrev pub TakesPart : List Span → List Span → List Id → ℕ → ℕ → ℕ → Type 0
TakesPart old new row before index len = (x : Id) → HasId new x ↔ (HasId old x ⊎ IsIn x (take (len - (before - index)) (drop (index - before) row)))
