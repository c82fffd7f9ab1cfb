-- The first id of which something is so (own).
use Rattle.std.specs.Prelude.{◌≡◌, ◌⊎◌, false, Option, Some, None}
use Rattle.yd_ids.specs.Ids.{is_smaller}
use Rattle.yd_ids.specs.declared.id.Id.{Id}
use Rattle.yd_grouping.specs.Disagreement.{smaller_of}

-- it is so of no id, or of this one and of none that is smaller
abbrev pub IsFirst : (Id → Type 0) → Option Id → Type 0
IsFirst P None = (x : Id) → P x → ⊥
IsFirst P (Some x) = P x × ((y : Id) → P y → is_smaller y x ≡ false)

-- one of which it is so, and none that is smaller, but for those of which something else is so too; or none but these
abbrev pub IsFirstBut : (Id → Type 0) → (Id → Type 0) → Option Id → Type 0
IsFirstBut P Q None = (x : Id) → P x → Q x
IsFirstBut P Q (Some x) = P x × ((y : Id) → P y → Q y ⊎ (is_smaller y x ≡ false))

-- the smaller one of two ids, each of which may be absent
abbrev pub first_of : Option Id → Option Id → Option Id
first_of None b = b
first_of (Some x) b = Some (smaller_of x b)
