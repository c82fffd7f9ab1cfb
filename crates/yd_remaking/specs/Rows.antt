-- Units in a row of ids, and the unit before another among units that are lent (own).
use Rattle.std.specs.Prelude.{ℕ, zero, suc, List, [], ◌∷◌, Option, Some, if◌then◌else◌}
use Rattle.yd_words.specs.Each.{Each}
use Rattle.yd_ids.specs.declared.id.Id.{Id}
use Rattle.yd_ids.specs.Ids.{is_same}
use Rattle.yd_ops.specs.Operation.{later_id}
use Rattle.yd_grouping.specs.Groupable.{IsValidUnitContent}
use Rattle.yd_state.specs.Lent.{Lent}

-- the last of so many ids in a row, and where there is none, what was before
abbrev pub last_in_row : Option Id → Id → ℕ → Option Id
last_in_row before id zero = before
last_in_row before id (suc n) = Some (later_id id n)

-- the unit before another one, deleted or not; what was before them all comes before the first
abbrev pub unit_before : Id → Option Id → List Lent → Option Id
unit_before x before [] = before
unit_before x before (u ∷ us) = if is_same u.id x then before else unit_before x (Some u.id) us

-- what the units hold is valid
abbrev pub HoldValid : List Lent → Type 0
HoldValid us = Each (λ (u : Lent). IsValidUnitContent u.content) us
