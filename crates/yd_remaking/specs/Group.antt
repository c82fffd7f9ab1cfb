-- Groups: units of one list that are made again as one run (own; which kinds join is Yjs 13, Item.mergeWith).
--
-- A group has clocks in a row, its units stand side by side in the list with its deleted units, and they are of one kind.
use Rattle.std.specs.Prelude.{ℕ, zero, suc, ◌-◌, Bool, ◌&&◌, List, [], ◌∷◌, nat_eq, nat_lt, if◌then◌else◌}
use Rattle.yd_ids.specs.declared.id.Id.{Id}
use Rattle.yd_ids.specs.Ids.{is_same}
use Rattle.yd_ops.specs.Operation.{later_id}
use Rattle.yd_state.specs.Lent.{Lent}
use Rattle.yd_copying.specs.Content.{can_be_made, kind_of}

-- the units of a list from the one with an id on
abbrev pub units_from : Id → List Lent → List Lent
units_from x [] = []
units_from x (u ∷ us) = if is_same u.id x then u ∷ us else units_from x us

-- whether a unit goes on a group of a kind: it has the next id, and it is of that kind
abbrev pub goes_on : ℕ → Id → Lent → Bool
goes_on kind next u = nat_lt 0 kind && (is_same u.id next && nat_eq (kind_of u.content) kind)

-- the units that go on a group, no more than so many
abbrev pub row_behind : ℕ → Id → ℕ → List Lent → List Lent
row_behind kind next zero us = []
row_behind kind next (suc most) [] = []
row_behind kind next (suc most) (u ∷ us) = if goes_on kind next u then u ∷ row_behind kind (later_id next 1) most us else []

-- the group that begins with the first of some units, no longer than so many; none where that cannot be made
abbrev pub group_from : ℕ → List Lent → List Lent
group_from most [] = []
group_from most (u ∷ us) = if can_be_made u.content then u ∷ row_behind (kind_of u.content) (later_id u.id 1) (most - 1) us else []
