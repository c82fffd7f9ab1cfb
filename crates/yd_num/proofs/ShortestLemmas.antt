-- Numbers as they are written: they spell their value in the fewest bytes.
use Rattle.std.proofs.Common.{◌≡◌, ℕ, zero, suc, ◌+◌, ◌*◌, ◌/◌, ◌%◌, ◌^◌, ◌<◌, ◌≤◌, List, [], ◌∷◌, length, sym, inl, inr, arith}
use Rattle.std.proofs.lemmas.Bool.{cases_lt}
use Rattle.yd_num.specs.Law.{IsShortest}
use Rattle.yd_num.specs.Number.{IsTerminated, grouped_value, SpellsUnsigned}
use Rattle.yd_num.specs.Writing.{shortest, shortest_groups}
use Rattle.yd_num.proofs.NumberLemmas.{terminated-cons}
use Rattle.yd_num.proofs.WritingLemmas.{groups-last, groups-more, rest_fits}

-- bytes that are the groups of a number, at most so many
pub record AreGroups (most : ℕ) (bytes : List ℕ) (v : ℕ) : Type 0 where
  pub terminated : IsTerminated bytes
  pub within : length bytes ≤ most
  pub value : grouped_value bytes ≡ v

spells_last : (most v : ℕ) → v < 128 → AreGroups (suc most) (shortest_groups (suc most) v) v
spells_last most v lt = rw (groups-last most v lt) (record { terminated = lt; within = omega arith; value = grind arith })

spells_more : (most v : ℕ) → 128 ≤ v → AreGroups most (shortest_groups most (v / 128)) (v / 128) → AreGroups (suc most) (shortest_groups (suc most) v) v
spells_more most v le are = rw (groups-more most v le) (record {
  terminated = terminated-cons (v % 128 + 128) (shortest_groups most (v / 128)) (omega arith) are.terminated;
  within = omega (arith, are.within);
  value = omega (arith, are.value);
})

-- ---- lemmas for callers

pub groups_spell : (most v : ℕ) → v < 128 ^ suc most → AreGroups (suc most) (shortest_groups (suc most) v) v
groups_spell zero v lt = spells_last zero v (omega arith)
groups_spell (suc most) v lt =
    elim (cases_lt v 128) [
      | inl small ↦ spells_last (suc most) v small
      | inr le ↦ spells_more (suc most) v le (groups_spell most (v / 128) (rest_fits (suc most) v lt))
    ]

-- other groups of the number are no fewer
groups_least : (most : ℕ) (bytes : List ℕ) → IsTerminated bytes → length (shortest_groups most (grouped_value bytes)) ≤ length bytes
unfolding shortest_groups
groups_least zero bytes is = omega arith
groups_least (suc most) [] is = absurd is
groups_least (suc most) (b ∷ []) is = rw (groups-last most (b % 128 + 128 * 0) (omega arith)) (omega arith)
groups_least (suc most) (b ∷ c ∷ rest) is =
    let v : ℕ = b % 128 + 128 * grouped_value (c ∷ rest) in
    elim (cases_lt v 128) [
      | inl small ↦ rw (groups-last most v small) (omega arith)
      | inr le ↦
          let high : v / 128 ≡ grouped_value (c ∷ rest) = omega arith in
          rw (groups-more most v le, high) (omega (arith, groups_least most (c ∷ rest) is.1))
    ]

pub unsigned_spells : (v : ℕ) → v < 2 ^ 53 → SpellsUnsigned (shortest v) v
unfolding shortest
unsigned_spells v lt =
    let are = groups_spell 7 v (omega arith) in
    record { terminated = are.terminated; in_eight = are.within; value = are.value; in_range = lt }

pub value_least : (bytes : List ℕ) → IsTerminated bytes → length (shortest (grouped_value bytes)) ≤ length bytes
unfolding shortest
value_least bytes is = groups_least 8 bytes is

pub unsigned_least : IsShortest SpellsUnsigned shortest
unsigned_least bytes v spells = rw (sym spells.value) (value_least bytes spells.terminated)
