-- Blocks that grow at the back: a group in front and one at the back may come in either order.
use Rattle.std.specs.Prelude.{nat_eq, if◌then◌else◌}
use Rattle.std.proofs.Common.{◌≡◌, true, false, List, [], ◌∷◌, ◌++◌, refl, sym, ap, ◌∙◌, ℕ, zero, suc, ◌+◌, ◌-◌, ◌≤◌, Bool, inl, inr, arith, tests}
use Rattle.std.proofs.lemmas.Bool.{cases_Bool}
use Rattle.yd_ops.specs.Value.{BlockValue, StructValue}
use Rattle.yd_grouping.specs.Building.{block_and, block_end, blocks_and, clocks_of_structs}
use Rattle.yd_grouping.specs.Grouped.{block_of, block_with, blocks_of, end_of, front_block, with_gap}
use Rattle.yd_grouping.specs.Groups.{Group, start_of, struct_of}
use Rattle.yd_grouping.specs.Law.{Ascend}
use Rattle.yd_grouping.proofs.BlockLemmas.{FitsBefore, ascend_fits, ascend_rest, struct-clocks}

-- ---- blocks that grow at the back

pub clocks-append : (structs others : List StructValue) → clocks_of_structs (structs ++ others) ≡ clocks_of_structs structs + clocks_of_structs others
clocks-append [] others = omega arith
clocks-append (s ∷ structs) others = omega (arith, clocks-append structs others)

pub gap-clocks : (n : ℕ) (structs : List StructValue) → clocks_of_structs (with_gap n structs) ≡ n + clocks_of_structs structs
gap-clocks zero structs = omega arith
gap-clocks (suc n) structs = refl

gap-append : (n : ℕ) (structs others : List StructValue) → with_gap n (structs ++ others) ≡ with_gap n structs ++ others
gap-append zero structs others = refl
gap-append (suc n) structs others = refl

block_of-end : (group : Group) → block_end (block_of group) ≡ end_of group
block_of-end group = omega (arith, struct-clocks group)

block_with-end : (group : Group) (block : BlockValue) → end_of group ≤ block.clock → block_end (block_with group block) ≡ block_end block
block_with-end group block le = omega (arith, struct-clocks group, gap-clocks (block.clock - end_of group) block.structs, le)

-- a group in front, and one at the back, of the same blocks
front_and_back : (group : Group) (blocks : List BlockValue) (last : Group) → FitsBefore group blocks →
    front_block group (blocks_and blocks last) ≡ blocks_and (front_block group blocks) last
front_and_back group [] last fits = elim (cases_Bool (nat_eq (start_of last).client.0 (start_of group).client.0)) [
  | inl same ↦ rw (same, flip same) (ap (λ k. record {
    client = (start_of group).client;
    clock = (start_of group).clock;
    structs = struct_of group ∷ with_gap ((start_of last).clock - k) (struct_of last ∷ []);
  } ∷ []) (sym (block_of-end group)))
  | inr other ↦ rw (other, flip_false other) refl
]
  where
    flip : nat_eq (start_of last).client.0 (start_of group).client.0 ≡ true → nat_eq (start_of group).client.0 (start_of last).client.0 ≡ true
    flip e = grind (arith, tests)

    flip_false : nat_eq (start_of last).client.0 (start_of group).client.0 ≡ false → nat_eq (start_of group).client.0 (start_of last).client.0 ≡ false
    flip_false e = grind (arith, tests)
front_and_back group (block ∷ []) last fits = go (nat_eq block.client.0 (start_of group).client.0) refl (nat_eq block.client.0 (start_of last).client.0) refl
  where
    is_one : nat_eq block.client.0 (start_of group).client.0 ≡ true → block.client.0 ≡ (start_of group).client.0
    is_one e = grind (arith, tests)

    also_group : nat_eq block.client.0 (start_of group).client.0 ≡ true → nat_eq block.client.0 (start_of last).client.0 ≡ true →
        nat_eq (start_of group).client.0 (start_of last).client.0 ≡ true
    also_group e f = grind (arith, tests)

    other_group : nat_eq block.client.0 (start_of group).client.0 ≡ true → nat_eq block.client.0 (start_of last).client.0 ≡ false →
        nat_eq (start_of group).client.0 (start_of last).client.0 ≡ false
    other_group e f = grind (arith, tests)

    go : (s : Bool) → nat_eq block.client.0 (start_of group).client.0 ≡ s → (t : Bool) → nat_eq block.client.0 (start_of last).client.0 ≡ t →
        front_block group (if t then block_and block last ∷ [] else block ∷ block_of last ∷ [])
        ≡ blocks_and (if s then block_with group block ∷ [] else block_of group ∷ block ∷ []) last
    go true e true f = rw (e, also_group e f) (ap (λ (ss : List StructValue). record {
      client = (start_of group).client;
      clock = (start_of group).clock;
      structs = struct_of group ∷ ss;
    } ∷ []) (
        gap-append (block.clock - end_of group) block.structs (with_gap ((start_of last).clock - block_end block) (struct_of last ∷ []))
        ∙ ap (λ k. with_gap (block.clock - end_of group) block.structs ++ with_gap ((start_of last).clock - k) (struct_of last ∷ []))
        (sym (block_with-end group block (fits (is_one e))))))
    go true e false f = rw (e, other_group e f) refl
    go false e true f = rw (e, f) refl
    go false e false f = rw (e, f) refl
front_and_back group (block ∷ next ∷ blocks) last fits = go (nat_eq block.client.0 (start_of group).client.0)
  where
    go : (t : Bool) → (if t then block_with group block ∷ blocks_and (next ∷ blocks) last else block_of group ∷ block ∷ blocks_and (next ∷ blocks) last)
        ≡ blocks_and (if t then block_with group block ∷ next ∷ blocks else block_of group ∷ block ∷ next ∷ blocks) last
    go true = refl
    go false = refl

front_ascend : (groups : List Group) (last : Group) → Ascend (groups ++ last ∷ []) → Ascend groups
front_ascend [] last ascend = tt
front_ascend (group ∷ []) last ascend = tt
front_ascend (group ∷ next ∷ groups) last ascend = (ascend.0, front_ascend (next ∷ groups) last ascend.1)

-- the blocks of groups with one more behind them
pub blocks_grow : (groups : List Group) (last : Group) → Ascend (groups ++ last ∷ []) → blocks_of (groups ++ last ∷ []) ≡ blocks_and (blocks_of groups) last
blocks_grow [] last ascend = refl
blocks_grow (group ∷ groups) last ascend = ap (front_block group) (blocks_grow groups last (ascend_rest group (groups ++ last ∷ []) ascend))
    ∙ front_and_back group (blocks_of groups) last (ascend_fits group groups (front_ascend (group ∷ groups) last ascend))
