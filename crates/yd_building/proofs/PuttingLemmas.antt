-- A group at the back of blocks: it goes into the last one, or into one of its own; and where blocks end.
use Rattle.std.proofs.Common.{◌≡◌, ◌≢◌, ℕ, zero, suc, ◌+◌, ◌-◌, ◌<◌, ◌≤◌, max, List, [], ◌∷◌, ◌++◌, map, refl, sym, ap, ap₂, ◌∙◌, arith, tests, append_assoc}
use Rattle.std.specs.Prelude.{nat_eq, true, false}
use Rattle.yd_ops.specs.declared.updates.Block.{Block}
use Rattle.yd_ops.specs.declared.updates.Struct.{Struct}
use Rattle.yd_ops.specs.declared.updates.Struct.TheVariants.{Skip}
use Rattle.yd_ids.specs.declared.id.Client.{Client}
use Rattle.yd_ids.specs.declared.id.Id.{Id}
use Rattle.yd_ops.specs.Value.{BlockValue, StructValue, clocks_of, skip}
use Rattle.yd_ops.specs.View.{block_value, struct_value}
use Rattle.yd_grouping.specs.Groups.{Group, start_of, size_of, struct_of}
use Rattle.yd_grouping.specs.Grouped.{with_gap, block_of}
use Rattle.yd_grouping.specs.Building.{clocks_of_structs, block_end, block_and, blocks_and}
use Rattle.yd_grouping.proofs.BlockLemmas.{struct-clocks}
use Rattle.yd_grouping.proofs.BuildingLemmas.{clocks-append, gap-clocks}

-- into the last block, where that is its client's
and_same : (bs : List BlockValue) (b : BlockValue) (g : Group) → nat_eq b.client.0 (start_of g).client.0 ≡ true → blocks_and (bs ++ b ∷ []) g ≡ bs ++ block_and b g ∷ []
and_same [] b g e = rw e refl
and_same (c ∷ []) b g e = ap (λ rest. c ∷ rest) (and_same [] b g e)
and_same (c ∷ d ∷ bs) b g e = ap (λ rest. c ∷ rest) (and_same (d ∷ bs) b g e)

-- and else behind it
and_other : (bs : List BlockValue) (b : BlockValue) (g : Group) → nat_eq b.client.0 (start_of g).client.0 ≡ false → blocks_and (bs ++ b ∷ []) g ≡ (bs ++ b ∷ []) ++ block_of g ∷ []
and_other [] b g e = rw e refl
and_other (c ∷ []) b g e = ap (λ rest. c ∷ rest) (and_other [] b g e)
and_other (c ∷ d ∷ bs) b g e = ap (λ rest. c ∷ rest) (and_other (d ∷ bs) b g e)

blocks-append : (bs cs : List Block) → map block_value (bs ++ cs) ≡ map block_value bs ++ map block_value cs
blocks-append [] cs = refl
blocks-append (b ∷ bs) cs = ap (λ rest. block_value b ∷ rest) (blocks-append bs cs)

structs-append : (ss ts : List Struct) → map struct_value (ss ++ ts) ≡ map struct_value ss ++ map struct_value ts
structs-append [] ts = refl
structs-append (s ∷ ss) ts = ap (λ rest. struct_value s ∷ rest) (structs-append ss ts)

-- ---- lemmas for callers

pub put_same : (bs : List Block) (b new : BlockValue) (g : Group) → b.client.0 ≡ (start_of g).client.0 → new ≡ block_and b g →
    map block_value bs ++ new ∷ [] ≡ blocks_and (map block_value bs ++ b ∷ []) g
put_same bs b new g same e = ap (λ c. map block_value bs ++ c ∷ []) e ∙ sym (and_same (map block_value bs) b g (grind (arith, tests)))

pub put_other : (bs new : List Block) (b : Block) (last : BlockValue) (g : Group) → b.client.0 ≢ (start_of g).client.0 → new ≡ bs ++ b ∷ [] → last ≡ block_of g →
    map block_value new ++ last ∷ [] ≡ blocks_and (map block_value bs ++ block_value b ∷ []) g
put_other bs new b last g other e f = ap₂ (λ cs c. cs ++ c ∷ []) (ap (map block_value) e ∙ blocks-append bs (b ∷ [])) f
    ∙ sym (and_other (map block_value bs) (block_value b) g (grind (arith, tests)))

pub put_all : (bs new : List Block) (b : Block) → new ≡ bs ++ b ∷ [] → map block_value new ≡ map block_value bs ++ block_value b ∷ []
put_all bs new b e = ap (map block_value) e ∙ blocks-append bs (b ∷ [])

-- the clock behind a block with one more group
pub end_grown : (client : Client) (clock : ℕ) (old new : List Struct) (g : Group) (id : Id) (s : StructValue) (end begins len next : ℕ) →
    end ≡ block_end (block_value (record { client = client; clock = clock; structs = old })) → id ≡ start_of g → begins ≡ max id.clock end → len ≡ size_of g → next ≡ begins + len →
    s ≡ struct_of g → map struct_value new ≡ map struct_value old ++ with_gap (begins - end) (s ∷ []) →
    next ≡ block_end (block_value (record { client = client; clock = clock; structs = new }))
end_grown client clock old new g id s end begins len next ends starts most long sum is grown = omega (
  arith,
  ends,
  most,
  long,
  sum,
  ap clocks_of is,
  ap clocks_of_structs grown,
  clocks-append (map struct_value old) (with_gap (begins - end) (s ∷ [])),
  gap-clocks (begins - end) (s ∷ []),
  struct-clocks g,
)

-- a struct behind no gap, and behind one
pub put_struct : (old new : List Struct) (s : Struct) (gap : ℕ) → gap ≤ 0 → new ≡ old ++ s ∷ [] → map struct_value new ≡ map struct_value old ++ with_gap gap (struct_value s ∷ [])
put_struct old new s gap le e = ap (map struct_value) e ∙ structs-append old (s ∷ []) ∙ ap (λ k. map struct_value old ++ with_gap k (struct_value s ∷ [])) none
  where
    none : 0 ≡ gap
    none = omega (arith, le)

pub put_gap : (old skipped new : List Struct) (s : Struct) (gap : ℕ) → 0 < gap → skipped ≡ old ++ Skip gap ∷ [] → new ≡ skipped ++ s ∷ [] →
    map struct_value new ≡ map struct_value old ++ with_gap gap (struct_value s ∷ [])
put_gap old skipped new s zero some e f = absurd (omega (arith, some))
put_gap old skipped new s (suc gap) some e f = ap (map struct_value) (f ∙ ap (λ ss. ss ++ s ∷ []) e) ∙ structs-append (old ++ Skip (suc gap) ∷ []) (s ∷ [])
    ∙ ap (λ ss. ss ++ struct_value s ∷ []) (structs-append old (Skip (suc gap) ∷ [])) ∙ append_assoc (map struct_value old) (skip (suc gap) ∷ []) (struct_value s ∷ [])
