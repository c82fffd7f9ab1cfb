-- What structs spell deleted or gone, added one after another.
use Rattle.std.proofs.Common.{◌≡◌, ℕ, ◌+◌, ◌<◌, List, [], ◌∷◌, ◌++◌, length, map, drop, get_or, refl, sym, ap, ◌∙◌, subst}
use Rattle.std.proofs.lemmas.List.{drop_more}
use Rattle.yd_ids.specs.declared.id.Client.{Client}
use Rattle.yd_ids.specs.declared.id.Span.{Span}
use Rattle.yd_ids.specs.Set.{union_of, with_span}
use Rattle.yd_ops.specs.declared.updates.Struct.{Struct}
use Rattle.yd_ops.specs.declared.updates.Block.{Block}
use Rattle.yd_ops.specs.Valid.{AreStructsFrom}
use Rattle.yd_ops.specs.Value.{clocks_of}
use Rattle.yd_ops.specs.View.{struct_value, block_value}
use Rattle.yd_ops.specs.Deletes.{struct_spans, structs_spans, blocks_spans}

-- spans are added one part after the other
pub union_of-append : (front back set : List Span) → union_of (front ++ back) set ≡ union_of back (union_of front set)
union_of-append [] back set = refl
union_of-append (span ∷ front) back set = union_of-append front back (with_span span set)

-- one struct is added, and then the others
pub struct_next : (client : Client) (clock : ℕ) (structs : List Struct) (i : ℕ) (next : Struct) (old new : List Span) → i < length structs → next ≡ get_or structs i next →
    new ≡ union_of (struct_spans client clock (struct_value next)) old →
    union_of (structs_spans client (clock + clocks_of (struct_value next)) (map struct_value (drop (i + 1) structs))) new
    ≡ union_of (structs_spans client clock (map struct_value (drop i structs))) old
struct_next client clock structs i next old new lt at adds = ap (union_of (structs_spans client (clock + clocks_of (struct_value next)) (map struct_value (drop
    (i + 1) structs)))) adds
    ∙ sym (union_of-append (struct_spans client clock (struct_value next)) (structs_spans client (clock + clocks_of (struct_value next)) (map struct_value (drop
    (i + 1) structs))) old)
    ∙ ap (λ ss. union_of (structs_spans client clock (map struct_value ss)) old) (sym (drop_more structs i next lt ∙ ap (λ (s : Struct). s ∷ drop (i + 1) structs) (sym at)))

pub structs_next : (client : Client) (clock : ℕ) (structs : List Struct) (i : ℕ) (next : Struct) → i < length structs → next ≡ get_or structs i next →
    AreStructsFrom client clock (map struct_value (drop i structs)) → AreStructsFrom client clock (struct_value next ∷ map struct_value (drop (i + 1) structs))
structs_next client clock structs i next lt at valid = subst (λ ss. AreStructsFrom client clock (map struct_value ss))
    (drop_more structs i next lt ∙ ap (λ (s : Struct). s ∷ drop (i + 1) structs) (sym at)) valid

-- so is one block
pub block_next : (blocks : List Block) (i : ℕ) (block : Block) (old new : List Span) → i < length blocks → block ≡ get_or blocks i block →
    new ≡ union_of (structs_spans block.client block.clock (map struct_value block.structs)) old →
    union_of (blocks_spans (map block_value (drop (i + 1) blocks))) new ≡ union_of (blocks_spans (map block_value (drop i blocks))) old
block_next blocks i block old new lt at adds = ap (union_of (blocks_spans (map block_value (drop (i + 1) blocks)))) adds
    ∙ sym (union_of-append (structs_spans block.client block.clock (map struct_value block.structs)) (blocks_spans (map block_value (drop (i + 1) blocks))) old)
    ∙ ap (λ bs. union_of (blocks_spans (map block_value bs)) old) (sym (drop_more blocks i block lt ∙ ap (λ (b : Block). b ∷ drop (i + 1) blocks) (sym at)))
