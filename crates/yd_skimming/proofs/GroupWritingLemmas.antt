-- A group behind what is built, where it does not join the last one.
use Rattle.std.proofs.Common.{◌≡◌, ℕ, ◌+◌, false, List, Option, Some, None, refl, sym, ap, ap₂, ◌∙◌, subst}
use Rattle.yd_ids.specs.declared.id.Id.{Id}
use Rattle.yd_ops.specs.Operation.{later_id}
use Rattle.yd_ops.specs.Value.{BlockValue, StructValue, clocks_of}
use Rattle.yd_grouping.specs.Building.{Built, blocks_and, with_last, with_next, with_pushed}
use Rattle.yd_grouping.specs.Groups.{Group, start_of, struct_of}
use Rattle.yd_grouping.proofs.BlockLemmas.{struct-clocks}
use Rattle.yd_skimming.specs.BlockWriting.{HasWritten, IsGroupAt}
use Rattle.yd_skimming.specs.GroupWriting.{HasBuilt, blocks_in}
use Rattle.yd_skimming.specs.Tails.{id_behind, joins_tail, last_tail, struct_tail}
use Rattle.yd_skimming.specs.declared.group_writing.GroupWriter.{GroupWriter}
use Rattle.yd_skimming.proofs.TailLemmas.{tail_joins}

-- what does not join the last group goes behind it
apart : (blocks : List BlockValue) (last : Option Group) (group : Group) → joins_tail (last_tail last) (start_of group) (struct_of group) ≡ false →
    (blocks_in (with_next blocks last group) ≡ blocks_and (with_last blocks last) group) × ((with_next blocks last group).last ≡ Some group)
apart blocks None group e = (refl, refl)
apart blocks (Some last) group e = let joins = sym (tail_joins last group) ∙ e in rw joins (refl, refl)

-- ---- lemmas for callers

pub put_apart : (old new : GroupWriter) (id : Id) (s : StructValue) (len : ℕ) (built : Built) (group : Group) → IsGroupAt id s group → HasBuilt old built →
    joins_tail old.tail id s ≡ false → ((blocks : List BlockValue) (g : Group) → IsGroupAt id s g → HasWritten old.blocks blocks → HasWritten new.blocks (blocks_and blocks g)) →
    new.tail ≡ struct_tail (record { client = id.client; clock = id.clock + len }) s → len ≡ clocks_of s → HasBuilt new (with_pushed built group)
put_apart old new id s len built group is has joins puts tails long = record {
  written = subst (HasWritten new.blocks) (sym both.0) (puts (blocks_in built) group is has.written);
  tail = tails ∙ ap₂ struct_tail (sym end) (sym is.struct) ∙ ap last_tail (sym both.1);
}
  where
    end : id_behind group ≡ record { client = id.client; clock = id.clock + len }
    end = ap₂ later_id is.starts (sym (struct-clocks group) ∙ ap clocks_of is.struct ∙ sym long)

    both : (blocks_in (with_pushed built group) ≡ blocks_and (blocks_in built) group) × ((with_pushed built group).last ≡ Some group)
    both = apart built.blocks built.last group
        (ap₂ (λ x t. joins_tail (last_tail built.last) x t) is.starts is.struct ∙ ap (λ t. joins_tail t id s) (sym has.tail) ∙ joins)
