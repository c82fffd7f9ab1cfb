use Rattle.std.proofs.Common.{List, map, sym, subst}
use Rattle.yd_words.specs.Each.{Each}
use Rattle.yd_ops.specs.View.{struct_value}
use Rattle.yd_ops.specs.declared.updates.Struct.{Struct}
use Rattle.yd_fields.specs.Writes.{IsWritableStruct}
use Rattle.yd_fields.proofs.WritableLemmas.{structs_are_writable}
use Rattle.yd_fields.proofs.update_writing.write_block.Goals as goal

pub write_structs-requires : goal.write_structs-requires
write_structs-requires g c =
    subst (λ (ss : List Struct). Each IsWritableStruct (map struct_value ss)) (sym c.as_slice-structs.ensures) (structs_are_writable (map struct_value c.args.block.now.structs) _ _ c.requires.structs)
