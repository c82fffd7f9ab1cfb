use Rattle.std.proofs.Common.{List, map, refl}
use Rattle.yd_ops.specs.View.{struct_value}
use Rattle.yd_ops.specs.declared.updates.Struct.{Struct}
use Rattle.yd_fields.specs.UpdateFields.{fields_of_struct, fields_of_structs}
use Rattle.yd_fields.specs.Writes.{IsWritableStruct}
use Rattle.yd_fields.proofs.WritableLemmas.{each_map_at}
use Rattle.yd_fields.proofs.WritesLemmas.{remain_item}
use Rattle.yd_fields.proofs.struct_writing.write_structs.Goals as goal

pub write_struct-requires : goal.write_struct-requires
write_struct-requires g c = each_map_at IsWritableStruct struct_value c.args.structs.now c.loop-entry.entry-index c.entry-item.result c.loop-entry-test.true c.entry-item.is c.requires

pub loop-entry-preserved : goal.loop-entry-preserved
loop-entry-preserved g c =
    remain_item (λ (ss : List Struct). fields_of_structs (map struct_value ss)) (λ (s : Struct). fields_of_struct (struct_value s)) (λ s ss. refl) c.args.structs.now c.loop-entry.entry-index c.entry-item.result c.loop-entry-test.true c.entry-item.is c.loop-entry.invariant c.in_ok-write_struct.ensures
