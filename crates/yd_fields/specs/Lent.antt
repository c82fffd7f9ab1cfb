-- What lent structs stand for.
use Rattle.yd_units.specs.Text.{units_of}
use Rattle.yd_ops.specs.Value as ops
use Rattle.yd_ops.specs.View.{struct_value}
use Rattle.yd_fields.specs.declared.lent.LentRun.{LentRun}
use Rattle.yd_fields.specs.declared.lent.LentStruct.{LentStruct}
use Rattle.yd_fields.specs.declared.lent.LentStruct.TheVariants.{Text, Made}

-- a run of the units of its text
abbrev pub lent_run : LentRun → ops.RunValue
lent_run run = record { id = run.id; left = run.left; right = run.right; list = run.list; content = ops.string (units_of run.text) }

-- a struct, with its run so
abbrev pub lent_struct : LentStruct → ops.StructValue
lent_struct (Text run) = ops.item (lent_run run)
lent_struct (Made entry) = struct_value entry
