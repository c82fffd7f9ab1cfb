-- What stands for the structs and blocks that were read so far.
use Rattle.std.specs.Prelude.{ℕ, [], map, Option}
use Rattle.yd_ops.specs.View.{block_value, struct_value}
use Rattle.yd_fields.specs.UpdatePlan as plans
use Rattle.yd_reading.specs.declared.block_reading.BlocksRead.{BlocksRead}
use Rattle.yd_reading.specs.declared.block_reading.StructsRead.{StructsRead}

-- the structs that were read, as plain data
abbrev pub structs_value : StructsRead → plans.StructsRead
structs_value read = record { clock = read.clock; structs = map struct_value read.structs }

-- no structs yet, from a clock on
abbrev pub no_structs : ℕ → plans.StructsRead
no_structs clock = record { clock = clock; structs = [] }

-- the blocks that were read, as plain data
abbrev pub blocks_value : BlocksRead → plans.BlocksRead
blocks_value read = record { most = read.most; blocks = map block_value read.blocks }

-- no blocks yet, with so many structs to be declared, where there is a limit
abbrev pub no_blocks : Option ℕ → plans.BlocksRead
no_blocks most = record { most = most; blocks = [] }
