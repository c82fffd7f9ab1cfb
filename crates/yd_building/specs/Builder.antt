-- What contracts see of a builder (own).
use Rattle.std.specs.Prelude.{List, [], ◌∷◌, ◌++◌, Option, Some, None, map}
use Rattle.yd_ops.specs.Value.{BlockValue}
use Rattle.yd_ops.specs.View.{run_value, block_value}
use Rattle.yd_grouping.specs.Groups.{Group, of_run, of_gone}
use Rattle.yd_grouping.specs.Building.{Built}
use Rattle.yd_building.specs.declared.builder.Builder.{Builder}
use Rattle.yd_building.specs.declared.group.Group.{Group as OwnedGroup}
use Rattle.yd_building.specs.declared.group.Group.TheVariants.{Run, Gone}
use Rattle.yd_building.specs.declared.putting.Blocks.{Blocks}

-- a group, with its run as plain data
abbrev pub group_value : OwnedGroup → Group
group_value (Run run) = of_run (run_value run)
group_value (Gone id count) = of_gone id count

-- a group so, if there is one
abbrev pub some_group : Option OwnedGroup → Option Group
some_group None = None
some_group (Some group) = Some (group_value group)

-- blocks, with the one that may still grow behind those that are done
abbrev pub blocks_value : Blocks → List BlockValue
blocks_value blocks = map block_value blocks.done ++ block_value blocks.growing ∷ []

-- blocks so, or none
abbrev pub some_blocks : Option Blocks → List BlockValue
some_blocks None = []
some_blocks (Some blocks) = blocks_value blocks

-- what a builder has built
abbrev pub built_of : Builder → Built
built_of builder = record { blocks = some_blocks builder.blocks; last = some_group builder.last }
