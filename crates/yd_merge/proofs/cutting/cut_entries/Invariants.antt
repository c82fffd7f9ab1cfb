use Rattle.std.proofs.Common.{◌≡◌, map}
use Rattle.yd_ids.specs.Vector.{clock_of}
use Rattle.yd_grouping.specs.Building.{all_pushed, nothing_built}
use Rattle.yd_building.specs.Builder.{built_of}
use Rattle.yd_merge.specs.Cutting.{cut_entries}
use Rattle.yd_merge.specs.Told.{group_of_entry}
use Rattle.yd_merge.proofs.cutting.cut_entries.Given as goal

-- with the units of the entries that are left, all that are in the cut are pushed
abbrev pub invariant-loop-entry : goal.invariant-loop-entry
invariant-loop-entry l = all_pushed (built_of l.builder) (map (group_of_entry l.runs) (cut_entries l.runs (clock_of l.vector) l.entry-iterator))
    ≡ all_pushed nothing_built (map (group_of_entry l.runs) (cut_entries l.runs (clock_of l.vector) l.entries))
