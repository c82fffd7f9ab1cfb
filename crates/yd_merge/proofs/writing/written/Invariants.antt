use Rattle.std.proofs.Common.{◌≡◌, map}
use Rattle.yd_grouping.specs.Building.{all_pushed, nothing_built}
use Rattle.yd_building.specs.Builder.{built_of}
use Rattle.yd_merge.specs.Told.{group_of_entry}
use Rattle.yd_merge.proofs.writing.written.Given as goal

-- with the entries that are left, all are pushed
abbrev pub invariant-loop-entry : goal.invariant-loop-entry
invariant-loop-entry l = all_pushed (built_of l.builder) (map (group_of_entry l.runs) l.entry-iterator) ≡ all_pushed nothing_built (map (group_of_entry l.runs) l.entries)
