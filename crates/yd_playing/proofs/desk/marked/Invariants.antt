use Rattle.std.proofs.Common.{◌≡◌, drop}
use Rattle.std.specs.Prelude.{option_copied}
use Rattle.yd_playing.specs.Desk.{marked, marked_behind}
use Rattle.yd_playing.proofs.desk.marked.Given as goal

-- what is found so far, and behind it, is what is found
abbrev pub invariant-loop-mark : goal.invariant-loop-mark
invariant-loop-mark l = record {
  found : marked_behind (option_copied l.found) l.name (drop l.mark-index l.marks) ≡ marked l.name l.marks;
}
