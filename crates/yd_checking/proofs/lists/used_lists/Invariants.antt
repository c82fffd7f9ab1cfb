use Rattle.std.proofs.Common.{◌≡◌, ◌≤◌, length, take}
use Rattle.std.specs.Prelude.{filter}
use Rattle.yd_state.specs.State.{document_in}
use Rattle.yd_checking.specs.Counts.{is_used}
use Rattle.yd_checking.proofs.lists.used_lists.Given as goal

abbrev pub invariant-loop-n : goal.invariant-loop-n
invariant-loop-n l = record {
  counted : l.count ≡ length (filter (is_used (document_in l.state)) (take l.n l.state.held.names));
  few : l.count ≤ l.n;
}
