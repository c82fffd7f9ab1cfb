use Rattle.std.proofs.Common.{◌≡◌, map, drop}
use Rattle.yd_ops.specs.View.{update_value}
use Rattle.yd_ops.specs.Received.{received_set}
use Rattle.yd_received.specs.Received.{taken_of}
use Rattle.yd_merge.proofs.MergingLemmas.{with_updates}
use Rattle.yd_merge.proofs.merging.received_of.Given as goal

-- with the updates that are left, all are received
abbrev pub invariant-loop-update : goal.invariant-loop-update
invariant-loop-update l = with_updates (taken_of l.received) (map update_value (drop l.update-index l.updates)) ≡ (received_set (map update_value l.updates)).operations
