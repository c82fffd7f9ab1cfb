use Rattle.std.proofs.Common.{map, ◌∙◌}
use Rattle.yd_ops.specs.View.{update_value}
use Rattle.yd_ops.specs.Received.{received_set}
use Rattle.yd_entries.specs.Entries.{operations_in}
use Rattle.yd_merge.proofs.MergingLemmas.{received_is}
use Rattle.yd_merge.proofs.merging.merge_taken.Goals as goal

pub written-requires-clause-each : goal.written-requires-clause-each
written-requires-clause-each c = rw (c.entries-entries.ensures.entries, c.runs-runs.ensures) c.entries-entries.ensures.kept.each

pub written-requires-clause-in_order : goal.written-requires-clause-in_order
written-requires-clause-in_order c = rw c.entries-entries.ensures.entries c.entries-entries.ensures.kept.in_order

pub returns : goal.returns
returns c = c.in_ok-merged.ensures ∙ received_is (received_set (map update_value c.args.updates.now)) (operations_in c.runs-runs.result.now c.entries-entries.result.now)
    c.args.deletes ((λ i. operations_in (c.runs-runs.ensures i) (c.entries-entries.ensures.entries i)) ∙ c.in_ok-received.ensures) c.requires.deletes
