use Rattle.std.proofs.Common.{◌≡◌, sym, subst, ◌∙◌}
use Rattle.yd_ops.specs.Valid.{IsValidUpdate}
use Rattle.yd_ops.specs.View.{update_value}
use Rattle.yd_ops.specs.Received.{with_groups, groups_of}
use Rattle.yd_ops.proofs.EachLemmas.{each_read}
use Rattle.yd_received.specs.Received.{taken_of}
use Rattle.yd_merge.proofs.MergingLemmas.{receive_next}
use Rattle.yd_merge.proofs.merging.received_of.Goals as goal

pub copy-requires : goal.copy-requires
copy-requires c = each_read update_value IsValidUpdate c.args.updates.now c.loop-update.update-index c.update-item.result c.requires c.loop-update-test.true c.update-item.is

pub take-requires : goal.take-requires
take-requires c = subst IsValidUpdate (sym c.in_ok-copy.ensures)
    (each_read update_value IsValidUpdate c.args.updates.now c.loop-update.update-index c.update-item.result c.requires c.loop-update-test.true c.update-item.is)

pub loop-update-preserved : goal.loop-update-preserved
loop-update-preserved c = receive_next c.args.updates.now c.loop-update.update-index c.update-item.result (taken_of c.loop-update.received) (taken_of c.take.new.self)
    c.loop-update-test.true c.update-item.is
    (subst (λ update. taken_of c.take.new.self ≡ with_groups (groups_of update) (taken_of c.loop-update.received)) c.in_ok-copy.ensures c.in_ok-take.ensures.received)
    ∙ c.loop-update.invariant
