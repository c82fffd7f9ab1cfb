use Rattle.std.proofs.Common.{◌≡◌, subst}
use Rattle.yd_ids.specs.Vector.{clock_of}
use Rattle.yd_ops.specs.View.{update_value}
use Rattle.yd_ops.specs.Received.{with_groups, groups_of}
use Rattle.yd_received.specs.Received.{taken_of}
use Rattle.yd_merge.proofs.CutEntriesLemmas.{cut_received}
use Rattle.yd_merge.proofs.cutting.cut_taken.Goals as goal

pub returns : goal.returns
returns c = cut_received (update_value c.args.update.now) c.new-received.result c.take.new.self (update_value c.in_ok-cut.cut) (clock_of c.args.vector.now)
    c.args.deletes c.new-received.ensures
    (subst (λ update. taken_of c.take.new.self ≡ with_groups (groups_of update) (taken_of c.new-received.result)) c.in_ok-copy.ensures c.in_ok-take.ensures.received)
    c.requires.deletes c.in_ok-cut.ensures
