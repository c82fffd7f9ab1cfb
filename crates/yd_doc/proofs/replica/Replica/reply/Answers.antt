use Rattle.std.proofs.Common.{subst, sym}
use Rattle.yd_ids.specs.Vector.{clock_of}
use Rattle.yd_ops.specs.Valid.{IsValidUpdate}
use Rattle.yd_grouping.specs.Groupable.{AreGroupable}
use Rattle.yd_grouping.specs.Merged.{cut_of}
use Rattle.yd_grouping.proofs.CutLemmas.{cut_groupable}
use Rattle.yd_grouping.proofs.GroupedLemmas.{grouping_valid}
use Rattle.yd_received.specs.Received.{taken_of}
use Rattle.yd_doc.proofs.GroupableLemmas.{state_groupable}
use Rattle.yd_doc.proofs.replica.Replica.reply.Goals as goal

pub returns-clause-valid : goal.returns-clause-valid
returns-clause-valid c =
    let vector = clock_of c.args.vector.now in
    let taken = taken_of c.received.result.now in
    let groupable : AreGroupable taken = subst (λ r. AreGroupable (taken_of r)) (sym c.received.ensures.received) (state_groupable c.self.inside.state c.self.invariant.sound) in
    subst (λ u. IsValidUpdate u) (sym c.in_ok-update.ensures) (grouping_valid (cut_of taken vector) _ (cut_groupable taken vector groupable) c.union.ensures.maximal)
