use Rattle.std.proofs.Common.{◌∙◌, ◌+◌, ap₂}
use Rattle.yd_generating.proofs.ReplicaLemmas.{counted_held}
use Rattle.yd_generating.proofs.counting.held.Goals as goal

pub returns : goal.returns
returns c = ap₂ (λ a b. a + b) (ap₂ (λ a b. a + b) c.get.ensures.reached c.get-2.ensures.reached) c.get-3.ensures.reached
    ∙ counted_held c.args.replica.now c.requires.plain c.own_document_is_replicas.ensures c.requires.of_three c.vector-vector.result.now c.vector-vector.ensures
