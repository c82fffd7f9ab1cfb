-- What is found of updates is found with the document of the state that received them.
use Rattle.std.proofs.Common.{◌≡◌, ◌∙◌, List, ap, subst}
use Rattle.yd_ops.specs.Value.{UpdateValue}
use Rattle.yd_ops.specs.Received.{Received, received_set}
use Rattle.yd_grouping.specs.Disagreement.{disagreement_of}
use Rattle.yd_honesty.specs.Dishonest.{dishonest_of}
use Rattle.yd_meaning.specs.Held.{held_set}
use Rattle.yd_meaning.specs.Replica.{IsReplicaDocument}
use Rattle.yd_state.specs.State.{StateValue, received_in, document_in, IsSound}
use Rattle.yd_state.proofs.LentLemmas.{document_replica}
use Rattle.yd_checking.specs.declared.checking.Findings.{Findings}
use Rattle.yd_checking.specs.Counts.{counts_in}
use Rattle.yd_checking.specs.Findings.{findings_in, IsFound}

module _ (s : StateValue) (sound : IsSound s) (us : List UpdateValue) (same : received_in s ≡ received_set us) (found : Findings)
    (counts : found.counts ≡ counts_in (document_in s) (received_in s)) (disagreement : found.disagreement ≡ disagreement_of us)
    (dishonest : found.dishonest ≡ dishonest_of (held_set (received_in s).operations)) where
  told_in : found ≡ findings_in (document_in s) us
  told_in = λ i. record {
    counts = (counts ∙ ap (counts_in (document_in s)) same) i;
    disagreement = disagreement i;
    dishonest = (dishonest ∙ ap (λ (r : Received). dishonest_of (held_set r.operations)) same) i;
  }

  pub is_found : IsFound found us
  is_found = record {
    document = document_in s;
    replica = subst (IsReplicaDocument (document_in s)) same (document_replica s sound);
    told = told_in;
  }
