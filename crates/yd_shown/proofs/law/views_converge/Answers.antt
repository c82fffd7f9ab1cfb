use Rattle.std.proofs.Common.{◌≡◌, ap, sym, subst}
use Rattle.yd_ops.specs.Received.{Received}
use Rattle.yd_ops.proofs.AgreementLemmas.{received_one, received_merged}
use Rattle.yd_meaning.specs.Document.{Document}
use Rattle.yd_meaning.specs.Replica.{IsReplicaDocument}
use Rattle.yd_meaning.proofs.ReplicaLemmas.{documents_are_one}
use Rattle.yd_shown.specs.Law.{ViewsAreAlike}
use Rattle.yd_shown.specs.Shown.{shown}
use Rattle.yd_shown.proofs.law.views_converge.Goals as goal

views_alike : (one other : Received) → one ≡ other → ViewsAreAlike one other
views_alike one other same honest document another of_one of_other parent mode = ap (λ (d : Document). shown d parent mode)
    (documents_are_one one honest document another of_one (subst (λ (r : Received). IsReplicaDocument another r) (sym same) of_other))

pub returns : goal.returns
returns c = record {
  any_order = λ one other valid other_valid alike same. views_alike _ _ (received_one one other valid other_valid alike same);
  merged = λ one other valid other_valid agree other_agree same. views_alike _ _ (received_merged one other valid other_valid agree other_agree same);
}
