use Rattle.std.proofs.Common.{◌≡◌, ◌∙◌, ap, map, subst, sym}
use Rattle.yd_words.specs.Each.{Each}
use Rattle.yd_ops.specs.Value.{UpdateValue}
use Rattle.yd_ops.specs.Valid.{IsValidUpdate}
use Rattle.yd_ops.specs.View.{update_value}
use Rattle.yd_ops.specs.Received.{nothing_received, received_after, received_set}
use Rattle.yd_grouping.proofs.MergeLemmas.{merge_received}
use Rattle.yd_state.proofs.receiving.one_of.Goals as goal

pub returns-then-not-is_alone-clause-same : goal.returns-then-not-is_alone-clause-same
returns-then-not-is_alone-clause-same c =
    let lent = c.deref-then-not-is_alone.result.now in
    subst (λ us. received_after nothing_received (update_value c.in_ok-merged.merged) ≡ received_set (map update_value us)) c.deref-then-not-is_alone.ensures.value
    (ap (λ (u : UpdateValue). received_after nothing_received u) c.in_ok-merged.ensures.merged
    ∙ merge_received (map update_value lent) (subst (λ us. Each IsValidUpdate (map update_value us)) (sym c.deref-then-not-is_alone.ensures.value) c.requires))
