use Rattle.std.proofs.Common.{◌∙◌, map, ap}
use Rattle.yd_grouping.specs.Disagreement.{disagreement_of}
use Rattle.yd_honesty.specs.Dishonest.{dishonest_of}
use Rattle.yd_held.specs.Held.{HeldValue}
use Rattle.yd_meaning.specs.Held.{held_set}
use Rattle.yd_ops.specs.View.{update_value}
use Rattle.yd_received.specs.Received.{taken_of}
use Rattle.yd_checking.proofs.FoundLemmas.{is_found}
use Rattle.yd_checking.proofs.checking.check.Goals as goal

pub returns : goal.returns
returns c = is_found c.in_ok-state.state c.in_ok-state.ensures.sound (map update_value c.args.updates.items) c.in_ok-state.ensures.received
    (record { counts = c.count.result; disagreement = c.in_ok-disagreement.disagreement; dishonest = c.in_ok-breach.breach }) c.count.ensures
    (c.in_ok-disagreement.ensures ∙ ap (λ us. disagreement_of (map update_value us)) c.deref.ensures.value)
    (c.in_ok-breach.ensures ∙ ap (λ (k : HeldValue). dishonest_of (held_set (taken_of k.received))) c.held.ensures.held)
