use Rattle.std.proofs.Common.{◌-◌, ap, ◌∙◌}
use Rattle.std.specs.List.{sum_by}
use Rattle.yd_meaning.specs.Held.{held_set, count_of_ids, named_count}
use Rattle.yd_received.specs.Received.{taken_of}
use Rattle.yd_state.specs.State.{StateValue}
use Rattle.yd_state.specs.Waiting.{waiting_ids}
use Rattle.yd_state.proofs.WaitingLemmas.{ids_wait}
use Rattle.yd_state.proofs.state.State.waiting_ids.Goals as goal

pub returns : goal.returns
returns c =
    c.count_ids.ensures ∙ ap (sum_by (waiting_ids c.vector.result.now)) c.ids.ensures ∙ ap (λ v. sum_by (waiting_ids v) c.self.inside.sets.named) c.vector.ensures.vector
    ∙ ids_wait c.self.inside.held c.vector.ensures.holds c.self.inside.sets.named c.self.invariant.received.maximal
    ∙ ap (λ (s : StateValue). count_of_ids s.named - named_count s.named (held_set (taken_of s.held.received))) c.self.view_is
