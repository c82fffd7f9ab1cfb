use Rattle.std.proofs.Common.{sym, ◌∙◌}
use Rattle.std.specs.Option.{option_copied}
use Rattle.yd_machines.specs.Asked.{answers_in}
use Rattle.yd_machines.specs.PeerStep.{peer_state, replica_of}
use Rattle.yd_machines.specs.Sent.{sent_in}
use Rattle.yd_machines.proofs.OwnStateLemmas.{stated_sent}
use Rattle.yd_machines.proofs.peer.Peer.set_state.Goals as goal

pub returns-in-Ok-clause-answer : goal.returns-in-Ok-clause-answer
returns-in-Ok-clause-answer c = λ vector.
    let self = c.args.self.now in
    stated_sent (answers_in (replica_of self) vector) (peer_state self) c.in-Some.own c.args.state.now c.args.now c.get-clock.result.0 (option_copied c.lent.result) (sent_in c.in_ok-sent.sent)
    (sym c.own.ensures.own ∙ c.in-Some.is) (sym c.is_full.ensures ∙ c.if-is_full.false) c.get-clock.ensures.clock c.lent.ensures c.in_ok-sent.ensures.sent
