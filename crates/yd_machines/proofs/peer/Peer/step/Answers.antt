use Rattle.std.proofs.Common.{ap}
use Rattle.yd_machines.specs.PeerStep.{event_value, peer_state, replica_of}
use Rattle.yd_machines.specs.Sent.{sent_in}
use Rattle.yd_machines.proofs.PeerLemmas.{refuses_so, takes_one, takes_so}
use Rattle.yd_machines.proofs.peer.Peer.step.Goals as goal

pub returns-in-Tick-clause-taken : goal.returns-in-Tick-clause-taken
returns-in-Tick-clause-taken c = takes_so (replica_of c.args.self.now) (peer_state c.args.self.now) (peer_state c.tick.new.self) _ (event_value c.args.event.now)
    c.vector_of-vector.result.now c.vector_of-vector.ensures.counts c.tick.result (ap event_value c.in-Tick.is) c.tick.ensures.after c.tick.ensures.answer

pub returns-in-Tick-clause-refused : goal.returns-in-Tick-clause-refused
returns-in-Tick-clause-refused c = refuses_so (peer_state c.args.self.now) _ (event_value c.args.event.now) c.tick.result (ap event_value c.in-Tick.is) c.tick.ensures.refused

pub returns-in_ok-sent-in-Edited-clause-taken : goal.returns-in_ok-sent-in-Edited-clause-taken
returns-in_ok-sent-in-Edited-clause-taken c = takes_one (replica_of c.args.self.now) (peer_state c.args.self.now) (peer_state c.tell.new.self) _ (event_value c.args.event.now)
    c.vector_of-vector.result.now c.vector_of-vector.ensures.counts (sent_in c.in_ok-sent-in-Edited.sent) (ap event_value c.in-Edited.is)
    c.in_ok-sent-in-Edited.ensures.after c.in_ok-sent-in-Edited.ensures.answer

pub returns-in-State-clause-taken : goal.returns-in-State-clause-taken
returns-in-State-clause-taken c = takes_so (replica_of c.args.self.now) (peer_state c.args.self.now) (peer_state c.set_state.new.self) _ (event_value c.args.event.now)
    c.vector_of-vector.result.now c.vector_of-vector.ensures.counts c.set_state.result (ap event_value c.in-State.is) c.set_state.ensures.after c.set_state.ensures.answer

pub returns-in-State-clause-refused : goal.returns-in-State-clause-refused
returns-in-State-clause-refused c = refuses_so (peer_state c.args.self.now) _ (event_value c.args.event.now) c.set_state.result (ap event_value c.in-State.is) c.set_state.ensures.refused
