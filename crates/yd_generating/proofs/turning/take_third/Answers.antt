use Rattle.std.proofs.Common.{◌%◌, arith, refl}
use Rattle.yd_doc.specs.Kept.{received_of}
use Rattle.yd_generating.specs.Replicas.{received_by}
use Rattle.yd_generating.proofs.TurnLemmas.{clients_kept, third_accepted, third_full, third_turned, client_in_range}
use Rattle.yd_generating.proofs.turning.take_third.Goals as goal

pub turn-requires-clause-client : goal.turn-requires-clause-client
turn-requires-clause-client c = client_in_range c.args.third.now.client 3 c.requires.clients.of_third (omega arith)

pub returns-in-Ok-clause-turned : goal.returns-in-Ok-clause-turned
returns-in-Ok-clause-turned c = third_turned (c.args.step % 3) c.args.step c.args.draws (received_by c.args.first.now c.args.second.now c.args.third.now) c.args.third.now.client
    (received_of c.turn.new.own) (received_of c.turn.new.next) c.requires.number c.requires.clients.of_third c.in-Ok.ensures.edited c.in-Ok.ensures.passed

pub returns-in-Ok-clause-accepted : goal.returns-in-Ok-clause-accepted
returns-in-Ok-clause-accepted c = third_accepted (c.args.step % 3) c.args.draws (received_by c.args.first.now c.args.second.now c.args.third.now) c.args.third.now.client
    c.requires.number c.requires.clients.of_third c.in-Ok.ensures.accepted

pub returns-in-Err-clause-full : goal.returns-in-Err-clause-full
returns-in-Err-clause-full c = third_full (c.args.step % 3) (received_by c.args.first.now c.args.second.now c.args.third.now) c.args.third.now.client c.in-Err.fault
    c.requires.number c.requires.clients.of_third c.in-Err.ensures.full

pub returns-in-Ok-clause-clients : goal.returns-in-Ok-clause-clients
returns-in-Ok-clause-clients c = clients_kept c.args.first.now c.args.second.now c.args.third.now c.turn.new.next c.args.second.now c.turn.new.own c.requires.clients
    c.turn.ensures.next_client refl c.turn.ensures.own_client

pub returns-in-Err-clause-clients : goal.returns-in-Err-clause-clients
returns-in-Err-clause-clients c = clients_kept c.args.first.now c.args.second.now c.args.third.now c.turn.new.next c.args.second.now c.turn.new.own c.requires.clients
    c.turn.ensures.next_client refl c.turn.ensures.own_client
