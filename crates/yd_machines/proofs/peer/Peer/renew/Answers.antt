use Rattle.std.proofs.Common.{sym, ◌∙◌}
use Rattle.std.specs.Option.{option_copied}
use Rattle.yd_aware.specs.AwareTable.{after_renewal, with_rows}
use Rattle.yd_sync.specs.Table.{is_old, without_states}
use Rattle.yd_doc.specs.Kept.{received_of}
use Rattle.yd_machines.specs.Asked.{answers_in}
use Rattle.yd_machines.specs.PeerStep.{peer_state, replica_of}
use Rattle.yd_machines.specs.Sent.{sent_in}
use Rattle.yd_machines.proofs.OwnStateLemmas.{never_full, renewed_table, same_full, ticked_after, ticked_sent}
use Rattle.yd_machines.proofs.PeerLemmas.{other_table}
use Rattle.yd_machines.proofs.peer.Peer.renew.Goals as goal

pub returns-in-Ok-clause-after : goal.returns-in-Ok-clause-after
returns-in-Ok-clause-after c =
    let self = c.args.self.now in
    other_table (received_of self.replica) c.renew.new.self
    (with_rows self.table (after_renewal self.table.own c.args.now (without_states (is_old self.table.own c.args.now) self.table.rows))) self.taken_step2 self.answered_step1
    (renewed_table self.table c.take_old.new.self c.renew.new.self c.args.now c.in_ok-take_old.ensures.after c.in-Ok.ensures.renewed)
    ∙ ticked_after (peer_state self) c.in-Some.own c.args.now (sym c.own.ensures.own ∙ c.in-Some.is) c.requires.due (sym (same_full self.table.own self.table.rows) ∙ c.requires.room)

pub returns-in-Ok-clause-answer : goal.returns-in-Ok-clause-answer
returns-in-Ok-clause-answer c = λ vector.
    let self = c.args.self.now in
    ticked_sent (answers_in (replica_of self) vector) (peer_state self) c.in-Some.own c.args.now c.get-clock.result.0 (option_copied c.get-clock.result.1) (sent_in c.in_ok-sent.sent)
    (sym c.own.ensures.own ∙ c.in-Some.is) c.requires.due c.requires.room c.get-clock.ensures.clock c.get-clock.ensures.state c.in_ok-sent.ensures.sent

pub returns-in-Err-clause-unchanged : goal.returns-in-Err-clause-unchanged
returns-in-Err-clause-unchanged c = absurd (never_full c.args.self.now.table c.take_old.new.self c.args.now c.in_ok-take_old.ensures.after c.requires.room
    (c.in-Err.ensures.full.0 c.in-Err.ensures.only_full).1)
