use Rattle.std.proofs.Common.{sym, subst}
use Rattle.yd_meaning.specs.Held.{held_clock, held_set}
use Rattle.yd_doc.specs.Kept.{received_of}
use Rattle.yd_generating.specs.Stopped.{IsFull}
use Rattle.yd_generating.proofs.DrawnLemmas.{drawn_received, drawn_stops, drawn_taken}
use Rattle.yd_generating.proofs.editing.edit.Goals as goal

pub returns-in-Ok-clause-edited : goal.returns-in-Ok-clause-edited
returns-in-Ok-clause-edited c = drawn_received c.args.replica.now c.requires.plain c.own_document_is_replicas.ensures c.args.draws c.edit_drawn.new.replica
    c.in-Ok.ensures.done

pub returns-in-Ok-clause-accepted : goal.returns-in-Ok-clause-accepted
returns-in-Ok-clause-accepted c = drawn_taken c.args.replica.now c.requires.plain c.own_document_is_replicas.ensures c.args.draws c.edit_drawn.new.replica
    c.in-Ok.ensures.done

pub returns-in-Err-clause-full : goal.returns-in-Err-clause-full
returns-in-Err-clause-full c = subst (IsFull (held_clock (held_set (received_of c.args.replica.now).operations) c.args.replica.now.client.0)) (sym c.stopped.ensures)
    (drawn_stops c.args.replica.now c.requires.plain c.own_document_is_replicas.ensures c.args.draws c.requires.client c.in-Err.fault c.in-Err.ensures.refused)
