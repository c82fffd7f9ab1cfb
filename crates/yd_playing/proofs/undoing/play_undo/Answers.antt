use Rattle.std.proofs.Common.{Err, sym, ap, subst}
use Rattle.yd_doc.specs.Editing.{own_basis}
use Rattle.yd_doc.specs.Kept.{received_of}
use Rattle.yd_undo.specs.Stacks.{after_undo, newest_entry}
use Rattle.yd_playing.specs.Answer.{PlaysAs}
use Rattle.yd_playing.specs.Desk.{Desk, desk_of}
use Rattle.yd_playing.specs.Ended.{undo_ends}
use Rattle.yd_playing.proofs.PlaysLemmas.{undo_done, undo_refused}
use Rattle.yd_playing.proofs.undoing.play_undo.Goals as goal

pub returns-in-Ok-clause-plays : goal.returns-in-Ok-clause-plays
returns-in-Ok-clause-plays c =
    let before = c.args.desk.now.undo in
    undo_done c.args.replica.now c.undo.new.replica c.args.desk.now.marks.items before c.args.number (after_undo before) (newest_entry before.undo) c.in-Ok.update c.undo.new.self
    c.in-Ok.ensures.done c.in-Ok.ensures.stacks

pub returns-in-Err-clause-plays : goal.returns-in-Err-clause-plays
returns-in-Err-clause-plays c =
    let old = c.args.replica.now in
    let before = c.args.desk.now.undo in
    let marks = c.args.desk.now.marks.items in
    let after : Desk = record { received = received_of c.undo.new.replica; marks = marks; stacks = c.undo.new.self } in
    subst (λ fault. PlaysAs (undo_ends (own_basis old) (desk_of old c.args.desk.now) (after_undo before) (newest_entry before.undo)) c.args.number (received_of old) after (Err fault))
    (sym c.refused.ensures)
    (undo_refused old c.undo.new.replica marks before c.args.number (after_undo before) (newest_entry before.undo) c.in-Err.fault after c.in-Err.ensures.refused
    (ap received_of c.in-Err.ensures.unchanged.1))
