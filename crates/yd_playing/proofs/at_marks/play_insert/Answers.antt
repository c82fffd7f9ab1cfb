use Rattle.std.proofs.Common.{Err, sym, ap, subst}
use Rattle.yd_units.specs.Text.{units_of}
use Rattle.yd_ops.specs.Value.{string}
use Rattle.yd_editing.specs.TextEdit.{insert_refusal, insert_steps}
use Rattle.yd_doc.specs.Editing.{own_basis}
use Rattle.yd_doc.specs.Kept.{own_document, received_of}
use Rattle.yd_undo.specs.Stacks.{after_note}
use Rattle.yd_playing.specs.Answer.{PlaysAs}
use Rattle.yd_playing.specs.Desk.{desk_of}
use Rattle.yd_playing.specs.Ended.{edit_ends}
use Rattle.yd_playing.proofs.PlaysLemmas.{edit_noted, edit_refused}
use Rattle.yd_playing.proofs.at_marks.play_insert.Goals as goal

pub returns-in-Ok-clause-plays : goal.returns-in-Ok-clause-plays
returns-in-Ok-clause-plays c =
    let old = c.args.replica.now in
    let list = c.args.list.now in
    let content = string (units_of c.args.text.now) in
    edit_noted (own_basis old) (desk_of old c.args.desk.now) c.args.number (after_note c.args.desk.now.undo) (insert_steps (own_document old) list c.args.index content)
    (insert_refusal (own_basis old) list c.args.index content) c.in-Ok.update (received_of c.insert.new.replica) c.noted.new.desk.marks.items c.noted.new.desk.undo c.noted.result
    c.in-Ok.ensures.accepted c.in-Ok.ensures.done.made c.in-Ok.ensures.done.received c.noted.ensures.marks c.noted.ensures.update c.noted.ensures.noted c.noted.ensures.memory

pub returns-in-Err-clause-plays : goal.returns-in-Err-clause-plays
returns-in-Err-clause-plays c =
    let old = c.args.replica.now in
    let list = c.args.list.now in
    let content = string (units_of c.args.text.now) in
    let desk = desk_of old c.args.desk.now in
    let after = desk_of c.insert.new.replica c.args.desk.now in
    let steps = insert_steps (own_document old) list c.args.index content in
    let refusal = insert_refusal (own_basis old) list c.args.index content in
    subst (λ fault. PlaysAs (edit_ends (own_basis old) desk (after_note c.args.desk.now.undo) steps refusal) c.args.number desk.received after (Err fault)) (sym c.refused.ensures)
    (edit_refused (own_basis old) desk c.args.number (after_note c.args.desk.now.undo) steps refusal c.in-Err.fault after c.in-Err.ensures.refused
    (ap received_of c.in-Err.ensures.unchanged))
