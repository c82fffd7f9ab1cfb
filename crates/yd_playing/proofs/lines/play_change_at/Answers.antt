use Rattle.std.proofs.Common.{Err, sym, ap, subst}
use Rattle.yd_script.specs.Line.{change_of}
use Rattle.yd_doc.specs.Editing.{own_basis}
use Rattle.yd_doc.specs.Kept.{own_document, received_of}
use Rattle.yd_undo.specs.Stacks.{after_note}
use Rattle.yd_playing.specs.Answer.{PlaysAs}
use Rattle.yd_playing.specs.Asked.{change_refusal, change_steps}
use Rattle.yd_playing.specs.Desk.{desk_of}
use Rattle.yd_playing.specs.Ended.{edit_ends}
use Rattle.yd_playing.proofs.PlaysLemmas.{edit_noted, edit_refused}
use Rattle.yd_playing.proofs.lines.play_change_at.Goals as goal

pub returns-in-Ok-clause-plays : goal.returns-in-Ok-clause-plays
returns-in-Ok-clause-plays c =
    let old = c.args.replica.now in
    let change = change_of c.args.change in
    edit_noted (own_basis old) (desk_of old c.args.desk.now) c.args.number (after_note c.args.desk.now.undo) (change_steps (own_document old) c.args.parent change)
    (change_refusal (own_basis old) c.args.parent change) c.in-Ok.update (received_of c.carry_out.new.replica) c.noted.new.desk.marks.items c.noted.new.desk.undo c.noted.result
    c.in-Ok.ensures.accepted c.in-Ok.ensures.done.made c.in-Ok.ensures.done.received c.noted.ensures.marks c.noted.ensures.update c.noted.ensures.noted c.noted.ensures.memory

pub returns-in-Err-clause-plays : goal.returns-in-Err-clause-plays
returns-in-Err-clause-plays c =
    let old = c.args.replica.now in
    let change = change_of c.args.change in
    let desk = desk_of old c.args.desk.now in
    let after = desk_of c.carry_out.new.replica c.args.desk.now in
    let steps = change_steps (own_document old) c.args.parent change in
    let refusal = change_refusal (own_basis old) c.args.parent change in
    subst (λ fault. PlaysAs (edit_ends (own_basis old) desk (after_note c.args.desk.now.undo) steps refusal) c.args.number desk.received after (Err fault)) (sym c.refused.ensures)
    (edit_refused (own_basis old) desk c.args.number (after_note c.args.desk.now.undo) steps refusal c.in-Err.fault after c.in-Err.ensures.refused
    (ap received_of c.in-Err.ensures.unchanged))
