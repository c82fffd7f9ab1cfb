use Rattle.std.proofs.Common.{ℕ, Result, refl, subst}
use Rattle.yd_ops.specs.declared.lists.Parent.{Parent}
use Rattle.yd_script.specs.Line.{change_of, target_of}
use Rattle.yd_doc.specs.Editing.{own_basis}
use Rattle.yd_doc.specs.Kept.{received_of}
use Rattle.yd_playing.specs.Answer.{PlaysAs}
use Rattle.yd_playing.specs.Desk.{desk_of}
use Rattle.yd_playing.specs.Ended.{change_ends}
use Rattle.yd_playing.specs.Led.{led}
use Rattle.yd_playing.proofs.PlaysLemmas.{change_misled}
use Rattle.yd_playing.proofs.lines.play_change.Goals as goal

pub returns-in-Ok-clause-plays : goal.returns-in-Ok-clause-plays
returns-in-Ok-clause-plays c =
    let old = c.args.replica.now in
    subst (λ (found : Result Parent ℕ). PlaysAs (change_ends (own_basis old) (desk_of old c.args.desk.now) (change_of c.args.change) found) c.args.number (received_of old)
    (desk_of c.play_change_at.new.replica c.play_change_at.new.desk) c.play_change_at.result) c.in-Ok.ensures.leads c.play_change_at.ensures.plays

pub returns-in-Err-clause-plays : goal.returns-in-Err-clause-plays
returns-in-Err-clause-plays c =
    let old = c.args.replica.now in
    let desk = desk_of old c.args.desk.now in
    change_misled (own_basis old) desk desk c.args.number c.in-Err.step (led (own_basis old) (target_of c.args.target)) c.no_target.result c.in-Err.ensures.leads c.no_target.ensures refl
    (change_of c.args.change)
