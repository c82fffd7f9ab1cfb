use Rattle.std.proofs.Common.{ℕ, List, Option, Some, sym, ◌∙◌, subst}
use Rattle.yd_ops.specs.declared.lists.List.{List as DocList}
use Rattle.yd_doc.specs.Editing.{own_basis}
use Rattle.yd_doc.specs.Kept.{received_of}
use Rattle.yd_playing.specs.Answer.{PlaysAs}
use Rattle.yd_playing.specs.Desk.{desk_of}
use Rattle.yd_playing.specs.Ended.{insertion_ends}
use Rattle.yd_playing.proofs.at_marks.play_insert_at.Goals as goal

pub returns-in-Ok-Some-clause-plays : goal.returns-in-Ok-Some-clause-plays
returns-in-Ok-Some-clause-plays c =
    let old = c.args.replica.now in
    let found = c.in-Ok-Some in
    subst (λ (place : Option (DocList × ℕ)). PlaysAs (insertion_ends (own_basis old) (desk_of old c.args.desk.now) c.args.text.now place) c.args.number (received_of old)
    (desk_of c.play_insert.new.replica c.play_insert.new.desk) c.play_insert.result) (sym found.field-0-is ∙ found.ensures.place)
    (subst (λ (text : List ℕ). PlaysAs (insertion_ends (own_basis old) (desk_of old c.args.desk.now) text (Some (found.list, found.index))) c.args.number (received_of old)
    (desk_of c.play_insert.new.replica c.play_insert.new.desk) c.play_insert.result) c.as_str.ensures c.play_insert.ensures.plays)
