use Rattle.std.proofs.Common.{Result, sym, subst}
use Rattle.yd_script.specs.Line.{line_of}
use Rattle.yd_doc.specs.Kept.{own_document, received_of}
use Rattle.yd_playing.specs.Answer.{PlaysAs}
use Rattle.yd_playing.specs.Desk.{Played, desk_of}
use Rattle.yd_causes.specs.declared.cause.LineCause.{LineCause}
use Rattle.yd_playing.proofs.PlaysLemmas.{text_is}
use Rattle.yd_playing.proofs.playing.play_line.Goals as goal

pub returns-clause-plays : goal.returns-clause-plays
returns-clause-plays c =
    let r = c.args.replica.now in
    let desk = desk_of r c.args.desk.now in
    subst (λ (ends : Result Played LineCause). PlaysAs ends c.args.line.now.number (received_of r) (desk_of c.play_asked.new.replica c.play_asked.new.desk) c.play_asked.result)
    (sym (text_is r.client desk c.args.line.now.text.now (own_document r) (line_of c.in_ok-asked.asked) c.in_ok-asked.ensures.line))
    c.play_asked.ensures.plays
