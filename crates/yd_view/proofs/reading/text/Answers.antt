use Rattle.std.proofs.Common.{false, ap, sym, ◌∙◌}
use Rattle.yd_doc.specs.Kept.{received_of, own_document}
use Rattle.yd_state.specs.Lent.{units_left}
use Rattle.yd_view.specs.Halves.{text_of_seen, text_left, live_seen}
use Rattle.yd_view.proofs.ShownLemmas.{lent_shown}
use Rattle.yd_view.proofs.TextLemmas.{fewer_left, piece_taken}
use Rattle.yd_view.proofs.reading.text.Goals as goal

pub loop-piece-smaller : goal.loop-piece-smaller
loop-piece-smaller c = fewer_left c.in-Some.piece (units_left c.loop-piece.view) (units_left c.next.new.self) c.in-Some.ensures.some c.in-Some.ensures.within c.in-Some.ensures.lends

pub loop-piece-preserved : goal.loop-piece-preserved
loop-piece-preserved c = piece_taken c.loop-piece.halves c.take_piece.new.halves c.in-Some.piece (units_left c.loop-piece.view) (units_left c.next.new.self)
    (text_of_seen false (live_seen (units_left c.list-view.result))) c.in-Some.ensures.lends c.in_ok-take_piece.ensures c.loop-piece.invariant

pub returns : goal.returns
returns c = c.of_units.ensures ∙ c.in_ok-units.ensures
    ∙ ap (λ us. text_left c.loop-piece.halves (live_seen us)) (sym c.in_default.ensures.lends) ∙ c.loop-piece.invariant
    ∙ ap (λ us. text_of_seen false (live_seen us)) c.list-view.ensures.units
    ∙ lent_shown (received_of c.args.replica.now).operations (own_document c.args.replica.now) c.args.list.now c.list-view.ensures.whole c.list-view.ensures.received
