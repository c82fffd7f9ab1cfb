use Rattle.std.proofs.Common.{sym, ap, ◌∙◌, ◌-◌, arith}
use Rattle.std.specs.Prelude.{slice_get}
use Rattle.yd_doc.specs.Counted.{counted_ids}
use Rattle.yd_doc.specs.Kept.{own_document}
use Rattle.yd_state.specs.Lent.{units_left, units_of_view}
use Rattle.yd_doc.proofs.CountedLemmas.{at_in_piece, at_behind_piece, fewer_left, counted_at}
use Rattle.yd_doc.proofs.replica.Replica.unit_from_front.Goals as goal

pub loop-piece-smaller : goal.loop-piece-smaller
loop-piece-smaller c = fewer_left c.in-Some.piece (units_left c.loop-piece.view) (units_left c.next.new.self) c.in-Some.ensures.some c.in-Some.ensures.within c.in-Some.ensures.lends

pub returns-then-left-len-clause-unit : goal.returns-then-left-len-clause-unit
returns-then-left-len-clause-unit c =
    sym (at_in_piece (units_left c.loop-piece.view) (units_left c.next.new.self) (units_of_view c.in-Some.piece) c.in-Some.piece.id c.counted_len-len.result c.loop-piece.left
    c.in-Some.ensures.lends c.counted_len-len.ensures.ids c.if-left-len.true)
    ∙ c.loop-piece.invariant ∙ ap (λ us. slice_get (counted_ids us) c.args.index) c.list-view.ensures.units
    ∙ counted_at (own_document c.args.self.now) c.args.list.now c.args.index

pub loop-piece-preserved : goal.loop-piece-preserved
loop-piece-preserved c =
    sym (at_behind_piece (units_left c.loop-piece.view) (units_left c.next.new.self) (units_of_view c.in-Some.piece) c.in-Some.piece.id c.counted_len-len.result c.loop-piece.left
    (c.loop-piece.left - c.counted_len-len.result) c.in-Some.ensures.lends c.counted_len-len.ensures.ids c.if-left-len.false (omega (arith, c.if-left-len.false)))
    ∙ c.loop-piece.invariant

pub returns-clause-unit : goal.returns-clause-unit
returns-clause-unit c = ap (λ us. slice_get (counted_ids us) c.loop-piece.left) (sym c.in_default.ensures.lends) ∙ c.loop-piece.invariant
    ∙ ap (λ us. slice_get (counted_ids us) c.args.index) c.list-view.ensures.units
    ∙ counted_at (own_document c.args.self.now) c.args.list.now c.args.index
