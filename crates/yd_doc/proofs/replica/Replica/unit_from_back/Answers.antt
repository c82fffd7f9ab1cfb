use Rattle.std.proofs.Common.{◌≡◌, ◌+◌, ◌-◌, ◌∙◌, length, sym, ap, arith}
use Rattle.std.specs.Prelude.{slice_get}
use Rattle.yd_doc.specs.Counted.{counted_ids}
use Rattle.yd_doc.specs.Kept.{own_document}
use Rattle.yd_state.specs.Lent.{units_left, units_of_view}
use Rattle.yd_doc.proofs.CountedLemmas.{at_in_end, at_before_end, fewer_before, counted_at, length-counted}
use Rattle.yd_doc.proofs.replica.Replica.unit_from_back.Goals as goal

pub loop-piece-smaller : goal.loop-piece-smaller
loop-piece-smaller c = fewer_before c.in-Some.piece (units_left c.loop-piece.view) (units_left c.next_back.new.self) c.in-Some.ensures.some c.in-Some.ensures.within
    c.in-Some.ensures.lends

pub returns-then-left-len-clause-unit : goal.returns-then-left-len-clause-unit
returns-then-left-len-clause-unit c = λ index e.
    let start = e ∙ sym (ap (λ us. length (counted_ids us)) c.list-view.ensures.units ∙ length-counted (own_document c.args.self.now) c.args.list.now) in
    let now = c.loop-piece.invariant index start in
    sym (at_in_end (units_left c.loop-piece.view) (units_left c.next_back.new.self) (units_of_view c.in-Some.piece) c.in-Some.piece.id c.counted_len-len.result
    c.in-Some.ensures.lends c.counted_len-len.ensures.ids index c.loop-piece.left (c.counted_len-len.result - c.loop-piece.left - 1) now.1 c.if-left-len.true
    (omega (arith, c.if-left-len.true)))
    ∙ now.0 ∙ ap (λ us. slice_get (counted_ids us) index) c.list-view.ensures.units ∙ counted_at (own_document c.args.self.now) c.args.list.now index

pub loop-piece-preserved : goal.loop-piece-preserved
loop-piece-preserved c = λ index e.
    let now = c.loop-piece.invariant index e in
    let more = at_before_end (units_left c.loop-piece.view) (units_left c.next_back.new.self) (units_of_view c.in-Some.piece) c.in-Some.piece.id c.counted_len-len.result
    c.in-Some.ensures.lends c.counted_len-len.ensures.ids index c.loop-piece.left (c.loop-piece.left - c.counted_len-len.result) now.1
    (omega (arith, c.if-left-len.false)) in
    (sym more.0 ∙ now.0, more.1)

pub returns-clause-unit : goal.returns-clause-unit
returns-clause-unit c = λ index e.
    let start = e ∙ sym (ap (λ us. length (counted_ids us)) c.list-view.ensures.units ∙ length-counted (own_document c.args.self.now) c.args.list.now) in
    let now = c.loop-piece.invariant index start in
    absurd (omega (arith, now.1, ap (λ us. length (counted_ids us)) c.in_default.ensures.lends))
