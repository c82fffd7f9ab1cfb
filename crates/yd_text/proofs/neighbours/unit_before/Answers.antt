use Rattle.std.proofs.Common.{None, sym, ap, ◌∙◌}
use Rattle.yd_state.specs.Lent.{units_left}
use Rattle.yd_doc.specs.Kept.{own_document}
use Rattle.yd_doc.proofs.CountedLemmas.{fewer_left}
use Rattle.yd_text.specs.Rows.{unit_before}
use Rattle.yd_text.proofs.RowLemmas.{before_lent, piece_passed, piece_found}
use Rattle.yd_text.proofs.neighbours.unit_before.Goals as goal

pub loop-piece-smaller : goal.loop-piece-smaller
loop-piece-smaller c = fewer_left c.in-Some.piece (units_left c.loop-piece.view) (units_left c.next.new.self) c.in-Some.ensures.some c.in-Some.ensures.within c.in-Some.ensures.lends

pub loop-piece-preserved : goal.loop-piece-preserved
loop-piece-preserved c = record {
  in_range = c.before_place-before.ensures.in_range;
  unit = ap (λ b. unit_before c.args.id b (units_left c.next.new.self)) c.before_place-before.ensures.unit
      ∙ sym (piece_passed c.in-Some.piece c.in-Some.ensures.within c.args.id c.has_id.result c.has_id.ensures c.if-has_id.false (units_left c.loop-piece.view) (units_left c.next.new.self)
      c.in-Some.ensures.lends c.loop-piece.before) ∙ c.loop-piece.invariant.unit;
}

pub returns-then-has_id-clause-unit : goal.returns-then-has_id-clause-unit
returns-then-has_id-clause-unit c = c.before_place.ensures.unit
    ∙ sym (piece_found c.in-Some.piece c.in-Some.ensures.within c.args.id (c.has_id.ensures.0 c.if-has_id.true) (units_left c.loop-piece.view) (units_left c.next.new.self)
    c.in-Some.ensures.lends c.loop-piece.before) ∙ c.loop-piece.invariant.unit ∙ ap (unit_before c.args.id None) c.list-view.ensures.units
    ∙ before_lent (own_document c.args.replica.now).deleted c.args.id None ((own_document c.args.replica.now).units c.args.list.now)

pub returns-clause-unit : goal.returns-clause-unit
returns-clause-unit c = ap (unit_before c.args.id c.loop-piece.before) (sym c.in_default.ensures.lends) ∙ c.loop-piece.invariant.unit
    ∙ ap (unit_before c.args.id None) c.list-view.ensures.units
    ∙ before_lent (own_document c.args.replica.now).deleted c.args.id None ((own_document c.args.replica.now).units c.args.list.now)
