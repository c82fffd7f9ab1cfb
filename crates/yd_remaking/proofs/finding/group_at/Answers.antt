use Rattle.std.proofs.Common.{◌-◌, length, sym, ap, ◌∙◌, subst, arith, true≢false}
use Rattle.yd_state.specs.Lent.{units_left}
use Rattle.yd_remaking.specs.Group.{group_from}
use Rattle.yd_remaking.specs.Parts.{contents_of}
use Rattle.yd_remaking.specs.Rows.{HoldValid, unit_before}
use Rattle.yd_remaking.proofs.FoundLemmas.{fewer, from_found, from_passed, none_there, valid_left, before_here, before_over}
use Rattle.yd_remaking.proofs.RowLemmas.{InRange}
use Rattle.yd_remaking.proofs.finding.group_at.Goals as goal

pub returns-then-not-can_make : goal.returns-then-not-can_make
returns-then-not-can_make c =
    let inside = c.has_id.ensures.0 c.if-has_id.true in
    ap (group_from c.args.most) (sym c.loop-piece.invariant.units
    ∙ from_found c.in-Some.piece (units_left c.loop-piece.view) (units_left c.next.new.self) c.args.id c.in-Some.ensures.within c.in-Some.ensures.lends inside)
    ∙ none_there c.in-Some.piece (units_left c.next.new.self) (c.args.id.clock - c.in-Some.piece.id.clock) c.args.most c.in-Some.ensures.within (omega (arith, inside.1, inside.2))
    (sym c.can_make.ensures ∙ c.if-not-can_make.true)

pub returns-then-has_id : goal.returns-then-has_id
returns-then-has_id c =
    let inside = c.has_id.ensures.0 c.if-has_id.true in
    let from = ap (group_from c.args.most) (sym (from_found c.in-Some.piece (units_left c.loop-piece.view) (units_left c.next.new.self) c.args.id c.in-Some.ensures.within c.in-Some.ensures.lends inside)
    ∙ c.loop-piece.invariant.units) in
    record {
      before = c.before_place-before.ensures.unit ∙ sym (before_here c.in-Some.piece (units_left c.loop-piece.view) (units_left c.next.new.self) c.args.id c.in-Some.ensures.within c.in-Some.ensures.lends inside
          c.loop-piece.before) ∙ c.loop-piece.invariant.before;
      in_range = c.before_place-before.ensures.in_range;
      units = c.in_ok-pieces.ensures.units ∙ ap contents_of from;
      len = c.in_ok-pieces.ensures.len ∙ ap length from;
      some = c.in_ok-pieces.ensures.some;
      pieces = c.in_ok-pieces.ensures.pieces;
    }

pub loop-piece-smaller : goal.loop-piece-smaller
loop-piece-smaller c = fewer c.in-Some.piece (units_left c.loop-piece.view) (units_left c.next.new.self) c.in-Some.ensures.some c.in-Some.ensures.within c.in-Some.ensures.lends

pub loop-piece-preserved : goal.loop-piece-preserved
loop-piece-preserved c =
    let outside : InRange c.in-Some.piece.id c.in-Some.piece.len c.args.id → ⊥ = λ i. true≢false (sym (c.has_id.ensures.1 i) ∙ c.if-has_id.false) in
    record {
      in_range = c.before_place-before-in-Some.ensures.in_range;
      before = ap (λ b. unit_before c.args.id b (units_left c.next.new.self)) c.before_place-before-in-Some.ensures.unit
          ∙ sym (before_over c.in-Some.piece (units_left c.loop-piece.view) (units_left c.next.new.self) c.args.id c.in-Some.ensures.within c.in-Some.ensures.lends outside c.loop-piece.before)
          ∙ c.loop-piece.invariant.before;
      units = sym (from_passed c.in-Some.piece (units_left c.loop-piece.view) (units_left c.next.new.self) c.args.id c.in-Some.ensures.within c.in-Some.ensures.lends outside) ∙ c.loop-piece.invariant.units;
      valid = valid_left c.in-Some.piece (units_left c.next.new.self) (subst HoldValid c.in-Some.ensures.lends c.loop-piece.invariant.valid);
    }
