use Rattle.std.proofs.Common.{sym, ap, ◌∙◌, ◌++◌, ◌-◌, true≢false}
use Rattle.yd_state.specs.Lent.{units_left, units_of_view}
use Rattle.yd_making.specs.Finding.{found_in}
use Rattle.yd_making.proofs.FindingLemmas.{not_in_piece, id_behind, fewer_left, found_from}
use Rattle.yd_making.proofs.finding.find.Goals as goal

pub returns-then-has_id : goal.returns-then-has_id
returns-then-has_id c =
    let inside = c.has_id.ensures.0 c.if-has_id.true in
    sym c.found_at.ensures ∙ ap (λ x. found_in x (units_of_view c.in-Some.piece ++ units_left c.next.new.self)) (id_behind c.in-Some.piece.id c.args.id inside.0 inside.1)
    ∙ ap (found_in c.args.id) (sym c.in-Some.ensures.lends) ∙ c.loop-piece.invariant ∙ found_from c.args.id _ _ c.list_from-view.ensures.front c.list_from-view.ensures.parts c.list_from-view.ensures.apart

pub loop-piece-smaller : goal.loop-piece-smaller
loop-piece-smaller c = fewer_left c.in-Some.piece (units_left c.loop-piece.view) (units_left c.next.new.self) c.in-Some.ensures.some c.in-Some.ensures.within c.in-Some.ensures.lends

pub loop-piece-preserved : goal.loop-piece-preserved
loop-piece-preserved c = sym (not_in_piece c.in-Some.piece c.in-Some.ensures.within c.args.id (units_left c.loop-piece.view) (units_left c.next.new.self) c.in-Some.ensures.lends
    (λ inside. true≢false (sym (c.has_id.ensures.1 inside) ∙ c.if-has_id.false))) ∙ c.loop-piece.invariant

pub returns : goal.returns
returns c = ap (found_in c.args.id) (sym c.in_default.ensures.lends) ∙ c.loop-piece.invariant ∙ found_from c.args.id _ _ c.list_from-view.ensures.front c.list_from-view.ensures.parts c.list_from-view.ensures.apart
