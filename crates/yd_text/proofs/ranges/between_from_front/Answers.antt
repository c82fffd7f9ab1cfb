use Rattle.std.proofs.Common.{◌⊎◌, ◌↔◌, List, take, drop, sym, ap, ◌∙◌, subst}
use Rattle.yd_words.specs.Member.{IsIn}
use Rattle.yd_ids.specs.Set.{HasId, AreMaximal}
use Rattle.yd_state.specs.Lent.{Lent, lent_units, units_left, units_of_view}
use Rattle.yd_doc.specs.Counted.{counted_ids}
use Rattle.yd_doc.specs.Kept.{own_document}
use Rattle.yd_doc.proofs.CountedLemmas.{fewer_left, counted-append}
use Rattle.yd_text.proofs.RangeLemmas.{range_is, nothing_left, nothing_wanted, more_taken, nothing_taken}
use Rattle.yd_text.proofs.ranges.between_from_front.Goals as goal

pub loop-piece-init : goal.loop-piece-init
loop-piece-init c = record {
  maximal = subst AreMaximal (sym c.new-ids.ensures) tt;
  ids = λ x. nothing_taken c.new-ids.result c.new-ids.ensures _ x;
}

pub loop-piece-smaller : goal.loop-piece-smaller
loop-piece-smaller c = fewer_left c.in-Some.piece (units_left c.loop-piece.view) (units_left c.next.new.self) c.in-Some.ensures.some c.in-Some.ensures.within c.in-Some.ensures.lends

pub loop-piece-preserved : goal.loop-piece-preserved
loop-piece-preserved c = record {
  maximal = c.in_ok-want.ensures.maximal;
  ids = λ x. more_taken c.loop-piece.ids c.take_piece.new.ids (counted_ids (units_of_view c.in-Some.piece)) (counted_ids (units_left c.loop-piece.view))
      (counted_ids (units_left c.next.new.self)) c.loop-piece.want.skip c.loop-piece.want.len _ _
      (ap counted_ids c.in-Some.ensures.lends ∙ counted-append (units_of_view c.in-Some.piece) (units_left c.next.new.self))
      c.in_ok-want.ensures.taken x (IsIn x (take c.args.len (drop c.args.index (counted_ids (units_left c.list-view.result))))) (c.loop-piece.invariant.ids x);
}

pub returns : goal.returns
returns c = range_is c.loop-piece.ids (own_document c.args.replica.now) c.args.list.now c.args.index c.args.len c.loop-piece.invariant.maximal
    (λ x. nothing_left c.loop-piece.ids (units_left c.loop-piece.view) c.in_default.ensures.lends c.loop-piece.want.skip c.loop-piece.want.len x (IsIn x (take c.args.len (drop c.args.index (counted_ids (lent_units (own_document c.args.replica.now) c.args.list.now)))))
    (subst (λ (us : List Lent). (HasId c.loop-piece.ids x ⊎ IsIn x (take c.loop-piece.want.len (drop c.loop-piece.want.skip (counted_ids (units_left c.loop-piece.view)))))
    ↔ IsIn x (take c.args.len (drop c.args.index (counted_ids us)))) c.list-view.ensures.units (c.loop-piece.invariant.ids x)))

pub returns-then-want-eq0 : goal.returns-then-want-eq0
returns-then-want-eq0 c = range_is c.loop-piece.ids (own_document c.args.replica.now) c.args.list.now c.args.index c.args.len c.loop-piece.invariant.maximal
    (λ x. nothing_wanted c.loop-piece.ids (counted_ids (units_left c.loop-piece.view)) c.loop-piece.want.skip c.loop-piece.want.len c.if-want-eq0.true x
    (IsIn x (take c.args.len (drop c.args.index (counted_ids (lent_units (own_document c.args.replica.now) c.args.list.now)))))
    (subst (λ (us : List Lent). (HasId c.loop-piece.ids x ⊎ IsIn x (take c.loop-piece.want.len (drop c.loop-piece.want.skip (counted_ids (units_left c.loop-piece.view)))))
    ↔ IsIn x (take c.args.len (drop c.args.index (counted_ids us)))) c.list-view.ensures.units (c.loop-piece.invariant.ids x)))
