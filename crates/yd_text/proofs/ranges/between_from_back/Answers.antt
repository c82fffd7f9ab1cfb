use Rattle.std.proofs.Common.{◌≡◌, ◌+◌, ◌-◌, ◌⊎◌, ◌↔◌, List, length, take, drop, sym, ap, ◌∙◌, subst, arith}
use Rattle.yd_words.specs.Member.{IsIn}
use Rattle.yd_ids.specs.Set.{HasId, AreMaximal}
use Rattle.yd_state.specs.Lent.{Lent, lent_units, units_left, units_of_view}
use Rattle.yd_doc.specs.Counted.{counted_ids}
use Rattle.yd_doc.specs.Kept.{own_document}
use Rattle.yd_doc.proofs.CountedLemmas.{fewer_before, counted-append, end_length, length-counted}
use Rattle.yd_text.proofs.RangeLemmas.{range_is, nothing_left, nothing_before, part_taken, nothing_taken}
use Rattle.yd_text.proofs.ranges.between_from_back.Goals as goal

pub loop-piece-init : goal.loop-piece-init
loop-piece-init c = record {
  maximal = subst AreMaximal (sym c.new-ids.ensures) tt;
  end_is = c.requires ∙ sym (ap (λ us. length (counted_ids us)) c.list-view.ensures.units ∙ length-counted (own_document c.args.replica.now) c.args.list.now);
  ids = λ x. nothing_taken c.new-ids.result c.new-ids.ensures _ x;
}

pub loop-piece-smaller : goal.loop-piece-smaller
loop-piece-smaller c = fewer_before c.in-Some.piece (units_left c.loop-piece.view) (units_left c.next_back.new.self) c.in-Some.ensures.some c.in-Some.ensures.within
    c.in-Some.ensures.lends

pub returns-then-end-range : goal.returns-then-end-range
returns-then-end-range c = range_is c.loop-piece.ids (own_document c.args.replica.now) c.args.list.now c.args.range.index c.args.range.len c.loop-piece.invariant.maximal
    (λ x. nothing_before c.loop-piece.ids (counted_ids (units_left c.loop-piece.view)) c.args.range.index c.args.range.len
    (omega (arith, c.if-end-range.true, c.loop-piece.invariant.end_is)) x
    (IsIn x (take c.args.range.len (drop c.args.range.index (counted_ids (lent_units (own_document c.args.replica.now) c.args.list.now)))))
    (subst (λ (us : List Lent). (HasId c.loop-piece.ids x ⊎ IsIn x (take c.args.range.len (drop c.args.range.index (counted_ids (units_left c.loop-piece.view)))))
    ↔ IsIn x (take c.args.range.len (drop c.args.range.index (counted_ids us)))) c.list-view.ensures.units (c.loop-piece.invariant.ids x)))

pub overflow_sub-end : goal.overflow_sub-end
overflow_sub-end c =
    let long : length (counted_ids (units_left c.loop-piece.view)) ≡ length (counted_ids (units_left c.next_back.new.self)) + c.counted_len-end.result =
    end_length (units_left c.loop-piece.view) (units_left c.next_back.new.self) (units_of_view c.in-Some.piece) c.in-Some.piece.id c.counted_len-end.result
    c.in-Some.ensures.lends c.counted_len-end.ensures.ids in
    omega (arith, long, c.loop-piece.invariant.end_is)

pub loop-piece-preserved : goal.loop-piece-preserved
loop-piece-preserved c =
    let long : length (counted_ids (units_left c.loop-piece.view)) ≡ length (counted_ids (units_left c.next_back.new.self)) + c.counted_len-end.result =
    end_length (units_left c.loop-piece.view) (units_left c.next_back.new.self) (units_of_view c.in-Some.piece) c.in-Some.piece.id c.counted_len-end.result
    c.in-Some.ensures.lends c.counted_len-end.ensures.ids in
    let left : c.loop-piece.end - c.counted_len-end.result ≡ length (counted_ids (units_left c.next_back.new.self)) =
    omega (arith, long, c.loop-piece.invariant.end_is) in record {
      maximal = c.take_part.ensures.maximal;
      end_is = left;
      ids = λ x. part_taken c.loop-piece.ids c.take_part.new.ids (counted_ids (units_left c.next_back.new.self)) (counted_ids (units_of_view c.in-Some.piece))
          (counted_ids (units_left c.loop-piece.view)) _ c.args.range.index c.args.range.len
          (ap counted_ids c.in-Some.ensures.lends ∙ counted-append (units_left c.next_back.new.self) (units_of_view c.in-Some.piece))
          left c.in_ok-take_part.ensures.taken x (IsIn x (take c.args.range.len (drop c.args.range.index (counted_ids (units_left c.list-view.result))))) (c.loop-piece.invariant.ids x);
    }

pub returns : goal.returns
returns c = range_is c.loop-piece.ids (own_document c.args.replica.now) c.args.list.now c.args.range.index c.args.range.len c.loop-piece.invariant.maximal
    (λ x. nothing_left c.loop-piece.ids (units_left c.loop-piece.view) c.in_default.ensures.lends c.args.range.index c.args.range.len x
    (IsIn x (take c.args.range.len (drop c.args.range.index (counted_ids (lent_units (own_document c.args.replica.now) c.args.list.now)))))
    (subst (λ (us : List Lent). (HasId c.loop-piece.ids x ⊎ IsIn x (take c.args.range.len (drop c.args.range.index (counted_ids (units_left c.loop-piece.view)))))
    ↔ IsIn x (take c.args.range.len (drop c.args.range.index (counted_ids us)))) c.list-view.ensures.units (c.loop-piece.invariant.ids x)))
