use Rattle.std.proofs.Common.{◌≡◌, ◌+◌, ◌-◌, length, ap, subst, sym, ◌∙◌, arith, true≢false}
use Rattle.yd_state.specs.Lent.{units_left, units_of_view}
use Rattle.yd_doc.specs.Counted.{counted_ids, ids_from}
use Rattle.yd_doc.specs.Kept.{own_document}
use Rattle.yd_doc.proofs.CountedLemmas.{fewer_left, length-counted}
use Rattle.yd_places.specs.Lent.{front_of, lent_to}
use Rattle.yd_places.proofs.CountLemmas.{count_is, count_within, in_piece, past_piece}
use Rattle.yd_places.proofs.counting.count_to.Goals as goal

pub overflow_add-result : goal.overflow_add-result
overflow_add-result c = omega (
  arith,
  c.loop-piece.invariant,
  in_piece c.in-Some.piece c.in-Some.ensures.within c.args.with_it c.args.id (units_left c.loop-piece.view) (units_left c.next.new.self) c.front_len.result c.in-Some.ensures.lends
      (c.has_id.ensures.0 c.if-has_id.true) (subst (λ n. counted_ids (units_of_view (front_of c.in-Some.piece ((c.args.id.clock - c.in-Some.piece.id.clock) + n))) ≡ ids_from c.in-Some.piece.id c.front_len.result)
      c.one_if.ensures c.front_len.ensures.ids),
  count_within c.args.with_it c.args.id (units_left c.list-view.result),
  ap (λ us. length (counted_ids us)) c.list-view.ensures.units,
  length-counted (own_document c.args.replica.now) c.args.list.now,
  c.length-units.ensures,
)

pub returns-then-has_id : goal.returns-then-has_id
returns-then-has_id c = omega (
  arith,
  c.loop-piece.invariant,
  in_piece c.in-Some.piece c.in-Some.ensures.within c.args.with_it c.args.id (units_left c.loop-piece.view) (units_left c.next.new.self) c.front_len.result c.in-Some.ensures.lends
      (c.has_id.ensures.0 c.if-has_id.true) (subst (λ n. counted_ids (units_of_view (front_of c.in-Some.piece ((c.args.id.clock - c.in-Some.piece.id.clock) + n))) ≡ ids_from c.in-Some.piece.id c.front_len.result)
      c.one_if.ensures c.front_len.ensures.ids),
  ap (λ us. length (counted_ids (lent_to c.args.with_it c.args.id us))) c.list-view.ensures.units,
  count_is (own_document c.args.replica.now) c.args.list.now c.args.with_it c.args.id,
)

pub overflow_add-count : goal.overflow_add-count
overflow_add-count c = omega (
  arith,
  c.loop-piece.invariant,
  past_piece c.in-Some.piece c.in-Some.ensures.within c.args.with_it c.args.id (units_left c.loop-piece.view) (units_left c.next.new.self) c.counted_len-count.result c.in-Some.ensures.lends
      c.counted_len-count.ensures.ids (λ inside. true≢false (sym (c.has_id.ensures.1 inside) ∙ c.if-has_id.false)),
  count_within c.args.with_it c.args.id (units_left c.list-view.result),
  ap (λ us. length (counted_ids us)) c.list-view.ensures.units,
  length-counted (own_document c.args.replica.now) c.args.list.now,
  c.length-units.ensures,
)

pub loop-piece-smaller : goal.loop-piece-smaller
loop-piece-smaller c = fewer_left c.in-Some.piece (units_left c.loop-piece.view) (units_left c.next.new.self) c.in-Some.ensures.some c.in-Some.ensures.within c.in-Some.ensures.lends

pub loop-piece-preserved : goal.loop-piece-preserved
loop-piece-preserved c = omega (
  arith,
  c.loop-piece.invariant,
  past_piece c.in-Some.piece c.in-Some.ensures.within c.args.with_it c.args.id (units_left c.loop-piece.view) (units_left c.next.new.self) c.counted_len-count.result c.in-Some.ensures.lends
      c.counted_len-count.ensures.ids (λ inside. true≢false (sym (c.has_id.ensures.1 inside) ∙ c.if-has_id.false)),
)

pub returns : goal.returns
returns c = omega (
  arith,
  c.loop-piece.invariant,
  ap (λ us. length (counted_ids (lent_to c.args.with_it c.args.id us))) c.in_default.ensures.lends,
  ap (λ us. length (counted_ids (lent_to c.args.with_it c.args.id us))) c.list-view.ensures.units,
  count_is (own_document c.args.replica.now) c.args.list.now c.args.with_it c.args.id,
)
