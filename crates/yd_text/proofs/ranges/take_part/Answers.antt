use Rattle.std.proofs.Common.{◌-◌, ◌∙◌, inl, inr, ap, subst, arith}
use Rattle.yd_ids.specs.Set.{AddsSpan}
use Rattle.yd_ops.specs.Operation.{later_id}
use Rattle.yd_state.specs.Lent.{units_of_view}
use Rattle.yd_doc.specs.Counted.{counted_ids}
use Rattle.yd_text.proofs.RangeLemmas.{row_span, no_part, some_part}
use Rattle.yd_text.proofs.ranges.take_part.Goals as goal

pub returns-then-part-eq0-clause-taken : goal.returns-then-part-eq0-clause-taken
returns-then-part-eq0-clause-taken c = no_part c.args.ids.now (counted_ids (units_of_view c.args.piece.now)) c.args.piece.now.id c.counted_len-count.result
    c.args.before c.args.range.index c.args.range.len c.least-part.result c.counted_len-count.ensures.ids
    (omega (arith, c.least-part.ensures.first, c.less-rest.ensures, c.less-skip.ensures))
    (omega (arith, c.least-part.ensures.second, c.less-want.ensures, c.less-passed.ensures))
    (elim c.least-part.ensures.one [
      | inl e ↦ inl (e ∙ c.less-rest.ensures ∙ ap (λ k. c.counted_len-count.result - k) c.less-skip.ensures)
      | inr e ↦ inr (e ∙ c.less-want.ensures ∙ ap (λ k. c.args.range.len - k) c.less-passed.ensures)
    ])
    c.if-part-eq0.true

pub returns-clause-taken : goal.returns-clause-taken
returns-clause-taken c = some_part c.args.ids.now (counted_ids (units_of_view c.args.piece.now)) c.args.piece.now.id c.counted_len-count.result
    c.args.before c.args.range.index c.args.range.len c.least-part.result c.counted_len-count.ensures.ids
    (omega (arith, c.least-part.ensures.first, c.less-rest.ensures, c.less-skip.ensures))
    (omega (arith, c.least-part.ensures.second, c.less-want.ensures, c.less-passed.ensures))
    (elim c.least-part.ensures.one [
      | inl e ↦ inl (e ∙ c.less-rest.ensures ∙ ap (λ k. c.counted_len-count.result - k) c.less-skip.ensures)
      | inr e ↦ inr (e ∙ c.less-want.ensures ∙ ap (λ k. c.args.range.len - k) c.less-passed.ensures)
    ])
    c.insert.new.self
    (subst (λ k. AddsSpan c.args.ids.now c.insert.new.self (row_span (later_id c.args.piece.now.id k) c.least-part.result)) c.less-skip.ensures c.in_ok-insert.ensures.added)
