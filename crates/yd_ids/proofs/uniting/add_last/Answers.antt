use Rattle.std.proofs.Common.{◌≡◌, ◌+◌, ◌-◌, ◌<◌, length, sym, subst, ◌∙◌, arith}
use Rattle.yd_ids.specs.Id.{IsSpan}
use Rattle.yd_ids.proofs.SetLemmas.{span_at}
use Rattle.yd_ids.proofs.UnitingLemmas.{joined_there, pushed_there, first_pushed}
use Rattle.yd_ids.proofs.uniting.add_last.Goals as goal
use Rattle.yd_ids.proofs.uniting.add_last.Goals.{else-len-gt0-via-then-len-gt0+else-not-ends_below, else-len-gt0-via-else-len-gt0}

pub join-joined-requires-clause-is_span : goal.join-joined-requires-clause-is_span
join-joined-requires-clause-is_span c =
    let inside : c.len-len.result - 1 < length c.args.spans.now.items = omega arith in
    subst IsSpan (sym c.get-then-not-ends_below.ensures) (span_at c.args.spans.now.items (c.len-len.result - 1) c.get-then-not-ends_below.result.now c.requires.maximal inside).0

pub returns-then-not-ends_below : goal.returns-then-not-ends_below
returns-then-not-ends_below c =
    let last : (c.len-len.result - 1) + 1 ≡ length c.args.spans.now.items = omega arith in
    c.set.ensures.done
    ∙ joined_there c.args.spans.now.items (c.len-len.result - 1) c.get.result.now c.get-then-not-ends_below.result.now c.args.span c.join-joined.result c.ends_below.result last c.get.ensures c.get-then-not-ends_below.ensures
    c.ends_below.ensures c.if-not-ends_below.true c.join-joined.ensures

pub returns : goal.returns
returns c =
    c.in_ok-push.ensures.done ∙ elim c.else-len-gt0.branch [
      | else-len-gt0-via-then-len-gt0+else-not-ends_below w ↦
          let more = w.if-len-gt0.true in
          let last : (c.len-len.result - 1) + 1 ≡ length c.args.spans.now.items = omega arith in
          pushed_there c.args.spans.now.items (c.len-len.result - 1) w.get.result.now c.args.span w.ends_below.result last w.get.ensures w.ends_below.ensures w.if-not-ends_below.false
      | else-len-gt0-via-else-len-gt0 w ↦ let none = w.if-len-gt0.false in first_pushed c.args.spans.now.items c.args.span (omega arith)
    ]
