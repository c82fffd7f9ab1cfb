use Rattle.std.proofs.Common.{◌-◌, refl, sym, subst, ap, ◌∙◌, arith}
use Rattle.std.proofs.lemmas.List.{drop_all}
use Rattle.yd_words.specs.Each.{Each}
use Rattle.yd_ids.specs.Id.{IsSpan}
use Rattle.yd_ids.specs.Inserting.{JoinsUpTo}
use Rattle.yd_ids.specs.Span.{joined, EndsBefore}
use Rattle.yd_ids.proofs.InsertingLemmas.{place_before, joins_none, joins_between}
use Rattle.yd_ids.proofs.SetLemmas.{span_at}
use Rattle.yd_ids.proofs.SpanLemmas.{joined_span}
use Rattle.yd_ids.proofs.inserting.joined_from.Goals as goal

pub returns-then-from-len : goal.returns-then-from-len
returns-then-from-len c = joins_none c.args.spans.now.items c.args.from c.args.from c.args.span c.requires.is_span c.requires.bound c.requires.place refl
    (subst (λ zs. Each (EndsBefore c.args.span) zs) (sym (drop_all c.args.from c.args.spans.now.items (omega (arith, c.if-from-len.true)))) tt)

pub returns-then-from-to : goal.returns-then-from-to
returns-then-from-to c = joins_none c.args.spans.now.items c.args.from c.reached-to.result c.args.span c.requires.is_span c.requires.bound c.requires.place c.if-from-to.true c.reached-to.ensures.behind

pub get-requires : goal.get-requires
get-requires c =
    let le = place_before c.args.spans.now.items c.args.from c.reached-to.result c.args.span c.requires.place c.reached-to.ensures.bound c.reached-to.ensures.behind c.requires.bound in
    omega (arith, le, c.reached-to.ensures.bound, c.if-from-to.false)

pub join-requires-clause-is_next : goal.join-requires-clause-is_next
join-requires-clause-is_next c =
    let le = place_before c.args.spans.now.items c.args.from c.reached-to.result c.args.span c.requires.place c.reached-to.ensures.bound c.reached-to.ensures.behind c.requires.bound in
    subst IsSpan (sym c.get.ensures) (span_at c.args.spans.now.items c.args.from c.get.result.now c.requires.maximal (omega (arith, le, c.reached-to.ensures.bound, c.if-from-to.false))).0

pub join-joined-requires-clause-is_span : goal.join-joined-requires-clause-is_span
join-joined-requires-clause-is_span c =
    let le = place_before c.args.spans.now.items c.args.from c.reached-to.result c.args.span c.requires.place c.reached-to.ensures.bound c.reached-to.ensures.behind c.requires.bound in
    let first = subst IsSpan (sym c.get.ensures) (span_at c.args.spans.now.items c.args.from c.get.result.now c.requires.maximal (omega (arith, le, c.reached-to.ensures.bound, c.if-from-to.false))).0 in
    subst IsSpan (sym c.join.ensures) (joined_span c.args.span c.get.result.now c.requires.is_span.0 first)

pub join-joined-requires-clause-is_next : goal.join-joined-requires-clause-is_next
join-joined-requires-clause-is_next c =
    let le = place_before c.args.spans.now.items c.args.from c.reached-to.result c.args.span c.requires.place c.reached-to.ensures.bound c.reached-to.ensures.behind c.requires.bound in
    subst IsSpan (sym c.get-2.ensures) (span_at c.args.spans.now.items (c.reached-to.result - 1) c.get-2.result.now c.requires.maximal (omega (arith, le, c.reached-to.ensures.bound, c.if-from-to.false))).0

pub returns : goal.returns
returns c =
    let le = place_before c.args.spans.now.items c.args.from c.reached-to.result c.args.span c.requires.place c.reached-to.ensures.bound c.reached-to.ensures.behind c.requires.bound in
    subst (JoinsUpTo c.args.spans.now.items c.args.from c.args.span c.reached-to.result) (sym (c.join-joined.ensures ∙ ap (λ s. joined s c.get-2.result.now) c.join.ensures))
    (joins_between c.args.spans.now.items c.args.from c.args.span c.get.result.now c.requires.maximal c.requires.is_span c.requires.place c.get.ensures c.reached-to.result c.get-2.result.now (omega (arith, le, c.if-from-to.false))
    c.reached-to.ensures.bound c.get-2.ensures c.reached-to.ensures.before c.reached-to.ensures.behind)
