use Rattle.std.proofs.Common.{◌<◌, None, Some, subst, sym, ◌∙◌, arith, true≢false}
use Rattle.yd_pieces.specs.Pieces.{IsLastPassed}
use Rattle.yd_ids.specs.Span.{reaches_into}
use Rattle.yd_ids.proofs.BegunLemmas.{begun_span}
use Rattle.yd_ids.proofs.CoveringLemmas.{first_of, covered_has, has_covered, has_span_there}
use Rattle.yd_ids.proofs.looking.has_span.Goals as goal

pub covers-requires-clause-is_span : goal.covers-requires-clause-is_span
covers-requires-clause-is_span c =
    let last = subst (λ s. IsLastPassed (reaches_into s) c.args.spans.now.items (Some c.in-Some.found.now)) c.begun_by.ensures c.in-Some.ensures in
    begun_span c.args.spans.now.items (first_of c.args.span) c.requires.maximal c.in-Some.found.now last

pub returns-in-Some : goal.returns-in-Some
returns-in-Some c =
    let xs = c.args.spans.now.items in
    let found = c.in-Some.found.now in
    let some : 0 < c.args.span.len = omega (arith, c.if-span-eq0.false) in
    let last = subst (λ s. IsLastPassed (reaches_into s) xs (Some found)) c.begun_by.ensures c.in-Some.ensures in (
      (λ t. covered_has xs c.args.span c.requires.maximal some found last (sym c.covers.ensures ∙ t)),
      (λ all. c.covers.ensures ∙ has_covered xs c.args.span c.requires.maximal some found last all),
    )

pub returns-in-None : goal.returns-in-None
returns-in-None c =
    let some : 0 < c.args.span.len = omega (arith, c.if-span-eq0.false) in
    let last = subst (λ s. IsLastPassed (reaches_into s) c.args.spans.now.items None) c.begun_by.ensures c.in-None.ensures in (
      (λ t. absurd (true≢false (sym t))),
      (λ all. absurd (has_span_there c.args.spans.now.items c.args.span c.requires.maximal some last all)),
    )
