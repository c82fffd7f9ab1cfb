use Rattle.std.proofs.Common.{None, Some, subst, true≢false, sym}
use Rattle.yd_pieces.specs.Pieces.{IsLastPassed}
use Rattle.yd_ids.specs.Span.{reaches_into}
use Rattle.yd_ids.proofs.BegunLemmas.{has_begun, has_not_begun}
use Rattle.yd_ids.proofs.looking.has_in.Goals as goal

pub returns-in-Some : goal.returns-in-Some
returns-in-Some c =
    let last = subst (λ s. IsLastPassed (reaches_into s) c.args.spans.now.items (Some c.in-Some.span.now)) c.begun_by.ensures c.in-Some.ensures in
    let here = has_begun c.args.spans.now.items c.args.id c.requires.maximal c.in-Some.span.now last in
    ((λ t. here.1 (c.is_in.ensures.0 t)), (λ h. c.is_in.ensures.1 (here.0 h)))

pub returns-in-None : goal.returns-in-None
returns-in-None c =
    let last = subst (λ s. IsLastPassed (reaches_into s) c.args.spans.now.items None) c.begun_by.ensures c.in-None.ensures in
    ((λ t. absurd (true≢false (sym t))), (λ h. absurd (has_not_begun c.args.spans.now.items c.args.id c.requires.maximal last h)))
