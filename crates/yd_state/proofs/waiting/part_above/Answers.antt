use Rattle.yd_ids.specs.Vector.{clock_of}
use Rattle.yd_state.proofs.AboveLemmas.{both_spans, both_above}
use Rattle.yd_state.proofs.waiting.part_above.Goals as goal

pub of_spans-requires : goal.of_spans-requires
of_spans-requires c = both_spans (clock_of c.args.vector.now) c.new-spans.result.items c.push_above.new.spans.items c.push_above-2.new.spans.items c.args.waiting.now c.args.more.now
    c.new-spans.ensures.items c.in_ok-push_above.ensures.pushed c.in_ok-push_above-2.ensures.pushed c.in_ok-push_above.ensures.maximal c.in_ok-push_above-2.ensures.maximal

pub returns : goal.returns
returns c x =
    let above = both_above (clock_of c.args.vector.now) c.new-spans.result.items c.push_above.new.spans.items c.push_above-2.new.spans.items c.args.waiting.now c.args.more.now
    c.new-spans.ensures.items c.in_ok-push_above.ensures.pushed c.in_ok-push_above-2.ensures.pushed x in (
      (λ h. above.0 ((c.in_ok-left.ensures.ids x).0 h)),
      (λ h. (c.in_ok-left.ensures.ids x).1 (above.1 h)),
    )
