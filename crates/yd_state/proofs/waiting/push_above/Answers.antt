use Rattle.std.proofs.Common.{◌≡◌, ◌++◌, sym, ap, ◌∙◌, subst}
use Rattle.yd_words.specs.Each.{Each}
use Rattle.yd_ids.specs.Id.{IsSpan}
use Rattle.yd_ids.specs.Vector.{clock_of}
use Rattle.yd_ids.proofs.SetOfLemmas.{maximal_spans}
use Rattle.yd_state.specs.Above.{spans_above}
use Rattle.yd_state.proofs.AboveLemmas.{all_pushed}
use Rattle.yd_state.proofs.waiting.push_above.Goals as goal

pub loop-span-init : goal.loop-span-init
loop-span-init c = record {
  left = subst (Each IsSpan) (sym same) (maximal_spans c.args.set.now c.spans-span-items.ensures.maximal);
  told = ap (λ ss. c.args.spans.now.items ++ spans_above (clock_of c.args.vector.now) ss) same;
}
  where
    same : c.into_iter-span-iterator.result ≡ c.args.set.now
    same = c.into_iter-span-iterator.ensures.into_iter_gives ∙ c.spans-span-items.ensures.ascending

pub returns-clause-pushed : goal.returns-clause-pushed
returns-clause-pushed c = all_pushed (clock_of c.args.vector.now) c.loop-span.spans.items c.loop-span.span-iterator c.args.spans.now.items c.args.set.now c.in-None.ensures.steps.0
    c.loop-span.invariant.told
