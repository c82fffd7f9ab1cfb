use Rattle.std.proofs.Common.{ap, subst, sym, ◌∙◌}
use Rattle.yd_words.specs.Each.{Each}
use Rattle.yd_ids.specs.Id.{IsSpan}
use Rattle.yd_ids.specs.Set.{union_of}
use Rattle.yd_ids.proofs.SetOfLemmas.{maximal_spans}
use Rattle.yd_ids.proofs.UnionLemmas.{union_commutes}
use Rattle.yd_state.proofs.twin.insert_each.Goals as goal

pub loop-span-init : goal.loop-span-init
loop-span-init c =
    let same = c.into_iter-span-iterator.ensures.into_iter_gives ∙ c.spans-span-items.ensures.ascending in
    record {
      all = ap (λ spans. union_of spans c.args.set.now) same;
      spans = subst (Each IsSpan) (sym same) (maximal_spans c.args.more.now c.spans-span-items.ensures.maximal);
    }

pub returns : goal.returns
returns c = sym (ap (λ spans. union_of spans c.loop-span.set) c.in-None.ensures.steps.0) ∙ c.loop-span.invariant.all
    ∙ union_commutes c.args.more.now c.args.set.now c.spans-span-items.ensures.maximal c.spans.ensures.maximal
