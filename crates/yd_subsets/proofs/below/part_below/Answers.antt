use Rattle.std.proofs.Common.{◌≡◌, ◌++◌, sym, ap, ◌∙◌, subst}
use Rattle.yd_words.specs.Each.{Each}
use Rattle.yd_ids.specs.Id.{IsSpan}
use Rattle.yd_ids.specs.Set.{HasId}
use Rattle.yd_ids.specs.Vector.{clock_of}
use Rattle.yd_ids.proofs.SetOfLemmas.{maximal_spans}
use Rattle.yd_subsets.specs.Below.{spans_below}
use Rattle.yd_subsets.proofs.BelowLemmas.{all_below, are_below, all_pushed}
use Rattle.yd_subsets.proofs.below.part_below.Goals as goal

pub loop-span-init : goal.loop-span-init
loop-span-init c = record {
  left = subst (Each IsSpan) (sym same) (maximal_spans c.args.set.now c.spans-span-items.ensures.maximal);
  told = ap (λ ss. ss ++ spans_below (clock_of c.args.vector.now) c.into_iter-span-iterator.result) c.new-below.ensures.items ∙ ap (spans_below (clock_of c.args.vector.now)) same;
}
  where
    same : c.into_iter-span-iterator.result ≡ c.args.set.now
    same = c.into_iter-span-iterator.ensures.into_iter_gives ∙ c.spans-span-items.ensures.ascending

pub of_spans-requires : goal.of_spans-requires
of_spans-requires c = subst (Each IsSpan) (sym (all_pushed (clock_of c.args.vector.now) c.loop-span.below.items c.loop-span.span-iterator c.args.set.now c.in-None.ensures.steps.0 c.loop-span.invariant.told))
    (are_below (clock_of c.args.vector.now) c.args.set.now (maximal_spans c.args.set.now c.spans-span-items.ensures.maximal))

pub returns-clause-ids : goal.returns-clause-ids
returns-clause-ids c x =
    let told = all_pushed (clock_of c.args.vector.now) c.loop-span.below.items c.loop-span.span-iterator c.args.set.now c.in-None.ensures.steps.0 c.loop-span.invariant.told in
    let ids = all_below (clock_of c.args.vector.now) c.args.set.now x in (
      (λ h. ids.0 (subst (λ ss. HasId ss x) told ((c.in_ok-part.ensures.ids x).0 h))),
      (λ h. (c.in_ok-part.ensures.ids x).1 (subst (λ ss. HasId ss x) (sym told) (ids.1 h))),
    )
