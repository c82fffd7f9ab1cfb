use Rattle.std.proofs.Common.{◌≡◌, sym, ap₂, ◌∙◌, subst}
use Rattle.yd_words.specs.Each.{Each}
use Rattle.yd_ids.specs.Id.{IsSpan}
use Rattle.yd_ids.proofs.SetOfLemmas.{maximal_spans}
use Rattle.yd_merge.specs.Reaching.{all_started}
use Rattle.yd_skimming.proofs.reaching.started.Goals as goal

pub loop-span-init : goal.loop-span-init
loop-span-init c = record {
  spans = subst (Each IsSpan) (sym same) (maximal_spans c.args.ids.now c.requires);
  left = ap₂ all_started same c.new-vector.ensures;
}
  where
    same : c.into_iter-span-iterator.result ≡ c.args.ids.now
    same = c.into_iter-span-iterator.ensures.into_iter_gives ∙ c.spans-span-items.ensures.ascending
