use Rattle.std.proofs.Common.{◌≡◌, ◌++◌, sym, ap, ◌∙◌, subst}
use Rattle.yd_words.specs.Each.{Each}
use Rattle.yd_ids.specs.Id.{IsSpan}
use Rattle.yd_ids.proofs.SetOfLemmas.{maximal_spans}
use Rattle.yd_making.specs.Steps.{steps_value}
use Rattle.yd_undo.specs.Remade.{seen_of, steps_of_keys}
use Rattle.yd_undo.proofs.keys.add_keys.Goals as goal

pub loop-span-init : goal.loop-span-init
loop-span-init c = record {
  spans = subst (Each IsSpan) (sym same) (maximal_spans c.args.deleted.now c.spans-span-items.ensures.maximal);
  made = ap (λ ss. steps_value c.args.steps.now ++ steps_of_keys (seen_of c.args.replica.now) c.args.deleted.now ss) same;
}
  where
    same : c.into_iter-span-iterator.result ≡ c.args.deleted.now
    same = c.into_iter-span-iterator.ensures.into_iter_gives ∙ c.spans-span-items.ensures.ascending
