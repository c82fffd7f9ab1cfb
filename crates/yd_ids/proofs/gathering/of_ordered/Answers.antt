use Rattle.std.proofs.Common.{◌+◌, sym, ap, ◌∙◌, subst}
use Rattle.yd_ids.proofs.GatheringLemmas.{IsGathering, gathering_puts, gathering_leaves}
use Rattle.yd_ids.proofs.gathering.of_ordered.Goals as goal
use Rattle.yd_ids.proofs.gathering.of_ordered.Goals.{then-span-gt0+in_ok-add_last, else-span-gt0}

pub loop-span-preserved : goal.loop-span-preserved
loop-span-preserved c = elim c.if-span-gt0.branch [
  | then-span-gt0+in_ok-add_last w ↦
      subst (λ set. IsGathering c.args.spans.now set (c.loop-span.span-index + 1)) (sym (ap (λ v. v.items) w.set-is ∙ w.in_ok-add_last.ensures))
      (gathering_puts c.args.spans.now c.loop-span.set.items c.loop-span.span-index _ c.requires.spans c.requires.ordered c.loop-span.invariant c.loop-span-test.true w.if-span-gt0.true)
  | else-span-gt0 w ↦
      subst (λ set. IsGathering c.args.spans.now set (c.loop-span.span-index + 1)) (sym (ap (λ v. v.items) w.set-is))
      (gathering_leaves c.args.spans.now c.loop-span.set.items c.loop-span.span-index _ c.loop-span.invariant c.loop-span-test.true w.if-span-gt0.false)
]
