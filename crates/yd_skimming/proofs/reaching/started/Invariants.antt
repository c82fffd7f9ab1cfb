use Rattle.std.proofs.Common.{◌≡◌, []}
use Rattle.yd_words.specs.Each.{Each}
use Rattle.yd_ids.specs.Id.{IsSpan}
use Rattle.yd_merge.specs.Reaching.{all_started}
use Rattle.yd_skimming.proofs.reaching.started.Given as goal

-- with the spans that are left, all have raised it
abbrev pub invariant-loop-span : goal.invariant-loop-span
invariant-loop-span l = record {
  spans : Each IsSpan l.span-iterator;
  left : all_started l.span-iterator l.vector ≡ all_started l.ids [];
}
