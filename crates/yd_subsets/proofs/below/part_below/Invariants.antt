use Rattle.std.proofs.Common.{◌≡◌, ◌++◌}
use Rattle.yd_words.specs.Each.{Each}
use Rattle.yd_ids.specs.Id.{IsSpan}
use Rattle.yd_ids.specs.Vector.{clock_of}
use Rattle.yd_subsets.specs.Below.{spans_below}
use Rattle.yd_subsets.proofs.below.part_below.Given as goal

-- with the spans that are left, all are there
abbrev pub invariant-loop-span : goal.invariant-loop-span
invariant-loop-span l = record {
  left : Each IsSpan l.span-iterator;
  told : l.below.items ++ spans_below (clock_of l.vector) l.span-iterator ≡ spans_below (clock_of l.vector) l.set;
}
