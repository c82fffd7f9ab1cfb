use Rattle.std.proofs.Common.{◌≡◌, ◌++◌}
use Rattle.yd_words.specs.Each.{Each}
use Rattle.yd_ids.specs.Id.{IsSpan}
use Rattle.yd_ids.specs.Vector.{clock_of}
use Rattle.yd_state.specs.Above.{spans_above}
use Rattle.yd_state.proofs.waiting.push_above.Given as goal

-- with the spans that are left, all are there
abbrev pub invariant-loop-span : goal.invariant-loop-span
invariant-loop-span l = record {
  left : Each IsSpan l.span-iterator;
  told : l.spans.items ++ spans_above (clock_of l.vector) l.span-iterator ≡ l.initial.spans.items ++ spans_above (clock_of l.vector) l.set;
}
