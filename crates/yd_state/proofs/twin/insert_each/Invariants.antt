use Rattle.std.proofs.Common.{◌≡◌}
use Rattle.yd_words.specs.Each.{Each}
use Rattle.yd_ids.specs.Id.{IsSpan}
use Rattle.yd_ids.specs.Set.{union_of}
use Rattle.yd_state.proofs.twin.insert_each.Given as goal

-- with the spans that are left, all are in
abbrev pub invariant-loop-span : goal.invariant-loop-span
invariant-loop-span l = record {
  all : union_of l.span-iterator l.set ≡ union_of l.more l.fn.set;
  spans : Each IsSpan l.span-iterator;
}
