use Rattle.std.proofs.Common.{◌≡◌, ◌++◌}
use Rattle.yd_words.specs.Each.{Each}
use Rattle.yd_ids.specs.Id.{IsSpan}
use Rattle.yd_making.specs.Steps.{steps_value}
use Rattle.yd_undo.specs.Remade.{seen_of, steps_of_keys}
use Rattle.yd_undo.proofs.keys.add_keys.Given as goal

-- with what is left, all is made
abbrev pub invariant-loop-span : goal.invariant-loop-span
invariant-loop-span l = record {
  spans : Each IsSpan l.span-iterator;
  made : steps_value l.steps ++ steps_of_keys (seen_of l.replica) l.deleted l.span-iterator
      ≡ steps_value l.initial.steps ++ steps_of_keys (seen_of l.replica) l.deleted l.deleted;
}
