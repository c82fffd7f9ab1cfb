use Rattle.std.proofs.Common.{◌≡◌, ◌+◌, ◌++◌}
use Rattle.yd_making.specs.Steps.{steps_value}
use Rattle.yd_undo.specs.Remade.{seen_of, key_steps_from}
use Rattle.yd_undo.proofs.keys.add_span.Given as goal

-- with what is left, all is made
abbrev pub invariant-loop-left : goal.invariant-loop-left
invariant-loop-left l = record {
  client : l.at.client ≡ l.fn.span.client;
  end : l.at.clock + l.left ≡ l.fn.span.clock + l.fn.span.len;
  made : steps_value l.steps ++ key_steps_from (seen_of l.replica) l.deleted l.at l.left
      ≡ steps_value l.initial.steps ++ key_steps_from (seen_of l.replica) l.deleted (record { client = l.fn.span.client; clock = l.fn.span.clock }) l.fn.span.len;
}

abbrev pub decreases-loop-left : goal.decreases-loop-left
decreases-loop-left l = l.left
