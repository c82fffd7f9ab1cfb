use Rattle.std.proofs.Common.{take}
use Rattle.yd_words.specs.Each.{Each}
use Rattle.yd_ops.specs.declared.runs.Run.{Run}
use Rattle.yd_words.specs.Member.{IsIn}
use Rattle.yd_held.proofs.trying.clients_from.Given as goal

abbrev pub invariant-loop-run : goal.invariant-loop-run
invariant-loop-run l = Each (λ (run : Run). IsIn run.id.client l.clients.items) (take l.run-index l.run-items)
