use Rattle.std.proofs.Common.{◌<◌, length}
use Rattle.yd_words.specs.Each.{Each}
use Rattle.yd_order.proofs.turns.turns_of.Given as goal

abbrev pub invariant-loop-at : goal.invariant-loop-at
invariant-loop-at l = Each (λ at. at < length l.rows) l.turns.items
