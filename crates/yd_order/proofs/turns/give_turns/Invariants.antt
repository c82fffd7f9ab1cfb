use Rattle.std.proofs.Common.{◌<◌, length}
use Rattle.yd_words.specs.Each.{Each}
use Rattle.yd_order.proofs.turns.give_turns.Given as goal

abbrev pub invariant-loop : goal.invariant-loop
invariant-loop l = Each (λ at. at < length l.rows) l.turns.items
