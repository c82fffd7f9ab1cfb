use Rattle.std.proofs.Common.{◌≡◌, ◌≤◌, ℕ}
use Rattle.yd_arena.specs.Arena.{runs_of, next_clock}
use Rattle.yd_arena.specs.Marks.{IsBorder}
use Rattle.yd_store.specs.Store.{spare_of}
use Rattle.yd_store.specs.Taking.{TakesBack, AreDead}
use Rattle.yd_store.proofs.store.Store.take_dead.Given as goal

abbrev pub invariant-loop-next : goal.invariant-loop-next
invariant-loop-next l = record {
  next : l.next ≡ next_clock l.self.placed l.client.0;
  above : l.clock ≤ l.next;
  border : IsBorder (runs_of l.self.placed) l.client.0 l.clock;
  dead : AreDead l.self l.client.0 l.clock;
  taken : TakesBack l.fn.self l.self l.client.0 l.next;
  spares : (k : ℕ) → spare_of l.fn.self k ≤ spare_of l.self k;
}

abbrev pub decreases-loop-next : goal.decreases-loop-next
decreases-loop-next l = l.next
