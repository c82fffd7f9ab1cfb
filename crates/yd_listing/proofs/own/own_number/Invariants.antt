use Rattle.std.proofs.Common.{◌<◌}
use Rattle.std.specs.Prelude.{IfSome}
use Rattle.yd_names.specs.Names.{IsOf}
use Rattle.yd_arena.specs.Arena.{count_of}
use Rattle.yd_listing.proofs.OwnLemmas.{left_of, HasNoOwn}
use Rattle.yd_listing.proofs.own.own_number.Given as goal

-- the next one is the parent's, and none behind it is its own
abbrev pub invariant-loop-next : goal.invariant-loop-next
invariant-loop-next l = record {
  of : IfSome l.next (IsOf l.kept.names l.parent);
  within : IfSome l.next (λ n. n < count_of l.kept.store.placed);
  none : HasNoOwn l.kept.names l.parent (left_of l.next);
}

abbrev pub decreases-loop-next : goal.decreases-loop-next
decreases-loop-next l = left_of l.next
