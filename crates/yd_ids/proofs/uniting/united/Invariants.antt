use Rattle.std.proofs.Common.{◌+◌, length}
use Rattle.yd_ids.proofs.UnitingLemmas.{IsUniting}
use Rattle.yd_ids.proofs.uniting.united.Given as goal

abbrev pub invariant-loop-span : goal.invariant-loop-span
invariant-loop-span l = IsUniting l.left.items l.right.items l.both.items l.lefts l.rights

abbrev pub decreases-loop-span : goal.decreases-loop-span
decreases-loop-span l = length l.lefts + length l.rights
