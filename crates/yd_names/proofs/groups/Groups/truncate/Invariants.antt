use Rattle.std.proofs.Common.{length}
use Rattle.yd_names.proofs.GroupsLemmas.{IsShortened}
use Rattle.yd_names.proofs.groups.Groups.truncate.Given as goal

abbrev pub invariant-loop-self : goal.invariant-loop-self
invariant-loop-self l = IsShortened l.len l.initial.self l.self

abbrev pub decreases-loop-self : goal.decreases-loop-self
decreases-loop-self l = length l.self.numbers
