use Rattle.std.proofs.Common.{take}
use Rattle.yd_listing.specs.Steps.{TakesAll}
use Rattle.yd_listing.proofs.arriving.add_all.Given as goal

abbrev pub invariant-loop-one : goal.invariant-loop-one
invariant-loop-one l = TakesAll l.kept l.deleted (take l.one-index l.came) l.initial.spans.items l.spans.items
