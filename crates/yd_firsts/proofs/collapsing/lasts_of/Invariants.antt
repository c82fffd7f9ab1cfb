use Rattle.std.proofs.Common.{take}
use Rattle.yd_firsts.specs.Pieces.{AreLasts}
use Rattle.yd_firsts.proofs.collapsing.lasts_of.Given as goal

abbrev pub invariant-loop-id : goal.invariant-loop-id
invariant-loop-id l = AreLasts l.pieces (take l.id-index l.ids) l.lasts.items
