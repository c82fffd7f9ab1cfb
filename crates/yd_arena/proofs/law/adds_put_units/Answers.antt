use Rattle.yd_arena.proofs.UnitsLemmas as units
use Rattle.yd_arena.proofs.law.adds_put_units.Goals as goal

pub returns : goal.returns
returns c = units.adds_put_units
