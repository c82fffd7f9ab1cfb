use Rattle.yd_arena.proofs.UnitsLemmas as units
use Rattle.yd_arena.proofs.law.cuts_keep_units.Goals as goal

pub returns : goal.returns
returns c = units.cuts_keep_units
