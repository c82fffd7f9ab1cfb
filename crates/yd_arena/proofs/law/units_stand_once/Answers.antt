use Rattle.yd_arena.proofs.ArenaLemmas as arena
use Rattle.yd_arena.proofs.law.units_stand_once.Goals as goal

pub returns : goal.returns
returns c = arena.units_stand_once
