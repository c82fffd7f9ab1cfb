use Rattle.yd_arena.proofs.BorderLemmas as borders
use Rattle.yd_arena.proofs.law.borders_are.Goals as goal

pub returns : goal.returns
returns c = borders.borders_are
