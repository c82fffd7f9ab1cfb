use Rattle.yd_arena.proofs.MarkLemmas as marks
use Rattle.yd_arena.proofs.law.adds_keep_marks.Goals as goal

pub returns : goal.returns
returns c = marks.adds_keep_marks
