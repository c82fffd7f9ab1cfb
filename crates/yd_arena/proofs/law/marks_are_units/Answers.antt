use Rattle.yd_arena.proofs.MarkLemmas as marks
use Rattle.yd_arena.proofs.law.marks_are_units.Goals as goal

pub returns : goal.returns
returns c = marks.marks_are_units
