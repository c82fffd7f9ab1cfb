use Rattle.yd_arena.proofs.MarkLemmas as marks
use Rattle.yd_arena.proofs.law.cuts_keep_marks.Goals as goal

pub returns : goal.returns
returns c = marks.cuts_keep_marks
