use Rattle.yd_arena.proofs.ListsLemmas.{all_zero}
use Rattle.yd_arena.proofs.growing.clear_marks.Goals as goal

pub returns-clause-zero : goal.returns-clause-zero
returns-clause-zero c = all_zero c.loop-i.marks.items c.loop-i.i _ c.loop-i.invariant.ends c.loop-i-test.false c.loop-i.invariant.zero
