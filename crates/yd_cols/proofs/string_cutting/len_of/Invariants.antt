use Rattle.std.specs.Str.Iter.{chars_rest}
use Rattle.yd_cols.proofs.CuttingLemmas.{CutSoFar}
use Rattle.yd_cols.proofs.string_cutting.len_of.Given as goal

abbrev pub invariant-loop-c : goal.invariant-loop-c
invariant-loop-c l = CutSoFar l.text l.units l.left l.len (chars_rest l.c-iterator)
