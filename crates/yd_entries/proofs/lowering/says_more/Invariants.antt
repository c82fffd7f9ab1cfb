use Rattle.std.proofs.Common.{take, drop}
use Rattle.yd_words.specs.Each.{Each}
use Rattle.yd_entries.proofs.ScanLemmas.{IsLow}
use Rattle.yd_entries.specs.Taking.{EndsBehind}
use Rattle.yd_entries.proofs.lowering.says_more.Given as goal

abbrev pub invariant-loop-at : goal.invariant-loop-at
invariant-loop-at l = Each (IsLow l.id l.len l.level l.runs) (take l.at l.taken) × Each (EndsBehind l.id) (drop l.at l.taken)
