use Rattle.std.proofs.Common.{◌≡◌, ◌++◌}
use Rattle.yd_skimming.proofs.cutter.note_deletes.Given as goal

-- with the spans that are left, all are noted
abbrev pub invariant-loop-span : goal.invariant-loop-span
invariant-loop-span l = l.named.items ++ l.span-iterator ≡ l.initial.named.items ++ l.deletes
