use Rattle.std.proofs.Common.{◌≡◌, ◌++◌}
use Rattle.yd_gathering.proofs.row.note.Given as goal

-- with the spans that are left, all are noted
abbrev pub invariant-loop-span : goal.invariant-loop-span
invariant-loop-span l = l.names.items ++ l.span-iterator ≡ l.initial.names.items ++ l.deletes
