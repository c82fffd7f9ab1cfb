use Rattle.std.proofs.Common.{◌≡◌, ◌++◌}
use Rattle.yd_merge.proofs.naming.note_deletes.Given as goal

-- with the spans that are left, all are noted
abbrev pub invariant-loop-span : goal.invariant-loop-span
invariant-loop-span l = l.spans.items ++ l.span-iterator ≡ l.initial.spans.items ++ l.deletes
