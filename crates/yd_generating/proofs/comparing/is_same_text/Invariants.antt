use Rattle.std.proofs.Common.{◌≡◌, take}
use Rattle.yd_generating.proofs.comparing.is_same_text.Given as goal

-- the units so far are the same
abbrev pub invariant-loop-i : goal.invariant-loop-i
invariant-loop-i l = record {
  same : take l.i l.one ≡ take l.i l.other;
}
