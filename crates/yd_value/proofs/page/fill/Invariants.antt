use Rattle.std.proofs.Common.{◌≡◌, ◌+◌, ◌≤◌, take}
use Rattle.std.specs.Vec.{vec_len}
use Rattle.yd_value.proofs.page.fill.Given as goal

abbrev pub invariant-loop-left : goal.invariant-loop-left
invariant-loop-left l =
    (take (vec_len l.initial.bytes) l.bytes.items ≡ l.initial.bytes.items) × (vec_len l.initial.bytes ≤ vec_len l.bytes) × (vec_len l.initial.bytes + l.fn.more ≤ vec_len l.bytes + l.left)

abbrev pub decreases-loop-left : goal.decreases-loop-left
decreases-loop-left l = l.left
