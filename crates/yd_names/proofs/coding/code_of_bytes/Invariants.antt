use Rattle.std.proofs.Common.{◌≡◌, ◌<◌, drop}
use Rattle.yd_names.specs.Coding.{bound, code_of_bytes}
use Rattle.yd_names.proofs.coding.code_of_bytes.Given as goal

abbrev pub invariant-loop-byte : goal.invariant-loop-byte
invariant-loop-byte l = (l.sum < bound) × (code_of_bytes l.sum (drop l.byte-index l.bytes) ≡ code_of_bytes l.code l.bytes)
