use Rattle.std.proofs.Common.{◌≡◌, ◌≤◌, length, take}
use Rattle.std.specs.Prelude.{vec_len, vec_capacity}
use Rattle.yd_units.proofs.spelling.units_of_bytes.Given as goal

-- the units are the bytes so far, and there is room for the others
abbrev pub invariant-loop-byte : goal.invariant-loop-byte
invariant-loop-byte l = record {
  units : l.units.items ≡ take l.byte-index l.bytes;
  len : vec_len l.units ≡ l.byte-index;
  room : length l.bytes ≤ vec_capacity l.units;
}
