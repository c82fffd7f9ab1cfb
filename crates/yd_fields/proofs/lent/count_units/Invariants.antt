use Rattle.std.proofs.Common.{◌≡◌, ◌+◌, ◌≤◌, length, IsUtf8}
use Rattle.std.specs.Str.Iter.{chars_rest}
use Rattle.yd_units.specs.Text.{units_of}
use Rattle.yd_fields.proofs.lent.count_units.Given as goal

-- the units so far, and those of what is left, are the units of the text, and no more than its bytes
abbrev pub invariant-loop-c : goal.invariant-loop-c
invariant-loop-c l = record {
  is_text : IsUtf8 (chars_rest l.c-iterator);
  joined : l.count + length (units_of (chars_rest l.c-iterator)) ≡ length (units_of l.text);
  bound : l.count + length (chars_rest l.c-iterator) ≤ length l.text;
}
