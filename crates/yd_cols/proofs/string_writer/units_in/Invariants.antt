use Rattle.std.proofs.Common.{◌≡◌, ◌+◌, ◌≤◌, length, IsUtf8}
use Rattle.std.specs.Str.Iter.{chars_rest}
use Rattle.yd_cols.specs.Column.{units_in}
use Rattle.yd_cols.proofs.string_writer.units_in.Given as goal

-- the units so far, and those of what is left, are those of the text; and they are no more than its bytes
abbrev pub invariant-loop-c : goal.invariant-loop-c
invariant-loop-c l = record {
  is_text : IsUtf8 (chars_rest l.c-iterator);
  counted : l.units + units_in (chars_rest l.c-iterator) ≡ units_in l.v;
  within : l.units + length (chars_rest l.c-iterator) ≤ length l.v;
}
