use Rattle.std.proofs.Common.{◌≡◌, ◌++◌, IsUtf8}
use Rattle.std.specs.Str.Iter.{chars_rest}
use Rattle.yd_units.specs.Text.{units_of}
use Rattle.yd_units.proofs.spelling.units_of_chars.Given as goal

-- the units so far, and those of what is left, are the units of the text
abbrev pub invariant-loop-c : goal.invariant-loop-c
invariant-loop-c l = record {
  is_text : IsUtf8 (chars_rest l.c-iterator);
  joined : l.units.items ++ units_of (chars_rest l.c-iterator) ≡ units_of l.text;
}
