-- A fault's cause, in the words of reading, and its place.
use Rattle.std.specs.Prelude.{ℕ}
use Rattle.yd_num.specs.declared.fault.NumFault.{NumFault}
use Rattle.yd_num.specs.declared.fault.NumFault.TheVariants.{ShortInput, NumberTooLarge, BadUtf8}
use Rattle.yd_num.specs.Reading.{Cause, short_input, number_too_large, bad_utf8}

-- what is wrong
abbrev pub cause_of : NumFault → Cause
cause_of (ShortInput place) = short_input
cause_of (NumberTooLarge place) = number_too_large
cause_of (BadUtf8 place) = bad_utf8

-- where the field begins
abbrev pub place_of : NumFault → ℕ
place_of (ShortInput place) = place
place_of (NumberTooLarge place) = place
place_of (BadUtf8 place) = place
