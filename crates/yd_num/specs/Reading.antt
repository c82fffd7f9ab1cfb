-- Reading from left to right: a value and the bytes behind it, or what is wrong first.
use Rattle.std.specs.Prelude.{Result, Ok, Err}

-- what can be wrong with a field
pub data Cause : Type 0 where
  short_input : Cause
  number_too_large : Cause
  bad_utf8 : Cause

-- one reading after the other, as far as the first that fails
infixl 10 ◌>>=◌
abbrev pub ◌>>=◌ : {A B E : Type 0} → Result A E → (A → Result B E) → Result B E
(Ok x) >>= next = next x
(Err cause) >>= next = Err cause
