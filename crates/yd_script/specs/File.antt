-- Script files: which bytes are a script, and what is wrong with others (own).
use Rattle.std.specs.Prelude.{◌≡◌, ℕ, List, Result, Ok, Err, if◌then◌else◌, IsUtf8}
use Rattle.std.specs.Str.{is_utf8}
use Rattle.yd_parts.specs.Fault.{Fault}
use Rattle.yd_parts.specs.declared.fault.Cause.TheVariants.{BadUtf8}
use Rattle.yd_parts.specs.declared.fault.Column.TheVariants.{Whole}

-- the bytes are the text
pub record StandsForScript (bytes text : List ℕ) : Type 0 where
  pub same : text ≡ bytes
  pub is_utf8 : IsUtf8 bytes

-- they are no text; the place is the front, wherever the first byte is that belongs to no character
abbrev pub no_text : Fault
no_text = record { cause = BadUtf8; spot = record { column = Whole; at = 0 } }

-- that is what is wrong with the bytes
pub record HasFirstFaultScript (bytes : List ℕ) (fault : Fault) : Type 0 where
  pub not_utf8 : ¬ (IsUtf8 bytes)
  pub fault_is : fault ≡ no_text

-- what is read of the bytes
abbrev pub script_reading : List ℕ → Result (List ℕ) Fault
script_reading bytes = if is_utf8 bytes then Ok bytes else Err no_text
