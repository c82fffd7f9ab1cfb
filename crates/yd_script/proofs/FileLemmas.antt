-- Script files are read exactly.
use Rattle.std.proofs.Common.{◌≡◌, ℕ, List, Bool, true, false, Result, Ok, Err, refl, sym, ap}
use Rattle.std.proofs.lemmas.Str.{IsUtf8-from_is_utf8, is_utf8-from_IsUtf8}
use Rattle.std.specs.Prelude.{if◌then◌else◌}
use Rattle.std.specs.Str.{is_utf8}
use Rattle.yd_num.proofs.ReadingLemmas.{ok_value}
use Rattle.yd_parts.specs.Fault.{Fault}
use Rattle.yd_reading.specs.Files.{FilesAreRead}
use Rattle.yd_script.specs.File.{HasFirstFaultScript, StandsForScript, no_text, script_reading}

-- what is read, by whether the bytes are a text
abbrev chosen : Bool → List ℕ → Result (List ℕ) Fault
chosen test bytes = if test then Ok bytes else Err no_text

-- a text that is read is what the bytes are
read_stands : (bytes text : List ℕ) (test : Bool) → is_utf8 bytes ≡ test → chosen test bytes ≡ Ok text → StandsForScript bytes text
read_stands bytes text true is gives = record { same = sym (ok_value {E = Fault} bytes text gives); is_utf8 = IsUtf8-from_is_utf8 bytes is }
read_stands bytes text false is gives = absurd cc

-- bytes that are refused are no text
read_fails : (bytes : List ℕ) (fault : Fault) (test : Bool) → is_utf8 bytes ≡ test → chosen test bytes ≡ Err fault → HasFirstFaultScript bytes fault
read_fails bytes fault true is gives = absurd cc
read_fails bytes fault false is gives = record { not_utf8 = λ utf8. (let passes = is_utf8-from_IsUtf8 bytes utf8 in absurd cc); fault_is = cc }

-- a text is read
text_read : (bytes text : List ℕ) → StandsForScript bytes text → script_reading bytes ≡ Ok text
text_read bytes text stands =
    let passes : is_utf8 bytes ≡ true = is_utf8-from_IsUtf8 bytes stands.is_utf8 in
    rw passes (ap Ok (sym stands.same))

-- bytes that are no text are refused
no_text_read : (bytes : List ℕ) (fault : Fault) → HasFirstFaultScript bytes fault → (test : Bool) → is_utf8 bytes ≡ test → script_reading bytes ≡ Err fault
no_text_read bytes fault fails true is = absurd (fails.not_utf8 (IsUtf8-from_is_utf8 bytes is))
no_text_read bytes fault fails false is = rw is (ap Err (sym fails.fault_is))

pub scripts_read : FilesAreRead script_reading StandsForScript HasFirstFaultScript
scripts_read = record {
  values = λ bytes text. (read_stands bytes text (is_utf8 bytes) refl, text_read bytes text);
  faults = λ bytes fault. (read_fails bytes fault (is_utf8 bytes) refl, λ fails. no_text_read bytes fault fails (is_utf8 bytes) refl);
}
