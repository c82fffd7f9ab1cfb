-- Which bytes are a part, and which are none (lib0, decoding): the grammar of parts, without reading.
use Rattle.std.specs.Prelude.{◌≡◌, ℕ, ◌<◌, List, [], ◌∷◌, ◌++◌, length}
use Rattle.yd_num.specs.Grammar.{EndsInside}
use Rattle.yd_num.specs.Number.{SpellsUnsigned, IsTooLarge, IsTooLong}
use Rattle.yd_num.specs.Reading.{Cause as NumCause, short_input, number_too_large, bad_utf8}
use Rattle.yd_num.specs.Signed.{SpellsSigned}
use Rattle.yd_num.specs.Text.{SpellsBlob, SpellsText, IsOtherBlob}
use Rattle.yd_parts.specs.Fault.{Fault, of_number}
use Rattle.yd_parts.specs.Part.{Part, PartValue, Unread, behind, byte, unsigned, signed, text, blob, raw, here}
use Rattle.yd_parts.specs.Plan.{Found}

-- the bytes spell the part
abbrev pub SpellsPart : (t : Part) → PartValue t → List ℕ → Type 0
SpellsPart byte b bytes = bytes ≡ b ∷ []
SpellsPart unsigned v bytes = SpellsUnsigned bytes v
SpellsPart signed n bytes = SpellsSigned bytes n
SpellsPart text t bytes = SpellsText bytes t
SpellsPart blob b bytes = SpellsBlob bytes b
SpellsPart (raw count) b bytes = (bytes ≡ b) × (length b ≡ count)

-- the part stands at the front of what is left, and these bytes are left behind it
pub record StandsPart (left : Unread) (part : Found PartValue) (next : Unread) : Type 0 where
  pub front : List ℕ
  pub rest : List ℕ
  pub spells : SpellsPart part.type part.value front
  pub joined : left.bytes ≡ front ++ rest
  pub spot : part.spot ≡ here left
  pub next_is : next ≡ behind left rest

-- no part of the type stands at the front of the bytes, for this cause
abbrev pub LacksPart : Part → List ℕ → NumCause → Type 0
LacksPart byte bytes short_input = bytes ≡ []
LacksPart byte bytes number_too_large = ⊥
LacksPart byte bytes bad_utf8 = ⊥
LacksPart unsigned bytes short_input = EndsInside SpellsUnsigned bytes
LacksPart unsigned bytes number_too_large = IsTooLarge bytes
LacksPart unsigned bytes bad_utf8 = ⊥
LacksPart signed bytes short_input = EndsInside SpellsSigned bytes
LacksPart signed bytes number_too_large = IsTooLong bytes
LacksPart signed bytes bad_utf8 = ⊥
LacksPart text bytes short_input = EndsInside SpellsBlob bytes
LacksPart text bytes number_too_large = IsTooLarge bytes
LacksPart text bytes bad_utf8 = IsOtherBlob bytes
LacksPart blob bytes short_input = EndsInside SpellsBlob bytes
LacksPart blob bytes number_too_large = IsTooLarge bytes
LacksPart blob bytes bad_utf8 = ⊥
LacksPart (raw count) bytes short_input = length bytes < count
LacksPart (raw count) bytes number_too_large = ⊥
LacksPart (raw count) bytes bad_utf8 = ⊥

-- no part of the type stands at the front of what is left, and this fault says why and where
pub record FailsPart (t : Part) (left : Unread) (fault : Fault) : Type 0 where
  pub cause : NumCause
  pub lacks : LacksPart t left.bytes cause
  pub fault_is : fault ≡ record { cause = of_number cause; spot = here left }
