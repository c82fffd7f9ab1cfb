use Rattle.std.proofs.Common.{◌≡◌, [], ◌∷◌, ◌++◌, IsUtf8, refl, ◌∙◌, arith}
use Rattle.std.proofs.Math.Utf8.{encode}
use Rattle.std.proofs.lemmas.Str.{IsUtf8-encode}
use Rattle.std.proofs.str.Utf16.{one_unit}
use Rattle.yd_units.specs.Text.{units_of}
use Rattle.yd_units.proofs.TextLemmas.{units_of-step, units_of-nil}
use Rattle.yd_entries.proofs.pieces.replacement.Goals as goal

bytes_are : 0xEF ∷ 0xBF ∷ 0xBD ∷ [] ≡ encode 0xFFFD ++ []
unfolding encode
bytes_are = refl

is_text : IsUtf8 (0xEF ∷ 0xBF ∷ 0xBD ∷ [])
unfolding encode
is_text = IsUtf8-encode 0xFFFD refl

units_of_replacement : units_of (0xEF ∷ 0xBF ∷ 0xBD ∷ []) ≡ 0xFFFD ∷ []
units_of_replacement = units_of-step (0xEF ∷ 0xBF ∷ 0xBD ∷ []) [] 0xFFFD is_text bytes_are ∙ rw (units_of-nil, one_unit 0xFFFD (omega arith)) refl

pub returns : goal.returns
returns c = c.in_ok-units.ensures ∙ units_of_replacement
