-- A text as units, and units as a text, in std's words on UTF-8 and UTF-16.
use Rattle.std.specs.Prelude.{ℕ, List, [], ◌∷◌, encode_utf8_all}
use Rattle.std.specs.Char.Escape.{encode_utf16}
use Rattle.std.specs.Char.Utf16.{utf16_lossy_chars}
use Rattle.std.specs.List.{flat_map}
use Rattle.std.specs.Str.{chars}

-- the one or two units of each character of a text
unfoldable pub units_of : List ℕ → List ℕ
units_of text = flat_map encode_utf16 (chars text)

-- the bytes of each character that the units make, with U+FFFD for a half without its partner
unfoldable pub text_of : List ℕ → List ℕ
text_of units = encode_utf8_all (utf16_lossy_chars units)

-- the bytes of U+FFFD
abbrev pub replacement : List ℕ
replacement = 0xEF ∷ 0xBF ∷ 0xBD ∷ []
