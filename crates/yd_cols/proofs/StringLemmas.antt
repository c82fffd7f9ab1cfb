-- Strings are read as the next length cuts them from the text, and a whole column of them as what it stands for.
use Rattle.std.proofs.Common.{◌≡◌, ℕ, true, List, [], ◌∷◌, ◌++◌, Result, Ok, Err, IsUtf8, refl, sym, ap, ◌∙◌}
use Rattle.std.proofs.Math.Utf8.{scalar, scalars, encodes}
use Rattle.std.proofs.lemmas.Bool.{and_from, and_parts}
use Rattle.std.proofs.lemmas.Str.{chars-append, chars-encodes, encodes-append, encodes-chars, scalars-chars}
use Rattle.std.specs.Str.{chars}
use Rattle.yd_cols.specs.Column.{units_in}
use Rattle.yd_cols.specs.Reading.{and_then, chars_at, string_at}
use Rattle.yd_cols.specs.Taking.{CannotCut, units_of_chars}
use Rattle.yd_cols.specs.declared.fault.ColCause.{ColCause}
use Rattle.yd_cols.proofs.CutLemmas.{cut_failed, cut_found, cut_only, cut_refused, parts_same}
use Rattle.yd_units.specs.Text.{units_of}

-- ---- a string at the front of a text

-- the characters of a text are cut here, and the string and what is behind it are these
pub record IsCutAt (text string rest : List ℕ) (units : ℕ) : Type 0 where
  pub front : List ℕ
  pub back : List ℕ
  pub joined : chars text ≡ front ++ back
  pub counted : units ≡ units_of_chars front
  pub string_is : string ≡ encodes front
  pub rest_is : rest ≡ encodes back

-- two lists of characters as texts
abbrev spelled : List ℕ × List ℕ → Result (List ℕ × List ℕ) ColCause
spelled parts = Ok (encodes parts.0, encodes parts.1)

spelled_parts : (read : Result (List ℕ × List ℕ) ColCause) (string rest : List ℕ) → and_then read spelled ≡ Ok (string, rest)
    → (front : List ℕ) × (back : List ℕ) × (read ≡ Ok (front, back)) × (string ≡ encodes front) × (rest ≡ encodes back)
spelled_parts (Ok parts) string rest e = let is = parts_same (encodes parts.0) (encodes parts.1) string rest e in (parts.0, parts.1, refl, sym is.0, sym is.1)
spelled_parts (Err cause) string rest e = absurd cc

spelled_fault : (read : Result (List ℕ × List ℕ) ColCause) (cause : ColCause)
    → and_then read spelled ≡ Err cause → read ≡ Err cause
spelled_fault (Ok parts) cause e = absurd cc
spelled_fault (Err other) cause e = cc

pub string_found : (units : ℕ) (text string rest : List ℕ) → string_at units text ≡ Ok (string, rest) → IsCutAt text string rest units
unfolding string_at
string_found units text string rest e =
    let parts = spelled_parts (chars_at units (chars text)) string rest e in
    let found = cut_found (chars text) units parts.0 parts.1 parts.2 in
    record { front = parts.0; back = parts.1; joined = found.0; counted = found.1; string_is = parts.3; rest_is = parts.4 }

pub string_only : (units : ℕ) (text string rest : List ℕ) → IsCutAt text string rest units → string_at units text ≡ Ok (string, rest)
unfolding string_at
string_only units text string rest is = rw (is.joined, cut_only is.front is.back units is.counted, is.string_is, is.rest_is) refl

pub string_failed : (units : ℕ) (text : List ℕ) (cause : ColCause) → string_at units text ≡ Err cause → CannotCut (chars text) units cause
unfolding string_at
string_failed units text cause e = cut_failed (chars text) units cause (spelled_fault (chars_at units (chars text)) cause e)

pub string_refused : (units : ℕ) (text : List ℕ) (cause : ColCause) → CannotCut (chars text) units cause → string_at units text ≡ Err cause
unfolding string_at
string_refused units text cause cannot = rw (cut_refused (chars text) units cause cannot) refl

-- ---- the parts of a text are texts

scalars-parts : (front back : List ℕ) → scalars (front ++ back) ≡ true → (scalars front ≡ true) × (scalars back ≡ true)
scalars-parts [] back is = (refl, is)
scalars-parts (c ∷ front) back is =
    let first = and_parts (scalar c) (scalars (front ++ back)) is in
    let rest = scalars-parts front back first.1 in
    (and_from (scalar c) (scalars front) first.0 rest.0, rest.1)

-- of a text that is cut, both parts are texts, and they are the whole
pub record AreParts (text string rest : List ℕ) (units : ℕ) : Type 0 where
  pub joined : text ≡ string ++ rest
  pub string_text : IsUtf8 string
  pub rest_text : IsUtf8 rest
  pub counted : units ≡ units_in string

pub are_parts : (text string rest : List ℕ) (units : ℕ) → IsUtf8 text → IsCutAt text string rest units → AreParts text string rest units
unfolding units_of
are_parts text string rest units is_text is =
    let parts = scalars-parts is.front is.back (rw is.joined at (scalars-chars text is_text)) in
    rw (is.string_is, is.rest_is) (record {
      joined = sym (encodes-chars text is_text) ∙ ap encodes is.joined ∙ encodes-append is.front is.back;
      string_text = (is.front, (parts.0, refl));
      rest_text = (is.back, (parts.1, refl));
      counted = is.counted ∙ ap units_of_chars (sym (chars-encodes is.front parts.0));
    })

-- a text before a text is cut from it
pub text_cut : (string rest : List ℕ) → IsUtf8 string → IsUtf8 rest → IsCutAt (string ++ rest) string rest (units_in string)
unfolding units_of
text_cut string rest is_string is_rest = record {
  front = chars string;
  back = chars rest;
  joined = chars-append string rest is_string;
  counted = refl;
  string_is = sym (encodes-chars string is_string);
  rest_is = sym (encodes-chars rest is_rest);
}
