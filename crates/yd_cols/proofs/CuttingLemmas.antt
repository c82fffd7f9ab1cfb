-- A text is cut character by character, in one pass.
use Rattle.std.proofs.Common.{◌≡◌, ℕ, ◌+◌, ◌-◌, ◌<◌, ◌≤◌, List, [], ◌∷◌, ◌++◌, length, take, drop, Ok, Err, IsUtf8, refl, sym, ap, ◌∙◌, inl, inr, append_assoc, append-nil, arith, length-append}
use Rattle.std.proofs.Math.Utf8.{encode, encodes}
use Rattle.std.proofs.lemmas.List.{drop_at, take_at}
use Rattle.std.proofs.lemmas.Str.{IsCharBoundary-at_seam, IsUtf8-past_char, chars-nil, chars_past_char, encodes-append, encodes-chars}
use Rattle.std.specs.Char.Escape.{encode_utf16}
use Rattle.std.specs.List.{flat_map}
use Rattle.std.specs.Str.{IsCharBoundary, chars}
use Rattle.yd_cols.specs.Reading.{string_at}
use Rattle.yd_cols.specs.Taking.{units_of_chars}
use Rattle.yd_cols.specs.declared.fault.ColCause.TheVariants.{ShortInput, HalfPair}
use Rattle.yd_cols.proofs.StringLemmas.{string_only, string_refused}
use Rattle.yd_cols.proofs.UnitLemmas.{one_or_two}

-- behind some characters of the text, and their units, this is left of it and of the units
pub record CutSoFar (text : List ℕ) (units left len : ℕ) (rest : List ℕ) : Type 0 where
  pub front : List ℕ
  pub is_text : IsUtf8 rest
  pub characters : chars text ≡ front ++ chars rest
  pub counted : units ≡ units_of_chars front + left
  pub joined : text ≡ encodes front ++ rest
  pub len_is : len ≡ length (encodes front)

pub cut-init : (text : List ℕ) (units : ℕ) → IsUtf8 text → CutSoFar text units units 0 text
cut-init text units is_text = record { front = []; is_text = is_text; characters = refl; counted = omega arith; joined = refl; len_is = refl }

units-snoc : (front : List ℕ) (c : ℕ) → units_of_chars (front ++ c ∷ []) ≡ units_of_chars front + length (encode_utf16 c)
units-snoc [] c = omega (arith, ap length (append-nil (encode_utf16 c)))
units-snoc (d ∷ front) c = omega (arith, units-snoc front c, length-append (encode_utf16 d) (flat_map encode_utf16 (front ++ c ∷ [])), length-append (encode_utf16 d) (flat_map encode_utf16 front))

encodes-snoc : (front : List ℕ) (c : ℕ) → encodes (front ++ c ∷ []) ≡ encodes front ++ encode c
encodes-snoc front c = encodes-append front (c ∷ []) ∙ ap (λ (l : List ℕ). encodes front ++ l) (append-nil (encode c))

-- one character more
pub cut-more : (text : List ℕ) (units left len : ℕ) (rest behind : List ℕ) (c count size : ℕ) → CutSoFar text units left len rest → rest ≡ encode c ++ behind → count ≡ length (encode_utf16 c) → size ≡ length (encode c) → count ≤ left
    → CutSoFar text units (left - count) (len + size) behind
cut-more text units left len rest behind c count size so_far e count_is size_is le =
    let whole = encodes-snoc so_far.front c in
    record {
      front = so_far.front ++ c ∷ [];
      is_text = IsUtf8-past_char rest behind c so_far.is_text e;
      characters = so_far.characters ∙ ap (λ (l : List ℕ). so_far.front ++ l) (chars_past_char rest behind c so_far.is_text e) ∙ sym (append_assoc so_far.front (c ∷ []) (chars behind));
      counted = omega (arith, so_far.counted, units-snoc so_far.front c);
      joined = so_far.joined ∙ ap (λ (l : List ℕ). encodes so_far.front ++ l) e ∙ sym (append_assoc (encodes so_far.front) (encode c) behind) ∙ ap (λ (l : List ℕ). l ++ behind) (sym whole);
      len_is = omega (arith, so_far.len_is, size_is, ap length whole, length-append (encodes so_far.front) (encode c));
    }

-- what is cut off is within the text
pub cut-within : (text : List ℕ) (units left len : ℕ) (rest behind : List ℕ) (c : ℕ) → CutSoFar text units left len rest → rest ≡ encode c ++ behind → len + length (encode c) ≤ length text
cut-within text units left len rest behind c so_far e =
    omega (arith, so_far.len_is, ap length so_far.joined, length-append (encodes so_far.front) rest, ap length e, length-append (encode c) behind)

-- no units are left, and the text is cut here
pub cut-done : (text : List ℕ) (units left len : ℕ) (rest : List ℕ) → CutSoFar text units left len rest → left ≡ 0 → string_at units text ≡ Ok (take len text, drop len text)
cut-done text units left len rest so_far none =
    string_only units text (take len text) (drop len text) (record {
      front = so_far.front;
      back = chars rest;
      joined = so_far.characters;
      counted = omega (arith, so_far.counted);
      string_is = ap (take len) so_far.joined ∙ take_at (encodes so_far.front) rest len (sym so_far.len_is);
      rest_is = ap (drop len) so_far.joined ∙ drop_at (encodes so_far.front) rest len (sym so_far.len_is) ∙ sym (encodes-chars rest so_far.is_text);
    })

pub cut-between : (text : List ℕ) (units left len : ℕ) (rest : List ℕ) → CutSoFar text units left len rest → IsCharBoundary text len
cut-between text units left len rest so_far = rw so_far.len_is (IsCharBoundary-at_seam text (encodes so_far.front) rest so_far.joined so_far.is_text)

-- one unit is left, and the next character has two
pub cut-half : (text : List ℕ) (units left len : ℕ) (rest behind : List ℕ) (c : ℕ) → CutSoFar text units left len rest → rest ≡ encode c ++ behind → 0 < left → left < length (encode_utf16 c) → string_at units text ≡ Err HalfPair
cut-half text units left len rest behind c so_far e some few = elim (one_or_two c) [
  | inl one ↦ absurd (omega (arith, one.1))
  | inr two ↦ string_refused units text HalfPair (
    so_far.front,
    c,
    chars behind,
    so_far.characters ∙ ap (λ (l : List ℕ). so_far.front ++ l) (chars_past_char rest behind c so_far.is_text e),
    two.0,
    omega (arith, so_far.counted, two.1),
  )
]

-- units are left, and no character is
pub cut-short : (text : List ℕ) (units left len : ℕ) → CutSoFar text units left len [] → 0 < left → string_at units text ≡ Err ShortInput
cut-short text units left len so_far some =
    let all : chars text ≡ so_far.front = so_far.characters ∙ ap (λ (l : List ℕ). so_far.front ++ l) chars-nil ∙ append-nil so_far.front in
    string_refused units text ShortInput (omega (arith, so_far.counted, ap units_of_chars all))
