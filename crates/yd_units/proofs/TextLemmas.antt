-- Texts and units, one character after the other.
use Rattle.std.proofs.Common.{◌≡◌, ℕ, zero, suc, ◌^◌, ◌<◌, ◌⊎◌, true, List, [], ◌∷◌, ◌++◌, length, get_or, Option, Some, IsUtf8, refl, sym, ap, ◌∙◌, inl, inr, append_assoc, arith}
use Rattle.std.proofs.Math.ListN.{get_or-eq_default}
use Rattle.std.proofs.Math.Utf8.{scalar, scalars, encode, encodes}
use Rattle.std.proofs.lemmas.Bool.{and_parts, lt-ltb}
use Rattle.std.proofs.lemmas.List.{map-append}
use Rattle.std.proofs.lemmas.Str.{chars-IsAscii, chars-nil, chars-encodes, chars_past_char, encodes-append, encodes-chars, scalars-chars, utf16_chars-nil}
use Rattle.std.proofs.str.Utf16.{one_unit}
use Rattle.std.specs.Char.Escape.{encode_utf16}
use Rattle.std.specs.Char.Utf16.{utf16_chars, utf16_lossy_chars, lone_unit_char, surrogate_pair_char}
use Rattle.std.specs.List.{flat_map, AllByRecursion}
use Rattle.std.specs.Option.{unwrap_or}
use Rattle.std.specs.Str.{chars, IsAscii}
use Rattle.yd_units.specs.Half.{AreUnits, IsHigh, IsLow, IsCut, IsWhole, IsLone}
use Rattle.yd_units.specs.Text.{units_of, text_of, replacement}
use Rattle.yd_units.proofs.CharLemmas.{one_or_two, partners_or, half_cases, chars_pair, chars_alone, char_plain, char_half, pair_spelled, pair_scalar, plain_scalar}
use Rattle.yd_units.proofs.CutLemmas.{last_of, Meet, cut_at_seam, next_cut}
use Rattle.yd_units.proofs.HalfLemmas.{WholeAfter, whole_after, after_whole, calm}

-- each unit has 16 bits, one behind the other
abbrev pub AllFit : List ℕ → Type 0
AllFit us = AllByRecursion (λ u. u < 2 ^ 16) us

all_fit : (us : List ℕ) → AreUnits us → AllFit us
all_fit [] f = tt
all_fit (u ∷ us) f = (f 0, all_fit us (λ i. f (suc i)))

each_fits : (us : List ℕ) → AllFit us → AreUnits us
each_fits [] f i = omega (arith, get_or-eq_default {A = ℕ} [] 0 {n = i} (omega arith))
each_fits (u ∷ us) f zero = f.0
each_fits (u ∷ us) f (suc i) = each_fits us f.1 i

-- ---- from a text

each_unit : (bytes : List ℕ) → IsAscii bytes → flat_map encode_utf16 bytes ≡ bytes
each_unit [] is = refl
each_unit (b ∷ rest) is =
    let small : b < 0x1_0000 = omega (arith, is 0) in
    rw (lt-ltb b 0x1_0000 small, each_unit rest (λ i. is (suc i))) refl

-- bytes below 128 are units by themselves
pub units_of_ascii : (text : List ℕ) → IsAscii text → units_of text ≡ text
unfolding units_of
units_of_ascii text is = rw (chars-IsAscii text is) (each_unit text is)

units_chars : (cs : List ℕ) → scalars cs ≡ true → utf16_lossy_chars (flat_map encode_utf16 cs) ≡ cs
units_chars [] is = rw utf16_chars-nil refl
units_chars (c ∷ cs) is =
    let p = and_parts (scalar c) (scalars cs) is in
    elim (one_or_two c p.0) [
      | inl one ↦ rw (one.spelled, chars_alone c (flat_map encode_utf16 cs) (λ m. one.no_high m.0), char_plain c one.no_high one.no_low) (ap (λ (l : List ℕ). c ∷ l) (units_chars cs p.1))
      | inr two ↦ rw (two.spelled, chars_pair two.high two.low (flat_map encode_utf16 cs) two.is_high two.is_low, two.makes) (ap (λ (l : List ℕ). c ∷ l) (units_chars cs p.1))
    ]

units_whole : (u : ℕ) (cs : List ℕ) → ¬ (IsHigh u) → scalars cs ≡ true → WholeAfter u (flat_map encode_utf16 cs)
units_whole u [] quiet is = quiet
units_whole u (c ∷ cs) quiet is =
    let p = and_parts (scalar c) (scalars cs) is in
    elim (one_or_two c p.0) [
      | inl one ↦ rw one.spelled ((λ high. absurd (quiet high), λ low. absurd (one.no_low low)), units_whole c cs one.no_high p.1)
      | inr two ↦ rw two.spelled ((λ high. absurd (quiet high), λ low. absurd (omega (arith, two.is_high, low))), ((λ high. two.is_low, λ low. two.is_high), units_whole two.low cs (λ high. omega (arith, two.is_low, high)) p.1))
    ]

units_fit : (cs : List ℕ) → scalars cs ≡ true → AllFit (flat_map encode_utf16 cs)
units_fit [] is = tt
units_fit (c ∷ cs) is =
    let p = and_parts (scalar c) (scalars cs) is in
    elim (one_or_two c p.0) [
      | inl one ↦ rw one.spelled (one.fits, units_fit cs p.1)
      | inr two ↦ rw two.spelled (omega (arith, two.is_high), (omega (arith, two.is_low), units_fit cs p.1))
    ]

-- ---- from units

lone_scalar : (u : ℕ) → u < 2 ^ 16 → scalar (unwrap_or (lone_unit_char u) 0xFFFD) ≡ true
lone_scalar u lt = elim (half_cases u) [
  | inl half ↦ rw (char_half u half) refl
  | inr plain ↦ rw (char_plain u plain.0 plain.1) (plain_scalar u plain.0 plain.1 lt)
]

no_partner : (u : ℕ) → ¬ (IsHigh u × IsLow (get_or [] 0 0))
no_partner u m = absurd (omega (arith, m.1))

lossy_scalars : (us : List ℕ) → AllFit us → scalars (utf16_lossy_chars us) ≡ true
lossy_scalars [] f = rw utf16_chars-nil refl
lossy_scalars (u ∷ []) f = rw (chars_alone u [] (no_partner u), utf16_chars-nil, lone_scalar u f.0) refl
lossy_scalars (u ∷ v ∷ us) f = elim (partners_or u v) [
  | inl m ↦ rw (chars_pair u v us m.0 m.1, pair_scalar u v m.0 m.1) (lossy_scalars us f.1.1)
  | inr apart ↦ rw (chars_alone u (v ∷ us) apart, lone_scalar u f.0) (lossy_scalars (v ∷ us) f.1)
]

whole_units : (us : List ℕ) → AllFit us → WholeAfter 0 us → flat_map encode_utf16 (utf16_lossy_chars us) ≡ us
whole_units [] f w = rw utf16_chars-nil refl
whole_units (u ∷ []) f w =
    let no_low : ¬ (IsLow u) = λ low. absurd (omega (arith, w.0.1 low)) in
    rw (chars_alone u [] (no_partner u), utf16_chars-nil, char_plain u w.1 no_low, one_unit u f.0) refl
whole_units (u ∷ v ∷ us) f w = elim (partners_or u v) [
  | inl m ↦
      rw (chars_pair u v us m.0 m.1, pair_spelled u v m.0 m.1)
      (ap (λ (l : List ℕ). u ∷ v ∷ l) (whole_units us f.1.1 (calm v us w.1.1 (λ high. omega (arith, m.1, high)))))
  | inr apart ↦
      let no_low : ¬ (IsLow u) = λ low. absurd (omega (arith, w.0.1 low)) in
      let no_high : ¬ (IsHigh u) = λ high. apart (high, w.1.0.0 high) in
      rw (chars_alone u (v ∷ us) apart, char_plain u no_high no_low, one_unit u f.0)
      (ap (λ (l : List ℕ). u ∷ l) (whole_units (v ∷ us) f.1 (calm u (v ∷ us) w.1 no_high)))
]

quiet_last : (v : ℕ) (us ys : List ℕ) → ¬ (IsHigh (last_of v us) × IsLow (get_or ys 0 0)) → ¬ (Meet us ys)
quiet_last v [] ys apart = λ m. absurd (omega (arith, m.0))
quiet_last v (u ∷ us) ys apart = apart

chars_parts : (xs ys : List ℕ) → ¬ (Meet xs ys) → utf16_chars (xs ++ ys) ≡ utf16_chars xs ++ utf16_chars ys
chars_parts [] ys apart = rw utf16_chars-nil refl
chars_parts (u ∷ []) ys apart = rw (chars_alone u ys apart, chars_alone u [] (no_partner u), utf16_chars-nil) refl
chars_parts (u ∷ v ∷ us) ys apart = elim (partners_or u v) [
  | inl m ↦
      rw (chars_pair u v (us ++ ys) m.0 m.1, chars_pair u v us m.0 m.1)
      (ap (λ (l : List (Option ℕ)). Some (surrogate_pair_char u v) ∷ l) (chars_parts us ys (quiet_last v us ys apart)))
  | inr alone ↦
      rw (chars_alone u (v ∷ us ++ ys) alone, chars_alone u (v ∷ us) alone)
      (ap (λ (l : List (Option ℕ)). lone_unit_char u ∷ l) (chars_parts (v ∷ us) ys apart))
]

-- ---- lemmas for callers

-- a text comes back
pub text_back : (t : List ℕ) → IsUtf8 t → text_of (units_of t) ≡ t
unfolding text_of units_of
text_back t is = ap encodes (units_chars (chars t) (scalars-chars t is)) ∙ encodes-chars t is

pub text_whole : (t : List ℕ) → IsUtf8 t → IsWhole (units_of t)
unfolding units_of
text_whole t is = after_whole (units_of t) (units_whole 0 (chars t) (λ high. omega arith) (scalars-chars t is))

pub text_fits : (t : List ℕ) → IsUtf8 t → AreUnits (units_of t)
unfolding units_of
text_fits t is = each_fits (units_of t) (units_fit (chars t) (scalars-chars t is))

-- units make a text, and whole ones come back
pub units_text : (us : List ℕ) → AreUnits us → IsUtf8 (text_of us)
unfolding text_of
units_text us f = (utf16_lossy_chars us, (lossy_scalars us (all_fit us f), refl))

pub units_back : (us : List ℕ) → AreUnits us → IsWhole us → units_of (text_of us) ≡ us
unfolding text_of units_of
units_back us f w = let fits = all_fit us f in rw (chars-encodes (utf16_lossy_chars us) (lossy_scalars us fits)) (whole_units us fits (whole_after us w))

-- a text in parts
pub text_parts : (before after : List ℕ) → ¬ (IsCut (before ++ after) (length before)) → text_of (before ++ after) ≡ text_of before ++ text_of after
unfolding text_of
text_parts before after uncut =
    let whole = chars_parts before after (λ m. uncut (cut_at_seam before after m)) in
    rw (whole, map-append (λ (o : Option ℕ). unwrap_or o 0xFFFD) (utf16_chars before) (utf16_chars after)) (encodes-append (utf16_lossy_chars before) (utf16_lossy_chars after))

half_first : (u : ℕ) (after : List ℕ) → IsHigh u ⊎ IsLow u → ¬ (IsHigh u × IsLow (get_or after 0 0)) → text_of (u ∷ after) ≡ replacement ++ text_of after
unfolding text_of encode
half_first u after half apart = rw (chars_alone u after apart, char_half u half) refl

pub text_lone : (before : List ℕ) (u : ℕ) (after : List ℕ) → IsLone before u after → text_of (before ++ u ∷ after) ≡ text_of before ++ replacement ++ text_of after
text_lone before u after lone =
    text_parts before (u ∷ after) lone.no_high
    ∙ ap (λ (l : List ℕ). text_of before ++ l) (half_first u after lone.half (λ m. lone.no_low (next_cut before u after m)))
    ∙ sym (append_assoc (text_of before) replacement (text_of after))

-- the units of a text, one character more
pub units_of-step : (bs rest : List ℕ) (c : ℕ) → IsUtf8 bs → bs ≡ encode c ++ rest → units_of bs ≡ encode_utf16 c ++ units_of rest
unfolding units_of
units_of-step bs rest c is e = rw (chars_past_char bs rest c is e) refl

pub units_of-nil : units_of [] ≡ []
unfolding units_of
units_of-nil = rw chars-nil refl

-- the text of units, one character more
pub text_of-step : (us rest : List ℕ) (o : Option ℕ) → utf16_chars us ≡ o ∷ utf16_chars rest → text_of us ≡ encode (unwrap_or o 0xFFFD) ++ text_of rest
unfolding text_of
text_of-step us rest o e = rw e refl

pub text_of-nil : text_of [] ≡ []
unfolding text_of
text_of-nil = rw utf16_chars-nil refl
