-- A text is cut behind so many units, or cannot be.
use Rattle.std.proofs.Common.{◌≡◌, ℕ, zero, suc, ◌+◌, ◌^◌, ◌<◌, ◌≤◌, List, [], ◌∷◌, ◌++◌, length, Result, Ok, Err, refl, sym, ap, subst, ◌∙◌, inl, inr, arith, length-append, ◌-◌}
use Rattle.std.proofs.lemmas.Bool.{le-ltb, lt-ltb}
use Rattle.std.specs.Char.Escape.{encode_utf16}
use Rattle.yd_cols.specs.Reading.{and_then, chars_at}
use Rattle.yd_cols.specs.Taking.{CannotCut, units_of_chars}
use Rattle.yd_cols.specs.declared.fault.ColCause.{ColCause}
use Rattle.yd_cols.specs.declared.fault.ColCause.TheVariants.{ShortInput, NumberTooLarge, BadUtf8, HalfPair, ColumnLeft}
use Rattle.yd_cols.proofs.UnitLemmas.{one_or_two}
use Rattle.yd_num.proofs.ReadingLemmas.{ok_value}

-- ---- one character more

-- a character stands before what is read
abbrev pub with_char : ℕ → Result (List ℕ × List ℕ) ColCause → Result (List ℕ × List ℕ) ColCause
with_char c read = and_then read (λ parts. Ok (c ∷ parts.0, parts.1))

units-cons : (c : ℕ) (cs : List ℕ) → units_of_chars (c ∷ cs) ≡ length (encode_utf16 c) + units_of_chars cs
units-cons c cs = length-append (encode_utf16 c) _

at-one : (c : ℕ) (cs : List ℕ) (units : ℕ) → c < 2 ^ 16 → chars_at (suc units) (c ∷ cs) ≡ with_char c (chars_at units cs)
at-one c cs zero lt = rw (lt-ltb c (2 ^ 16) lt) refl
at-one c cs (suc units) lt = rw (lt-ltb c (2 ^ 16) lt) refl

at-two : (c : ℕ) (cs : List ℕ) (units : ℕ) → 2 ^ 16 ≤ c → chars_at (suc (suc units)) (c ∷ cs) ≡ with_char c (chars_at units cs)
at-two c cs units le = rw (le-ltb c (2 ^ 16) le) refl

at-half : (c : ℕ) (cs : List ℕ) → 2 ^ 16 ≤ c → chars_at 1 (c ∷ cs) ≡ Err HalfPair
at-half c cs le = rw (le-ltb c (2 ^ 16) le) refl

-- where there are units for a character, it is the first
at-char : (c : ℕ) (cs : List ℕ) (all units : ℕ) → all ≡ length (encode_utf16 c) + units → chars_at all (c ∷ cs) ≡ with_char c (chars_at units cs)
at-char c cs all units e = elim (one_or_two c) [
  | inl one ↦ let is : all ≡ suc units = omega (arith, one.1) in rw is (at-one c cs units one.0)
  | inr two ↦ let is : all ≡ suc (suc units) = omega (arith, two.1) in rw is (at-two c cs units two.0)
]

-- of a number of units, and a character: there are none, or enough for it, or the cut parts it
pub data Cutting (units c : ℕ) : Type 0 where
  nothing : units ≡ 0 → Cutting units c
  whole : (rest : ℕ) → units ≡ length (encode_utf16 c) + rest → Cutting units c
  parted : 2 ^ 16 ≤ c → units ≡ 1 → Cutting units c

cutting : (units c : ℕ) → Cutting units c
cutting zero c = nothing refl
cutting (suc zero) c = elim (one_or_two c) [
  | inl one ↦ whole 0 (omega (arith, one.1))
  | inr two ↦ parted two.0 refl
]
cutting (suc (suc units)) c = elim (one_or_two c) [
  | inl one ↦ whole (suc units) (omega (arith, one.1))
  | inr two ↦ whole units (omega (arith, two.1))
]

-- ---- what reading gives

-- a reading that is given has one front and one back
pub parts_same : (front back front' back' : List ℕ) → ◌≡◌ {A = Result (List ℕ × List ℕ) ColCause} (Ok (front, back)) (Ok (front', back')) → (front ≡ front') × (back ≡ back')
parts_same front back front' back' e =
    let is = ok_value {E = ColCause} (front, back) (front', back') e in
    (ap (λ (parts : List ℕ × List ℕ). parts.0) is, ap (λ (parts : List ℕ × List ℕ). parts.1) is)

-- what a character stands before
cons_given : (c : ℕ) (read : Result (List ℕ × List ℕ) ColCause) (front back : List ℕ) → with_char c read ≡ Ok (front, back) → (rest : List ℕ) × (read ≡ Ok (rest, back)) × (front ≡ c ∷ rest)
cons_given c (Ok parts) front back e =
    let is = parts_same (c ∷ parts.0) parts.1 front back e in
    (parts.0, ap (λ (l : List ℕ). Ok (parts.0, l)) is.1, sym is.0)
cons_given c (Err cause) front back e = absurd cc

cons_failed : (c : ℕ) (read : Result (List ℕ × List ℕ) ColCause) (cause : ColCause) → with_char c read ≡ Err cause → read ≡ Err cause
cons_failed c (Ok parts) cause e = absurd cc
cons_failed c (Err other) cause e = cc

-- the front of a text with so many units is given, and what is behind it
pub cut_only : (front back : List ℕ) (units : ℕ) → units ≡ units_of_chars front → chars_at units (front ++ back) ≡ Ok (front, back)
cut_only [] back units e = rw e refl
cut_only (c ∷ front) back units e =
    at-char c (front ++ back) units (units_of_chars front) (e ∙ units-cons c front) ∙ ap (with_char c) (cut_only front back (units_of_chars front) refl)

-- what is given is such a front
pub cut_found : (cs : List ℕ) (units : ℕ) (front back : List ℕ) → chars_at units cs ≡ Ok (front, back) → (cs ≡ front ++ back) × (units ≡ units_of_chars front)
cut_found [] zero front back e = let is = parts_same [] [] front back e in rw (sym is.0) (is.1, refl)
cut_found [] (suc units) front back e = absurd cc
cut_found (c ∷ cs) units front back e = elim (cutting units c) [
  | nothing none ↦
      let is = parts_same [] (c ∷ cs) front back (rw none at e) in
      rw (sym is.0) (is.1, none)
  | whole rest enough ↦
      let given = cons_given c (chars_at rest cs) front back (sym (at-char c cs units rest enough) ∙ e) in
      let found = cut_found cs rest given.0 back given.1 in
      (ap (λ (l : List ℕ). c ∷ l) found.0 ∙ ap (λ (l : List ℕ). l ++ back) (sym given.2), enough ∙ ap (λ (n : ℕ). length (encode_utf16 c) + n) found.1 ∙ sym (units-cons c given.0) ∙ ap (λ (l : List ℕ). units_of_chars l) (sym given.2))
  | parted large one ↦
      let is : ◌≡◌ {A = Result (List ℕ × List ℕ) ColCause} (Err HalfPair) (Ok (front, back)) = sym (at-half c cs large) ∙ (rw one at e) in
      absurd cc
]

-- ---- what reading refuses

half_cut : (front : List ℕ) (c : ℕ) (back : List ℕ) (units : ℕ) → 2 ^ 16 ≤ c → units ≡ units_of_chars front + 1 → chars_at units (front ++ c ∷ back) ≡ Err HalfPair
half_cut [] c back units large e = rw e (at-half c back large)
half_cut (d ∷ front) c back units large e =
    at-char d (front ++ c ∷ back) units (units_of_chars front + 1) (omega (arith, units-cons d front)) ∙ ap (with_char d) (half_cut front c back (units_of_chars front + 1) large refl)

short_cut : (cs : List ℕ) (units : ℕ) → units_of_chars cs < units → chars_at units cs ≡ Err ShortInput
short_cut [] zero lt = absurd (omega arith)
short_cut [] (suc units) lt = refl
short_cut (c ∷ cs) units lt =
    let rest : ℕ = units - length (encode_utf16 c) in
    let more = units-cons c cs in
    at-char c cs units rest (omega (arith, more)) ∙ ap (with_char c) (short_cut cs rest (omega (arith, more)))

-- where a text cannot be cut, reading says why
pub cut_refused : (cs : List ℕ) (units : ℕ) (cause : ColCause) → CannotCut cs units cause → chars_at units cs ≡ Err cause
cut_refused cs units ShortInput cannot = short_cut cs units cannot
cut_refused cs units HalfPair cannot = rw cannot.3 (half_cut cannot.0 cannot.1 cannot.2 units cannot.4 cannot.5)
cut_refused cs units NumberTooLarge cannot = absurd cannot
cut_refused cs units BadUtf8 cannot = absurd cannot
cut_refused cs units ColumnLeft cannot = absurd cannot

-- one character more stands at the front of a text that cannot be cut
cannot_more : (c : ℕ) (cs : List ℕ) (units rest : ℕ) (cause : ColCause) → units ≡ length (encode_utf16 c) + rest → CannotCut cs rest cause → CannotCut (c ∷ cs) units cause
cannot_more c cs units rest ShortInput e cannot = omega (arith, units-cons c cs, cannot)
cannot_more c cs units rest HalfPair e cannot = (c ∷ cannot.0, cannot.1, cannot.2, ap (λ (l : List ℕ). c ∷ l) cannot.3, cannot.4, omega (arith, units-cons c cannot.0, cannot.5))
cannot_more c cs units rest NumberTooLarge e cannot = absurd cannot
cannot_more c cs units rest BadUtf8 e cannot = absurd cannot
cannot_more c cs units rest ColumnLeft e cannot = absurd cannot

-- where reading refuses, the text cannot be cut so
pub cut_failed : (cs : List ℕ) (units : ℕ) (cause : ColCause) → chars_at units cs ≡ Err cause → CannotCut cs units cause
cut_failed [] zero cause e = absurd cc
cut_failed [] (suc units) cause e = subst (λ (x : ColCause). CannotCut [] (suc units) x) (short_is e) (omega arith)
  where
    short_is : ◌≡◌ {A = Result (List ℕ × List ℕ) ColCause} (Err ShortInput) (Err cause) → ShortInput ≡ cause
    short_is is = cc
cut_failed (c ∷ cs) units cause e = elim (cutting units c) [
  | nothing none ↦
      let is : ◌≡◌ {A = Result (List ℕ × List ℕ) ColCause} (Ok ([], c ∷ cs)) (Err cause) = rw none at e in
      absurd cc
  | whole rest enough ↦ cannot_more c cs units rest cause enough (cut_failed cs rest cause (cons_failed c (chars_at rest cs) cause (sym (at-char c cs units rest enough) ∙ e)))
  | parted large one ↦
      let is : ◌≡◌ {A = Result (List ℕ × List ℕ) ColCause} (Err HalfPair) (Err cause) = sym (at-half c cs large) ∙ (rw one at e) in
      let half : HalfPair ≡ cause = cc in
      subst (λ (x : ColCause). CannotCut (c ∷ cs) units x) half ([], c, cs, refl, large, one)
]
