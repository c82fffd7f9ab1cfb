use Rattle.std.proofs.Common.{◌≡◌, ℕ, ◌≤◌, ◌<◌, length, ap, sym, ◌∙◌, inl, inr, arith}
use Rattle.std.proofs.Math.Utf8.{encode}
use Rattle.std.proofs.lemmas.Bool.{cases_lt, le-ltb, lt-ltb}
use Rattle.std.proofs.lemmas.Str.{IsUtf8-past_char, length-encode}
use Rattle.std.proofs.lemmas.List.{length-append, nil_from_length}
use Rattle.std.proofs.str.Utf16.{one_unit, two_units}
use Rattle.std.specs.Char.{len_utf8}
use Rattle.std.specs.Char.Escape.{encode_utf16}
use Rattle.yd_units.proofs.TextLemmas.{units_of-step, units_of-nil}
use Rattle.yd_fields.proofs.lent.count_units.Goals as goal

-- a character has so many units, and no fewer bytes
some_bytes : (c : ℕ) → 1 ≤ len_utf8 c
some_bytes c = elim (cases_lt c 0x80) [
  | inl lt ↦ rw (lt-ltb c 0x80 lt) (omega arith)
  | inr le ↦ rw (le-ltb c 0x80 le) (elim (cases_lt c 0x800) [
    | inl lt ↦ rw (lt-ltb c 0x800 lt) (omega arith)
    | inr more ↦ rw (le-ltb c 0x800 more) (elim (cases_lt c 0x1_0000) [
      | inl lt ↦ rw (lt-ltb c 0x1_0000 lt) (omega arith)
      | inr most ↦ rw (le-ltb c 0x1_0000 most) (omega arith)
    ])
  ])
]

two_bytes : (c : ℕ) → 0x1_0000 ≤ c → 2 ≤ len_utf8 c
two_bytes c le = rw (le-ltb c 0x80 (omega arith), le-ltb c 0x800 (omega arith), le-ltb c 0x1_0000 le) (omega arith)

counted : (c n : ℕ) → (c < 0x1_0000 → n ≡ 1) → (0x1_0000 ≤ c → n ≡ 2) → (length (encode_utf16 c) ≡ n) × (n ≤ length (encode c))
counted c n one two = elim (cases_lt c 0x1_0000) [
  | inl lt ↦ (rw (one_unit c lt) (sym (one lt)), rw (length-encode c) (omega (arith, one lt, some_bytes c)))
  | inr le ↦ (rw (two_units c le) (sym (two le)), rw (length-encode c) (omega (arith, two le, two_bytes c le)))
]

pub loop-c-preserved : goal.loop-c-preserved
loop-c-preserved c =
    let held = c.loop-c.invariant in
    let parts = c.in-Some.ensures.steps.0 in
    let units = counted c.in-Some.c c.len_utf16.result c.len_utf16.ensures.bmp c.len_utf16.ensures.surrogate_pair in
    let split = ap length (units_of-step _ _ c.in-Some.c held.is_text parts) ∙ length-append (encode_utf16 c.in-Some.c) _ in
    let bytes = ap length parts ∙ length-append (encode c.in-Some.c) _ in
    record {
      is_text = IsUtf8-past_char _ _ c.in-Some.c held.is_text parts;
      joined = omega (arith, held.joined, split, units.0);
      bound = omega (arith, held.bound, bytes, units.1);
    }

pub returns : goal.returns
returns c = omega (arith, ap length units_of-nil, rw (nil_from_length _ c.in-None.ensures.steps.0.0) at c.loop-c.invariant.joined)
