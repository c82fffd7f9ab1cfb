use Rattle.std.proofs.Common.{◌≡◌, ℕ, ◌+◌, ◌≤◌, ◌∷◌, get_or, drop, Option, None, Some, SomeIff, IsSome, sym, ap, ◌∙◌, inl, inr, arith}
use Rattle.std.proofs.Math.ListN.{get_or-eq_default}
use Rattle.std.proofs.str.Utf16.{IsPair, lone_unit_char_low, lone_unit_char_high, lone_unit_char_surrogate, utf16_chars-drop_lone, utf16_chars-drop_pair}
use Rattle.std.specs.Char.{IsScalar}
use Rattle.std.specs.Char.Utf16.{utf16_chars, lone_unit_char, surrogate_pair_char}
use Rattle.yd_units.proofs.spelling.char_at.Goals as goal

is_value : (r : Option ℕ) (v : ℕ) → SomeIff r (IsScalar v) v → IsSome r → Some v ≡ r
is_value None v h some = cc
is_value (Some x) v h some = ap Some (sym h.1)

pub returns-then-unit-lt55296-clause-first : goal.returns-then-unit-lt55296-clause-first
returns-then-unit-lt55296-clause-first c =
    let us = c.args.units.now in
    let at = c.args.at in
    let u = get_or us at 0 in
    let lone : lone_unit_char u ≡ c.from_u32.result = elim c.then-unit-lt55296.branch [
      | goal.then-unit-lt55296-via-then-unit-lt55296 w ↦
          let low = w.if-unit-lt55296.true in lone_unit_char_low u low ∙ is_value c.from_u32.result u c.from_u32.ensures.value (c.from_u32.ensures.succeeds (inl low))
      | goal.then-unit-lt55296-via-else-unit-lt55296+then-unit-gt57343 w ↦
          let high : 0xE000 ≤ u = omega (arith, w.if-unit-gt57343.true) in lone_unit_char_high u high ∙ is_value c.from_u32.result u c.from_u32.ensures.value (c.from_u32.ensures.succeeds (inr (high, omega arith)))
    ] in
    utf16_chars-drop_lone us at c.requires (λ pair. elim c.then-unit-lt55296.branch as (λ _. ⊥) [
      | goal.then-unit-lt55296-via-then-unit-lt55296 w ↦ omega arith
      | goal.then-unit-lt55296-via-else-unit-lt55296+then-unit-gt57343 w ↦ omega arith
    ]) ∙ ap (λ (o : Option ℕ). o ∷ utf16_chars (drop (at + 1) us)) lone

pub returns-then-unit-ge56320-clause-first : goal.returns-then-unit-ge56320-clause-first
returns-then-unit-ge56320-clause-first c =
    let us = c.args.units.now in
    let at = c.args.at in
    let apart = λ (pair : IsPair (get_or us at 0) (get_or us (at + 1) 0)). elim c.then-unit-ge56320.branch as (λ _. ⊥) [
      | goal.then-unit-ge56320-via-then-unit-ge56320 w ↦ omega arith
      | goal.then-unit-ge56320-via-else-unit-ge56320+then-units-at-lt2 w ↦ omega (arith, get_or-eq_default us 0 {n = at + 1} (omega arith))
      | goal.then-unit-ge56320-via-else-unit-ge56320+else-units-at-lt2+then-not-is_low w ↦ let low = w.is_low.ensures.1 (pair.2, omega arith) in cc
    ] in
    utf16_chars-drop_lone us at c.requires apart
    ∙ ap (λ (o : Option ℕ). o ∷ utf16_chars (drop (at + 1) us)) (lone_unit_char_surrogate (get_or us at 0) (omega arith) (omega arith))

pub returns-clause-first : goal.returns-clause-first
returns-clause-first c =
    let us = c.args.units.now in
    let at = c.args.at in
    let u = get_or us at 0 in
    let v = get_or us (at + 1) 0 in
    let low = c.is_low.ensures.0 c.if-not-is_low.false in
    let made = is_value c.from_u32-2.result (surrogate_pair_char u v) c.from_u32-2.ensures.value (c.from_u32-2.ensures.succeeds (inr (omega arith, omega arith))) in
    utf16_chars-drop_pair us at (omega arith) (omega arith, omega arith, omega arith, omega arith)
    ∙ ap (λ (o : Option ℕ). o ∷ utf16_chars (drop (at + 2) us)) made
