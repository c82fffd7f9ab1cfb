-- The walk that finds of which entries less is told.
use Rattle.std.proofs.Common.{◌≡◌, ℕ, ◌+◌, ◌++◌, Bool, true, false, List, [], ◌∷◌, inl, inr, Some, refl, sym, ap, ◌∙◌, subst, arith, true≢false}
use Rattle.std.specs.Prelude.{slice_get, ◌&&◌}
use Rattle.yd_words.specs.Member.{IsIn}
use Rattle.yd_words.proofs.MemberLemmas.{in_left_part, in_right_part, in_with_last}
use Rattle.yd_words.proofs.OptionLemmas.{some_is}
use Rattle.yd_words.proofs.TestLemmas.{same_or_other}
use Rattle.yd_entries.specs.declared.entry.Entry.{Entry}
use Rattle.yd_held.specs.Telling.{is_held_less, AreHeldLess}

-- of no entries none are so
pub less_none : (from : ℕ) (taken : List Entry) (told : List ℕ) → told ≡ [] → AreHeldLess from taken 0 told
less_none from taken told none = record {
  each = λ at i. absurd (subst (λ ns. IsIn at ns) none i);
  all = λ at lt. absurd (omega (arith, lt));
}

-- one more that is so
pub less_more : (from : ℕ) (taken : List Entry) (at : ℕ) (told more : List ℕ) (u : Entry) → slice_get taken at ≡ Some u → more ≡ told ++ at ∷ [] → is_held_less from u ≡ true →
    AreHeldLess from taken at told → AreHeldLess from taken (at + 1) more
less_more from taken at told more u here e passes were = record {
  each = λ n i. elim (in_with_last told at n (subst (λ ns. IsIn n ns) e i)) [
    | inl j ↦ were.each n j
    | inr last ↦ (u, ap (slice_get taken) last ∙ here, passes)
  ];
  all = λ n less t got so. subst (λ ns. IsIn n ns) (sym e) (elim (same_or_other n at) [
    | inl same ↦ in_right_part n told (at ∷ []) (inl same)
    | inr other ↦ in_left_part n told (at ∷ []) (were.all n (omega (arith, less, other)) t got so)
  ]);
}

-- one more that is not
pub less_same : (from : ℕ) (taken : List Entry) (at : ℕ) (told : List ℕ) (u : Entry) → slice_get taken at ≡ Some u → is_held_less from u ≡ false →
    AreHeldLess from taken at told → AreHeldLess from taken (at + 1) told
less_same from taken at told u here fails were = record {
  each = were.each;
  all = λ n less t got so. elim (same_or_other n at) [
    | inl same ↦ absurd (true≢false (sym so ∙ ap (is_held_less from) (sym (some_is u t (sym here ∙ ap (slice_get taken) (sym same) ∙ got))) ∙ fails))
    | inr other ↦ were.all n (omega (arith, less, other)) t got so
  ];
}

-- of two tests that do not both hold
pub fails_second : (s t : Bool) → false ≡ t → s && t ≡ false
fails_second true t e = sym e
fails_second false t e = refl

pub fails_first : (s t : Bool) → s ≡ false → s && t ≡ false
fails_first true t e = absurd (true≢false e)
fails_first false t e = refl
