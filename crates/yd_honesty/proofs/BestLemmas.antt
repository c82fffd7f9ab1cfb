-- The smallest id that breaks the rules, found one after another.
use Rattle.std.proofs.Common.{◌≡◌, ℕ, ◌+◌, ◌⊎◌, true, false, List, Option, Some, None, inl, inr, refl, sym, ap, ◌∙◌, subst, arith, tests, true≢false}
use Rattle.std.specs.Prelude.{IfSome, slice_get}
use Rattle.yd_words.proofs.OptionLemmas.{some_is}
use Rattle.yd_words.proofs.TestLemmas.{same_or_other}
use Rattle.yd_ids.specs.declared.id.Id.{Id}
use Rattle.yd_ids.specs.Ids.{is_smaller}
use Rattle.yd_received.specs.Received.{ReceivedValue}
use Rattle.yd_honesty.specs.Judging.{Breaks, IsUpTo, IsBest, is_better}

not_itself : (x : Id) → is_smaller x x ≡ false
not_itself x = grind (arith, tests)

through : (a b c : Id) → is_smaller a b ≡ false → is_smaller b c ≡ false → is_smaller a c ≡ false
through a b c e f = grind (arith, tests)

back : (a b : Id) → is_smaller a b ≡ true → is_smaller b a ≡ false
back a b e = grind (arith, tests)

up_to_it : (x : Id) → IsUpTo (Some x) x
up_to_it x = record { least = x; is = refl; up_to = not_itself x }

module _ (r : ReceivedValue) (ids : List Id) (old : Option Id) where
  pub best_none : IsBest r ids 0 old old
  best_none = record {
    sound = go old refl;
    old_up_to = λ y e. subst (λ z. IsUpTo z y) (sym e) (up_to_it y);
    all = λ n y lt. absurd (omega (arith, lt));
  }
    where
      go : (z : Option Id) → old ≡ z → IfSome z (λ x. (old ≡ Some x) ⊎ Breaks r x)
      go None e = tt
      go (Some x) e = inl e

  module _ (n : ℕ) (now : Option Id) (x : Id) (there : slice_get ids n ≡ Some x) (best : IsBest r ids n old now) where
    -- an id that is greater, or keeps the rules, changes nothing
    pub best_same : (is_better now x ≡ false) ⊎ (Breaks r x → ⊥) → IsBest r ids (n + 1) old now
    best_same why = record {
      sound = best.sound;
      old_up_to = best.old_up_to;
      all = λ m y lt e breaks. elim (same_or_other m n) [
        | inl one ↦ elim why [
          | inl not_better ↦ greater now refl (subst (λ v. is_better now v ≡ false) (same m y one e) not_better)
          | inr keeps ↦ absurd (keeps (subst (λ v. Breaks r v) (sym (same m y one e)) breaks))
        ]
        | inr apart ↦ best.all m y (omega (arith, lt, apart)) e breaks
      ];
    }
      where
        same : (m : ℕ) (y : Id) → m ≡ n → slice_get ids m ≡ Some y → x ≡ y
        same m y one e = some_is x y (sym there ∙ ap (slice_get ids) (sym one) ∙ e)

        greater : {y : Id} (z : Option Id) → now ≡ z → is_better now y ≡ false → IsUpTo now y
        greater {y = y} None e f = absurd (true≢false (subst (λ z. is_better z y ≡ false) e f))
        greater {y = y} (Some least) e f = record { least = least; is = e; up_to = subst (λ z. is_better z y ≡ false) e f }

    -- a smaller one that breaks them is found
    pub best_more : is_better now x ≡ true → Breaks r x → IsBest r ids (n + 1) old (Some x)
    best_more better breaks = record {
      sound = inr breaks;
      old_up_to = λ y e. lower y (best.old_up_to y e);
      all = λ m y lt e other. elim (same_or_other m n) [
        | inl one ↦ subst (λ v. IsUpTo (Some x) v) (some_is x y (sym there ∙ ap (slice_get ids) (sym one) ∙ e)) (up_to_it x)
        | inr apart ↦ lower y (best.all m y (omega (arith, lt, apart)) e other)
      ];
    }
      where
        lower : (y : Id) → IsUpTo now y → IsUpTo (Some x) y
        lower y up = record {
          least = x;
          is = refl;
          up_to = through y up.least x up.up_to (back x up.least (subst (λ z. is_better z x ≡ true) up.is better));
        }
