-- Ends of places in a list: what stands up to them has the one at the place in its past.
use Rattle.std.proofs.Common.{◌≡◌, ℕ, ◌+◌, ◌<◌, ◌≤◌, inl, inr, List, Some, length, get_or, set, sym, ap, ◌∙◌, subst, arith}
use Rattle.std.specs.Prelude.{slice_get}
use Rattle.std.proofs.lemmas.List.{get_or-set_same, get_or-set_other, length-set}
use Rattle.yd_words.proofs.OptionLemmas.{some_is}
use Rattle.yd_words.proofs.TestLemmas.{same_or_other, split}
use Rattle.yd_ids.specs.declared.id.Id.{Id}
use Rattle.yd_meaning.specs.Order.{IsPast, of_past}
use Rattle.yd_received.specs.Received.{ReceivedValue, held_of}
use Rattle.yd_honesty.specs.Judging.{AreEnds, IsEnd}
use Rattle.yd_honesty.proofs.NotingLemmas.{there_is_in}

module _ (r : ReceivedValue) (ids : List Id) where
  pub ends_none : (ends : List ℕ) → length ends ≡ length ids → AreEnds r ids ends (length ids)
  ends_none ends e = record {
    size = e;
    above = λ y from lt. absurd (omega (arith, from, lt));
    within = λ y from lt. absurd (omega (arith, from, lt));
    each = λ y m x z from there. absurd (omega (arith, from, (there_is_in ids y x there).1));
  }

  pub end_first : (at : ℕ) → at < length ids → IsEnd r ids at (at + 1)
  end_first at lt = record {
    above = omega arith;
    within = omega (arith, lt);
    each = λ m x z f g low high. inl (some_is z x (sym g ∙ ap (slice_get ids) (one m low high) ∙ f));
  }
    where
      one : (m : ℕ) → at ≤ m → m < at + 1 → m ≡ at
      one m low high = omega (arith, low, high)

  -- an end goes on where the id there has the one at the place in its past
  pub end_more : (ends : List ℕ) (at end : ℕ) (x z : Id) → AreEnds r ids ends (at + 1) → IsEnd r ids at end → slice_get ids at ≡ Some x → slice_get ids end ≡ Some z →
      IsPast (held_of r) z x → IsEnd r ids at (get_or ends end 0)
  end_more ends at end x z are so there other past = record {
    above = omega (arith, so.above, are.above end (omega (arith, so.above)) inside);
    within = are.within end (omega (arith, so.above)) inside;
    each = λ m y w f g low high. elim (split end m) [
      | inl le ↦ elim (are.each end m z w (omega (arith, so.above)) other g le high) [
        | inl same ↦ inr (subst (λ v. IsPast (held_of r) w v) (some_is x y (sym there ∙ f)) (subst (λ v. IsPast (held_of r) v x) (sym same) past))
        | inr more ↦ inr (subst (λ v. IsPast (held_of r) w v) (some_is x y (sym there ∙ f)) (of_past more past))
      ]
      | inr lt ↦ so.each m y w f g low lt
    ];
  }
    where
      inside : end < length ids
      inside = (there_is_in ids end z other).1

  pub ends_more : (ends : List ℕ) (at end : ℕ) → AreEnds r ids ends (at + 1) → at < length ids → IsEnd r ids at end → AreEnds r ids (set ends at end) at
  ends_more ends at end are lt so = record {
    size = length-set ends at end ∙ are.size;
    above = λ y from less. elim (same_or_other y at) [
      | inl one ↦ subst (λ n. y < n) (sym (here y one)) (subst (λ n. n < end) (sym one) so.above)
      | inr apart ↦ subst (λ n. y < n) (sym (get_or-set_other ends at y end 0 apart)) (are.above y (omega (arith, from, apart)) less)
    ];
    within = λ y from less. elim (same_or_other y at) [
      | inl one ↦ subst (λ n. n ≤ length ids) (sym (here y one)) so.within
      | inr apart ↦ subst (λ n. n ≤ length ids) (sym (get_or-set_other ends at y end 0 apart)) (are.within y (omega (arith, from, apart)) less)
    ];
    each = λ y m x z from f g low high. elim (same_or_other y at) [
      | inl one ↦ so.each m x z (subst (λ n. slice_get ids n ≡ Some x) one f) g (omega (arith, one, low)) (subst (λ n. m < n) (here y one) high)
      | inr apart ↦ are.each y m x z (omega (arith, from, apart)) f g low (subst (λ n. m < n) (get_or-set_other ends at y end 0 apart) high)
    ];
  }
    where
      here : (y : ℕ) → y ≡ at → get_or (set ends at end) y 0 ≡ end
      here y one = ap (λ n. get_or (set ends at end) n 0) one ∙ get_or-set_same ends at end 0 (omega (arith, are.size, lt))
