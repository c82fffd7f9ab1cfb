-- Rows in the order of a height that falls to lefts, rights and smaller clocks are in an arrangement.
use Rattle.std.proofs.Common.{ℕ, ◌<◌, ◌≤◌, Bool, true, false, List, [], ◌∷◌, ◌⊎◌, inl, inr, refl, sym, ap, subst, arith}
use Rattle.std.specs.Prelude.{IfSome, nat_lt, if◌then◌else◌}
use Rattle.yd_words.specs.Member.{IsIn, AreDistinct}
use Rattle.yd_words.proofs.OptionLemmas.{if_some_both}
use Rattle.yd_words.proofs.TestLemmas.{nat_lt_says}
use Rattle.yd_ids.specs.declared.id.Id.{Id}
use Rattle.yd_ids.specs.Ids.{HasSmallerClock}
use Rattle.yd_origins.specs.Table.{OriginTable, ids_of, left_of, right_of, IsTable}
use Rattle.yd_origins.specs.Sorted.{with_id, sorted}
use Rattle.yd_origins.specs.Growing.{IsArrangement}
use Rattle.yd_origins.proofs.SortedLemmas.{with_id_has, in_sorted, sorted_has}

module _ (height : Id → ℕ) where
  -- whether the first is lower
  abbrev pub is_lower : Id → Id → Bool
  is_lower a b = nat_lt (height a) (height b)

  -- each is no higher than those behind it
  abbrev Rising : List Id → Type 0
  Rising [] = Unit {0}
  Rising (x ∷ xs) = ((y : Id) → IsIn y xs → height x ≤ height y) × Rising xs

  with_rising : (x : Id) (ys : List Id) → Rising ys → Rising (with_id is_lower x ys)
  with_rising x [] r = ((λ y i. absurd i), tt)
  with_rising x (y ∷ ys) r = elim (nat_lt_says (height x) (height y)) [
    | inl low ↦ rw low.0 ((λ z i. elim i [ inl e ↦ omega (arith, low.1, ap height e) | inr j ↦ omega (arith, low.1, r.0 z j) ]), r)
    | inr high ↦ rw high.0 (
      (λ z i. elim (with_id_has is_lower x ys z i) [ inl e ↦ omega (arith, high.1, ap height e) | inr j ↦ r.0 z j ]),
      with_rising x ys r.1,
    )
  ]

  sorted_rising : (xs : List Id) → Rising (sorted is_lower xs)
  sorted_rising [] = tt
  sorted_rising (x ∷ xs) = with_rising x (sorted is_lower xs) (sorted_rising xs)

  with_distinct : (x : Id) (ys : List Id) → (IsIn x ys → ⊥) → AreDistinct ys → AreDistinct (with_id is_lower x ys)
  with_distinct x [] new a = (new, tt)
  with_distinct x (y ∷ ys) new a = go (is_lower x y) (with_distinct x ys (λ i. new (inr i)) a.1)
    where
      go : (t : Bool) → AreDistinct (with_id is_lower x ys) → AreDistinct (if t then x ∷ y ∷ ys else y ∷ with_id is_lower x ys)
      go true b = (new, a)
      go false b = ((λ i. elim (with_id_has is_lower x ys y i) [ inl e ↦ new (inl (sym e)) | inr j ↦ a.0 j ]), b)

  sorted_distinct : (xs : List Id) → AreDistinct xs → AreDistinct (sorted is_lower xs)
  sorted_distinct [] a = tt
  sorted_distinct (x ∷ xs) a = with_distinct x (sorted is_lower xs) (λ i. a.0 (sorted_has is_lower xs x i)) (sorted_distinct xs a.1)

  module _ (table : OriginTable) (t : IsTable table)
      (left : (x : Id) → IsIn x (ids_of table) → IfSome (left_of table x) (λ y. height y < height x))
      (right : (x : Id) → IsIn x (ids_of table) → IfSome (right_of table x) (λ y. height y < height x))
      (clocks : (x y : Id) → IsIn x (ids_of table) → IsIn y (ids_of table) → HasSmallerClock y x → height y < height x) where
    rising_arranged : (rest done : List Id) → Rising rest → AreDistinct rest → ((x : Id) → IsIn x rest → IsIn x done → ⊥) →
        ((x : Id) → IsIn x rest → IsIn x (ids_of table)) → ((y : Id) → IsIn y (ids_of table) → IsIn y done ⊎ IsIn y rest) → IsArrangement table done rest
    rising_arranged [] done r d apart rows all = tt
    rising_arranged (x ∷ xs) done r d apart rows all = (
      apart x (inl refl),
      rows x (inl refl),
      if_some_both (λ y. IsIn y (ids_of table)) (λ y. height y < height x) (λ y. IsIn y done) (left_of table x) lower (t.has_left x (rows x (inl refl))) (left x (rows x (inl refl))),
      if_some_both (λ y. IsIn y (ids_of table)) (λ y. height y < height x) (λ y. IsIn y done) (right_of table x) lower (t.has_right x (rows x (inl refl))) (right x (rows x (inl refl))),
      (λ y i c. lower y i (clocks x y (rows x (inl refl)) i c)),
      rising_arranged xs (x ∷ done) r.1 d.1 (λ y i j. elim j [ inl e ↦ d.0 (subst (λ z. IsIn z xs) e i) | inr k ↦ apart y (inr i) k ]) (λ y i. rows y (inr i))
          (λ y i. elim (all y i) [ inl j ↦ inl (inr j) | inr (inl e) ↦ inl (inl e) | inr (inr j) ↦ inr j ]),
    )
      where
        -- what is lower came before
        lower : (y : Id) → IsIn y (ids_of table) → height y < height x → IsIn y done
        lower y i less = elim (all y i) [
          | inl j ↦ j
          | inr (inl e) ↦ absurd (omega (arith, less, ap height e))
          | inr (inr j) ↦ absurd (omega (arith, less, r.0 y j))
        ]

    -- ---- lemmas for callers

    pub arranged : IsArrangement table [] (sorted is_lower (ids_of table))
    arranged = rising_arranged (sorted is_lower (ids_of table)) [] (sorted_rising (ids_of table)) (sorted_distinct (ids_of table) t.distinct) (λ x i j. j)
        (sorted_has is_lower (ids_of table)) (λ y i. inr (in_sorted is_lower (ids_of table) y i))
