-- Rows put in an arrangement in which lefts and rights stand behind, and how many stand behind each.
use Rattle.std.proofs.Common.{◌≡◌, ℕ, suc, ◌<◌, ◌≤◌, cond, List, [], ◌∷◌, ◌⊎◌, inl, inr, Some, None, Option, length, nat_lt, refl, sym, ap, ◌∙◌, subst, arith}
use Rattle.std.specs.Prelude.{IfSome}
use Rattle.yd_words.specs.Member.{IsIn, AreDistinct}
use Rattle.yd_words.proofs.TestLemmas.{nat_lt_says}
use Rattle.yd_ids.specs.declared.id.Id.{Id}
use Rattle.yd_ids.specs.Ids.{is_same}
use Rattle.yd_ids.proofs.IdLemmas.{same_says, same_itself}
use Rattle.yd_origins.proofs.PlacedLemmas.{IsListed, listed_back}

module _ (height : Id → ℕ) where
  -- puts an id in front of those that are no higher
  put : Id → List Id → List Id
  put x [] = x ∷ []
  put x (y ∷ ys) = cond (nat_lt (height x) (height y)) (y ∷ put x ys) (x ∷ y ∷ ys)

  pub arranged : List Id → List Id
  arranged [] = []
  arranged (x ∷ xs) = put x (arranged xs)

  -- the heights fall
  abbrev pub Falling : List Id → Type 0
  Falling [] = Unit {0}
  Falling (x ∷ xs) = ((y : Id) → IsIn y xs → height y ≤ height x) × Falling xs

  -- what holds of a list with x put in, however it is put in
  put_case : (Q : List Id → Type 0) (x y : Id) (ys : List Id) → (height x < height y → Q (y ∷ put x ys)) → (height y ≤ height x → Q (x ∷ y ∷ ys)) →
      Q (put x (y ∷ ys))
  unfolding put
  put_case Q x y ys f g = elim (nat_lt_says (height x) (height y)) [ inl e ↦ rw e.0 (f e.1) | inr e ↦ rw e.0 (g e.1) ]

  put_in : (x : Id) (ys : List Id) (z : Id) → IsIn z (put x ys) → (z ≡ x) ⊎ IsIn z ys
  unfolding put
  put_in x [] z i = i
  put_in x (y ∷ ys) z i = put_case (λ zs. IsIn z zs → (z ≡ x) ⊎ IsIn z (y ∷ ys)) x y ys
      (λ lt. elim [ inl e ↦ inr (inl e) | inr j ↦ elim (put_in x ys z j) [ inl e ↦ inl e | inr k ↦ inr (inr k) ] ])
      (λ le. elim [ inl e ↦ inl e | inr j ↦ inr j ]) i

  in_put : (x : Id) (ys : List Id) (z : Id) → (z ≡ x) ⊎ IsIn z ys → IsIn z (put x ys)
  unfolding put
  in_put x [] z i = i
  in_put x (y ∷ ys) z i = put_case (λ zs. IsIn z zs) x y ys
      (λ lt. elim i [ inl e ↦ inr (in_put x ys z (inl e)) | inr (inl e) ↦ inl e | inr (inr j) ↦ inr (in_put x ys z (inr j)) ])
      (λ le. i)

  put_falling : (x : Id) (ys : List Id) → Falling ys → Falling (put x ys)
  unfolding put
  put_falling x [] f = ((λ y i. absurd i), tt)
  put_falling x (y ∷ ys) f = put_case Falling x y ys
      (λ lt. ((λ z i. elim (put_in x ys z i) [ inl e ↦ omega (arith, ap height e) | inr j ↦ f.0 z j ]), put_falling x ys f.1))
      (λ le. ((λ z i. elim i [ inl e ↦ omega (arith, ap height e) | inr j ↦ omega (arith, f.0 z j) ]), f))

  put_distinct : (x : Id) (ys : List Id) → (IsIn x ys → ⊥) → AreDistinct ys → AreDistinct (put x ys)
  unfolding put
  put_distinct x [] n a = ((λ i. i), tt)
  put_distinct x (y ∷ ys) n a = put_case AreDistinct x y ys
      (λ lt. ((λ i. elim (put_in x ys y i) [ inl e ↦ n (inl (sym e)) | inr j ↦ a.0 j ]), put_distinct x ys (λ i. n (inr i)) a.1))
      (λ le. (n, a))

  put_length : (x : Id) (ys : List Id) → length (put x ys) ≡ suc (length ys)
  unfolding put
  put_length x [] = refl
  put_length x (y ∷ ys) = put_case (λ zs. length zs ≡ suc (suc (length ys))) x y ys (λ lt. ap suc (put_length x ys)) (λ le. refl)

  pub arranged_in : (xs : List Id) (z : Id) → IsIn z (arranged xs) → IsIn z xs
  unfolding arranged
  arranged_in [] z i = i
  arranged_in (x ∷ xs) z i = elim (put_in x (arranged xs) z i) [ inl e ↦ inl e | inr j ↦ inr (arranged_in xs z j) ]

  pub in_arranged : (xs : List Id) (z : Id) → IsIn z xs → IsIn z (arranged xs)
  unfolding arranged
  in_arranged [] z i = i
  in_arranged (x ∷ xs) z (inl e) = in_put x (arranged xs) z (inl e)
  in_arranged (x ∷ xs) z (inr i) = in_put x (arranged xs) z (inr (in_arranged xs z i))

  pub arranged_falling : (xs : List Id) → Falling (arranged xs)
  unfolding arranged
  arranged_falling [] = tt
  arranged_falling (x ∷ xs) = put_falling x (arranged xs) (arranged_falling xs)

  pub arranged_distinct : (xs : List Id) → AreDistinct xs → AreDistinct (arranged xs)
  unfolding arranged
  arranged_distinct [] a = tt
  arranged_distinct (x ∷ xs) a = put_distinct x (arranged xs) (λ i. a.0 (arranged_in xs x i)) (arranged_distinct xs a.1)

  pub arranged_length : (xs : List Id) → length (arranged xs) ≡ length xs
  unfolding arranged
  arranged_length [] = refl
  arranged_length (x ∷ xs) = put_length x (arranged xs) ∙ ap suc (arranged_length xs)

  -- where the heights fall and each left and right is a lower member, each stands behind
  pub listed : (left right : Id → Option Id) (l : List Id) → Falling l → AreDistinct l →
      ((x : Id) → IsIn x l → IfSome (left x) (λ y. IsIn y l × (height y < height x))) →
      ((x : Id) → IsIn x l → IfSome (right x) (λ y. IsIn y l × (height y < height x))) →
      IsListed left right l
  listed left right [] f a cl cr = tt
  listed left right (o ∷ rows) f a cl cr = (
    a.0,
    first (left o) (cl o (inl refl)),
    first (right o) (cr o (inl refl)),
    listed left right rows f.1 a.1 (λ x i. later x i (left x) (cl x (inr i))) (λ x i. later x i (right x) (cr x (inr i))),
  )
    where
      first : (z : Option Id) → IfSome z (λ y. IsIn y (o ∷ rows) × (height y < height o)) → IfSome z (λ y. IsIn y rows)
      first None w = tt
      first (Some y) w = elim w.0 [ inl e ↦ absurd (omega (arith, w.1, ap height e)) | inr i ↦ i ]

      later : (x : Id) → IsIn x rows → (z : Option Id) → IfSome z (λ y. IsIn y (o ∷ rows) × (height y < height x)) →
          IfSome z (λ y. IsIn y rows × (height y < height x))
      later x i None w = tt
      later x i (Some y) w = elim w.0 [ inl e ↦ absurd (omega (arith, w.1, ap height e, f.0 x i)) | inr j ↦ (j, w.1) ]

-- how many stand behind an id in a list
pub rank : List Id → Id → ℕ
rank [] x = 0
rank (o ∷ rows) x = cond (is_same o x) (length rows) (rank rows x)

pub rank_below : (l : List Id) (x : Id) → IsIn x l → rank l x < length l
unfolding rank
rank_below [] x i = absurd i
rank_below (o ∷ rows) x i = elim (same_says o x) [
  | inl e ↦ rw e.0 (omega arith)
  | inr e ↦ rw e.0 (elim i [ inl f ↦ absurd (e.1 (sym f)) | inr j ↦ omega (arith, rank_below rows x j) ])
]

rank_first : (o : Id) (rows : List Id) (x : Id) → x ≡ o → rank (o ∷ rows) x ≡ length rows
unfolding rank
rank_first o rows x e = rw (e, same_itself o) refl

rank_other : (o : Id) (rows : List Id) (x : Id) → (IsIn o rows → ⊥) → IsIn x rows → rank (o ∷ rows) x ≡ rank rows x
unfolding rank
rank_other o rows x n i = elim (same_says o x) [
  | inl e ↦ absurd (n (subst (λ z. IsIn z rows) (sym e.1) i))
  | inr e ↦ rw e.0 refl
]

-- the rank falls from a row to its left and right
pub rank_left : (left right : Id → Option Id) (l : List Id) → IsListed left right l → (x : Id) → IsIn x l →
    IfSome (left x) (λ y. IsIn y l × (rank l y < rank l x))
rank_left left right [] g x i = absurd i
rank_left left right (o ∷ rows) g x (inl e) = subst (λ v. IfSome (left v) (λ y. IsIn y (o ∷ rows) × (rank (o ∷ rows) y < rank (o ∷ rows) x))) (sym e) (go (left o) g.1)
  where
    go : (z : Option Id) → IfSome z (λ y. IsIn y rows) → IfSome z (λ y. IsIn y (o ∷ rows) × (rank (o ∷ rows) y < rank (o ∷ rows) x))
    go None w = tt
    go (Some y) w = (inr w, omega (arith, rank_first o rows x e, rank_other o rows y g.0 w, rank_below rows y w))
rank_left left right (o ∷ rows) g x (inr i) = go (left x) (rank_left left right rows g.3 x i)
  where
    go : (z : Option Id) → IfSome z (λ y. IsIn y rows × (rank rows y < rank rows x)) →
        IfSome z (λ y. IsIn y (o ∷ rows) × (rank (o ∷ rows) y < rank (o ∷ rows) x))
    go None w = tt
    go (Some y) w = (inr w.0, omega (arith, w.1, rank_other o rows x g.0 i, rank_other o rows y g.0 w.0))

pub rank_right : (left right : Id → Option Id) (l : List Id) → IsListed left right l → (x : Id) → IsIn x l →
    IfSome (right x) (λ y. IsIn y l × (rank l y < rank l x))
rank_right left right l g = rank_left right left l (listed_back left right l g)
