-- The rows sorted by how many are before each are in order, and no other list of them is.
use Rattle.std.proofs.Common.{◌≡◌, ◌≢◌, ℕ, ◌+◌, ◌<◌, ◌≤◌, Bool, true, false, ◌||◌, ◌&&◌, List, [], ◌∷◌, ◌⊎◌, inl, inr, nat_lt, nat_eq, refl, sym, ap, ap₂, ◌∙◌, subst, arith, tests, true≢false}
use Rattle.std.specs.Prelude.{if◌then◌else◌}
use Rattle.yd_words.specs.Member.{IsIn, AreDistinct}
use Rattle.yd_words.specs.Test.{one_if}
use Rattle.yd_words.proofs.TestLemmas.{Says}
use Rattle.yd_ids.specs.declared.id.Id.{Id}
use Rattle.yd_ids.specs.Ids.{is_smaller}
use Rattle.yd_origins.specs.Table.{OriginTable, ids_of, IsTable}
use Rattle.yd_origins.specs.Before.{is_before, IsInOrder, Fits}
use Rattle.yd_origins.specs.Sorted.{count_before, goes_first, with_id, sorted, origin_order}
use Rattle.yd_origins.proofs.MemberLemmas.{Rising}
use Rattle.yd_origins.proofs.LineLemmas.{Line, before_says, first_before, in_order_from_rising, rising_from_in_order}
use Rattle.yd_origins.proofs.TableLemmas.{not_itself}
use Rattle.yd_origins.proofs.FittingLemmas.{line}

-- ---- the members of sorted lists
pub in_with_id : (first : Id → Id → Bool) (x : Id) (ys : List Id) (z : Id) → (z ≡ x) ⊎ IsIn z ys → IsIn z (with_id first x ys)
in_with_id first x [] z i = i
in_with_id first x (y ∷ ys) z i = go (first x y) refl (λ j. in_with_id first x ys z j)
  where
    go : (t : Bool) → first x y ≡ t → ((z ≡ x) ⊎ IsIn z ys → IsIn z (with_id first x ys)) → IsIn z (if t then x ∷ y ∷ ys else y ∷ with_id first x ys)
    go true e f = i
    go false e f = elim i [ inl g ↦ inr (f (inl g)) | inr (inl g) ↦ inl g | inr (inr g) ↦ inr (f (inr g)) ]

pub with_id_has : (first : Id → Id → Bool) (x : Id) (ys : List Id) (z : Id) → IsIn z (with_id first x ys) → (z ≡ x) ⊎ IsIn z ys
with_id_has first x [] z i = i
with_id_has first x (y ∷ ys) z i = go (first x y) i (λ j. with_id_has first x ys z j)
  where
    go : (t : Bool) → IsIn z (if t then x ∷ y ∷ ys else y ∷ with_id first x ys) → (IsIn z (with_id first x ys) → (z ≡ x) ⊎ IsIn z ys) →
        (z ≡ x) ⊎ IsIn z (y ∷ ys)
    go true j f = j
    go false (inl j) f = inr (inl j)
    go false (inr j) f = elim (f j) [ inl g ↦ inl g | inr g ↦ inr (inr g) ]

pub in_sorted : (first : Id → Id → Bool) (xs : List Id) (z : Id) → IsIn z xs → IsIn z (sorted first xs)
in_sorted first [] z i = i
in_sorted first (x ∷ xs) z (inl e) = in_with_id first x (sorted first xs) z (inl e)
in_sorted first (x ∷ xs) z (inr i) = in_with_id first x (sorted first xs) z (inr (in_sorted first xs z i))

pub sorted_has : (first : Id → Id → Bool) (xs : List Id) (z : Id) → IsIn z (sorted first xs) → IsIn z xs
sorted_has first [] z i = i
sorted_has first (x ∷ xs) z i = elim (with_id_has first x (sorted first xs) z i) [ inl e ↦ inl e | inr j ↦ inr (sorted_has first xs z j) ]

pub in_origin_order : (table : OriginTable) (x : Id) → IsIn x (ids_of table) → IsIn x (origin_order table)
in_origin_order table = in_sorted (goes_first table) (ids_of table)

pub origin_order_in : (table : OriginTable) (x : Id) → IsIn x (origin_order table) → IsIn x (ids_of table)
origin_order_in table = sorted_has (goes_first table) (ids_of table)

-- ---- counts

-- where what is before a is before b, no more are before a
pub count_at_most : (f : Id → Id → Bool) (zs : List Id) (a b : Id) → ((z : Id) → IsIn z zs → f z a ≡ true → f z b ≡ true) →
    count_before f zs a ≤ count_before f zs b
count_at_most f [] a b both = omega arith
count_at_most f (z ∷ zs) a b both = go (f z a) (f z b) refl refl (count_at_most f zs a b (λ y i. both y (inr i)))
  where
    go : (t u : Bool) → f z a ≡ t → f z b ≡ u → count_before f zs a ≤ count_before f zs b → one_if t + count_before f zs a ≤ one_if u + count_before f zs b
    go true true e k le = omega arith
    go true false e k le = absurd (true≢false (sym (both z (inl refl) e) ∙ k))
    go false u e k le = omega arith

-- and fewer where one of them is before b alone
pub count_less : (f : Id → Id → Bool) (zs : List Id) (a b : Id) → ((z : Id) → IsIn z zs → f z a ≡ true → f z b ≡ true) →
    (w : Id) → IsIn w zs → f w a ≡ false → f w b ≡ true → count_before f zs a < count_before f zs b
count_less f [] a b both w i p q = absurd i
count_less f (z ∷ zs) a b both w (inl i) p q =
    rw (subst (λ v. f v a ≡ false) i p, subst (λ v. f v b ≡ true) i q) (omega (arith, count_at_most f zs a b (λ y j. both y (inr j))))
count_less f (z ∷ zs) a b both w (inr i) p q = go (f z a) (f z b) refl refl (count_less f zs a b (λ y j. both y (inr j)) w i p q)
  where
    go : (t u : Bool) → f z a ≡ t → f z b ≡ u → count_before f zs a < count_before f zs b → one_if t + count_before f zs a < one_if u + count_before f zs b
    go true true e k le = omega arith
    go true false e k le = absurd (true≢false (sym (both z (inl refl) e) ∙ k))
    go false u e k le = omega arith

-- ---- a table that fits

-- two rising lists with the same members are one
rising_unique : (pos : Id → ℕ) (xs ys : List Id) → Rising pos xs → Rising pos ys → ((z : Id) → IsIn z xs → IsIn z ys) → ((z : Id) → IsIn z ys → IsIn z xs) →
    xs ≡ ys
rising_unique pos [] [] r s u v = refl
rising_unique pos [] (y ∷ ys) r s u v = absurd (v y (inl refl))
rising_unique pos (x ∷ xs) [] r s u v = absurd (u x (inl refl))
rising_unique pos (x ∷ xs) (y ∷ ys) r s u v = ap₂ (λ a b. a ∷ b) heads
    (rising_unique pos xs ys r.1 s.1
    (λ z i. elim (u z (inr i)) [ inl e ↦ absurd (omega (arith, r.0 z i, ap pos e, ap pos heads)) | inr j ↦ j ])
    (λ z i. elim (v z (inr i)) [ inl e ↦ absurd (omega (arith, s.0 z i, ap pos e, ap pos heads)) | inr j ↦ j ]))
  where
    heads : x ≡ y
    heads = elim (u x (inl refl)) [
      | inl e ↦ e
      | inr i ↦ elim (v y (inl refl)) [
        | inl e ↦ sym e
        | inr j ↦ absurd (omega (arith, s.0 x i, r.0 y j))
      ]
    ]

module _ (table : OriginTable) (t : IsTable table) (f : Fits table) where
  abbrev P : Id → Type 0
  P x = IsIn x (ids_of table)

  abbrev l : Line (is_before table) P
  l = line table t f

  -- fewer are before what stands first
  fewer_before : (a b : Id) → P a → P b → l.pos a < l.pos b → count_before (is_before table) (ids_of table) a < count_before (is_before table) (ids_of table) b
  fewer_before a b p q lt = count_less (is_before table) (ids_of table) a b
      (λ z i e. (first_before (is_before table) P l z b i q (omega (
        arith,
        l.up z a i p
            (λ u. true≢false (sym e ∙ subst (λ v. is_before table z v ≡ false) u (not_itself table z))) e,
      ))).1)
      a p (not_itself table a) (first_before (is_before table) P l a b p q lt).1

  goes_first_says : (a b : Id) → P a → P b → a ≢ b → Says (goes_first table a b) (l.pos a < l.pos b) (l.pos b < l.pos a)
  goes_first_says a b p q ne = elim (before_says (is_before table) P l a b p q ne) [
    | inl e ↦ inl (
      less (count_before (is_before table) (ids_of table) a) (count_before (is_before table) (ids_of table) b) (is_smaller a b)
          (fewer_before a b p q e.1),
      e.1,
    )
    | inr e ↦ inr (
      greater (count_before (is_before table) (ids_of table) a) (count_before (is_before table) (ids_of table) b) (is_smaller a b)
          (fewer_before b a q p e.1),
      e.1,
    )
  ]
    where
      less : (m n : ℕ) (s : Bool) → m < n → (nat_lt m n || (nat_eq m n && s)) ≡ true
      less m n s lt = grind (arith, tests)

      greater : (m n : ℕ) (s : Bool) → n < m → (nat_lt m n || (nat_eq m n && s)) ≡ false
      greater m n s lt = grind (arith, tests)

  sorted_in_rising : (x : Id) (ys : List Id) → P x → ((y : Id) → IsIn y ys → P y) → (IsIn x ys → ⊥) → Rising l.pos ys →
      Rising l.pos (with_id (goes_first table) x ys)
  sorted_in_rising x [] p into n r = ((λ y i. absurd i), tt)
  sorted_in_rising x (y ∷ ys) p into n r = elim (goes_first_says x y p (into y (inl refl)) (λ e. n (inl e))) [
    | inl e ↦ rw e.0 ((λ z i. elim i [ inl g ↦ rw g e.1 | inr j ↦ omega (arith, e.1, r.0 z j) ]), r)
    | inr e ↦ rw e.0 (
      (λ z i. elim (with_id_has (goes_first table) x ys z i) [ inl g ↦ rw g e.1 | inr j ↦ r.0 z j ]),
      sorted_in_rising x ys p (λ z i. into z (inr i)) (λ i. n (inr i)) r.1,
    )
  ]

  sorted_rising : (xs : List Id) → ((y : Id) → IsIn y xs → P y) → AreDistinct xs → Rising l.pos (sorted (goes_first table) xs)
  sorted_rising [] into a = tt
  sorted_rising (x ∷ xs) into a = sorted_in_rising x (sorted (goes_first table) xs) (into x (inl refl)) (λ y i. into y (inr (sorted_has (goes_first table) xs y i)))
      (λ i. a.0 (sorted_has (goes_first table) xs x i)) (sorted_rising xs (λ y i. into y (inr i)) a.1)

  -- the order is in order
  pub order_in_order : IsInOrder (is_before table) (origin_order table)
  order_in_order = in_order_from_rising (is_before table) P l (origin_order table) (sorted_has (goes_first table) (ids_of table))
      (sorted_rising (ids_of table) (λ y i. i) t.distinct)

  -- a list in order is told by its members
  pub in_order_unique : (xs ys : List Id) → ((z : Id) → IsIn z xs → P z) → IsInOrder (is_before table) xs → IsInOrder (is_before table) ys →
      ((z : Id) → IsIn z xs → IsIn z ys) → ((z : Id) → IsIn z ys → IsIn z xs) → xs ≡ ys
  in_order_unique xs ys into r s u v = rising_unique l.pos xs ys (rising_from_in_order (is_before table) P l xs into r)
      (rising_from_in_order (is_before table) P l ys (λ z i. into z (v z i)) s) u v

  -- so a list of all rows in order is the origin order
  pub in_order_is_origin_order : (list : List Id) → IsInOrder (is_before table) list → ((x : Id) → IsIn x list → P x) → ((x : Id) → P x → IsIn x list) →
      list ≡ origin_order table
  in_order_is_origin_order list s into all = in_order_unique list (origin_order table) into s order_in_order
      (λ z i. in_origin_order table z (into z i)) (λ z i. all z (origin_order_in table z i))
