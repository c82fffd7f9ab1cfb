-- Places that stand in a row of a list, by their ends.
use Rattle.std.proofs.Common.{◌≡◌, ◌≢◌, ℕ, inl, inr, List, [], ◌∷◌, ◌++◌, Option, Some, None, refl, sym, ap, ◌∙◌, subst}
use Rattle.std.proofs.lemmas.List.{append_assoc}
use Rattle.yd_words.specs.Member.{IsIn, AreDistinct}
use Rattle.yd_words.proofs.MemberLemmas.{in_left_part, in_right_part}
use Rattle.yd_words.proofs.OptionLemmas.{some_is}
use Rattle.yd_chains.specs.Chain.{first_of, last_from, last_of, up_to, behind, before}
use Rattle.yd_chains.proofs.ChainLemmas.{same_place, around, distinct_out}
use Rattle.yd_arena.specs.Arena.{places_in}
use Rattle.yd_store.specs.Store.{Stored}
use Rattle.yd_listing.specs.declared.row.Ends.{Ends}
use Rattle.yd_listing.specs.Lending.{last_or, ends_of, places_between, IsRow}

-- ---- lists

pub behind_part : (q : ℕ) (xs ys : List ℕ) → (IsIn q xs → ⊥) → behind (Some q) (xs ++ q ∷ ys) ≡ ys
behind_part q [] ys out = elim (same_place q q) [ inl e ↦ rw e.0 refl | inr e ↦ absurd (e.1 refl) ]
behind_part q (x ∷ xs) ys out = elim (same_place x q) [
  | inl e ↦ absurd (out (inl (sym e.1)))
  | inr e ↦ rw e.0 (behind_part q xs ys (λ i. out (inr i)))
]

before_part : (q : ℕ) (xs ys : List ℕ) → (IsIn q xs → ⊥) → before q (xs ++ q ∷ ys) ≡ xs
before_part q [] ys out = elim (same_place q q) [ inl e ↦ rw e.0 refl | inr e ↦ absurd (e.1 refl) ]
before_part q (x ∷ xs) ys out = elim (same_place x q) [
  | inl e ↦ absurd (out (inl (sym e.1)))
  | inr e ↦ rw e.0 (ap (λ zs. x ∷ zs) (before_part q xs ys (λ i. out (inr i))))
]

last_or_in : (x : ℕ) (xs : List ℕ) → IsIn (last_or x xs) (x ∷ xs)
last_or_in x [] = inl refl
last_or_in x (y ∷ ys) = inr (last_or_in y ys)

last_from_or : (z : Option ℕ) (front : List ℕ) (x : ℕ) (xs : List ℕ) → last_from z (front ++ x ∷ xs) ≡ Some (last_or x xs)
last_from_or z [] x [] = refl
last_from_or z [] x (y ∷ ys) = last_from_or (Some x) [] y ys
last_from_or z (w ∷ front) x xs = last_from_or (Some w) front x xs

last_or-last : (x : ℕ) (xs : List ℕ) (l : ℕ) → last_or x (xs ++ l ∷ []) ≡ l
last_or-last x [] l = refl
last_or-last x (y ∷ ys) l = last_or-last y ys l

-- all but the last, and the last
last_parts : (x : ℕ) (xs : List ℕ) → (front : List ℕ) × (x ∷ xs ≡ front ++ last_or x xs ∷ [])
last_parts x [] = ([], refl)
last_parts x (y ∷ ys) = let more = last_parts y ys in (x ∷ more.0, ap (λ ks. x ∷ ks) more.1)

distinct_behind : (front rest : List ℕ) → AreDistinct (front ++ rest) → AreDistinct rest
distinct_behind [] rest d = d
distinct_behind (x ∷ front) rest d = distinct_behind front rest d.1

up_to_last : (x : ℕ) (xs back : List ℕ) → AreDistinct (x ∷ (xs ++ back)) → up_to (Some (last_or x xs)) (x ∷ (xs ++ back)) ≡ x ∷ xs
up_to_last x [] back d = elim (same_place x x) [ inl e ↦ rw e.0 refl | inr e ↦ absurd (e.1 refl) ]
up_to_last x (y ∷ ys) back d = elim (same_place x (last_or y ys)) [
  | inl e ↦ absurd (d.0 (in_left_part x (y ∷ ys) back (subst (λ k. IsIn k (y ∷ ys)) (sym e.1) (last_or_in y ys))))
  | inr e ↦ rw e.0 (ap (λ ks. x ∷ ks) (up_to_last y ys back d.1))
]

-- ---- rows

module _ (it : Stored) (list : ℕ) (once : AreDistinct (places_in it.placed list)) where
  -- between the ends of a row stands the row
  pub between_is : (row : List ℕ) (ends : Option Ends) → IsRow it list row ends → places_between ends (places_in it.placed list) ≡ row
  between_is [] ends is = ap (λ z. places_between z (places_in it.placed list)) is.ends_are
  between_is (x ∷ xs) ends is =
      let d : AreDistinct (is.front ++ x ∷ (xs ++ is.back)) = subst AreDistinct is.parts once in
      let out : IsIn x is.front → ⊥ = λ m. distinct_out x is.front (xs ++ is.back) d (in_left_part x is.front (xs ++ is.back) m) in
      ap (λ z. places_between z (places_in it.placed list)) is.ends_are
      ∙ ap (λ ks. up_to (Some (last_or x xs)) (x ∷ ks)) (ap (behind (Some x)) is.parts ∙ behind_part x is.front (xs ++ is.back) out)
      ∙ up_to_last x xs is.back (distinct_behind is.front (x ∷ (xs ++ is.back)) d)

  -- what stands behind the first of a row, and before the last
  pub behind_first : (first : ℕ) (row : List ℕ) (is : IsRow it list (first ∷ row) (ends_of (first ∷ row))) → behind (Some first) (places_in it.placed list) ≡ row ++ is.back
  behind_first first row is =
      let d : AreDistinct (is.front ++ first ∷ (row ++ is.back)) = subst AreDistinct is.parts once in
      ap (behind (Some first)) is.parts ∙ behind_part first is.front (row ++ is.back)
      (λ m. distinct_out first is.front (row ++ is.back) d (in_left_part first is.front (row ++ is.back) m))

  -- a row whose first place is its last has no other
  pub one_place : (first : ℕ) (row : List ℕ) (ends : Ends) → IsRow it list (first ∷ row) (Some ends) → ends.first ≡ ends.last → row ≡ []
  one_place first [] ends is e = refl
  one_place first (y ∷ ys) ends is e =
      let d : AreDistinct (is.front ++ first ∷ ((y ∷ ys) ++ is.back)) = subst AreDistinct is.parts once in
      let same : ends ≡ record { first = first; last = last_or y ys } = some_is ends (record { first = first; last = last_or y ys }) is.ends_are in
      let here : first ≡ last_or y ys = ap (λ (z : Ends). z.first) (sym same) ∙ e ∙ ap (λ (z : Ends). z.last) same in
      absurd ((distinct_behind is.front (first ∷ ((y ∷ ys) ++ is.back)) d).0
      (in_left_part first (y ∷ ys) is.back (subst (λ k. IsIn k (y ∷ ys)) (sym here) (last_or_in y ys))))

-- ---- the first and the last of a row

row_some : (it : Stored) (list : ℕ) (row : List ℕ) (ends : Ends) → IsRow it list row (Some ends) → (rest : List ℕ) × (row ≡ ends.first ∷ rest) × (ends.last ≡ last_or ends.first rest)
row_some it list [] ends is = (let no : Some ends ≡ None = is.ends_are in absurd cc)
row_some it list (x ∷ xs) ends is =
    let same : ends ≡ record { first = x; last = last_or x xs } = some_is ends (record { first = x; last = last_or x xs }) is.ends_are in
    let first : ends.first ≡ x = ap (λ (z : Ends). z.first) same in
    (xs, ap (λ k. k ∷ xs) (sym first), ap (λ (z : Ends). z.last) same ∙ ap (λ k. last_or k xs) (sym first))

pub row_first : (it : Stored) (list : ℕ) (row : List ℕ) (ends : Ends) → IsRow it list row (Some ends) → (rest : List ℕ) × (row ≡ ends.first ∷ rest)
row_first it list row ends is = let some = row_some it list row ends is in (some.0, some.1)

pub row_last : (it : Stored) (list : ℕ) (row : List ℕ) (ends : Ends) → IsRow it list row (Some ends) → (front : List ℕ) × (row ≡ front ++ ends.last ∷ [])
row_last it list row ends is =
    let some = row_some it list row ends is in
    let parts = last_parts ends.first some.0 in
    (parts.0, some.1 ∙ parts.1 ∙ ap (λ k. parts.0 ++ k ∷ []) (sym some.2))

pub has_first : (it : Stored) (list : ℕ) (row : List ℕ) (ends : Ends) → IsRow it list row (Some ends) → IsIn ends.first (places_in it.placed list)
has_first it list row ends is =
    let first = row_first it list row ends is in
    subst (IsIn ends.first) (sym is.parts) (in_right_part ends.first is.front (row ++ is.back)
    (in_left_part ends.first row is.back (subst (IsIn ends.first) (sym first.1) (inl refl))))

pub has_last : (it : Stored) (list : ℕ) (row : List ℕ) (ends : Ends) → IsRow it list row (Some ends) → IsIn ends.last (places_in it.placed list)
has_last it list row ends is =
    let last = row_last it list row ends is in
    subst (IsIn ends.last) (sym is.parts) (in_right_part ends.last is.front (row ++ is.back)
    (in_left_part ends.last row is.back (subst (IsIn ends.last) (sym last.1) (in_right_part ends.last last.0 (ends.last ∷ []) (inl refl)))))

-- ---- whole lists

append_none : (xs : List ℕ) → xs ++ [] ≡ xs
append_none [] = refl
append_none (x ∷ xs) = ap (λ ys. x ∷ ys) (append_none xs)

pub whole_row : (it : Stored) (list : ℕ) (ends : Option Ends) → ends ≡ ends_of (places_in it.placed list) → IsRow it list (places_in it.placed list) ends
whole_row it list ends e = record { front = []; back = []; parts = sym (append_none (places_in it.placed list)); ends_are = e }

pub later_row : (it : Stored) (list first : ℕ) (ends : Option Ends) → IsIn first (places_in it.placed list) →
    ends ≡ ends_of (first ∷ behind (Some first) (places_in it.placed list)) → IsRow it list (first ∷ behind (Some first) (places_in it.placed list)) ends
later_row it list first ends i e = record {
  front = before first (places_in it.placed list);
  back = [];
  parts = sym (around first (places_in it.placed list) i)
      ∙ ap (λ ks. before first (places_in it.placed list) ++ first ∷ ks) (sym (append_none (behind (Some first) (places_in it.placed list))));
  ends_are = e;
}

-- the first place of a list, and its last
pub ends_are : (places : List ℕ) (first last : ℕ) → first_of places ≡ Some first → last_of places ≡ Some last → Some (record { first = first; last = last }) ≡ ends_of places
ends_are [] first last e f = (let no : None ≡ Some first = e in absurd cc)
ends_are (x ∷ xs) first last e f =
    let a : x ≡ first = some_is x first e in
    let b : last_or x xs ≡ last = some_is (last_or x xs) last (sym (last_from_or None [] x xs) ∙ f) in
    ap (λ k. Some (record { first = k; last = last })) (sym a) ∙ ap (λ k. Some (record { first = x; last = k })) (sym b)

pub no_first : (places : List ℕ) → first_of places ≡ None → None ≡ ends_of places
no_first [] e = refl
no_first (x ∷ xs) e = (let no : Some x ≡ None = e in absurd cc)

pub no_last : (places : List ℕ) → last_of places ≡ None → None ≡ ends_of places
no_last [] e = refl
no_last (x ∷ xs) e = (let no : Some (last_or x xs) ≡ None = sym (last_from_or None [] x xs) ∙ e in absurd cc)

-- from a place on, the last one is that of the list
later_last : (z : Option ℕ) (places : List ℕ) (p : ℕ) → IsIn p places → last_from z places ≡ Some (last_or p (behind (Some p) places))
later_last z [] p i = absurd i
later_last z (x ∷ xs) p i = elim (same_place x p) [
  | inl e ↦ rw e.0 (last_from_or z [] x xs ∙ ap (λ k. Some (last_or k xs)) e.1)
  | inr e ↦ rw e.0 (later_last (Some x) xs p (elim i [ inl f ↦ absurd (e.1 (sym f)) | inr j ↦ j ]))
]

pub ends_from : (places : List ℕ) (first last : ℕ) → IsIn first places → last_of places ≡ Some last →
    Some (record { first = first; last = last }) ≡ ends_of (first ∷ behind (Some first) places)
ends_from places first last i e =
    let b : last_or first (behind (Some first) places) ≡ last = some_is (last_or first (behind (Some first) places)) last (sym (later_last None places first i) ∙ e) in
    ap (λ k. Some (record { first = first; last = k })) (sym b)

pub some_last : (places : List ℕ) (p : ℕ) → IsIn p places → last_of places ≡ None → ⊥
some_last places p i e = (let no : Some (last_or p (behind (Some p) places)) ≡ None = sym (later_last None places p i) ∙ e in absurd cc)

-- ---- a row without its first place, and without its last

module _ (it : Stored) (list : ℕ) (once : AreDistinct (places_in it.placed list)) (ends : Ends) (row : List ℕ) where
  module _ (is : IsRow it list (ends.first ∷ row) (Some ends)) where
    moved : (left : Option Ends) → left ≡ ends_of row → IsRow it list row left
    moved left e = record {
      front = is.front ++ ends.first ∷ [];
      back = is.back;
      parts = is.parts ∙ sym (append_assoc is.front (ends.first ∷ []) (row ++ is.back));
      ends_are = e;
    }

    abbrev place : ℕ
    place = ends.first

    same_last : ends.last ≡ last_or ends.first row
    same_last = ap (λ (z : Ends). z.last) (some_is ends (record { first = ends.first; last = last_or ends.first row }) is.ends_are)

    behind_is : behind (Some ends.first) (places_in it.placed list) ≡ row ++ is.back
    behind_is =
        let d : AreDistinct (is.front ++ ends.first ∷ (row ++ is.back)) = subst AreDistinct is.parts once in
        ap (behind (Some ends.first)) is.parts ∙ behind_part ends.first is.front (row ++ is.back)
        (λ m. distinct_out ends.first is.front (row ++ is.back) d (in_left_part ends.first is.front (row ++ is.back) m))

    -- where it is the only one
    pub first_only : ends.first ≡ ends.last → IsRow it list row None
    first_only e = moved None (ap ends_of (sym (one_place it list once ends.first row ends is e)))

    -- the next one
    next_of_row : ends.first ≢ ends.last → (x : ℕ) × (xs : List ℕ) × (row ≡ x ∷ xs)
    next_of_row other = go row same_last
      where
        go : (r : List ℕ) → ends.last ≡ last_or ends.first r → (x : ℕ) × (xs : List ℕ) × (r ≡ x ∷ xs)
        go [] e = absurd (other (sym e))
        go (x ∷ xs) e = (x, xs, refl)

    pub first_taken : ends.first ≢ ends.last → (next : ℕ) → Some next ≡ first_of (behind (Some ends.first) (places_in it.placed list)) →
        IsRow it list row (Some (record { first = next; last = ends.last }))
    first_taken other next e =
        let more = next_of_row other in
        let f : Some next ≡ Some more.0 = e ∙ ap first_of (behind_is ∙ ap (λ r. r ++ is.back) more.2) in
        moved (Some (record { first = next; last = ends.last }))
        (ap (λ k. Some (record { first = k; last = ends.last })) (some_is next more.0 f)
        ∙ ap (λ k. Some (record { first = more.0; last = k })) (same_last ∙ ap (last_or ends.first) more.2) ∙ ap ends_of (sym more.2))

    pub first_followed : ends.first ≢ ends.last → None ≡ first_of (behind (Some ends.first) (places_in it.placed list)) → ⊥
    first_followed other e =
        let more = next_of_row other in
        (let no : None ≡ Some more.0 = e ∙ ap first_of (behind_is ∙ ap (λ r. r ++ is.back) more.2) in absurd cc)

  module _ (is : IsRow it list (row ++ ends.last ∷ []) (Some ends)) where
    parts_are : places_in it.placed list ≡ is.front ++ (row ++ ends.last ∷ is.back)
    parts_are = is.parts ∙ ap (λ ks. is.front ++ ks) (append_assoc row (ends.last ∷ []) is.back)

    ended : (left : Option Ends) → left ≡ ends_of row → IsRow it list row left
    ended left e = record { front = is.front; back = ends.last ∷ is.back; parts = parts_are; ends_are = e }

    distinct_all : AreDistinct ((is.front ++ row) ++ ends.last ∷ is.back)
    distinct_all = subst AreDistinct (parts_are ∙ sym (append_assoc is.front row (ends.last ∷ is.back))) once

    out_all : IsIn ends.last (is.front ++ row) → ⊥
    out_all m = distinct_out ends.last (is.front ++ row) is.back distinct_all (in_left_part ends.last (is.front ++ row) is.back m)

    before_is : before ends.last (places_in it.placed list) ≡ is.front ++ row
    before_is = ap (before ends.last) (parts_are ∙ sym (append_assoc is.front row (ends.last ∷ is.back))) ∙ before_part ends.last (is.front ++ row) is.back out_all

    -- the row's first place, where it has another than its last
    first_is : (r : List ℕ) → r ≡ row → (x : ℕ) (xs : List ℕ) → r ≡ x ∷ xs → ends.first ≡ x
    first_is r same x xs e =
        let all : row ++ ends.last ∷ [] ≡ x ∷ (xs ++ ends.last ∷ []) = ap (λ ks. ks ++ ends.last ∷ []) (sym same ∙ e) in
        let f : Some ends ≡ Some (record { first = x; last = last_or x (xs ++ ends.last ∷ []) }) = is.ends_are ∙ ap ends_of all in
        ap (λ (z : Ends). z.first) (some_is ends (record { first = x; last = last_or x (xs ++ ends.last ∷ []) }) f)

    pub last_only : ends.first ≡ ends.last → IsRow it list row None
    last_only e = ended None (go row refl)
      where
        go : (r : List ℕ) → r ≡ row → None ≡ ends_of r
        go [] same = refl
        go (x ∷ xs) same = absurd (out_all (in_right_part ends.last is.front row (subst (IsIn ends.last) same (inl (sym e ∙ first_is (x ∷ xs) same x xs refl)))))

    -- where it has no other, its first is its last
    row_of_last : ends.first ≢ ends.last → (x : ℕ) × (xs : List ℕ) × (row ≡ x ∷ xs)
    row_of_last other = go row refl
      where
        go : (r : List ℕ) → r ≡ row → (x : ℕ) × (xs : List ℕ) × (r ≡ x ∷ xs)
        go [] same =
            let f : Some ends ≡ Some (record { first = ends.last; last = ends.last }) = is.ends_are ∙ ap (λ ks. ends_of (ks ++ ends.last ∷ [])) (sym same) in
            absurd (other (ap (λ (z : Ends). z.first) (some_is ends (record { first = ends.last; last = ends.last }) f)))
        go (x ∷ xs) same = (x, xs, refl)

    pub last_taken : ends.first ≢ ends.last → (prev : ℕ) → Some prev ≡ last_of (before ends.last (places_in it.placed list)) →
        IsRow it list row (Some (record { first = ends.first; last = prev }))
    last_taken other prev e =
        let more = row_of_last other in
        let f : Some prev ≡ Some (last_or more.0 more.1) =
        e ∙ ap last_of (before_is ∙ ap (λ r. is.front ++ r) more.2) ∙ last_from_or None is.front more.0 more.1 in
        ended (Some (record { first = ends.first; last = prev }))
        (ap (λ k. Some (record { first = ends.first; last = k })) (some_is prev (last_or more.0 more.1) f)
        ∙ ap (λ k. Some (record { first = k; last = last_or more.0 more.1 })) (first_is row refl more.0 more.1 more.2) ∙ ap ends_of (sym more.2))

    pub last_preceded : ends.first ≢ ends.last → None ≡ last_of (before ends.last (places_in it.placed list)) → ⊥
    last_preceded other e =
        let more = row_of_last other in
        (let no : None ≡ Some (last_or more.0 more.1) = e ∙ ap last_of (before_is ∙ ap (λ r. is.front ++ r) more.2) ∙ last_from_or None is.front more.0 more.1 in absurd cc)
