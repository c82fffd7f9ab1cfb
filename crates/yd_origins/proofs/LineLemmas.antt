-- Rows in a line: each has a place, a number, and the six lines become comparisons of places.
use Rattle.std.proofs.Common.{◌≡◌, ◌≢◌, ℕ, ◌<◌, ◌≤◌, Bool, true, false, ◌⊎◌, Option, Some, None, List, [], ◌∷◌, inl, inr, refl, sym, ap, ◌∙◌, arith}
use Rattle.std.specs.Prelude.{IfSome}
use Rattle.yd_words.specs.Test.{is_some_and, one_if}
use Rattle.yd_words.specs.Member.{IsIn}
use Rattle.yd_words.proofs.TestLemmas.{Says}
use Rattle.yd_ids.specs.declared.id.Id.{Id}
use Rattle.yd_ids.specs.Ids.{is_smaller, is_same_neighbour}
use Rattle.yd_ids.proofs.IdLemmas.{same_says}
use Rattle.yd_origins.specs.Before.{is_up_to, is_later_left, by_lines, IsInOrder}
use Rattle.yd_origins.proofs.MemberLemmas.{place, Rising}

-- rows in a line: each has a place, strictly between 0 and the end, and `before` says which place is smaller
pub record Line (before : Id → Id → Bool) (P : Id → Type 0) : Type 0 where
  pub pos : Id → ℕ
  pub end : ℕ
  pub some : 0 < end
  pub low : (x : Id) → P x → 0 < pos x
  pub high : (x : Id) → P x → pos x < end
  pub up : (x y : Id) → P x → P y → x ≢ y → before x y ≡ true → pos x < pos y
  pub down : (x y : Id) → P x → P y → x ≢ y → before x y ≡ false → pos y < pos x

-- ---- the tests of the six lines, in places

module _ (before : Id → Id → Bool) (P : Id → Type 0) (l : Line before P) where
  pub before_says : (x y : Id) → P x → P y → x ≢ y → Says (before x y) (l.pos x < l.pos y) (l.pos y < l.pos x)
  before_says x y p q ne = go (before x y) refl
    where
      go : (t : Bool) → before x y ≡ t → Says t (l.pos x < l.pos y) (l.pos y < l.pos x)
      go true e = inl (refl, l.up x y p q ne e)
      go false e = inr (refl, l.down x y p q ne e)

  pub up_to_says : (x y : Id) → P x → P y → Says (is_up_to before x y) (l.pos x ≤ l.pos y) (l.pos y < l.pos x)
  up_to_says x y p q = elim (same_says x y) [
    | inl e ↦ rw (e.0, is_up_to) (inl (refl, omega (arith, ap l.pos e.1)))
    | inr e ↦ rw (e.0, is_up_to) (elim (before_says x y p q e.1) [ inl f ↦ inl (f.0, omega (arith, f.1)) | inr f ↦ inr f ])
  ]

  -- a row is up to a left, and from a right on
  pub up_to_left_says : (x : Id) (z : Option Id) → P x → IfSome z P →
      Says (is_some_and (λ p. is_up_to before x p) z) (l.pos x ≤ place l.pos 0 z) (place l.pos 0 z < l.pos x)
  up_to_left_says x None p q = inr (refl, l.low x p)
  up_to_left_says x (Some y) p q = up_to_says x y p q

  pub from_right_says : (x : Id) (z : Option Id) → P x → IfSome z P →
      Says (is_some_and (λ r. is_up_to before r x) z) (place l.pos l.end z ≤ l.pos x) (l.pos x < place l.pos l.end z)
  from_right_says x None p q = inr (refl, l.high x p)
  from_right_says x (Some y) p q = up_to_says y x q p

  pub same_left_says : (z w : Option Id) → IfSome z P → IfSome w P →
      Says (is_same_neighbour z w) (place l.pos 0 z ≡ place l.pos 0 w) (place l.pos 0 z ≢ place l.pos 0 w)
  same_left_says None None p q = inl (refl, refl)
  same_left_says None (Some y) p q = inr (refl, omega (arith, l.low y q))
  same_left_says (Some x) None p q = inr (refl, omega (arith, l.low x p))
  same_left_says (Some x) (Some y) p q = elim (same_says x y) [
    | inl e ↦ inl (e.0, ap l.pos e.1)
    | inr e ↦ inr (e.0, elim (before_says x y p q e.1) [ inl f ↦ omega (arith, f.1) | inr f ↦ omega (arith, f.1) ])
  ]

  pub later_left_says : (z w : Option Id) → IfSome z P → IfSome w P → place l.pos 0 z ≢ place l.pos 0 w →
      Says (is_later_left before z w) (place l.pos 0 w < place l.pos 0 z) (place l.pos 0 z < place l.pos 0 w)
  later_left_says None None p q ne = absurd (ne refl)
  later_left_says None (Some y) p q ne = inr (refl, l.low y q)
  later_left_says (Some x) None p q ne = inl (refl, l.low x p)
  later_left_says (Some x) (Some y) p q ne = before_says y x q p (λ e. ne (ap l.pos (sym e)))

  -- what stands first is before
  pub first_before : (x y : Id) → P x → P y → l.pos x < l.pos y → (x ≢ y) × (before x y ≡ true)
  first_before x y p q lt = elim (before_says x y p q other) [ inl e ↦ (other, e.0) | inr e ↦ absurd (omega (arith, e.1)) ]
    where
      other : x ≢ y
      other e = omega (arith, ap l.pos e)

  -- two rows are one, or one stands first
  pub which_first : (x y : Id) → P x → P y → (l.pos x < l.pos y) ⊎ ((x ≡ y) ⊎ (l.pos y < l.pos x))
  which_first x y p q = elim (same_says x y) [
    | inl e ↦ inr (inl e.1)
    | inr e ↦ elim (before_says x y p q e.1) [ inl f ↦ inl f.1 | inr f ↦ inr (inr f.1) ]
  ]

  -- a rising list of rows is in order, and a list in order rises
  pub in_order_from_rising : (xs : List Id) → ((x : Id) → IsIn x xs → P x) → Rising l.pos xs → IsInOrder before xs
  in_order_from_rising [] into r = tt
  in_order_from_rising (x ∷ xs) into r = (
    (λ y i. first_before x y (into x (inl refl)) (into y (inr i)) (r.0 y i)),
    in_order_from_rising xs (λ y i. into y (inr i)) r.1,
  )

  pub rising_from_in_order : (xs : List Id) → ((x : Id) → IsIn x xs → P x) → IsInOrder before xs → Rising l.pos xs
  rising_from_in_order [] into r = tt
  rising_from_in_order (x ∷ xs) into r = (
    (λ y i. l.up x y (into x (inl refl)) (into y (inr i)) (r.0 y i).0 (r.0 y i).1),
    rising_from_in_order xs (λ y i. into y (inr i)) r.1,
  )

-- a list in order is so under another order that agrees on its members
pub in_order_alike : (f g : Id → Id → Bool) (P : Id → Type 0) → ((a b : Id) → P a → P b → f a b ≡ g a b) → (xs : List Id) → ((x : Id) → IsIn x xs → P x) →
    IsInOrder f xs → IsInOrder g xs
in_order_alike f g P same [] into s = tt
in_order_alike f g P same (x ∷ xs) into s = (
  (λ y i. ((s.0 y i).0, sym (same x y (into x (inl refl)) (into y (inr i))) ∙ (s.0 y i).1)),
  in_order_alike f g P same xs (λ y i. into y (inr i)) s.1,
)

-- ---- what six lines come to

-- the first line whose test holds decides: `value` is its answer, and the tests say `on` where they hold, else `off`
abbrev pub Decided : ℕ → Type 0 → Type 0 → Type 0 → Type 0 → Type 0 → Type 0 → Type 0 → Type 0 → Type 0 → Type 0 → ℕ → Type 0 → Type 0 → Type 0
Decided value on_first off_first on_second off_second on_third off_third on_fourth off_fourth on_fifth off_fifth tie on_sixth off_sixth =
    (value ≡ 1) × on_first
    ⊎ ((value ≡ 0) × off_first × on_second
    ⊎ ((value ≡ 1) × off_first × off_second × on_third
    ⊎ ((value ≡ 0) × off_first × off_second × off_third × on_fourth
    ⊎ ((value ≡ tie) × off_first × off_second × off_third × off_fourth × on_fifth
    ⊎ ((value ≡ 1) × off_first × off_second × off_third × off_fourth × on_sixth
    ⊎ (value ≡ 0) × off_first × off_second × off_third × off_fourth × off_sixth)))))

-- the six lines over their tests
abbrev pub first_of_lines : Bool → Bool → Bool → Bool → Bool → Bool → Bool → Bool
first_of_lines first second third fourth fifth tie sixth = elim first [
  | true ↦ true
  | false ↦ elim second [
    | true ↦ false
    | false ↦ elim third [ true ↦ true | false ↦ elim fourth [ true ↦ false | false ↦ elim fifth [ true ↦ tie | false ↦ sixth ] ] ]
  ]
]

pub decided : {on_first off_first on_second off_second on_third off_third on_fourth off_fourth on_fifth off_fifth on_sixth off_sixth : Type 0} {first second third fourth fifth sixth : Bool} → (tie : Bool) →
    Says first on_first off_first → Says second on_second off_second → Says third on_third off_third → Says fourth on_fourth off_fourth →
    Says fifth on_fifth off_fifth → (off_fifth → Says sixth on_sixth off_sixth) →
    Decided (one_if (first_of_lines first second third fourth fifth tie sixth)) on_first off_first on_second off_second on_third off_third on_fourth off_fourth on_fifth off_fifth (one_if tie) on_sixth off_sixth
decided tie (inl first) second third fourth fifth sixth = inl (rw first.0 refl, first.1)
decided tie (inr first) (inl second) third fourth fifth sixth = inr (inl (rw (first.0, second.0) refl, first.1, second.1))
decided tie (inr first) (inr second) (inl third) fourth fifth sixth = inr (inr (inl (rw (first.0, second.0, third.0) refl, first.1, second.1, third.1)))
decided tie (inr first) (inr second) (inr third) (inl fourth) fifth sixth = inr
    (inr (inr (inl (rw (first.0, second.0, third.0, fourth.0) refl, first.1, second.1, third.1, fourth.1))))
decided tie (inr first) (inr second) (inr third) (inr fourth) (inl fifth) sixth =
    inr (inr (inr (inr (inl (rw (first.0, second.0, third.0, fourth.0, fifth.0) refl, first.1, second.1, third.1, fourth.1, fifth.1)))))
decided tie (inr first) (inr second) (inr third) (inr fourth) (inr fifth) sixth = elim (sixth fifth.1) [
  | inl s ↦ inr (inr (inr (inr (inr (inl (rw (first.0, second.0, third.0, fourth.0, fifth.0, s.0) refl, first.1, second.1, third.1, fourth.1, s.1))))))
  | inr s ↦ inr (inr (inr (inr (inr (inr (rw (first.0, second.0, third.0, fourth.0, fifth.0, s.0) refl, first.1, second.1, third.1, fourth.1, s.1))))))
]

-- ---- why the first of two rows stands first

-- the reasons: the later one's left, the earlier one's right, a tie, or the lefts
abbrev pub Reasons : (Id → Option Id) → (Id → Option Id) → (Id → ℕ) → ℕ → Id → Id → Type 0
Reasons left right pos end x y =
    (pos x ≤ place pos 0 (left y))
    ⊎ ((place pos end (right x) ≤ pos y)
    ⊎ ((place pos 0 (left x) ≡ place pos 0 (left y)) × (one_if (is_smaller x y) ≡ 1)
    ⊎ (place pos 0 (left y) < place pos 0 (left x))))

module _ (left right : Id → Option Id) (before : Id → Id → Bool) (P : Id → Type 0) (l : Line before P)
    (six : (x y : Id) → P x → P y → x ≢ y → before x y ≡ by_lines left right before x y)
    (in_left : (x : Id) → P x → IfSome (left x) P) (in_right : (x : Id) → P x → IfSome (right x) P) where
  pub why_first : (x y : Id) → P x → P y → l.pos x < l.pos y → Reasons left right l.pos l.end x y
  why_first x y p q lt = elim known [
    | inl k ↦ inl k.1
    | inr (inl k) ↦ absurd (omega (arith, k.0, is_one))
    | inr (inr (inl k)) ↦ inr (inl k.3)
    | inr (inr (inr (inl k))) ↦ absurd (omega (arith, k.0, is_one))
    | inr (inr (inr (inr (inl k)))) ↦ inr (inr (inl (k.5, omega (arith, k.0, is_one))))
    | inr (inr (inr (inr (inr (inl k))))) ↦ inr (inr (inr k.5))
    | inr (inr (inr (inr (inr (inr k))))) ↦ absurd (omega (arith, k.0, is_one))
  ]
    where
      is_first : (x ≢ y) × (before x y ≡ true)
      is_first = first_before before P l x y p q lt

      is_one : one_if (before x y) ≡ 1
      is_one = rw is_first.1 refl

      known : Decided (one_if (before x y))
          (l.pos x ≤ place l.pos 0 (left y)) (place l.pos 0 (left y) < l.pos x)
          (l.pos y ≤ place l.pos 0 (left x)) (place l.pos 0 (left x) < l.pos y)
          (place l.pos l.end (right x) ≤ l.pos y) (l.pos y < place l.pos l.end (right x))
          (place l.pos l.end (right y) ≤ l.pos x) (l.pos x < place l.pos l.end (right y))
          (place l.pos 0 (left x) ≡ place l.pos 0 (left y)) (place l.pos 0 (left x) ≢ place l.pos 0 (left y))
          (one_if (is_smaller x y))
          (place l.pos 0 (left y) < place l.pos 0 (left x)) (place l.pos 0 (left x) < place l.pos 0 (left y))
      known = rw (six x y p q is_first.0) (decided (is_smaller x y)
          (up_to_left_says before P l x (left y) p (in_left y q))
          (up_to_left_says before P l y (left x) q (in_left x p))
          (from_right_says before P l y (right x) q (in_right x p))
          (from_right_says before P l x (right y) p (in_right y q))
          (same_left_says before P l (left x) (left y) (in_left x p) (in_left y q))
          (later_left_says before P l (left x) (left y) (in_left x p) (in_left y q)))
