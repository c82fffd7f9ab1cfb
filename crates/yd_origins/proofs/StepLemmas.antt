-- One row more: where some rows stand in a line, and one more row has its left before its right among them, what is
-- before the new row is a front of the line.
use Rattle.std.proofs.Common.{◌≡◌, ◌≢◌, ℕ, zero, suc, ◌+◌, ◌*◌, ◌<◌, ◌≤◌, Bool, true, false, List, [], ◌∷◌, ◌⊎◌, inl, inr, Some, None, Option, refl, sym, ap, subst, arith, le_of_eq, zero-le, max}
use Rattle.std.specs.Prelude.{IfSome}
use Rattle.yd_words.specs.Test.{is_some_and, one_if}
use Rattle.yd_words.specs.Member.{IsIn}
use Rattle.yd_words.proofs.TestLemmas.{Says, split, one_if_at_most}
use Rattle.yd_ids.specs.declared.id.Id.{Id}
use Rattle.yd_ids.specs.Ids.{is_same, is_smaller}
use Rattle.yd_ids.proofs.IdLemmas.{other_id, tie_flip, tie_sum}
use Rattle.yd_origins.specs.Before.{is_up_to, by_lines}
use Rattle.yd_origins.proofs.MemberLemmas.{place}
use Rattle.yd_origins.proofs.LineLemmas.{Line, up_to_left_says, from_right_says, same_left_says, later_left_says, which_first, Decided, decided, why_first}

-- what is known of a part in a line, and of a row o outside it
pub record Step (left right : Id → Option Id) (before : Id → Id → Bool) (height : Id → ℕ) (P : Id → Type 0) (l : Line before P) (o : Id) : Type 0 where
  pub six : (x y : Id) → P x → P y → x ≢ y → before x y ≡ by_lines left right before x y
  pub six_to : (x : Id) → P x → before x o ≡ by_lines left right before x o
  pub six_from : (x : Id) → P x → before o x ≡ by_lines left right before o x
  pub fresh : P o → ⊥
  pub in_left : (x : Id) → P x → IfSome (left x) P
  pub in_right : (x : Id) → P x → IfSome (right x) P
  pub low_left : (x : Id) → P x → IfSome (left x) (λ y. height y < height x)
  pub low_right : (x : Id) → P x → IfSome (right x) (λ y. height y < height x)
  pub after_left : (x : Id) → P x → place l.pos 0 (left x) < l.pos x
  pub before_right : (x : Id) → P x → l.pos x < place l.pos l.end (right x)
  pub o_left : IfSome (left o) P
  pub o_right : IfSome (right o) P
  pub o_fits : place l.pos 0 (left o) < place l.pos l.end (right o)

module _ (left right : Id → Option Id) (before : Id → Id → Bool) (height : Id → ℕ) (P : Id → Type 0) (l : Line before P) (o : Id)
    (s : Step left right before height P l o) where
  -- 1 where o is before x, and 1 where x is before o
  abbrev pub from_o : Id → ℕ
  from_o x = one_if (before o x)

  abbrev pub to_o : Id → ℕ
  to_o x = one_if (before x o)

  -- the places of a row's left and right, and the same of o's
  abbrev pub left_pos : Id → ℕ
  left_pos x = place l.pos 0 (left x)

  abbrev pub right_pos : Id → ℕ
  right_pos x = place l.pos l.end (right x)

  o_not : (x : Id) → P x → x ≢ o
  o_not x p e = s.fresh (subst P e p)

  o_differs : (x : Id) → P x → is_same o x ≡ false
  o_differs x p = other_id o x (λ e. o_not x p (sym e))

  -- whether o is before a left, which the front is not, and whether a right is before o, which the end is not
  from_left : (z : Option Id) → IfSome z P → Says (is_some_and (λ y. is_up_to before o y) z) (place from_o 0 z ≡ 1) (place from_o 0 z ≡ 0)
  from_left None p = inr (refl, refl)
  from_left (Some y) p = rw (is_up_to, o_differs y p) (go (before o y) refl)
    where
      go : (t : Bool) → before o y ≡ t → Says t (one_if (before o y) ≡ 1) (one_if (before o y) ≡ 0)
      go true e = inl (refl, rw e refl)
      go false e = inr (refl, rw e refl)

  to_right : (z : Option Id) → IfSome z P → Says (is_some_and (λ y. is_up_to before y o) z) (place to_o 0 z ≡ 1) (place to_o 0 z ≡ 0)
  to_right None p = inr (refl, refl)
  to_right (Some y) p = rw (is_up_to, other_id y o (o_not y p)) (go (before y o) refl)
    where
      go : (t : Bool) → before y o ≡ t → Says t (one_if (before y o) ≡ 1) (one_if (before y o) ≡ 0)
      go true e = inl (refl, rw e refl)
      go false e = inr (refl, rw e refl)

  -- the lines at o and a row
  pub lines_from_o : (x : Id) → P x → Decided (from_o x)
      (place from_o 0 (left x) ≡ 1) (place from_o 0 (left x) ≡ 0)
      (l.pos x ≤ left_pos o) (left_pos o < l.pos x)
      (right_pos o ≤ l.pos x) (l.pos x < right_pos o)
      (place to_o 0 (right x) ≡ 1) (place to_o 0 (right x) ≡ 0)
      (left_pos o ≡ left_pos x) (left_pos o ≢ left_pos x)
      (one_if (is_smaller o x))
      (left_pos x < left_pos o) (left_pos o < left_pos x)
  lines_from_o x p = rw (s.six_from x p) (decided (is_smaller o x)
      (from_left (left x) (s.in_left x p))
      (up_to_left_says before P l x (left o) p s.o_left)
      (from_right_says before P l x (right o) p s.o_right)
      (to_right (right x) (s.in_right x p))
      (same_left_says before P l (left o) (left x) s.o_left (s.in_left x p))
      (later_left_says before P l (left o) (left x) s.o_left (s.in_left x p)))

  pub lines_to_o : (x : Id) → P x → Decided (to_o x)
      (l.pos x ≤ left_pos o) (left_pos o < l.pos x)
      (place from_o 0 (left x) ≡ 1) (place from_o 0 (left x) ≡ 0)
      (place to_o 0 (right x) ≡ 1) (place to_o 0 (right x) ≡ 0)
      (right_pos o ≤ l.pos x) (l.pos x < right_pos o)
      (left_pos x ≡ left_pos o) (left_pos x ≢ left_pos o)
      (one_if (is_smaller x o))
      (left_pos o < left_pos x) (left_pos x < left_pos o)
  lines_to_o x p = rw (s.six_to x p) (decided (is_smaller x o)
      (up_to_left_says before P l x (left o) p s.o_left)
      (from_left (left x) (s.in_left x p))
      (to_right (right x) (s.in_right x p))
      (from_right_says before P l x (right o) p s.o_right)
      (same_left_says before P l (left x) (left o) (s.in_left x p) s.o_left)
      (later_left_says before P l (left x) (left o) (s.in_left x p) s.o_left))

  -- a left or right has what each row with less height has
  left_known : (Q : Option Id → Type 0) → Q None → (x : Id) → P x → ((y : Id) → P y → height y < height x → Q (Some y)) → Q (left x)
  left_known Q none x p some = go (left x) (s.in_left x p) (s.low_left x p)
    where
      go : (z : Option Id) → IfSome z P → IfSome z (λ y. height y < height x) → Q z
      go None u v = none
      go (Some y) u v = some y u v

  right_known : (Q : Option Id → Type 0) → Q None → (x : Id) → P x → ((y : Id) → P y → height y < height x → Q (Some y)) → Q (right x)
  right_known Q none x p some = go (right x) (s.in_right x p) (s.low_right x p)
    where
      go : (z : Option Id) → IfSome z P → IfSome z (λ y. height y < height x) → Q z
      go None u v = none
      go (Some y) u v = some y u v

  -- up to o's left nothing has o before it
  front_within : (n : ℕ) (x : Id) → P x → height x < n → l.pos x ≤ left_pos o → from_o x ≡ 0
  front_within zero x p small le = absurd (omega arith)
  front_within (suc n) x p small le =
      let al : left_pos x ≤ left_pos o → place from_o 0 (left x) ≡ 0 = left_known (λ z. place l.pos 0 z ≤ left_pos o → place from_o 0 z ≡ 0) (λ e. refl) x p
      (λ y q lt e. front_within n y q (omega arith) e) in
      omega (arith, lines_from_o x p, s.after_left x p, s.o_fits, al)

  -- from o's right on nothing is before o
  back_within : (n : ℕ) (x : Id) → P x → height x < n → right_pos o ≤ l.pos x → to_o x ≡ 0
  back_within zero x p small le = absurd (omega arith)
  back_within (suc n) x p small le =
      let br : right_pos o ≤ right_pos x → place to_o 0 (right x) ≡ 0 = right_known (λ z. right_pos o ≤ place l.pos l.end z → place to_o 0 z ≡ 0) (λ e. refl) x p
      (λ y q lt e. back_within n y q (omega arith) e) in
      omega (arith, lines_to_o x p, s.before_right x p, s.o_fits, br)

  pub front : (x : Id) → P x → l.pos x ≤ left_pos o → from_o x ≡ 0
  front x p = front_within (suc (height x)) x p (omega arith)

  pub back : (x : Id) → P x → right_pos o ≤ l.pos x → to_o x ≡ 0
  back x p = back_within (suc (height x)) x p (omega arith)

  -- each row of the part is before o, or o before it, and not both
  pub one_way : (x : Id) → P x → from_o x + to_o x ≡ 1
  one_way x p = elim (split (l.pos x) (left_pos o)) [
    | inl e ↦ omega (arith, front x p e, lines_to_o x p)
    | inr e ↦ elim (split (right_pos o) (l.pos x)) [
      | inl f ↦ omega (arith, back x p f, lines_from_o x p, s.o_fits)
      | inr f ↦ omega (arith, lines_from_o x p, lines_to_o x p, tie_flip o x (o_differs x p))
    ]
  ]

  -- a left that is there, or the front, is before o or after it
  left_one_way : (x : Id) → P x → place from_o 0 (left x) + place to_o 1 (left x) ≡ 1
  left_one_way x p = left_known (λ z. place from_o 0 z + place to_o 1 z ≡ 1) refl x p (λ y q lt. one_way y q)

  -- the step of the induction: where it holds with a left or right in place of x or y, it holds of x and y
  cut_step : (x y : Id) → P x → P y → l.pos x < l.pos y →
      (left_pos y < l.pos x) ⊎ (place to_o 1 (left y) ≤ to_o x) →
      (left_pos x < l.pos y → to_o y ≤ place to_o 1 (left x)) →
      (l.pos y < right_pos x) ⊎ (to_o y ≤ place to_o 0 (right x)) →
      (l.pos y < right_pos y → place to_o 0 (right y) ≤ to_o x) →
      to_o y ≤ to_o x
  cut_step x y p q lt ly lx rx ry =
      omega (
        arith,
        why_first left right before P l s.six s.in_left s.in_right x y p q lt,
        lines_to_o x p,
        lines_to_o y q,
        ly,
        lx (omega (arith, s.after_left x p)),
        rx,
        ry (s.before_right y q),
        s.after_left x p,
        s.after_left y q,
        s.before_right x p,
        left_one_way x p,
        left_one_way y q,
        s.o_fits,
        tie_sum x y o,
        one_if_at_most (before y o),
      )

  -- what is before a row that is before o is before o
  cut_within : (n : ℕ) (x y : Id) → P x → P y → height x + height y < n → l.pos x < l.pos y → to_o y ≤ to_o x
  cut_within zero x y p q small lt = absurd (omega arith)
  cut_within (suc n) x y p q small lt = cut_step x y p q lt
      (left_known (λ z. (place l.pos 0 z < l.pos x) ⊎ (place to_o 1 z ≤ to_o x)) (inl (l.low x p)) y q
      (λ z r less. elim (which_first before P l x z p r) [
        | inl e ↦ inr (cut_within n x z p r (omega arith) e)
        | inr (inl e) ↦ inr (le_of_eq (ap to_o (sym e)))
        | inr (inr e) ↦ inl e
      ]))
      (left_known (λ z. place l.pos 0 z < l.pos y → to_o y ≤ place to_o 1 z) (λ u. one_if_at_most (before y o)) x p
      (λ z r less u. cut_within n z y r q (omega arith) u))
      (right_known (λ z. (l.pos y < place l.pos l.end z) ⊎ (to_o y ≤ place to_o 0 z)) (inl (l.high y q)) x p
      (λ z r less. elim (which_first before P l z y r q) [
        | inl e ↦ inr (cut_within n z y r q (omega arith) e)
        | inr (inl e) ↦ inr (le_of_eq (ap to_o (sym e)))
        | inr (inr e) ↦ inl e
      ]))
      (right_known (λ z. l.pos y < place l.pos l.end z → place to_o 0 z ≤ to_o x) (λ u. zero-le) y q
      (λ z r less u. cut_within n x z p r (omega arith) (omega arith)))

  pub cut : (x y : Id) → P x → P y → l.pos x < l.pos y → to_o y ≤ to_o x
  cut x y p q lt = cut_within (suc (height x + height y)) x y p q (omega arith) lt

  -- the greatest place of a row that is before o, 0 where there is none
  pub cut_place : List Id → ℕ
  cut_place [] = 0
  cut_place (x ∷ xs) = max (to_o x * l.pos x) (cut_place xs)

  pub cut_high : (rows : List Id) (x : Id) → IsIn x rows → to_o x ≡ 1 → l.pos x ≤ cut_place rows
  unfolding cut_place
  cut_high [] x i e = absurd i
  cut_high (y ∷ ys) x (inl p) e =
      let same_row : to_o y * l.pos y ≡ l.pos x = rw (← p, e) (omega arith) in omega arith
  cut_high (y ∷ ys) x (inr p) e = omega (arith, cut_high ys x p e)

  -- the cut is at the front or at a row before o
  cut_at : (rows : List Id) → ((x : Id) → IsIn x rows → P x) → (cut_place rows ≡ 0) ⊎ ((y : Id) × P y × (to_o y ≡ 1) × (l.pos y ≡ cut_place rows))
  unfolding cut_place
  cut_at [] into = inl refl
  cut_at (y ∷ ys) into = elim (split (to_o y * l.pos y) (cut_place ys)) [
    | inl e ↦ elim (cut_at ys (λ x i. into x (inr i))) [
      | inl f ↦ inl (omega arith)
      | inr f ↦ inr (f.0, f.1, f.2, omega (arith, f.3))
    ]
    | inr e ↦ elim (split (to_o y) 0) [
      | inl f ↦ absurd (let none : to_o y ≡ 0 = omega arith in let flat : to_o y * l.pos y ≡ 0 = rw none (omega arith) in omega arith)
      | inr f ↦ let one : to_o y ≡ 1 = omega (arith, one_if_at_most (before y o)) in
          inr (y, into y (inl refl), one, (let flat : to_o y * l.pos y ≡ l.pos y = rw one (omega arith) in omega arith))
    ]
  ]

  pub cut_low : (rows : List Id) → ((x : Id) → IsIn x rows → P x) → (x : Id) → P x → l.pos x ≤ cut_place rows → to_o x ≡ 1
  cut_low rows into x p le = elim (cut_at rows into) [
    | inl e ↦ absurd (omega (arith, l.low x p))
    | inr e ↦ elim (which_first before P l x e.0 p e.1) [
      | inl f ↦ omega (arith, cut x e.0 p e.1 f, e.2, one_if_at_most (before x o))
      | inr (inl f) ↦ subst (λ z. to_o z ≡ 1) (sym f) e.2
      | inr (inr f) ↦ absurd (omega (arith, e.3))
    ]
  ]

  pub cut_end : (rows : List Id) → ((x : Id) → IsIn x rows → P x) → cut_place rows < l.end
  cut_end rows into = elim (cut_at rows into) [
    | inl e ↦ omega (arith, l.some)
    | inr e ↦ omega (arith, e.3, l.high e.0 e.1)
  ]
