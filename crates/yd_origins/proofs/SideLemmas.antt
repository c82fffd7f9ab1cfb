-- On which side of the new row a scanned row stands: four facts.
use Rattle.std.proofs.Common.{◌≡◌, ◌≢◌, ℕ, zero, suc, ◌<◌, ◌≤◌, Bool, List, ◌⊎◌, inl, inr, Some, None, Option, refl, ap, subst, arith}
use Rattle.std.specs.Prelude.{IfSome}
use Rattle.yd_words.specs.Member.{IsIn}
use Rattle.yd_words.specs.Test.{one_if}
use Rattle.yd_words.proofs.TestLemmas.{split}
use Rattle.yd_ids.specs.declared.id.Id.{Id}
use Rattle.yd_ids.specs.Ids.{is_smaller}
use Rattle.yd_ids.proofs.IdLemmas.{greater_client_zero}
use Rattle.yd_origins.proofs.MemberLemmas.{place}
use Rattle.yd_origins.proofs.LineLemmas.{Line, which_first, why_first, Reasons}
use Rattle.yd_origins.proofs.WalkLemmas.{Setting}

module _ (left right : Id → Option Id) (before : Id → Id → Bool) (height : Id → ℕ) (P : Id → Type 0) (l : Line before P) (rows : List Id) (o : Id)
    (s : Setting left right before height P l rows o) where
  abbrev left_pos : Id → ℕ
  left_pos x = place l.pos 0 (left x)

  abbrev right_pos : Id → ℕ
  right_pos x = place l.pos l.end (right x)

  abbrev R : Id → Type 0
  R x = IsIn x rows

  not_new_row : (x : Id) → R x → x ≢ o
  not_new_row x i e = s.o_new (subst R e i)

  -- a row of the part stands before o or after it
  side : (x : Id) → R x → (l.pos x < l.pos o) ⊎ (l.pos o < l.pos x)
  side x i = elim (which_first before P l x o (s.member x i) s.o_in) [
    | inl e ↦ inl e
    | inr (inl e) ↦ absurd (not_new_row x i e)
    | inr (inr e) ↦ inr e
  ]

  why_first_of : (x y : Id) → P x → P y → l.pos x < l.pos y →
      (l.pos x ≤ left_pos y) ⊎ ((right_pos x ≤ l.pos y) ⊎ ((left_pos x ≡ left_pos y) × (one_if (is_smaller x y) ≡ 1) ⊎ (left_pos y < left_pos x)))
  why_first_of = why_first left right before P l s.six s.in_left s.in_right

  -- a smaller client with o's left stands before o
  smaller_client_first : (x : Id) → R x → left_pos x ≡ left_pos o → x.client.0 < o.client.0 → l.pos x < right_pos o → l.pos x < l.pos o
  smaller_client_first x i e c r = elim (side x i) [
    | inl f ↦ f
    | inr f ↦ omega (arith, why_first_of o x s.o_in (s.member x i) f, greater_client_zero o x c, s.after_left o s.o_in)
  ]

  -- what has its left between o's left and o stands before o
  follows : (x y : Id) → R x → left x ≡ Some y → left_pos o < l.pos y → l.pos y < l.pos o → l.pos x < right_pos o → l.pos x < l.pos o
  follows x y i e low lt r = elim (side x i) [
    | inl f ↦ f
    | inr f ↦ let at_y : left_pos x ≡ l.pos y = ap (place l.pos 0) e in omega (arith, why_first_of o x s.o_in (s.member x i) f)
  ]

  -- a greater client with o's left and right stands behind o
  greater_client_behind : (x : Id) → R x → left_pos x ≡ left_pos o → right_pos x ≡ right_pos o → o.client.0 < x.client.0 → left_pos o < l.pos x →
      l.pos o < l.pos x
  greater_client_behind x i e f c low = elim (side x i) [
    | inl g ↦ omega (arith, why_first_of x o (s.member x i) s.o_in g, greater_client_zero x o c, s.before_right o s.o_in)
    | inr g ↦ g
  ]

  right_at : (x : Id) (z : Option Id) → right x ≡ z → right_pos x ≡ place l.pos l.end z
  right_at x z e = ap (place l.pos l.end) e

  left_at : (x : Id) (z : Option Id) → left x ≡ z → left_pos x ≡ place l.pos 0 z
  left_at x z e = ap (place l.pos 0) e

  -- the left of a row's right is no later than the row's left
  left_of_right : (x t : Id) → R x → right x ≡ Some t → R t → (z : Option Id) → left t ≡ z → left_pos t ≤ left_pos x
  left_of_right x t i e j None g = omega (arith, left_at t None g)
  left_of_right x t i e j (Some y) g = elim (split (l.pos y) (left_pos x)) [
    | inl k ↦ omega (arith, left_at t (Some y) g)
    | inr k ↦ absurd (s.gap x t y i e g k (omega (arith, left_at t (Some y) g, s.after_left t (s.member t j))))
  ]

  early_left_step : (x : Id) → R x → left_pos x < left_pos o → left_pos o < l.pos x →
      ((t : Id) → R t → height t < height x → left_pos t < left_pos o → left_pos o < l.pos t → l.pos o < l.pos t) →
      (z : Option Id) → right x ≡ z → IfSome z (λ y. IsIn y rows) → IfSome z (λ y. height y < height x) → l.pos x < l.pos o → ⊥
  early_left_step x i low up ih None e j m f = omega (arith, why_first_of x o (s.member x i) s.o_in f, right_at x None e, l.high o s.o_in)
  early_left_step x i low up ih (Some t) e j m f = elim (side t j) [
    | inl g ↦ let t_low : left_pos t ≤ left_pos x = left_of_right x t i e j (left t) refl in
        omega (arith, ih t j m (omega arith) (omega (arith, right_at x (Some t) e, s.before_right x (s.member x i))))
    | inr g ↦ omega (arith, why_first_of x o (s.member x i) s.o_in f, right_at x (Some t) e)
  ]

  -- a row behind o's left, whose own left is before that, stands behind o
  early_left_within : (n : ℕ) (x : Id) → R x → height x < n → left_pos x < left_pos o → left_pos o < l.pos x → l.pos o < l.pos x
  early_left_within zero x i small low up = absurd (omega arith)
  early_left_within (suc n) x i small low up = elim (side x i) [
    | inl f ↦ absurd (early_left_step x i low up (λ t j m u v. early_left_within n t j (omega arith) u v) (right x) refl (s.rows_right x i)
        (s.low_right x (s.member x i)) f)
    | inr f ↦ f
  ]

  early_left : (x : Id) → R x → left_pos x < left_pos o → left_pos o < l.pos x → l.pos o < l.pos x
  early_left x i low up = early_left_within (suc (height x)) x i (omega arith) low up

  -- where the scanned rows stand
  pub record Sides : Type 0 where
    pub either : (x : Id) → R x → (l.pos x < l.pos o) ⊎ (l.pos o < l.pos x)
    pub reasons : (x : Id) → R x → l.pos x < l.pos o → Reasons left right l.pos l.end x o
    pub smaller_client : (x : Id) → R x → left_pos x ≡ left_pos o → x.client.0 < o.client.0 → l.pos x < right_pos o → l.pos x < l.pos o
    pub follower : (x y : Id) → R x → left x ≡ Some y → left_pos o < l.pos y → l.pos y < l.pos o → l.pos x < right_pos o → l.pos x < l.pos o
    pub greater_client : (x : Id) → R x → left_pos x ≡ left_pos o → right_pos x ≡ right_pos o → o.client.0 < x.client.0 → left_pos o < l.pos x →
        l.pos o < l.pos x
    pub earlier_left : (x : Id) → R x → left_pos x < left_pos o → left_pos o < l.pos x → l.pos o < l.pos x

  pub sides : Sides
  sides = record {
    either = side;
    reasons = λ x i. why_first_of x o (s.member x i) s.o_in;
    smaller_client = smaller_client_first;
    follower = follows;
    greater_client = greater_client_behind;
    earlier_left = early_left;
  }
