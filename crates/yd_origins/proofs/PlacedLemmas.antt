-- A list of rows, each with its left and right behind it, stands in a line, each row after its left and before its right.
use Rattle.std.proofs.Common.{◌≡◌, ◌≢◌, ℕ, suc, ◌*◌, ◌<◌, ◌≤◌, Bool, true, false, cond, List, [], ◌∷◌, inl, inr, Some, None, Option, refl, sym, ◌∙◌, subst, arith, zero-le}
use Rattle.std.specs.Prelude.{IfSome}
use Rattle.yd_words.specs.Member.{IsIn}
use Rattle.yd_words.specs.Test.{one_if}
use Rattle.yd_words.proofs.TestLemmas.{split, one_if-one, one_if-zero}
use Rattle.yd_words.proofs.OptionLemmas.{if_some_map}
use Rattle.yd_ids.specs.declared.id.Id.{Id}
use Rattle.yd_ids.specs.Ids.{is_same}
use Rattle.yd_ids.proofs.IdLemmas.{same_says, same_itself}
use Rattle.yd_origins.specs.Before.{by_lines, IsLeftFirst}
use Rattle.yd_origins.proofs.MemberLemmas.{place}
use Rattle.yd_origins.proofs.LineLemmas.{Line}
use Rattle.yd_origins.proofs.StepLemmas.{Step, front, back, one_way, cut_place, cut_high, cut_low, cut_end}

-- a line in which each row stands after its left and before its right
pub record Placed (left right : Id → Option Id) (before : Id → Id → Bool) (P : Id → Type 0) : Type 0 where
  pub line : Line before P
  pub after_left : (x : Id) → P x → place line.pos 0 (left x) < line.pos x
  pub before_right : (x : Id) → P x → line.pos x < place line.pos line.end (right x)

module _ (left right : Id → Option Id) (before : Id → Id → Bool) (height : Id → ℕ) (rows : List Id) (o : Id) where
  abbrev P : Id → Type 0
  P x = IsIn x rows

  abbrev All : Id → Type 0
  All x = IsIn x (o ∷ rows)

  module _ (l : Line before P) (s : Step left right before height P l o) where
    abbrev cut : ℕ
    cut = cut_place left right before height P l o s rows

    new_pos : Id → ℕ
    new_pos x = cond (is_same x o) (suc (2 * cut)) (2 * l.pos x)

    new_pos_of_new : new_pos o ≡ suc (2 * cut)
    unfolding new_pos
    new_pos_of_new = rw (same_itself o) refl

    new_pos_of_old : (x : Id) → P x → new_pos x ≡ 2 * l.pos x
    unfolding new_pos
    new_pos_of_old x p = elim (same_says x o) [
      | inl e ↦ absurd (s.fresh (subst P e.1 p))
      | inr e ↦ rw e.0 refl
    ]

    -- before o is up to the cut
    up_to_cut : (x : Id) → P x → before x o ≡ true → l.pos x ≤ cut
    up_to_cut x p e = cut_high left right before height P l o s rows x p (rw e refl)

    behind_cut : (x : Id) → P x → before x o ≡ false → cut < l.pos x
    behind_cut x p e = elim (split (l.pos x) cut) [
      | inl f ↦ absurd (omega (arith, cut_low left right before height P l o s rows (λ y q. q) x p f, zero_of x e))
      | inr f ↦ f
    ]
      where
        zero_of : (x : Id) → before x o ≡ false → one_if (before x o) ≡ 0
        zero_of x e = rw e refl

    behind_cut_from : (x : Id) → P x → before o x ≡ true → cut < l.pos x
    behind_cut_from x p e = behind_cut x p (one_if-zero (before x o) (omega (arith, one_way left right before height P l o s x p, one)))
      where
        one : one_if (before o x) ≡ 1
        one = rw e refl

    up_to_cut_from : (x : Id) → P x → before o x ≡ false → l.pos x ≤ cut
    up_to_cut_from x p e = up_to_cut x p (one_if-one (before x o) (omega (arith, one_way left right before height P l o s x p, none)))
      where
        none : one_if (before o x) ≡ 0
        none = rw e refl

    new_up : (x y : Id) → All x → All y → x ≢ y → before x y ≡ true → new_pos x < new_pos y
    new_up x y (inl p) (inl q) ne e = absurd (ne (p ∙ sym q))
    new_up x y (inl p) (inr q) ne e = rw (p, new_pos_of_new) (omega (arith, new_pos_of_old y q, behind_cut_from y q (subst (λ z. before z y ≡ true) p e)))
    new_up x y (inr p) (inl q) ne e = rw (q, new_pos_of_new) (omega (arith, new_pos_of_old x p, up_to_cut x p (subst (λ z. before x z ≡ true) q e)))
    new_up x y (inr p) (inr q) ne e = omega (arith, new_pos_of_old x p, new_pos_of_old y q, l.up x y p q ne e)

    new_down : (x y : Id) → All x → All y → x ≢ y → before x y ≡ false → new_pos y < new_pos x
    new_down x y (inl p) (inl q) ne e = absurd (ne (p ∙ sym q))
    new_down x y (inl p) (inr q) ne e = rw (p, new_pos_of_new) (omega (arith, new_pos_of_old y q, up_to_cut_from y q (subst (λ z. before z y ≡ false) p e)))
    new_down x y (inr p) (inl q) ne e = rw (q, new_pos_of_new) (omega (arith, new_pos_of_old x p, behind_cut x p (subst (λ z. before x z ≡ false) q e)))
    new_down x y (inr p) (inr q) ne e = omega (arith, new_pos_of_old x p, new_pos_of_old y q, l.down x y p q ne e)

    new_line : Line before All
    new_line = record {
      pos = new_pos;
      end = 2 * l.end;
      some = omega (arith, l.some);
      low = λ x p. elim p [
        | inl e ↦ rw (e, new_pos_of_new) (omega arith)
        | inr q ↦ omega (arith, new_pos_of_old x q, l.low x q)
      ];
      high = λ x p. elim p [
        | inl e ↦ rw (e, new_pos_of_new) (omega (arith, cut_end left right before height P l o s rows (λ y q. q)))
        | inr q ↦ omega (arith, new_pos_of_old x q, l.high x q)
      ];
      up = new_up;
      down = new_down;
    }

    -- the places of a left and of a right in the new line
    new_left : (z : Option Id) → IfSome z P → place new_pos 0 z ≡ 2 * place l.pos 0 z
    new_left None u = omega arith
    new_left (Some y) u = new_pos_of_old y u

    new_right : (z : Option Id) → IfSome z P → place new_pos (2 * l.end) z ≡ 2 * place l.pos l.end z
    new_right None u = refl
    new_right (Some y) u = new_pos_of_old y u

    -- o's left is up to the cut, and o's right behind it
    left_cut : (z : Option Id) → left o ≡ z → IfSome z P → place l.pos 0 z ≤ cut
    left_cut None e u = zero-le
    left_cut (Some y) e u = up_to_cut_from y u (one_if-zero (before o y) (front left right before height P l o s y u (rw e (omega arith))))

    right_cut : (z : Option Id) → right o ≡ z → IfSome z P → cut < place l.pos l.end z
    right_cut None e u = cut_end left right before height P l o s rows (λ y q. q)
    right_cut (Some y) e u = behind_cut y u (one_if-zero (before y o) (back left right before height P l o s y u (rw e (omega arith))))

    new_placed : Placed left right before All
    unfolding new_line
    new_placed = record {
      line = new_line;
      after_left = λ x p. elim p [
        | inl e ↦ rw (e, new_pos_of_new) (omega (arith, new_left (left o) s.o_left, left_cut (left o) refl s.o_left))
        | inr q ↦ omega (arith, new_pos_of_old x q, new_left (left x) (s.in_left x q), s.after_left x q)
      ];
      before_right = λ x p. elim p [
        | inl e ↦ rw (e, new_pos_of_new) (omega (arith, new_right (right o) s.o_right, right_cut (right o) refl s.o_right))
        | inr q ↦ omega (arith, new_pos_of_old x q, new_right (right x) (s.in_right x q), s.before_right x q)
      ];
    }

-- rows, each with its left and right among those behind it in the list, and none twice
abbrev pub IsListed : (Id → Option Id) → (Id → Option Id) → List Id → Type 0
IsListed left right [] = Unit {0}
IsListed left right (o ∷ rows) = (IsIn o rows → ⊥) × IfSome (left o) (λ y. IsIn y rows) × IfSome (right o) (λ y. IsIn y rows) × IsListed left right rows

-- a left or right of a listed row is listed
listed_left : (left right : Id → Option Id) (rows : List Id) → IsListed left right rows → (x : Id) → IsIn x rows → IfSome (left x) (λ y. IsIn y rows)
listed_left left right [] g x i = absurd i
listed_left left right (o ∷ rows) g x (inl e) = rw e (if_some_map (λ y. IsIn y rows) (λ y. IsIn y (o ∷ rows)) (left o) (λ y j. inr j) g.1)
listed_left left right (o ∷ rows) g x (inr i) = if_some_map (λ y. IsIn y rows) (λ y. IsIn y (o ∷ rows)) (left x) (λ y j. inr j) (listed_left left right rows g.3 x i)

-- lefts and rights may change their parts
pub listed_back : (left right : Id → Option Id) (rows : List Id) → IsListed left right rows → IsListed right left rows
listed_back left right [] g = tt
listed_back left right (o ∷ rows) g = (g.0, g.2, g.1, listed_back left right rows g.3)

listed_right : (left right : Id → Option Id) (rows : List Id) → IsListed left right rows → (x : Id) → IsIn x rows → IfSome (right x) (λ y. IsIn y rows)
listed_right left right rows g = listed_left right left rows (listed_back left right rows g)

-- a left is before a right in the line, where `IsLeftFirst` says so
fits_at : (before : Id → Id → Bool) (P : Id → Type 0) (l : Line before P) (z w : Option Id) → IfSome z P → IfSome w P → IsLeftFirst before z w →
    place l.pos 0 z < place l.pos l.end w
fits_at before P l None None u v f = l.some
fits_at before P l None (Some r) u v f = l.low r v
fits_at before P l (Some p) None u v f = l.high p u
fits_at before P l (Some p) (Some r) u v f = l.up p r u v f.0 f.1

-- what is asked of the rows: the six lines hold at them, the height falls from a row to its left and right, each left is before its right
pub record Ranked (left right : Id → Option Id) (before : Id → Id → Bool) (height : Id → ℕ) (P : Id → Type 0) : Type 0 where
  pub six : (x y : Id) → P x → P y → x ≢ y → before x y ≡ by_lines left right before x y
  pub low_left : (x : Id) → P x → IfSome (left x) (λ y. height y < height x)
  pub low_right : (x : Id) → P x → IfSome (right x) (λ y. height y < height x)
  pub fits : (x : Id) → P x → IsLeftFirst before (left x) (right x)

-- one row more
with_one_more : (left right : Id → Option Id) (before : Id → Id → Bool) (height : Id → ℕ) (o : Id) (rows : List Id) →
    IsListed left right (o ∷ rows) → Ranked left right before height (λ x. IsIn x (o ∷ rows)) →
    Placed left right before (λ x. IsIn x rows) → Placed left right before (λ x. IsIn x (o ∷ rows))
with_one_more left right before height o rows g s known = new_placed left right before height rows o known.line (record {
  six = λ x y p q. s.six x y (inr p) (inr q);
  six_to = λ x p. s.six x o (inr p) (inl refl) (λ e. g.0 (subst (λ z. IsIn z rows) e p));
  six_from = λ x p. s.six o x (inl refl) (inr p) (λ e. g.0 (subst (λ z. IsIn z rows) (sym e) p));
  fresh = g.0;
  in_left = listed_left left right rows g.3;
  in_right = listed_right left right rows g.3;
  low_left = λ x p. s.low_left x (inr p);
  low_right = λ x p. s.low_right x (inr p);
  after_left = known.after_left;
  before_right = known.before_right;
  o_left = g.1;
  o_right = g.2;
  o_fits = fits_at before (λ x. IsIn x rows) known.line (left o) (right o) g.1 g.2 (s.fits o (inl refl));
})

-- what is asked of all rows holds of those behind the first
fewer : (left right : Id → Option Id) (before : Id → Id → Bool) (height : Id → ℕ) (o : Id) (rows : List Id) →
    Ranked left right before height (λ x. IsIn x (o ∷ rows)) → Ranked left right before height (λ x. IsIn x rows)
fewer left right before height o rows s = record {
  six = λ x y p q. s.six x y (inr p) (inr q);
  low_left = λ x p. s.low_left x (inr p);
  low_right = λ x p. s.low_right x (inr p);
  fits = λ x p. s.fits x (inr p);
}

-- the rows stand in a line, each after its left and before its right
pub placed : (left right : Id → Option Id) (before : Id → Id → Bool) (height : Id → ℕ) (rows : List Id) →
    IsListed left right rows → Ranked left right before height (λ x. IsIn x rows) → Placed left right before (λ x. IsIn x rows)
placed left right before height [] g s = record {
  line = record {
    pos = λ x. 0;
    end = 1;
    some = omega arith;
    low = λ x p. absurd p;
    high = λ x p. absurd p;
    up = λ x y p q ne e. absurd p;
    down = λ x y p q ne e. absurd p;
  };
  after_left = λ x p. absurd p;
  before_right = λ x p. absurd p;
}
placed left right before height (o ∷ rows) g s =
    with_one_more left right before height o rows g s (placed left right before height rows g.3 (fewer left right before height o rows s))
