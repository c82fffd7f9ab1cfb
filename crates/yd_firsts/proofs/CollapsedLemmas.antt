-- Pieces that stand for their units: which unit is before which, where of two pieces one alone is before the other.
use Rattle.std.proofs.Common.{◌≡◌, ◌≢◌, ℕ, zero, suc, ◌+◌, ◌<◌, Bool, true, false, ◌⊎◌, inl, inr, Option, Some, None, refl, sym, ap, ◌∙◌, subst, arith, true≢false}
use Rattle.std.specs.Prelude.{IfSome, option_map}
use Rattle.yd_words.specs.Test.{is_some_and}
use Rattle.yd_words.specs.Member.{IsIn}
use Rattle.yd_words.proofs.TestLemmas.{test_fails}
use Rattle.yd_ids.specs.declared.id.Id.{Id}
use Rattle.yd_ids.specs.Ids.{is_same, is_smaller, is_same_neighbour}
use Rattle.yd_ids.proofs.IdLemmas.{same_says, same_itself, other_id}
use Rattle.yd_origins.specs.Table.{OriginTable, ids_of, left_of, right_of, IsTable}
use Rattle.yd_origins.specs.Before.{is_up_to, is_later_left, is_before}
use Rattle.yd_origins.proofs.LineLemmas.{first_of_lines}
use Rattle.yd_origins.proofs.TableLemmas.{lines_decide, not_itself, total}

-- the unit is the first of its piece, whose left is the piece of the unit's left
pub record IsFirst (table small : OriginTable) (first : Id → Id) (x : Id) : Type 0 where
  pub itself : first x ≡ x
  pub left : left_of small (first x) ≡ option_map first (left_of table x)

-- the unit's left is a unit of its piece, and not the last one
pub record IsLater (table : OriginTable) (first last : Id → Id) (x : Id) : Type 0 where
  pub before : Id
  pub left : left_of table x ≡ Some before
  pub piece : first before ≡ first x
  pub middle : before ≢ last (first x)

-- pieces of the table are the rows of a small one: each unit has a first, and each first a last
pub record Collapses (table small : OriginTable) (first last : Id → Id) : Type 0 where
  pub member : (x : Id) → IsIn x (ids_of table) → IsIn (first x) (ids_of small)
  pub cases : (x : Id) → IsIn x (ids_of table) → IsFirst table small first x ⊎ IsLater table first last x
  pub right : (x : Id) → IsIn x (ids_of table) → right_of table x ≡ right_of small (first x)
  pub right_first : (x q : Id) → IsIn x (ids_of table) → right_of table x ≡ Some q → first q ≡ q
  pub left_last : (x p : Id) → IsIn x (ids_of table) → first x ≡ x → left_of table x ≡ Some p → p ≡ last (first p)
  pub to_last : (x : Id) → IsIn x (ids_of table) → (x ≡ last (first x)) ⊎ (is_before table x (last (first x)) ≡ true)
  pub from_first : (x : Id) → IsIn x (ids_of table) → (first x ≡ x) ⊎ (is_before table (first x) x ≡ true)
  pub one_way : (x y : Id) → IsIn x (ids_of small) → IsIn y (ids_of small) → is_before small x y ≡ true → is_before small y x ≡ false

-- ---- tests

up_when_same : (f : Id → Id → Bool) (a b : Id) → is_same a b ≡ true → is_up_to f a b ≡ true
up_when_same f a b e = ap (λ u. elim u as (λ x. Bool) [ true ↦ true | false ↦ f a b ]) e

up_when_other : (f : Id → Id → Bool) (a b : Id) → is_same a b ≡ false → is_up_to f a b ≡ f a b
up_when_other f a b e = ap (λ u. elim u as (λ x. Bool) [ true ↦ true | false ↦ f a b ]) e

pub up_true : (f : Id → Id → Bool) (a b : Id) → (a ≡ b) ⊎ (f a b ≡ true) → is_up_to f a b ≡ true
up_true f a b (inl e) = up_when_same f a b (subst (λ v. is_same a v ≡ true) e (same_itself a))
up_true f a b (inr e) = elim (same_says a b) [ inl s ↦ up_when_same f a b s.0 | inr s ↦ up_when_other f a b s.0 ∙ e ]

pub is_up : (f : Id → Id → Bool) (a b : Id) → is_up_to f a b ≡ true → (a ≡ b) ⊎ (f a b ≡ true)
is_up f a b e = elim (same_says a b) [ inl s ↦ inl s.1 | inr s ↦ inr (sym (up_when_other f a b s.0) ∙ e) ]

-- what is not up to another is another, and not before it
pub not_up : (f : Id → Id → Bool) (a b : Id) → is_up_to f a b ≡ false → (a ≢ b) × (f a b ≡ false)
not_up f a b e = ((λ one. true≢false (sym (up_true f a b (inl one)) ∙ e)), test_fails (f a b) (λ g. true≢false (sym (up_true f a b (inr g)) ∙ e)))

stays_false : (k1 k2 k3 k4 k5 tie k6 b5 b_tie b6 : Bool) → first_of_lines k1 k2 k3 k4 k5 tie k6 ≡ false → b5 ≡ false → (k2 ≡ false → b6 ≡ false) →
    first_of_lines false k2 k3 k4 b5 b_tie b6 ≡ false
stays_false true k2 k3 k4 k5 tie k6 b5 b_tie b6 e f g = absurd (true≢false e)
stays_false false true k3 k4 k5 tie k6 b5 b_tie b6 e f g = refl
stays_false false false true k4 k5 tie k6 b5 b_tie b6 e f g = absurd (true≢false e)
stays_false false false false true k5 tie k6 b5 b_tie b6 e f g = refl
stays_false false false false false k5 tie k6 b5 b_tie b6 e f g = ap (λ u. first_of_lines false false false false u b_tie b6) f ∙ g refl

stays_true : (k1 k2 k3 k4 k5 tie k6 b5 b_tie b6 : Bool) → first_of_lines k1 k2 k3 k4 k5 tie k6 ≡ true → b5 ≡ false → (k1 ≡ false → b6 ≡ true) →
    first_of_lines k1 false k3 k4 b5 b_tie b6 ≡ true
stays_true true k2 k3 k4 k5 tie k6 b5 b_tie b6 e f g = refl
stays_true false true k3 k4 k5 tie k6 b5 b_tie b6 e f g = absurd (true≢false (sym e))
stays_true false false true k4 k5 tie k6 b5 b_tie b6 e f g = refl
stays_true false false false true k5 tie k6 b5 b_tie b6 e f g = absurd (true≢false (sym e))
stays_true false false false false k5 tie k6 b5 b_tie b6 e f g = ap (λ u. first_of_lines false false false false u b_tie b6) f ∙ g refl

turns_false : (k1 k2 k3 k4 k5 tie k6 b3 b4 b5 b_tie b6 : Bool) → first_of_lines k1 k2 k3 k4 k5 tie k6 ≡ false → first_of_lines k1 true b3 b4 b5 b_tie b6 ≡ false
turns_false true k2 k3 k4 k5 tie k6 b3 b4 b5 b_tie b6 e = absurd (true≢false e)
turns_false false k2 k3 k4 k5 tie k6 b3 b4 b5 b_tie b6 e = refl

module _ (table small : OriginTable) (t : IsTable table) (s : IsTable small) (first last : Id → Id) (c : Collapses table small first last) where
  abbrev P : Id → Type 0
  P x = IsIn x (ids_of table)

  abbrev b : Id → Id → Bool
  b = is_before table

  abbrev k : Id → Id → Bool
  k = is_before small

  abbrev height : Id → ℕ
  height = t.ends.height

  left_in : (x p : Id) → P x → left_of table x ≡ Some p → P p × (height p < height x)
  left_in x p i e = (subst (λ z. IfSome z P) e (t.has_left x i), subst (λ z. IfSome z (λ y. height y < height x)) e (t.ends.falls_left x i))

  right_in : (x p : Id) → P x → right_of table x ≡ Some p → P p × (height p < height x)
  right_in x p i e = (subst (λ z. IfSome z P) e (t.has_right x i), subst (λ z. IfSome z (λ y. height y < height x)) e (t.ends.falls_right x i))

  other_way : (x y : Id) → IsIn x (ids_of small) → IsIn y (ids_of small) → x ≢ y → k x y ≡ false → k y x ≡ true
  other_way x y i j ne e = elim (total small s x y i j ne) [ inl f ↦ absurd (true≢false (sym f ∙ e)) | inr f ↦ f ]

  module _ (n : ℕ) (ih : (x y : Id) → P x → P y → height x + height y < n → first x ≢ first y → b x y ≡ k (first x) (first y)) where
    up_other : (x y : Id) → P x → P y → height x + height y < n → first x ≢ first y → is_up_to b x y ≡ k (first x) (first y)
    up_other x y i j lt ne = up_when_other b x y (other_id x y (λ e. ne (ap first e))) ∙ ih x y i j lt ne

    up_last : (x p : Id) → P x → P p → height x + height p < n → p ≡ last (first p) → is_up_to b x p ≡ is_up_to k (first x) (first p)
    up_last x p i j lt is = elim (same_says (first x) (first p)) [
      | inl e ↦ up_true b x p (subst (λ v. (x ≡ v) ⊎ (b x v ≡ true)) (ap last e.1 ∙ sym is) (c.to_last x i)) ∙ sym (up_when_same k (first x) (first p) e.0)
      | inr e ↦ up_other x p i j lt e.1 ∙ sym (up_when_other k (first x) (first p) e.0)
    ]

    up_first : (q y : Id) → P q → P y → height q + height y < n → first q ≡ q → is_up_to b q y ≡ is_up_to k q (first y)
    up_first q y i j lt is = elim (same_says (first q) (first y)) [
      | inl e ↦ up_true b q y (subst (λ v. (v ≡ y) ⊎ (b v y ≡ true)) (sym e.1 ∙ is) (c.from_first y j)) ∙ sym (up_when_same k q (first y) (subst (λ v. is_same v (first y) ≡ true) is e.0))
      | inr e ↦ up_other q y i j lt e.1 ∙ ap (λ v. k v (first y)) is ∙ sym (up_when_other k q (first y) (subst (λ v. is_same v (first y) ≡ false) is e.0))
    ]

    -- a line that asks for the left of a first
    to_left : (x y : Id) → P x → P y → height x + height y < suc n → IsFirst table small first y →
        is_some_and (λ p. is_up_to b x p) (left_of table y) ≡ is_some_and (λ p. is_up_to k (first x) p) (left_of small (first y))
    to_left x y i j lt f = go (left_of table y) (λ p e. let (q, less) = left_in y p j e in up_last x p i q (omega (arith, lt, less)) (c.left_last y p j f.itself e))
        ∙ ap (λ z. is_some_and (λ p. is_up_to k (first x) p) z) (sym f.left)
      where
        go : (z : Option Id) → ((p : Id) → z ≡ Some p → is_up_to b x p ≡ is_up_to k (first x) (first p)) →
            is_some_and (λ p. is_up_to b x p) z ≡ is_some_and (λ p. is_up_to k (first x) p) (option_map first z)
        go None h = refl
        go (Some p) h = h p refl

    -- a line that asks for a right
    from_right : (x y : Id) → P x → P y → height x + height y < suc n →
        is_some_and (λ r. is_up_to b r y) (right_of table x) ≡ is_some_and (λ r. is_up_to k r (first y)) (right_of small (first x))
    from_right x y i j lt = go (right_of table x) (λ q e. let (r, less) = right_in x q i e in up_first q y r j (omega (arith, lt, less)) (c.right_first x q i e))
        ∙ ap (λ z. is_some_and (λ r. is_up_to k r (first y)) z) (c.right x i)
      where
        go : (z : Option Id) → ((q : Id) → z ≡ Some q → is_up_to b q y ≡ is_up_to k q (first y)) →
            is_some_and (λ r. is_up_to b r y) z ≡ is_some_and (λ r. is_up_to k r (first y)) z
        go None h = refl
        go (Some q) h = h q refl

    module _ (x y : Id) (i : P x) (j : P y) (lt : height x + height y < suc n) (ne : first x ≢ first y) where
      abbrev X : Id
      X = first x

      abbrev Y : Id
      Y = first y

      small_lines : k X Y ≡ first_of_lines (is_some_and (λ p. is_up_to k X p) (left_of small Y)) (is_some_and (λ p. is_up_to k Y p) (left_of small X))
          (is_some_and (λ r. is_up_to k r Y) (right_of small X)) (is_some_and (λ r. is_up_to k r X) (right_of small Y))
          (is_same_neighbour (left_of small X) (left_of small Y)) (is_smaller X Y) (is_later_left k (left_of small X) (left_of small Y))
      small_lines = lines_decide small s X Y (c.member x i) (c.member y j) ne

      lines : b x y ≡ first_of_lines (is_some_and (λ p. is_up_to b x p) (left_of table y)) (is_some_and (λ p. is_up_to b y p) (left_of table x))
          (is_some_and (λ r. is_up_to b r y) (right_of table x)) (is_some_and (λ r. is_up_to b r x) (right_of table y))
          (is_same_neighbour (left_of table x) (left_of table y)) (is_smaller x y) (is_later_left b (left_of table x) (left_of table y))
      lines = lines_decide table t x y i j (λ e. ne (ap first e))

      abbrev back : height y + height x < suc n
      back = omega (arith, lt)

      -- ---- both are firsts

      both : IsFirst table small first x → IsFirst table small first y → b x y ≡ k X Y
      both f g = lines ∙ (λ a. first_of_lines (to_left x y i j lt g a) (to_left y x j i back f a) (from_right x y i j lt a) (from_right y x j i back a)
          (same_lefts a) (is_smaller (sym f.itself a) (sym g.itself a)) (later_lefts a)) ∙ sym small_lines
        where
          same_left : (z w : Option Id) → ((e : Id) → z ≡ Some e → e ≡ last (first e)) → ((d : Id) → w ≡ Some d → d ≡ last (first d)) →
              is_same_neighbour z w ≡ is_same_neighbour (option_map first z) (option_map first w)
          same_left None None h m = refl
          same_left None (Some d) h m = refl
          same_left (Some e) None h m = refl
          same_left (Some e) (Some d) h m = elim (same_says (first e) (first d)) [
            | inl o ↦ subst (λ v. is_same e v ≡ true) (h e refl ∙ ap last o.1 ∙ sym (m d refl)) (same_itself e) ∙ sym o.0
            | inr o ↦ other_id e d (λ u. o.1 (ap first u)) ∙ sym o.0
          ]

          same_lefts : is_same_neighbour (left_of table x) (left_of table y) ≡ is_same_neighbour (left_of small X) (left_of small Y)
          same_lefts = same_left (left_of table x) (left_of table y) (λ e. c.left_last x e i f.itself) (λ d. c.left_last y d j g.itself)
              ∙ (λ a. is_same_neighbour (sym f.left a) (sym g.left a))

          later_left : (z w : Option Id) → ((e : Id) → z ≡ Some e → (e ≡ last (first e)) × P e × (height e < height x)) →
              ((d : Id) → w ≡ Some d → (d ≡ last (first d)) × P d × (height d < height y)) →
              is_later_left b z w ≡ is_later_left k (option_map first z) (option_map first w)
          later_left None w h m = refl
          later_left (Some e) None h m = refl
          later_left (Some e) (Some d) h m = elim (same_says (first d) (first e)) [
            | inl o ↦ subst (λ v. b d v ≡ false) ((m d refl).0 ∙ ap last o.1 ∙ sym (h e refl).0) (not_itself table d)
                ∙ sym (subst (λ v. k (first d) v ≡ false) o.1 (not_itself small (first d)))
            | inr o ↦ ih d e (m d refl).1 (h e refl).1 (omega (arith, lt, (m d refl).2, (h e refl).2)) o.1
          ]

          later_lefts : is_later_left b (left_of table x) (left_of table y) ≡ is_later_left k (left_of small X) (left_of small Y)
          later_lefts = later_left (left_of table x) (left_of table y)
              (λ e q. (c.left_last x e i f.itself q, (left_in x e i q).0, (left_in x e i q).1))
              (λ d q. (c.left_last y d j g.itself q, (left_in y d j q).0, (left_in y d j q).1))
              ∙ (λ a. is_later_left k (sym f.left a) (sym g.left a))

      -- ---- the second is a later one

      module _ (g : IsLater table first last y) where
        first_line : is_some_and (λ p. is_up_to b x p) (left_of table y) ≡ k X Y
        first_line = ap (λ z. is_some_and (λ p. is_up_to b x p) z) g.left
            ∙ up_other x g.before i (left_in y g.before j g.left).0 (omega (arith, lt, (left_in y g.before j g.left).1)) (λ e. ne (e ∙ g.piece)) ∙ ap (k X) g.piece

        not_last : (e : Id) → e ≡ last (first e) → e ≢ g.before
        not_last e is one = g.middle (sym one ∙ is ∙ ap last (ap first one ∙ g.piece))

        later_true : k X Y ≡ true → b x y ≡ true
        later_true e = lines ∙ ap (λ u. first_of_lines u (is_some_and (λ p. is_up_to b y p) (left_of table x))
            (is_some_and (λ r. is_up_to b r y) (right_of table x)) (is_some_and (λ r. is_up_to b r x) (right_of table y))
            (is_same_neighbour (left_of table x) (left_of table y)) (is_smaller x y) (is_later_left b (left_of table x) (left_of table y))) (first_line ∙ e)

        both_later : IsLater table first last x → k X Y ≡ false → b x y ≡ false
        both_later f e = lines ∙ (λ a. first_of_lines ((first_line ∙ e) a) (second a)
            (is_some_and (λ r. is_up_to b r y) (right_of table x)) (is_some_and (λ r. is_up_to b r x) (right_of table y))
            (is_same_neighbour (left_of table x) (left_of table y)) (is_smaller x y) (is_later_left b (left_of table x) (left_of table y)))
          where
            second : is_some_and (λ p. is_up_to b y p) (left_of table x) ≡ true
            second = ap (λ z. is_some_and (λ p. is_up_to b y p) z) f.left
                ∙ up_other y f.before j (left_in x f.before i f.left).0 (omega (arith, lt, (left_in x f.before i f.left).1)) (λ o. ne (sym f.piece ∙ sym o))
                ∙ ap (k Y) f.piece ∙ other_way X Y (c.member x i) (c.member y j) ne e

        later_false : IsFirst table small first x → k X Y ≡ false → b x y ≡ false
        later_false f e = lines ∙ (λ a. first_of_lines ((first_line ∙ e) a) (to_left y x j i back f a) (from_right x y i j lt a) (from_right y x j i back a)
            (is_same_neighbour (left_of table x) (left_of table y)) (is_smaller x y) (is_later_left b (left_of table x) (left_of table y)))
            ∙ stays_false (is_some_and (λ p. is_up_to k X p) (left_of small Y)) (is_some_and (λ p. is_up_to k Y p) (left_of small X))
            (is_some_and (λ r. is_up_to k r Y) (right_of small X)) (is_some_and (λ r. is_up_to k r X) (right_of small Y))
            (is_same_neighbour (left_of small X) (left_of small Y)) (is_smaller X Y) (is_later_left k (left_of small X) (left_of small Y))
            (is_same_neighbour (left_of table x) (left_of table y)) (is_smaller x y) (is_later_left b (left_of table x) (left_of table y))
            (sym small_lines ∙ e) fifth sixth
          where
            fifth_at : (z : Option Id) → ((v : Id) → z ≡ Some v → v ≡ last (first v)) → is_same_neighbour z (Some g.before) ≡ false
            fifth_at None h = refl
            fifth_at (Some v) h = other_id v g.before (not_last v (h v refl))

            fifth : is_same_neighbour (left_of table x) (left_of table y) ≡ false
            fifth = ap (is_same_neighbour (left_of table x)) g.left ∙ fifth_at (left_of table x) (λ v. c.left_last x v i f.itself)

            sixth_at : (z : Option Id) → ((v : Id) → z ≡ Some v → P v × (height v < height x)) → is_some_and (λ p. is_up_to k Y p) (option_map first z) ≡ false →
                is_later_left b z (Some g.before) ≡ false
            sixth_at None h e = refl
            sixth_at (Some v) h e =
                let (other, off) = not_up k Y (first v) e in
                ih g.before v (left_in y g.before j g.left).0 (h v refl).0 (omega (arith, lt, (left_in y g.before j g.left).1, (h v refl).1)) (λ o. other (sym g.piece ∙ o))
                ∙ ap (λ u. k u (first v)) g.piece ∙ off

            sixth : is_some_and (λ p. is_up_to k Y p) (left_of small X) ≡ false → is_later_left b (left_of table x) (left_of table y) ≡ false
            sixth e = ap (is_later_left b (left_of table x)) g.left ∙ sixth_at (left_of table x) (λ v. left_in x v i)
                (subst (λ z. is_some_and (λ p. is_up_to k Y p) z ≡ false) f.left e)

      -- ---- the first is a later one, and the second a first

      module _ (f : IsLater table first last x) (g : IsFirst table small first y) where
        second_line : is_some_and (λ p. is_up_to b y p) (left_of table x) ≡ k Y X
        second_line = ap (λ z. is_some_and (λ p. is_up_to b y p) z) f.left
            ∙ up_other y f.before j (left_in x f.before i f.left).0 (omega (arith, lt, (left_in x f.before i f.left).1)) (λ o. ne (sym f.piece ∙ sym o)) ∙ ap (k Y) f.piece

        first_false : k X Y ≡ false → b x y ≡ false
        first_false e = lines ∙ (λ a. first_of_lines (to_left x y i j lt g a) ((second_line ∙ other_way X Y (c.member x i) (c.member y j) ne e) a)
            (is_some_and (λ r. is_up_to b r y) (right_of table x)) (is_some_and (λ r. is_up_to b r x) (right_of table y))
            (is_same_neighbour (left_of table x) (left_of table y)) (is_smaller x y) (is_later_left b (left_of table x) (left_of table y)))
            ∙ turns_false (is_some_and (λ p. is_up_to k X p) (left_of small Y)) (is_some_and (λ p. is_up_to k Y p) (left_of small X))
            (is_some_and (λ r. is_up_to k r Y) (right_of small X)) (is_some_and (λ r. is_up_to k r X) (right_of small Y))
            (is_same_neighbour (left_of small X) (left_of small Y)) (is_smaller X Y) (is_later_left k (left_of small X) (left_of small Y))
            (is_some_and (λ r. is_up_to b r y) (right_of table x)) (is_some_and (λ r. is_up_to b r x) (right_of table y))
            (is_same_neighbour (left_of table x) (left_of table y)) (is_smaller x y) (is_later_left b (left_of table x) (left_of table y))
            (sym small_lines ∙ e)

        first_true : k X Y ≡ true → b x y ≡ true
        first_true e = lines ∙ (λ a. first_of_lines (to_left x y i j lt g a) ((second_line ∙ c.one_way X Y (c.member x i) (c.member y j) e) a)
            (from_right x y i j lt a) (from_right y x j i back a)
            (is_same_neighbour (left_of table x) (left_of table y)) (is_smaller x y) (is_later_left b (left_of table x) (left_of table y)))
            ∙ stays_true (is_some_and (λ p. is_up_to k X p) (left_of small Y)) (is_some_and (λ p. is_up_to k Y p) (left_of small X))
            (is_some_and (λ r. is_up_to k r Y) (right_of small X)) (is_some_and (λ r. is_up_to k r X) (right_of small Y))
            (is_same_neighbour (left_of small X) (left_of small Y)) (is_smaller X Y) (is_later_left k (left_of small X) (left_of small Y))
            (is_same_neighbour (left_of table x) (left_of table y)) (is_smaller x y) (is_later_left b (left_of table x) (left_of table y))
            (sym small_lines ∙ e) fifth sixth
          where
            fifth_at : (z : Option Id) → ((v : Id) → z ≡ Some v → v ≡ last (first v)) → is_same_neighbour (Some f.before) z ≡ false
            fifth_at None h = refl
            fifth_at (Some v) h = other_id f.before v (λ one. f.middle (one ∙ h v refl ∙ ap last (ap first (sym one) ∙ f.piece)))

            fifth : is_same_neighbour (left_of table x) (left_of table y) ≡ false
            fifth = ap (λ z. is_same_neighbour z (left_of table y)) f.left ∙ fifth_at (left_of table y) (λ v. c.left_last y v j g.itself)

            sixth_at : (z : Option Id) → ((v : Id) → z ≡ Some v → P v × (height v < height y)) → is_some_and (λ p. is_up_to k X p) (option_map first z) ≡ false →
                is_later_left b (Some f.before) z ≡ true
            sixth_at None h e = refl
            sixth_at (Some v) h e =
                let (other, off) = not_up k X (first v) e in
                ih v f.before (h v refl).0 (left_in x f.before i f.left).0 (omega (arith, lt, (left_in x f.before i f.left).1, (h v refl).1)) (λ o. other (sym f.piece ∙ sym o))
                ∙ ap (k (first v)) f.piece ∙ other_way X (first v) (c.member x i) (c.member v (h v refl).0) other off

            sixth : is_some_and (λ p. is_up_to k X p) (left_of small Y) ≡ false → is_later_left b (left_of table x) (left_of table y) ≡ true
            sixth e = ap (λ z. is_later_left b z (left_of table y)) f.left ∙ sixth_at (left_of table y) (λ v. left_in y v j)
                (subst (λ z. is_some_and (λ p. is_up_to k X p) z ≡ false) g.left e)

      step : b x y ≡ k X Y
      step = elim (c.cases y j) [
        | inl g ↦ elim (c.cases x i) [ inl f ↦ both f g | inr f ↦ by_value (k X Y) refl (first_true f g) (first_false f g) ]
        | inr g ↦ elim (c.cases x i) [ inl f ↦ by_value (k X Y) refl (later_true g) (later_false g f) | inr f ↦ by_value (k X Y) refl (later_true g) (both_later g f) ]
      ]
        where
          by_value : (v : Bool) → k X Y ≡ v → (k X Y ≡ true → b x y ≡ true) → (k X Y ≡ false → b x y ≡ false) → b x y ≡ k X Y
          by_value true e yes_ no_ = yes_ e ∙ sym e
          by_value false e yes_ no_ = no_ e ∙ sym e

  before_within : (n : ℕ) (x y : Id) → P x → P y → height x + height y < n → first x ≢ first y → b x y ≡ k (first x) (first y)
  before_within zero x y i j lt ne = absurd (omega arith)
  before_within (suc n) x y i j lt ne = step n (before_within n) x y i j lt ne

  -- ---- lemmas for callers

  -- a unit is before one of another piece where its piece is before that one
  pub units_before : (x y : Id) → P x → P y → first x ≢ first y → is_before table x y ≡ is_before small (first x) (first y)
  units_before x y i j ne = before_within (suc (height x + height y)) x y i j (omega arith) ne
