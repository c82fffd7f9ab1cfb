-- The rows of a table that fits stand in a line, so the order is strict, and each row stands between its left and its right.
use Rattle.std.proofs.Common.{◌≡◌, ◌≢◌, ◌<◌, true, false, inl, inr, Some, None, Option, sym, ap, ◌∙◌, subst, arith, true≢false}
use Rattle.std.specs.Prelude.{IfSome}
use Rattle.yd_words.specs.Member.{IsIn}
use Rattle.yd_ids.specs.declared.id.Id.{Id}
use Rattle.yd_origins.specs.Table.{OriginTable, ids_of, left_of, right_of, IsTable}
use Rattle.yd_origins.specs.Before.{is_before, IsBefore, IsBetween, Fits}
use Rattle.yd_origins.proofs.LineLemmas.{Line, before_says, first_before}
use Rattle.yd_origins.proofs.MemberLemmas.{place}
use Rattle.yd_origins.proofs.PlacedLemmas.{Placed, placed}
use Rattle.yd_origins.proofs.TableLemmas.{height, listing, is_listed, to_listing, from_listing, low_left, low_right, lines_decide, not_itself}

module _ (table : OriginTable) (t : IsTable table) (f : Fits table) where
  abbrev left : Id → Option Id
  left = left_of table

  abbrev right : Id → Option Id
  right = right_of table

  abbrev P : Id → Type 0
  P x = IsIn x (ids_of table)

  -- the rows stand in a line
  stand : Placed left right (is_before table) (λ x. IsIn x (listing table t))
  stand = placed left right (is_before table) (height table t) (listing table t) (is_listed table t) (record {
    six = λ x y p q. lines_decide table t x y (from_listing table t x p) (from_listing table t y q);
    low_left = λ x p. low_left table t x (from_listing table t x p);
    low_right = λ x p. low_right table t x (from_listing table t x p);
    fits = λ x p. f.left_first x (from_listing table t x p);
  })

  pub line : Line (is_before table) P
  line = record {
    pos = stand.line.pos;
    end = stand.line.end;
    some = stand.line.some;
    low = λ x p. stand.line.low x (to_listing table t x p);
    high = λ x p. stand.line.high x (to_listing table t x p);
    up = λ x y p q. stand.line.up x y (to_listing table t x p) (to_listing table t y q);
    down = λ x y p q. stand.line.down x y (to_listing table t x p) (to_listing table t y q);
  }

  pub after_left : (x : Id) → P x → place line.pos 0 (left x) < line.pos x
  unfolding line
  after_left x p = stand.after_left x (to_listing table t x p)

  pub before_right : (x : Id) → P x → line.pos x < place line.pos line.end (right x)
  unfolding line
  before_right x p = stand.before_right x (to_listing table t x p)

  -- what is before is another row
  other_row : (a b : Id) → is_before table a b ≡ true → a ≢ b
  other_row a b e u = true≢false (sym e ∙ subst (λ v. is_before table a v ≡ false) u (not_itself table a))

  pub one_way : (a b : Id) → P a → P b → IsBefore table a b → is_before table b a ≡ false
  one_way a b p q e = elim (before_says (is_before table) P line b a q p (λ u. other_row a b e (sym u))) [
    | inl g ↦ absurd (omega (arith, g.1, line.up a b p q (other_row a b e) e))
    | inr g ↦ g.0
  ]

  pub through : (a b c : Id) → P a → P b → P c → is_before table a b ≡ true → is_before table b c ≡ true → is_before table a c ≡ true
  through a b c p q r e g = (first_before (is_before table) P line a c p r (omega (arith, line.up a b p q (other_row a b e) e, line.up b c q r (other_row b c g) g))).1

  pub left_before : (x y : Id) → P x → P y → left x ≡ Some y → is_before table y x ≡ true
  left_before x y p q e = (first_before (is_before table) P line y x q p (omega (arith, after_left x p, ap (place line.pos 0) e))).1

  pub right_behind : (x y : Id) → P x → P y → right x ≡ Some y → is_before table x y ≡ true
  right_behind x y p q e = (first_before (is_before table) P line x y p q (omega (arith, before_right x p, ap (place line.pos line.end) e))).1

  -- between by places is between
  pub between_places : (z w : Option Id) → IfSome z P → IfSome w P → (y : Id) → P y → place line.pos 0 z < line.pos y → line.pos y < place line.pos line.end w →
      IsBetween (is_before table) z w y
  between_places z w u v y p low high = (left_side z u low, right_side w v high)
    where
      left_side : (z : Option Id) → IfSome z P → place line.pos 0 z < line.pos y → IfSome z (λ p. (p ≢ y) × (is_before table p y ≡ true))
      left_side None u low = tt
      left_side (Some q) u low = first_before (is_before table) P line q y u p low

      right_side : (w : Option Id) → IfSome w P → line.pos y < place line.pos line.end w → IfSome w (λ r. (y ≢ r) × (is_before table y r ≡ true))
      right_side None u high = tt
      right_side (Some q) u high = first_before (is_before table) P line y q p u high
