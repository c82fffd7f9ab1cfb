-- A new row between two neighbours of the order: the table still fits, and the row stands between them.
use Rattle.std.proofs.Common.{◌≡◌, ◌≢◌, ◌<◌, true, List, [], ◌∷◌, ◌++◌, inl, inr, Some, None, Option, refl, sym, ap, ◌∙◌, subst, arith}
use Rattle.std.specs.Prelude.{IfSome}
use Rattle.yd_words.specs.Member.{IsIn}
use Rattle.yd_words.proofs.OptionLemmas.{if_some_map}
use Rattle.yd_words.proofs.MemberLemmas.{in_left_part, in_right_part, in_parts}
use Rattle.yd_ids.specs.declared.id.Id.{Id}
use Rattle.yd_ids.specs.Ids.{HasSmallerClock}
use Rattle.yd_origins.specs.Table.{Row, OriginTable, ids_of, left_of, right_of, IsTable}
use Rattle.yd_origins.specs.Before.{is_before, IsLeftFirst, IsBetween, Reaches, by_left, by_right, onward, Fits}
use Rattle.yd_origins.specs.Sorted.{origin_order, IsNext}
use Rattle.yd_origins.specs.Parts.{first_of, up_to, behind}
use Rattle.yd_origins.proofs.MemberLemmas.{place, parts_of, in_up_to, in_behind, up_to_or_behind, first_in, first_low, up_to_low, behind_low, Rising, rising_tail, rising_insert}
use Rattle.yd_origins.proofs.LineLemmas.{in_order_alike, Line, first_before, in_order_from_rising, rising_from_in_order}
use Rattle.yd_origins.proofs.FittingLemmas.{line, after_left, before_right}
use Rattle.yd_origins.proofs.SharingLemmas.{Share, share_order, share_between_back, share_left_first}
use Rattle.yd_origins.proofs.SortedLemmas.{in_origin_order, origin_order_in, order_in_order, in_order_is_origin_order}
use Rattle.yd_origins.proofs.AddingLemmas.{added_is_table, old_left, old_right, new_left, new_right, new_lefts, new_rights}

-- ---- two neighbours of the order

module _ (table : OriginTable) (t : IsTable table) (f : Fits table) where
  abbrev P : Id → Type 0
  P x = IsIn x (ids_of table)

  abbrev list : List Id
  list = origin_order table

  abbrev l : Line (is_before table) P
  l = line table t f

  rising : Rising l.pos list
  rising = rising_from_in_order (is_before table) P l list (origin_order_in table) (order_in_order table t f)

  not_up_to : (z : Option Id) → IfSome z P → (y : Id) → P y → IsIn y (up_to z list) → IfSome z (λ p. (p ≢ y) × (is_before table p y ≡ true)) → ⊥
  not_up_to None w y p i g = i
  not_up_to (Some q) w y p i g = omega (arith, up_to_low l.pos q list rising (in_origin_order table q w) y i, l.up q y w p g.0 g.1)

  not_behind : (rest : List Id) → Rising l.pos rest → ((x : Id) → IsIn x rest → P x) → (y : Id) → P y → IsIn y rest →
      IfSome (first_of rest) (λ r. (y ≢ r) × (is_before table y r ≡ true)) → ⊥
  not_behind [] r into y p i g = i
  not_behind (x ∷ xs) r into y p i g = omega (arith, first_low l.pos 0 (x ∷ xs) r y i, l.up y x p (into x (inl refl)) g.0 g.1)

  -- no row stands strictly between a row and the one directly behind it
  pub none_between : (z : Option Id) → IfSome z P → (y : Id) → P y → IsBetween (is_before table) z (first_of (behind z list)) y → ⊥
  none_between z w y p g = elim (up_to_or_behind z list y (in_origin_order table y p)) [
    | inl i ↦ not_up_to z w y p i g.0
    | inr i ↦ not_behind (behind z list) (rising_tail l.pos (up_to z list) (behind z list) (rw parts_of rising))
        (λ x j. origin_order_in table x (in_behind z list x j)) y p i g.1
  ]

  left_first_at : (z : Option Id) → IfSome z P → (rest : List Id) → behind z list ≡ rest → IsLeftFirst (is_before table) z (first_of rest)
  left_first_at None w rest e = tt
  left_first_at (Some q) w [] e = tt
  left_first_at (Some q) w (x ∷ xs) e = first_before (is_before table) P l q x w (origin_order_in table x (in_behind (Some q) list x i))
      (behind_low l.pos q list rising (in_origin_order table q w) x i)
    where
      i : IsIn x (behind (Some q) list)
      i = rw e (inl refl)

  pub neighbours_in_order : (z : Option Id) → IfSome z P → IsLeftFirst (is_before table) z (first_of (behind z list))
  neighbours_in_order z w = left_first_at z w (behind z list) refl

  pub next_there : (z : Option Id) → IfSome (first_of (behind z list)) P
  next_there z = if_some_map (λ y. IsIn y (behind z list)) P (first_of (behind z list)) (λ y i. origin_order_in table y (in_behind z list y i)) (first_in (behind z list))

-- ---- a new row between two neighbours

module _ (table : OriginTable) (t : IsTable table) (f : Fits table) (new : Row) (n : IsNext table new) where
  abbrev old : Id → Type 0
  old x = IsIn x (ids_of table)

  abbrev larger : OriginTable
  larger = new ∷ table

  abbrev all : Id → Type 0
  all x = IsIn x (ids_of larger)

  abbrev sorted : List Id
  sorted = origin_order table

  right_there : IfSome new.right old
  right_there = subst (λ z. IfSome z old) (sym n.right_is_next) (next_there table t f new.left)

  pub next_is_table : IsTable larger
  next_is_table = added_is_table table t new n.is_new n.left_there right_there

  shares : Share table larger old
  shares = record {
    in_one = λ x p. p;
    in_other = λ x p. inr p;
    has_left = t.has_left;
    has_right = t.has_right;
    left_same = λ x p. sym (old_left table t new n.is_new n.left_there right_there x p);
    right_same = λ x p. sym (old_right table t new n.is_new n.left_there right_there x p);
  }

  -- the lefts and rights of the larger table
  left_is : left_of larger new.id ≡ new.left
  left_is = new_left table t new n.is_new n.left_there right_there

  right_is : right_of larger new.id ≡ new.right
  right_is = new_right table t new n.is_new n.left_there right_there

  reached_old : {x y : Id} → Reaches (left_of larger) (right_of larger) x y → all x → old y
  reached_old (by_left {x = x} e) i = rw e at (new_lefts table t new n.is_new n.left_there right_there x i)
  reached_old (by_right {x = x} e) i = rw e at (new_rights table t new n.is_new n.left_there right_there x i)
  reached_old (onward r s) i = reached_old s (inr (reached_old r i))

  reached_before : {x y : Id} → Reaches (left_of larger) (right_of larger) x y → old x → Reaches (left_of table) (right_of table) x y
  reached_before (by_left {x = x} e) p = by_left (shares.left_same x p ∙ e)
  reached_before (by_right {x = x} e) p = by_right (shares.right_same x p ∙ e)
  reached_before (onward r s) p = onward (reached_before r p) (reached_before s (reached_old r (inr p)))

  -- nothing old stands strictly between the new row's neighbours
  pub none_between_new : (y : Id) → old y → IsBetween (is_before larger) (left_of larger new.id) (right_of larger new.id) y → ⊥
  none_between_new y p g = none_between table t f new.left n.left_there y p (subst (λ w. IsBetween (is_before table) new.left w y) n.right_is_next
      (share_between_back table larger t next_is_table old shares new.left new.right n.left_there right_there y p
      (subst (λ z. IsBetween (is_before larger) z new.right y) left_is (subst (λ w. IsBetween (is_before larger) (left_of larger new.id) w y) right_is g))))

  none_between_at : (x y : Id) → x ≡ new.id → old y → IsBetween (is_before larger) (left_of larger x) (right_of larger x) y → ⊥
  none_between_at x y e p g = none_between_new y p (subst (λ v. IsBetween (is_before larger) (left_of larger v) (right_of larger v) y) e g)

  -- what is between in the larger table is between in the old one
  between_old : (x y : Id) → old x → old y → IsBetween (is_before larger) (left_of larger x) (right_of larger x) y →
      IsBetween (is_before table) (left_of table x) (right_of table x) y
  between_old x y p q g = share_between_back table larger t next_is_table old shares (left_of table x) (right_of table x) (t.has_left x p) (t.has_right x p) y q
      (subst (λ z. IsBetween (is_before larger) z (right_of table x) y) (sym (shares.left_same x p))
      (subst (λ w. IsBetween (is_before larger) (left_of larger x) w y) (sym (shares.right_same x p)) g))

  left_first_new : IsLeftFirst (is_before larger) (left_of larger new.id) (right_of larger new.id)
  left_first_new = subst (λ z. IsLeftFirst (is_before larger) z (right_of larger new.id)) (sym left_is)
      (subst (λ w. IsLeftFirst (is_before larger) new.left w) (sym (right_is ∙ n.right_is_next))
      (share_left_first table larger t next_is_table old shares new.left (first_of (behind new.left sorted)) n.left_there (next_there table t f new.left)
      (neighbours_in_order table t f new.left n.left_there)))

  left_first_old : (x : Id) → old x → IsLeftFirst (is_before larger) (left_of larger x) (right_of larger x)
  left_first_old x p = subst (λ z. IsLeftFirst (is_before larger) z (right_of larger x)) (shares.left_same x p)
      (subst (λ w. IsLeftFirst (is_before larger) (left_of table x) w) (shares.right_same x p)
      (share_left_first table larger t next_is_table old shares (left_of table x) (right_of table x) (t.has_left x p) (t.has_right x p) (f.left_first x p)))

  own_outside : (x y : Id) → all x → all y → HasSmallerClock y x → IsBetween (is_before larger) (left_of larger x) (right_of larger x) y → ⊥
  own_outside x y (inl e) (inl d) c g = omega (arith, c.1, ap (λ v. v.clock) e, ap (λ v. v.clock) d)
  own_outside x y (inl e) (inr q) c g = none_between_at x y e q g
  own_outside x y (inr p) (inl d) c g = omega (arith, c.1, n.clocks x p (sym c.0 ∙ ap (λ v. v.client) d), ap (λ v. v.clock) d)
  own_outside x y (inr p) (inr q) c g = f.own_outside x y p q c (between_old x y p q g)

  pub next_fits : Fits larger
  next_fits = record {
    left_first = λ x i. elim i [
      | inl e ↦ subst (λ v. IsLeftFirst (is_before larger) (left_of larger v) (right_of larger v)) (sym e) left_first_new
      | inr p ↦ left_first_old x p
    ];
    reached_outside = λ x y i j r g. elim i [
      | inl e ↦ none_between_at x y e (reached_old r (inl e)) g
      | inr p ↦ f.reached_outside x y p (reached_old r (inr p)) (reached_before r p) (between_old x y p (reached_old r (inr p)) g)
    ];
    own_outside = own_outside;
  }

  -- ---- its place

  abbrev new_line : Line (is_before larger) all
  new_line = line larger next_is_table next_fits

  old_rising : Rising new_line.pos sorted
  old_rising = rising_from_in_order (is_before larger) all new_line sorted (λ x i. inr (origin_order_in table x i))
      (in_order_alike (is_before table) (is_before larger) old (share_order table larger t next_is_table old shares) sorted (origin_order_in table)
      (order_in_order table t f))

  low_at : (z : Option Id) → left_of larger new.id ≡ z → IfSome z old → (y : Id) → IsIn y (up_to z sorted) → new_line.pos y < new_line.pos new.id
  low_at None e w y j = absurd j
  low_at (Some q) e w y j = omega (
    arith,
    up_to_low new_line.pos q sorted old_rising (in_origin_order table q w) y j,
    after_left larger next_is_table next_fits new.id (inl refl),
    ap (place new_line.pos 0) e,
  )

  high_at : (rest : List Id) → behind new.left sorted ≡ rest → (y : Id) → IsIn y rest → new_line.pos new.id < new_line.pos y
  high_at [] e y j = absurd j
  high_at (x ∷ xs) e y j = omega (arith, first_low new_line.pos 0 (x ∷ xs) rest_rising y j, at_first, before_right larger next_is_table next_fits new.id (inl refl))
    where
      rest_rising : Rising new_line.pos (x ∷ xs)
      rest_rising = subst (λ zs. Rising new_line.pos zs) e (rising_tail new_line.pos (up_to new.left sorted) (behind new.left sorted) (rw parts_of old_rising))

      at_first : place new_line.pos new_line.end (right_of larger new.id) ≡ new_line.pos x
      at_first = ap (place new_line.pos new_line.end) (right_is ∙ n.right_is_next ∙ ap first_of e)

  placed_in : (x : Id) → IsIn x (up_to new.left sorted ++ new.id ∷ behind new.left sorted) → all x
  placed_in x i = elim (in_parts x (up_to new.left sorted) (new.id ∷ behind new.left sorted) i) [
    | inl a ↦ inr (origin_order_in table x (in_up_to new.left sorted x a))
    | inr (inl a) ↦ inl a
    | inr (inr a) ↦ inr (origin_order_in table x (in_behind new.left sorted x a))
  ]

  in_placed : (x : Id) → all x → IsIn x (up_to new.left sorted ++ new.id ∷ behind new.left sorted)
  in_placed x (inl e) = in_right_part x (up_to new.left sorted) (new.id ∷ behind new.left sorted) (inl e)
  in_placed x (inr p) = elim (up_to_or_behind new.left sorted x (in_origin_order table x p)) [
    | inl a ↦ in_left_part x (up_to new.left sorted) (new.id ∷ behind new.left sorted) a
    | inr a ↦ in_right_part x (up_to new.left sorted) (new.id ∷ behind new.left sorted) (inr a)
  ]

  -- the new row stands directly behind its left
  pub next_place : origin_order larger ≡ up_to new.left sorted ++ new.id ∷ behind new.left sorted
  next_place = sym (in_order_is_origin_order larger next_is_table next_fits (up_to new.left sorted ++ new.id ∷ behind new.left sorted)
      (in_order_from_rising (is_before larger) all new_line (up_to new.left sorted ++ new.id ∷ behind new.left sorted) placed_in
      (rising_insert new_line.pos new.id (up_to new.left sorted) (behind new.left sorted) (rw parts_of old_rising) (low_at new.left left_is n.left_there)
      (high_at (behind new.left sorted) refl)))
      placed_in in_placed)
