-- The scan moves no row, and in a table that fits it puts the new row where the order has it.
use Rattle.std.proofs.Common.{◌≡◌, ℕ, ◌<◌, ◌≤◌, Bool, List, [], ◌∷◌, ◌++◌, inl, inr, Some, None, Option, refl, sym, ap, ◌∙◌, subst, arith, append_assoc, append-nil}
use Rattle.std.specs.Prelude.{IfSome}
use Rattle.yd_words.specs.Member.{IsIn}
use Rattle.yd_words.proofs.MemberLemmas.{in_left_part, in_right_part, in_parts}
use Rattle.yd_ids.specs.declared.id.Id.{Id}
use Rattle.yd_ids.proofs.IdLemmas.{same_client}
use Rattle.yd_origins.specs.Table.{OriginTable, ids_of, left_of, right_of, IsTable}
use Rattle.yd_origins.specs.Before.{is_before, IsInOrder, by_left, by_right, onward, Fits}
use Rattle.yd_origins.specs.Scan.{Verdict, stops, moves, stays, verdict, walk, scan_place, after_scan}
use Rattle.yd_origins.specs.Parts.{up_to, behind}
use Rattle.yd_origins.proofs.MemberLemmas.{place, parts_of, in_behind, up_to_or_behind, up_to_low, behind_low, Rising, rising_tail, rising_insert}
use Rattle.yd_origins.proofs.LineLemmas.{Line, in_order_from_rising, rising_from_in_order}
use Rattle.yd_origins.proofs.TableLemmas.{height, lines_decide, low_left, low_right}
use Rattle.yd_origins.proofs.FittingLemmas.{line, after_left, before_right, between_places}
use Rattle.yd_origins.proofs.WalkLemmas.{Setting, walk-stops, walk-moves, walk-stays}
use Rattle.yd_origins.proofs.ScanLemmas.{State, AreOnSides, walk_places}

-- ---- the walk takes nothing away

abbrev both : List Id × List Id → List Id
both parts = parts.0 ++ parts.1

walk_parts_step : (left right : Id → Option Id) (o x : Id) (xs passed conflicting : List Id) (v : Verdict) → verdict left right o passed conflicting x ≡ v →
    both (walk left right o (passed ++ conflicting ++ x ∷ []) [] xs) ≡ (passed ++ conflicting ++ x ∷ []) ++ [] ++ xs →
    both (walk left right o passed (conflicting ++ x ∷ []) xs) ≡ passed ++ (conflicting ++ x ∷ []) ++ xs →
    both (walk left right o passed conflicting (x ∷ xs)) ≡ passed ++ conflicting ++ x ∷ xs
walk_parts_step left right o x xs passed conflicting stops e f g = ap both (walk-stops left right o passed conflicting xs x e) ∙ simp append_assoc
walk_parts_step left right o x xs passed conflicting moves e f g = ap both (walk-moves left right o passed conflicting xs x e) ∙ f ∙ simp append_assoc
walk_parts_step left right o x xs passed conflicting stays e f g = ap both (walk-stays left right o passed conflicting xs x e) ∙ g ∙ simp append_assoc

-- the walk takes nothing away
pub walk_parts : (left right : Id → Option Id) (o : Id) (rest passed conflicting : List Id) →
    (walk left right o passed conflicting rest).0 ++ (walk left right o passed conflicting rest).1 ≡ passed ++ conflicting ++ rest
walk_parts left right o [] passed conflicting = sym (append-nil _)
walk_parts left right o (x ∷ xs) passed conflicting = walk_parts_step left right o x xs passed conflicting (verdict left right o passed conflicting x) refl
    (walk_parts left right o xs (passed ++ conflicting ++ x ∷ []) []) (walk_parts left right o xs passed (conflicting ++ x ∷ []))

-- what the place has before it and what it has behind it are the list
pub scan_moves_none : (left right : Id → Option Id) (l : List Id) (o : Id) → (scan_place left right l o).0 ++ (scan_place left right l o).1 ≡ l
scan_moves_none left right l o = append_assoc (up_to (left o) l) (walk left right o [] [] (behind (left o) l)).0 (walk left right o [] [] (behind (left o) l)).1
    ∙ ap (λ zs. up_to (left o) l ++ zs) (walk_parts left right o (behind (left o) l) [] []) ∙ parts_of (left o) l

-- ---- rows in a line

module _ (left right : Id → Option Id) (before : Id → Id → Bool) (height : Id → ℕ) (P : Id → Type 0) (l : Line before P) (rows : List Id) (o : Id)
    (s : Setting left right before height P l rows o) (o_left : IfSome (left o) (λ y. IsIn y rows)) (sorted : Rising l.pos rows) where
  behind_after : (z : Option Id) → IfSome z (λ y. IsIn y rows) → (y : Id) → IsIn y rows → IsIn y (behind z rows) → place l.pos 0 z < l.pos y
  behind_after None w y i j = l.low y (s.member y i)
  behind_after (Some p) w y i j = behind_low l.pos p rows sorted w y j

  up_to_at_most : (z : Option Id) → IfSome z (λ y. IsIn y rows) → (y : Id) → IsIn y (up_to z rows) → l.pos y ≤ place l.pos 0 z
  up_to_at_most None w y j = absurd j
  up_to_at_most (Some p) w y j = up_to_low l.pos p rows sorted w y j

  -- where the scan starts
  start : State left right before height P l rows o s [] [] (behind (left o) rows)
  start = record {
    passed_in = λ y i. absurd i;
    conflicting_in = λ y i. absurd i;
    rest_in = in_behind (left o) rows;
    passed_low = λ y i. absurd i;
    conflicting_low = λ y i. absurd i;
    rest_low = λ y i. behind_after (left o) o_left y (in_behind (left o) rows y i) i;
    passed_before = λ y i. absurd i;
    conflicting_high = λ y i. absurd i;
    conflicting_why = λ y i. absurd i;
    passed_first = λ y z i j. absurd i;
    passed_rest = λ y z i j. absurd i;
    conflicting_rest = λ y z i j. absurd i;
    rest_rising = rising_tail l.pos (up_to (left o) rows) (behind (left o) rows) (rw parts_of sorted);
    cover = λ z i low. elim (up_to_or_behind (left o) rows z i) [
      | inl a ↦ absurd (omega (arith, up_to_at_most (left o) o_left z a))
      | inr a ↦ inr (inr a)
    ];
  }

  abbrev parts : List Id × List Id
  parts = walk left right o [] [] (behind (left o) rows)

  on_sides : AreOnSides left right before height P l rows o s parts
  on_sides = walk_places left right before height P l rows o s (behind (left o) rows) [] [] start

  -- what stands before o and what stands behind it are the rows
  none_moved : (up_to (left o) rows ++ parts.0) ++ parts.1 ≡ rows
  none_moved = append_assoc (up_to (left o) rows) parts.0 parts.1 ∙ ap (λ zs. up_to (left o) rows ++ zs) (walk_parts left right o (behind (left o) rows) [] [])
      ∙ parts_of (left o) rows

  scan_rising : Rising l.pos (after_scan left right rows o)
  scan_rising = rising_insert l.pos o (up_to (left o) rows ++ parts.0) parts.1 (rw none_moved sorted)
      (λ y i. elim (in_parts y (up_to (left o) rows) parts.0 i) [
        | inl a ↦ omega (arith, up_to_at_most (left o) o_left y a, s.after_left o s.o_in)
        | inr a ↦ on_sides.0 y a
      ])
      on_sides.1

  scan_members : (y : Id) → IsIn y (after_scan left right rows o) → P y
  scan_members y i = elim (in_parts y (up_to (left o) rows ++ parts.0) (o ∷ parts.1) i) [
    | inl a ↦ s.member y (subst (λ zs. IsIn y zs) none_moved (in_left_part y (up_to (left o) rows ++ parts.0) parts.1 a))
    | inr (inl a) ↦ subst P (sym a) s.o_in
    | inr (inr a) ↦ s.member y (subst (λ zs. IsIn y zs) none_moved (in_right_part y (up_to (left o) rows ++ parts.0) parts.1 a))
  ]

  -- the scan of rows in order, and o, is in order
  pub scan_in_order : IsInOrder before (after_scan left right rows o)
  scan_in_order = in_order_from_rising before P l (after_scan left right rows o) scan_members scan_rising

-- ---- in a table that fits

module _ (table : OriginTable) (t : IsTable table) (f : Fits table) where
  abbrev left : Id → Option Id
  left = left_of table

  abbrev right : Id → Option Id
  right = right_of table

  abbrev P : Id → Type 0
  P x = IsIn x (ids_of table)

  -- a neighbour of a row is a row
  is_left : (x y : Id) → P x → left x ≡ Some y → P y
  is_left x y p e = rw e at (t.has_left x p)

  is_right : (x y : Id) → P x → right x ≡ Some y → P y
  is_right x y p e = rw e at (t.has_right x p)

  module _ (list : List Id) (o : Id) (o_in : P o) (o_new : IsIn o list → ⊥) (within : (x : Id) → IsIn x list → P x)
      (list_left : (x : Id) → IsIn x list → IfSome (left x) (λ y. IsIn y list)) (list_right : (x : Id) → IsIn x list → IfSome (right x) (λ y. IsIn y list))
      (o_left : IfSome (left o) (λ y. IsIn y list)) (o_right : IfSome (right o) (λ y. IsIn y list))
      (own : (x : Id) → IsIn x list → x.client ≡ o.client → x.clock < o.clock) where
    -- the left of a row's right is not between the row's neighbours, as it is reached from the row
    gap : (x r y : Id) → IsIn x list → right x ≡ Some r → left r ≡ Some y → place (line table t f).pos 0 (left x) < (line table t f).pos y →
        (line table t f).pos y < (line table t f).pos r → ⊥
    gap x r y i e g low high = f.reached_outside x y p q (onward (by_right e) (by_left g))
        (between_places table t f (left x) (right x) (t.has_left x p) (t.has_right x p) y q low
        (omega (arith, high, ap (place (line table t f).pos (line table t f).end) e)))
      where
        p : P x
        p = within x i

        q : P y
        q = is_left r y (is_right x r p e) g

    setting : Setting left right (is_before table) (height table t) P (line table t f) list o
    setting = record {
      six = lines_decide table t;
      in_left = t.has_left;
      in_right = t.has_right;
      after_left = after_left table t f;
      before_right = before_right table t f;
      low_right = low_right table t;
      low_left = low_left table t;
      member = within;
      o_in = o_in;
      o_new = o_new;
      rows_left = list_left;
      rows_right = list_right;
      o_right = o_right;
      gap = gap;
      alone = λ x i low high e. f.own_outside o x o_in (within x i) (same_client x o e, own x i (same_client x o e))
          (between_places table t f (left o) (right o) (t.has_left o o_in) (t.has_right o o_in) x (within x i) low high);
    }

    -- the scan law
    pub scan_law : IsInOrder (is_before table) list → IsInOrder (is_before table) (after_scan left right list o)
    scan_law sorted = scan_in_order left right (is_before table) (height table t) P (line table t f) list o setting o_left
        (rising_from_in_order (is_before table) P (line table t f) list within sorted)
