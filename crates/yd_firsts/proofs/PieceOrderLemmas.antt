-- The order of the units of pieces, where the small table has a strict order.
use Rattle.std.proofs.Common.{◌≡◌, ◌≢◌, ℕ, zero, suc, ◌-◌, ◌<◌, ◌≤◌, Bool, true, false, nat_lt, List, [], ◌∷◌, ◌⊎◌, inl, inr, Option, Some, None, refl, sym, ap, ◌∙◌, subst, arith, tests, true≢false}
use Rattle.std.specs.Prelude.{IfSome, slice_get, option_map}
use Rattle.yd_words.specs.Each.{Each}
use Rattle.yd_words.specs.Member.{IsIn}
use Rattle.yd_words.specs.Test.{is_some_and}
use Rattle.yd_words.proofs.OptionLemmas.{some_is}
use Rattle.yd_words.proofs.TestLemmas.{same_or_other, test_fails}
use Rattle.yd_ids.specs.declared.id.Id.{Id}
use Rattle.yd_ids.specs.Ids.{is_same_neighbour, is_smaller}
use Rattle.yd_ops.specs.Operation.{later_id}
use Rattle.yd_ops.proofs.OperationLemmas.{later_none}
use Rattle.yd_origins.specs.Table.{OriginTable, ids_of, left_of, right_of, IsTable}
use Rattle.yd_origins.specs.Before.{is_up_to, is_later_left, is_before}
use Rattle.yd_origins.proofs.LineLemmas.{first_of_lines}
use Rattle.yd_origins.proofs.TableLemmas.{lines_decide, not_itself}
use Rattle.yd_order.specs.Comparing.{Compares}
use Rattle.yd_order.specs.Stretch.{rows_of_stretches, among_rows}
use Rattle.yd_order.specs.declared.stretch.Stretch.{Stretch}
use Rattle.yd_firsts.specs.Pieces.{HasUnits, last_of, IsPieceOf, IsFirstOf, StandFor}
use Rattle.yd_firsts.proofs.CollapsedLemmas.{IsFirst, IsLater, Collapses, is_up, up_true, units_before}
use Rattle.yd_firsts.proofs.PieceLemmas.{left_from, first_in, last_in}
use Rattle.yd_firsts.proofs.SmallLemmas.{table, small, some_unit, unit_in, piece_of, unit_left, unit_right, first_is, last_is, first_itself, first_in_small, stood, small_table}

pub place_in : (ids : List Id) (x : Id) → IsIn x ids → (n : ℕ) × (slice_get ids n ≡ Some x)
place_in [] x i = absurd i
place_in (y ∷ ys) x (inl e) = (0, ap (λ z. Some z) (sym e))
place_in (y ∷ ys) x (inr i) = let (n, e) = place_in ys x i in (suc n, e)

-- ---- two lines

module _ (rows : OriginTable) (t : IsTable rows) where
  -- what is up to the left of another is before it
  pub by_left : (x y p : Id) → IsIn x (ids_of rows) → IsIn y (ids_of rows) → x ≢ y → left_of rows y ≡ Some p → (x ≡ p) ⊎ (is_before rows x p ≡ true) → is_before rows x y ≡ true
  by_left x y p i j ne e up = lines_decide rows t x y i j ne ∙ ap (λ u. first_of_lines u (is_some_and (λ q. is_up_to (is_before rows) y q) (left_of rows x))
      (is_some_and (λ r. is_up_to (is_before rows) r y) (right_of rows x)) (is_some_and (λ r. is_up_to (is_before rows) r x) (right_of rows y))
      (is_same_neighbour (left_of rows x) (left_of rows y)) (is_smaller x y) (is_later_left (is_before rows) (left_of rows x) (left_of rows y)))
      (ap (is_some_and (λ q. is_up_to (is_before rows) x q)) e ∙ up_true (is_before rows) x p up)

  -- what has a left that another is up to is not before it, if it is not up to that one's left
  pub not_by_left : (x y p : Id) → IsIn x (ids_of rows) → IsIn y (ids_of rows) → x ≢ y → left_of rows x ≡ Some p → (y ≡ p) ⊎ (is_before rows y p ≡ true) →
      is_some_and (λ q. is_up_to (is_before rows) x q) (left_of rows y) ≡ false → is_before rows x y ≡ false
  not_by_left x y p i j ne e up none = lines_decide rows t x y i j ne ∙ (λ a. first_of_lines (none a)
      ((ap (is_some_and (λ q. is_up_to (is_before rows) y q)) e ∙ up_true (is_before rows) y p up) a)
      (is_some_and (λ r. is_up_to (is_before rows) r y) (right_of rows x)) (is_some_and (λ r. is_up_to (is_before rows) r x) (right_of rows y))
      (is_same_neighbour (left_of rows x) (left_of rows y)) (is_smaller x y) (is_later_left (is_before rows) (left_of rows x) (left_of rows y)))

not_up_to : (f : Id → Id → Bool) (a b : Id) → a ≢ b → f a b ≡ false → is_up_to f a b ≡ false
not_up_to f a b ne e = test_fails (is_up_to f a b) (λ up. elim (is_up f a b up) [ inl one ↦ ne one | inr g ↦ true≢false (sym g ∙ e) ])

module _ (pieces ones : List Stretch) (units : Each HasUnits pieces) (t : IsTable (among_rows (rows_of_stretches pieces))) (stand : StandFor pieces pieces ones)
    (ids : List Id) (cells : List Bool) (compares : Compares (among_rows (rows_of_stretches ones)) ids true cells) where
  abbrev whole : OriginTable
  whole = table pieces ones units t stand

  abbrev few : OriginTable
  few = small pieces ones units t stand

  s_table : IsTable few
  s_table = small_table pieces ones units t stand

  in_whole : (s : Stretch) → IsIn s pieces → (k : ℕ) → k < s.len → IsIn (later_id s.id k) (ids_of whole)
  in_whole = unit_in pieces ones units t stand

  pub few_one_way : (x y : Id) → IsIn x (ids_of few) → IsIn y (ids_of few) → is_before few x y ≡ true → is_before few y x ≡ false
  few_one_way x y i j e =
      let (a, f) = place_in ids x ((compares.members x).1 i) in
      let (b, g) = place_in ids y ((compares.members y).1 j) in
      compares.before b a y x g f ∙ flip a b (sym (compares.before a b x y f g) ∙ e)
    where
      flip : (a b : ℕ) → nat_lt a b ≡ true → nat_lt b a ≡ false
      flip a b e = grind (arith, tests)

  -- ---- the units of a piece

  apart : (s : Stretch) (j k : ℕ) → j < k → later_id s.id j ≢ later_id s.id k
  apart s j k lt e = omega (arith, lt, ap (λ (x : Id). x.clock) e)

  pub chain : (s : Stretch) → IsIn s pieces → (j k : ℕ) → j ≤ k → k < s.len → (later_id s.id j ≡ later_id s.id k) ⊎ (is_before whole (later_id s.id j) (later_id s.id k) ≡ true)
  chain s i j zero le lt = inl (ap (later_id s.id) {x = j} {y = zero} (omega (arith, le)))
  chain s i j (suc k) le lt = elim (same_or_other j (suc k)) [
    | inl e ↦ inl (ap (later_id s.id) e)
    | inr ne ↦ inr (by_left whole t (later_id s.id j) (later_id s.id (suc k)) (later_id s.id k) (in_whole s i j (omega (arith, le, lt))) (in_whole s i (suc k) lt)
        (apart s j (suc k) (omega (arith, le, ne))) (unit_left pieces ones units t stand s i (suc k) lt) (chain s i j k (omega (arith, le, ne)) (omega (arith, lt))))
  ]

  first_k : (s : Stretch) → IsIn s pieces → (k : ℕ) → k < s.len → first_in pieces (later_id s.id k) ≡ s.id
  first_k = first_is pieces ones units t stand

  last_unit : (s : Stretch) → IsIn s pieces → s.len - 1 < s.len
  last_unit s i = omega (arith, some_unit pieces ones units t stand s i)

  -- ---- the pieces stand for the units

  unit_cases : (s : Stretch) → IsIn s pieces → (k : ℕ) → k < s.len → IsFirst whole few (first_in pieces) (later_id s.id k) ⊎ IsLater whole (first_in pieces) (last_in pieces) (later_id s.id k)
  unit_cases s i zero lt = inl (record {
    itself = first_k s i zero lt ∙ sym (later_none s.id);
    left = ap (left_of few) (first_k s i zero lt) ∙ (stood pieces ones units t stand s i).left
        ∙ go s.left (stood pieces ones units t stand s i).one.left (stood pieces ones units t stand s i).stands.left
        ∙ ap (option_map (first_in pieces)) (sym (unit_left pieces ones units t stand s i zero lt));
  })
    where
      go : (z w : Option Id) → IsPieceOf pieces z w → w ≡ option_map (first_in pieces) z
      go None None f = refl
      go None (Some x) f = absurd f
      go (Some p) None f = absurd f
      go (Some p) (Some x) (q, j, l, e) = ap (λ (v : Id). Some v) (sym e ∙ sym (first_k q j (q.len - 1) (last_unit q j)) ∙ ap (first_in pieces) l)
  unit_cases s i (suc k) lt = inr (record {
    before = later_id s.id k;
    left = unit_left pieces ones units t stand s i (suc k) lt;
    piece = first_k s i k (omega (arith, lt)) ∙ sym (first_k s i (suc k) lt);
    middle = λ e. apart s k (s.len - 1) (omega (arith, lt)) (e ∙ ap (last_in pieces) (first_k s i (suc k) lt) ∙ last_is pieces ones units t stand s i);
  })

  at_unit : (P : Id → Type 0) → ((s : Stretch) → IsIn s pieces → (k : ℕ) → k < s.len → P (later_id s.id k)) → (x : Id) → IsIn x (ids_of whole) → P x
  at_unit P f x i = let (s, j, u) = piece_of pieces ones units t stand x i in let (k, lt, e) = u in subst P (sym e) (f s j k lt)

  last_at : (s : Stretch) → IsIn s pieces → (k : ℕ) → k < s.len → last_in pieces (first_in pieces (later_id s.id k)) ≡ last_of s
  last_at s i k lt = ap (last_in pieces) (first_k s i k lt) ∙ last_is pieces ones units t stand s i

  collapses : Collapses whole few (first_in pieces) (last_in pieces)
  collapses = record {
    member = at_unit (λ x. IsIn (first_in pieces x) (ids_of few)) (λ s i k lt. subst (λ (v : Id). IsIn v (ids_of few)) (sym (first_k s i k lt)) (first_in_small pieces ones units t stand s i));
    cases = at_unit (λ x. IsFirst whole few (first_in pieces) x ⊎ IsLater whole (first_in pieces) (last_in pieces) x) unit_cases;
    right = at_unit (λ x. right_of whole x ≡ right_of few (first_in pieces x)) (λ s i k lt. unit_right pieces ones units t stand s i k lt
        ∙ sym (stood pieces ones units t stand s i).right ∙ ap (right_of few) (sym (first_k s i k lt)));
    right_first = λ x q i e. at_unit (λ v. right_of whole v ≡ Some q → first_in pieces q ≡ q) (λ s j k lt f.
        right_is s j q (sym (unit_right pieces ones units t stand s j k lt) ∙ f)) x i e;
    left_last = λ x p i e f. at_unit (λ v. first_in pieces v ≡ v → left_of whole v ≡ Some p → p ≡ last_in pieces (first_in pieces p)) left_is x i e f;
    to_last = at_unit (λ x. (x ≡ last_in pieces (first_in pieces x)) ⊎ (is_before whole x (last_in pieces (first_in pieces x)) ≡ true)) (λ s i k lt.
        subst (λ (v : Id). (later_id s.id k ≡ v) ⊎ (is_before whole (later_id s.id k) v ≡ true)) (sym (last_at s i k lt)) (chain s i k (s.len - 1) (omega (arith, lt)) (last_unit s i)));
    from_first = at_unit (λ x. (first_in pieces x ≡ x) ⊎ (is_before whole (first_in pieces x) x ≡ true)) (λ s i k lt.
        subst (λ (v : Id). (v ≡ later_id s.id k) ⊎ (is_before whole v (later_id s.id k) ≡ true)) (later_none s.id ∙ sym (first_k s i k lt)) (chain s i 0 k (omega arith) lt));
    one_way = few_one_way;
  }
    where
      right_is : (s : Stretch) → IsIn s pieces → (q : Id) → s.right ≡ Some q → first_in pieces q ≡ q
      right_is s i q e = go (first_of s.right (stood pieces ones units t stand s i).stands.right_first e)
        where
          first_of : (z : Option Id) → IfSome z (IsFirstOf pieces) → z ≡ Some q → IsFirstOf pieces q
          first_of z f g = subst (λ w. IfSome w (IsFirstOf pieces)) g f

          go : IsFirstOf pieces q → first_in pieces q ≡ q
          go (p, j, g) = subst (λ (v : Id). first_in pieces v ≡ v) g (first_itself pieces ones units t stand p j)

      left_is : {p : Id} (s : Stretch) → IsIn s pieces → (k : ℕ) → k < s.len → first_in pieces (later_id s.id k) ≡ later_id s.id k → left_of whole (later_id s.id k) ≡ Some p →
          p ≡ last_in pieces (first_in pieces p)
      left_is {p = p} s i zero lt e f = go s.left (stood pieces ones units t stand s i).one.left (stood pieces ones units t stand s i).stands.left
          (sym (unit_left pieces ones units t stand s i zero lt) ∙ f)
        where
          go : (z w : Option Id) → IsPieceOf pieces z w → z ≡ Some p → p ≡ last_in pieces (first_in pieces p)
          go None w g h = absurd cc
          go (Some v) None g h = absurd g
          go (Some v) (Some x) (q, j, l, g) h = subst (λ (u : Id). u ≡ last_in pieces (first_in pieces u)) (l ∙ some_is v p h) (sym (last_at q j (q.len - 1) (last_unit q j)))
      left_is s i (suc k) lt e f = absurd (apart s 0 (suc k) (omega arith) (later_none s.id ∙ sym (first_k s i (suc k) lt) ∙ e))

  -- ---- lemmas for callers

  -- a unit is before one of another piece where its piece is before that one
  pub across : (s q : Stretch) → IsIn s pieces → IsIn q pieces → (k m : ℕ) → k < s.len → m < q.len → s.id ≢ q.id →
      is_before whole (later_id s.id k) (later_id q.id m) ≡ is_before few s.id q.id
  across s q i j k m lt less ne = units_before whole few t s_table (first_in pieces) (last_in pieces) collapses (later_id s.id k) (later_id q.id m) (in_whole s i k lt) (in_whole q j m less)
      (λ e. ne (sym (first_k s i k lt) ∙ e ∙ first_k q j m less)) ∙ (λ a. is_before few (first_k s i k lt a) (first_k q j m less a))

  first_line : (s : Stretch) → IsIn s pieces → (j k : ℕ) → j < k → k < s.len → ((m : ℕ) → j ≡ suc m → is_before whole (later_id s.id k) (later_id s.id m) ≡ false) →
      is_some_and (λ q. is_up_to (is_before whole) (later_id s.id k) q) (left_from s.id s.left j) ≡ false
  first_line s i (suc j) k lt less rec = not_up_to (is_before whole) (later_id s.id k) (later_id s.id j) (λ e. apart s j k (omega (arith, lt)) (sym e)) (rec j refl)
  first_line s i zero k lt less rec = go s.left (stood pieces ones units t stand s i).one.left (stood pieces ones units t stand s i).stands.left (stood pieces ones units t stand s i).left
    where
      go : (z w : Option Id) → IsPieceOf pieces z w → left_of few s.id ≡ w → is_some_and (λ q. is_up_to (is_before whole) (later_id s.id k) q) z ≡ false
      go None w f g = refl
      go (Some p) None f g = absurd f
      go (Some p) (Some x) (q, j, l, h) g = subst (λ (v : Id). is_up_to (is_before whole) (later_id s.id k) v ≡ false) l
          (not_up_to (is_before whole) (later_id s.id k) (last_of q)
          (λ one. other (sym (first_k s i k less) ∙ ap (first_in pieces) one ∙ first_k q j (q.len - 1) (last_unit q j)))
          (across s q i j k (q.len - 1) less (last_unit q j) other ∙ few_one_way q.id s.id (first_in_small pieces ones units t stand q j) (first_in_small pieces ones units t stand s i)
          (by_left few s_table q.id s.id q.id (first_in_small pieces ones units t stand q j) (first_in_small pieces ones units t stand s i) (λ same. other (sym same)) (g ∙ ap (λ (v : Id). Some v) (sym h)) (inl refl))))
        where
          other : s.id ≢ q.id
          other same = omega (
            arith,
            subst (λ z. IfSome z (λ y. s_table.ends.height y < s_table.ends.height s.id)) (g ∙ ap (λ (v : Id). Some v) (sym h))
                (s_table.ends.falls_left s.id (first_in_small pieces ones units t stand s i)),
            ap s_table.ends.height same,
          )

  back_step : (s : Stretch) → IsIn s pieces → (j k : ℕ) → j ≤ k → k < s.len → ((m : ℕ) → j ≡ suc m → is_before whole (later_id s.id k) (later_id s.id m) ≡ false) →
      is_before whole (later_id s.id k) (later_id s.id j) ≡ false
  back_step s i j zero le lt rec = subst (λ (m : ℕ). is_before whole (later_id s.id 0) (later_id s.id m) ≡ false) {x = zero} {y = j} (omega (arith, le)) (not_itself whole (later_id s.id 0))
  back_step s i j (suc k) le lt rec = elim (same_or_other j (suc k)) [
    | inl e ↦ subst (λ (m : ℕ). is_before whole (later_id s.id (suc k)) (later_id s.id m) ≡ false) (sym e) (not_itself whole (later_id s.id (suc k)))
    | inr ne ↦ not_by_left whole t (later_id s.id (suc k)) (later_id s.id j) (later_id s.id k) (in_whole s i (suc k) lt) (in_whole s i j (omega (arith, le, lt)))
        (λ e. apart s j (suc k) (omega (arith, le, ne)) (sym e)) (unit_left pieces ones units t stand s i (suc k) lt) (chain s i j k (omega (arith, le, ne)) (omega (arith, lt)))
        (ap (is_some_and (λ q. is_up_to (is_before whole) (later_id s.id (suc k)) q)) (unit_left pieces ones units t stand s i j (omega (arith, le, lt)))
        ∙ first_line s i j (suc k) (omega (arith, le, ne)) lt rec)
  ]

  -- and not before an earlier one of its own
  pub not_back : (s : Stretch) → IsIn s pieces → (j k : ℕ) → j ≤ k → k < s.len → is_before whole (later_id s.id k) (later_id s.id j) ≡ false
  not_back s i zero k le lt = back_step s i zero k le lt (λ m e. absurd (omega (arith, e)))
  not_back s i (suc j) k le lt = back_step s i (suc j) k le lt (λ m e. subst (λ (n : ℕ). is_before whole (later_id s.id k) (later_id s.id n) ≡ false) {x = j} {y = m} (omega (arith, e))
      (not_back s i j k (omega (arith, le)) lt))
