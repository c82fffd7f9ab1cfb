-- Numbers of rows: one more, a pass over all, and that the passes reach each row.
use Rattle.std.proofs.Common.{◌≡◌, ◌≢◌, ℕ, ◌+◌, ◌<◌, ◌≤◌, ◌⊎◌, ◌↔◌, Bool, true, false, List, [], ◌∷◌, ◌++◌, length, get_or, set, Option, Some, None, inl, inr, refl, sym, ap, ◌∙◌, subst, true≢false, arith}
use Rattle.std.specs.Prelude.{IfSome, slice_index}
use Rattle.std.proofs.lemmas.Bool.{cases_eq}
use Rattle.std.proofs.lemmas.List.{length-set, get_or-set_same, get_or-set_other, get_or_append_left, get_or_push, length_push}
use Rattle.yd_ids.specs.declared.id.Id.{Id}
use Rattle.yd_origins.specs.Table.{IsTable}
use Rattle.yd_origins.proofs.TableLemmas.{height, height_small, low_left, low_right}
use Rattle.yd_order.specs.declared.linking.LinkedRow.{LinkedRow}
use Rattle.yd_order.specs.Linking.{id_at, left_at, right_at, id_of_link, table_of_linked, AreLinked}
use Rattle.yd_order.specs.Numbering.{IsEarlier, IsArranged, IsNumbering, IsMarked, IsReady, ArePartlyNumbered, KeepsMarks, NumbersReady, Numbers}
use Rattle.yd_order.proofs.LinkedLemmas.{left_read, right_read, left_inside, right_inside, in_table, left_is, right_is, length-ids}

-- ---- neighbours that are there

pub link_map : (P Q : ℕ → Type 0) (z : Option ℕ) → ((p : ℕ) → P p → Q p) → IfSome z P → IfSome z Q
link_map P Q None f w = tt
link_map P Q (Some p) f w = f p w

pub link_both : (P Q R : ℕ → Type 0) (z : Option ℕ) → ((p : ℕ) → P p → Q p → R p) → IfSome z P → IfSome z Q → IfSome z R
link_both P Q R None f v w = tt
link_both P Q R (Some p) f v w = f p v w

-- ---- ready rows, as they are read

pub ready_both : (rows : List LinkedRow) (marks : List Bool) (at : ℕ) (d : LinkedRow) (told : Bool) → at < length rows → IfSome (get_or rows at d).left (IsMarked marks) →
    told ≡ true ↔ IfSome (get_or rows at d).right (IsMarked marks) → told ≡ true ↔ IsReady rows marks at
ready_both rows marks at d told lt left right = (
  (λ e. record {
    left = subst (λ (z : Option ℕ). IfSome z (IsMarked marks)) (left_read rows at d lt) left;
    right = subst (λ (z : Option ℕ). IfSome z (IsMarked marks)) (right_read rows at d lt) (right.0 e);
  }),
  (λ ready. right.1 (subst (λ (z : Option ℕ). IfSome z (IsMarked marks)) (sym (right_read rows at d lt)) ready.right)),
)

pub ready_none : (rows : List LinkedRow) (marks : List Bool) (at : ℕ) (d : LinkedRow) (told : Bool) → at < length rows → told ≡ false →
    (told ≡ true ↔ IfSome (get_or rows at d).left (IsMarked marks)) → told ≡ true ↔ IsReady rows marks at
ready_none rows marks at d told lt fails left = (
  (λ e. absurd (true≢false (sym e ∙ fails))),
  (λ ready. left.1 (subst (λ (z : Option ℕ). IfSome z (IsMarked marks)) (sym (left_read rows at d lt)) ready.left)),
)

-- ---- one number more

same_or_below : (i n : ℕ) → i < n + 1 → (i < n) ⊎ (i ≡ n)
same_or_below i n lt = grind arith

earlier_more : (order : List ℕ) (i j p : ℕ) → i ≤ j → IsEarlier order i p → IsEarlier order j p
earlier_more order i j p le (k, lt, e) = (k, omega arith, e)

earlier_pushed : (order : List ℕ) (at i p : ℕ) → i ≤ length order → IsEarlier order i p → IsEarlier (order ++ at ∷ []) i p
earlier_pushed order at i p le (k, lt, e) = (k, lt, get_or_append_left order (at ∷ []) 0 k (omega arith) ∙ e)

pushed_last : (order : List ℕ) (at : ℕ) → slice_index (order ++ at ∷ []) (length order) ≡ at
pushed_last order at = get_or_push order at 0 (length order) refl

pushed_front : (order : List ℕ) (at i : ℕ) → i < length order → slice_index (order ++ at ∷ []) i ≡ slice_index order i
pushed_front order at i lt = get_or_append_left order (at ∷ []) 0 i lt

marked_keeps : (marks : List Bool) (at : ℕ) → at < length marks → KeepsMarks marks (set marks at true)
marked_keeps marks at lt other m = elim (cases_eq other at) [
  | inl e ↦ subst (λ (k : ℕ). get_or (set marks at true) k false ≡ true) (sym e) (get_or-set_same marks at true false lt)
  | inr ne ↦ get_or-set_other marks at other true false ne ∙ m
]

marked_before : (marks : List Bool) (at other : ℕ) → other ≢ at → IsMarked (set marks at true) other → IsMarked marks other
marked_before marks at other ne m = sym (get_or-set_other marks at other true false ne) ∙ m

module _ (rows : List LinkedRow) (marks : List Bool) (order : List ℕ) (at : ℕ) (linked : AreLinked rows) (known : ArePartlyNumbered rows marks order)
    (inside : at < length rows) (unmarked : get_or marks at false ≡ false) (ready : IsReady rows marks at) where
  abbrev longer : List ℕ
  longer = order ++ at ∷ []

  abbrev new : List Bool
  new = set marks at true

  not_numbered : (i : ℕ) → i < length order → slice_index order i ≢ at
  not_numbered i lt e = true≢false (sym (subst (λ (k : ℕ). get_or marks k false ≡ true) e (known.marked i lt)) ∙ unmarked)

  at_last : slice_index longer (length order) ≡ at
  at_last = pushed_last order at

  count : length longer ≡ length order + 1
  count = length_push order at

  -- the left of the new row, or its right, stands in front of it
  is_earlier : (z : Option ℕ) → IfSome z (λ p. p < length rows) → IfSome z (IsMarked marks) → IfSome z (IsEarlier longer (length order))
  is_earlier z there w = link_both (λ p. p < length rows) (IsMarked marks) (IsEarlier longer (length order)) z
      (λ p lt m. earlier_pushed order at (length order) p (omega arith) (known.numbered p lt m)) there w

  inside_more : (i : ℕ) → i < length longer → slice_index longer i < length rows
  inside_more i lt = elim (same_or_below i (length order) (omega (arith, count))) [
    | inl low ↦ rw (pushed_front order at i low) (known.arranged.inside i low)
    | inr e ↦ rw (e, at_last) inside
  ]

  once_more : (i j : ℕ) → i < j → j < length longer → slice_index longer i ≢ slice_index longer j
  once_more i j lt less = elim (same_or_below j (length order) (omega (arith, count))) [
    | inl low ↦ λ e. known.arranged.once i j lt low (sym (pushed_front order at i (omega arith)) ∙ e ∙ pushed_front order at j low)
    | inr f ↦ λ e. not_numbered i (omega arith) (sym (pushed_front order at i (omega arith)) ∙ e ∙ ap (slice_index longer) f ∙ at_last)
  ]

  link_earlier : (link : ℕ → Option ℕ) → ((i : ℕ) → i < length order → IfSome (link (slice_index order i)) (IsEarlier order i)) →
      IfSome (link at) (λ p. p < length rows) → IfSome (link at) (IsMarked marks) → (i : ℕ) → i < length longer → IfSome (link (slice_index longer i)) (IsEarlier longer i)
  link_earlier link old there w i lt = elim (same_or_below i (length order) (omega (arith, count))) [
    | inl low ↦ subst (λ (k : ℕ). IfSome (link k) (IsEarlier longer i)) (sym (pushed_front order at i low))
        (link_map (IsEarlier order i) (IsEarlier longer i) (link (slice_index order i)) (λ p e. earlier_pushed order at i p (omega arith) e) (old i low))
    | inr e ↦ subst (λ (n : ℕ). IfSome (link (slice_index longer n)) (IsEarlier longer n)) (sym e)
        (subst (λ (k : ℕ). IfSome (link k) (IsEarlier longer (length order))) (sym at_last) (is_earlier (link at) there w))
  ]

  arranged_more : IsArranged rows longer
  arranged_more = record {
    inside = inside_more;
    once = once_more;
    left_earlier = link_earlier (left_at rows) known.arranged.left_earlier (left_inside rows at linked inside) ready.left;
    right_earlier = link_earlier (right_at rows) known.arranged.right_earlier (right_inside rows at linked inside) ready.right;
  }

  in_marks : at < length marks
  in_marks = omega (arith, known.size)

  marked_more : (i : ℕ) → i < length longer → IsMarked new (slice_index longer i)
  marked_more i lt = elim (same_or_below i (length order) (omega (arith, count))) [
    | inl low ↦ subst (IsMarked new) (sym (pushed_front order at i low)) (marked_keeps marks at in_marks (slice_index order i) (known.marked i low))
    | inr e ↦ subst (λ (n : ℕ). IsMarked new (slice_index longer n)) (sym e) (subst (IsMarked new) (sym at_last) (get_or-set_same marks at true false in_marks))
  ]

  numbered_more : (other : ℕ) → other < length rows → IsMarked new other → IsEarlier longer (length longer) other
  numbered_more other lt m = elim (cases_eq other at) [
    | inl e ↦ (length order, omega (arith, count), at_last ∙ sym e)
    | inr ne ↦ earlier_more longer (length order) (length longer) other (omega (arith, count))
        (earlier_pushed order at (length order) other (omega arith) (known.numbered other lt (marked_before marks at other ne m)))
  ]

  -- the ready row takes the next number
  pub numbers_row : Numbers rows marks new longer at true
  numbers_row = record {
    numbered = record { arranged = arranged_more; size = length-set marks at true ∙ known.size; marked = marked_more; numbered = numbered_more };
    keeps = marked_keeps marks at in_marks;
    takes = λ r. get_or-set_same marks at true false in_marks;
    others = λ other ne m. marked_before marks at other ne m;
    told = ((λ e. get_or-set_same marks at true false in_marks), (λ m. refl));
  }

-- a row that has a number keeps it
pub numbers_old : (rows : List LinkedRow) (marks : List Bool) (order : List ℕ) (at : ℕ) → ArePartlyNumbered rows marks order → IsMarked marks at → Numbers rows marks marks order at true
numbers_old rows marks order at known m = record {
  numbered = known;
  keeps = λ other n. n;
  takes = λ ready. m;
  others = λ other ne n. n;
  told = ((λ e. m), (λ n. refl));
}

-- a row that is not ready takes none
pub numbers_none : (rows : List LinkedRow) (marks : List Bool) (order : List ℕ) (at : ℕ) → ArePartlyNumbered rows marks order → get_or marks at false ≡ false → (IsReady rows marks at → ⊥) →
    Numbers rows marks marks order at false
numbers_none rows marks order at known unmarked none = record {
  numbered = known;
  keeps = λ other m. m;
  takes = λ ready. absurd (none ready);
  others = λ other ne m. m;
  told = ((λ e. absurd (true≢false (sym e))), (λ m. absurd (true≢false (sym m ∙ unmarked))));
}

-- ---- a pass

-- a pass goes on by one row: all have numbers exactly where those before had them and it has one
pub pass_goes_on : (rows : List LinkedRow) (old marks new : List Bool) (order more : List ℕ) (count : ℕ) (all has both : Bool) → NumbersReady rows old marks order count all →
    Numbers rows marks new more count has → (both ≡ true ↔ (all ≡ true) × (has ≡ true)) → NumbersReady rows old new more (count + 1) both
pass_goes_on rows old marks new order more count all has both so_far one split = record {
  numbered = one.numbered;
  keeps = λ at m. one.keeps at (so_far.keeps at m);
  takes = λ at lt ready. elim (same_or_below at count lt) [
    | inl low ↦ one.keeps at (so_far.takes at low ready)
    | inr e ↦ subst (IsMarked new) (sym e) (one.takes (subst (IsReady rows marks) e (still at ready)))
  ];
  told = (
    (λ e at lt. elim (same_or_below at count lt) [
      | inl low ↦ one.keeps at (so_far.told.0 (split.0 e).0 at low)
      | inr f ↦ subst (IsMarked new) (sym f) (one.told.0 (split.0 e).1)
    ]),
    (λ each. split.1 (so_far.told.1 (λ at low. one.others at (omega arith) (each at (omega (arith, low)))), one.told.1 (each count (omega arith)))),
  );
}
  where
    still : (at : ℕ) → IsReady rows old at → IsReady rows marks at
    still at ready = record {
      left = link_map (IsMarked old) (IsMarked marks) (left_at rows at) (λ p m. so_far.keeps p m) ready.left;
      right = link_map (IsMarked old) (IsMarked marks) (right_at rows at) (λ p m. so_far.keeps p m) ready.right;
    }

-- ---- the passes reach each row

-- a number falls along each link
pub record Falls (rows : List LinkedRow) (number : ℕ → ℕ) : Type 0 where
  pub left : (at : ℕ) → at < length rows → IfSome (left_at rows at) (λ p. number p < number at)
  pub right : (at : ℕ) → at < length rows → IfSome (right_at rows at) (λ p. number p < number at)

-- after so many passes each row has its mark for which a number that falls is smaller
abbrev pub AreMarkedBelow : List LinkedRow → List Bool → ℕ → Type 0
AreMarkedBelow rows marks count = (number : ℕ → ℕ) → Falls rows number → (at : ℕ) → at < length rows → number at < count → IsMarked marks at

pub one_pass_more : (rows : List LinkedRow) (old new : List Bool) (order : List ℕ) (all : Bool) (count : ℕ) → AreLinked rows →
    NumbersReady rows old new order (length rows) all → AreMarkedBelow rows old count → AreMarkedBelow rows new (count + 1)
one_pass_more rows old new order all count linked pass below number falls at lt less = pass.takes at lt (record {
  left = ready (left_at rows at) (left_inside rows at linked lt) (falls.left at lt);
  right = ready (right_at rows at) (right_inside rows at linked lt) (falls.right at lt);
})
  where
    ready : (z : Option ℕ) → IfSome z (λ p. p < length rows) → IfSome z (λ p. number p < number at) → IfSome z (IsMarked old)
    ready z there low = link_both (λ p. p < length rows) (λ p. number p < number at) (IsMarked old) z (λ p u v. below number falls p u (omega arith)) there low

module _ (rows : List LinkedRow) (t : IsTable (table_of_linked rows)) where
  abbrev number : ℕ → ℕ
  number at = height (table_of_linked rows) t (id_at rows at)

  falls_along : (at : ℕ) (z : Option ℕ) → IfSome (id_of_link rows z) (λ y. height (table_of_linked rows) t y < number at) → IfSome z (λ p. number p < number at)
  falls_along at None w = tt
  falls_along at (Some p) w = w

  number_falls : Falls rows number
  number_falls = record {
    left = λ at lt. falls_along at (left_at rows at) (subst (λ (z : Option Id). IfSome z (λ y. height (table_of_linked rows) t y < number at)) (left_is rows at t.distinct lt)
        (low_left (table_of_linked rows) t (id_at rows at) (in_table rows at lt)));
    right = λ at lt. falls_along at (right_at rows at) (subst (λ (z : Option Id). IfSome z (λ y. height (table_of_linked rows) t y < number at)) (right_is rows at t.distinct lt)
        (low_right (table_of_linked rows) t (id_at rows at) (in_table rows at lt)));
  }

  -- as many passes as rows mark all
  pub all_marked : (marks : List Bool) → AreMarkedBelow rows marks (length rows) → (at : ℕ) → at < length rows → IsMarked marks at
  all_marked marks below at lt = below number number_falls at lt (omega (arith, height_small (table_of_linked rows) t (id_at rows at) (in_table rows at lt), length-ids rows))

-- once all rows have marks the order has all
pub all_numbered : (rows : List LinkedRow) (marks : List Bool) (order : List ℕ) → ArePartlyNumbered rows marks order → ((at : ℕ) → at < length rows → IsMarked marks at) →
    IsNumbering rows order
all_numbered rows marks order known all = record { arranged = known.arranged; all = λ at lt. known.numbered at lt (all at lt) }
