-- Rows that stand in an order as their lefts and rights ask: the order is the origin order.
use Rattle.std.proofs.Common.{◌≡◌, ℕ, zero, suc, ◌-◌, ◌<◌, ◌≤◌, Bool, true, false, ◌||◌, ◌&&◌, List, [], ◌∷◌, map, length, ◌⊎◌, inl, inr, Option, Some, None, nat_lt, nat_le, nat_eq, refl, sym, ap, ◌∙◌, subst, arith, tests, true≢false}
use Rattle.std.specs.Prelude.{IfSome, slice_index, if◌then◌else◌}
use Rattle.yd_words.specs.Member.{IsIn}
use Rattle.yd_words.specs.Test.{one_if}
use Rattle.yd_ids.specs.declared.id.Id.{Id}
use Rattle.yd_ids.specs.Ids.{is_same, is_smaller}
use Rattle.yd_ids.proofs.IdLemmas.{same_says}
use Rattle.yd_origins.specs.Table.{OriginTable, ids_of, left_of, right_of, IsTable}
use Rattle.yd_origins.specs.Before.{is_before}
use Rattle.yd_origins.specs.Sorted.{origin_order}
use Rattle.yd_origins.proofs.MemberLemmas.{place, Rising}
use Rattle.yd_origins.proofs.LineLemmas.{Reasons}
use Rattle.yd_order.specs.declared.linking.LinkedRow.{LinkedRow}
use Rattle.yd_order.specs.Linking.{id_at, left_at, right_at, id_of_link, unlinked, table_of_linked, AreLinked}
use Rattle.yd_order.specs.Seating.{AreSeated, seat_of, is_passed, is_ahead, has_reason, AllStand, AllBelow}
use Rattle.yd_order.proofs.LinkedLemmas.{left_inside, right_inside, in_table, one_place, left_is, right_is}
use Rattle.yd_order.proofs.SortedLemmas.{in_order_is_order}
use Rattle.yd_order.proofs.StandingLemmas.{Stand, before_is_front, rising_goes_first}

-- ---- lists of ids by places

listed : (f : ℕ → Id) (xs : List ℕ) (x : Id) → IsIn x (map f xs) → (k : ℕ) × (k < length xs) × (f (slice_index xs k) ≡ x)
listed f [] x i = absurd i
listed f (y ∷ ys) x (inl e) = (0, omega arith, sym e)
listed f (y ∷ ys) x (inr i) = let (k, lt, e) = listed f ys x i in (suc k, omega arith, e)

in_list : (f : ℕ → Id) (xs : List ℕ) (k : ℕ) → k < length xs → IsIn (f (slice_index xs k)) (map f xs)
in_list f [] k lt = absurd (omega arith)
in_list f (y ∷ ys) zero lt = inl refl
in_list f (y ∷ ys) (suc k) lt = inr (in_list f ys k (omega arith))

rising : (pos : Id → ℕ) (f : ℕ → Id) (xs : List ℕ) → ((k j : ℕ) → k < j → j < length xs → pos (f (slice_index xs k)) < pos (f (slice_index xs j))) → Rising pos (map f xs)
rising pos f [] h = tt
rising pos f (x ∷ xs) h = (
  (λ y i. let (j, lt, e) = listed f xs y i in subst (λ (z : Id). pos (f x) < pos z) e (h 0 (suc j) (omega arith) (omega arith))),
  rising pos f xs (λ k j less lt. h (suc k) (suc j) (omega arith) (omega arith)),
)

-- ---- the place of an id

abbrev index_of : List LinkedRow → Id → ℕ
index_of [] x = zero
index_of (row ∷ rows) x = if is_same row.id x then zero else suc (index_of rows x)

found_rows : (all rows : List LinkedRow) (x : Id) → IsIn x (ids_of (map (unlinked all) rows)) → (index_of rows x < length rows) × (id_at rows (index_of rows x) ≡ x)
found_rows all [] x i = absurd i
found_rows all (row ∷ rows) x i = elim (same_says row.id x) [
  | inl e ↦ rw e.0 (omega arith, e.1)
  | inr e ↦ rw e.0 (let found = found_rows all rows x (elim i [ inl f ↦ absurd (e.1 (sym f)) | inr j ↦ j ]) in (omega (arith, found.0), found.1))
]

-- ---- the seats as places in a line

module _ (rows : List LinkedRow) (t : IsTable (table_of_linked rows)) (linked : AreLinked rows) (order seats : List ℕ) (seated : AreSeated (length rows) order seats)
    (stand : AllStand rows order seats) where
  abbrev table : OriginTable
  table = table_of_linked rows

  abbrev P : Id → Type 0
  P x = IsIn x (ids_of table)

  abbrev pos : Id → ℕ
  pos x = slice_index seats (index_of rows x)

  abbrev end : ℕ
  end = suc (length rows)

  index_in : (x : Id) → P x → index_of rows x < length rows
  index_in x i = (found_rows rows rows x i).0

  id_found : (x : Id) → P x → id_at rows (index_of rows x) ≡ x
  id_found x i = (found_rows rows rows x i).1

  -- the seat of the row at a place
  pos_at : (a : ℕ) → a < length rows → pos (id_at rows a) ≡ slice_index seats a
  pos_at a lt = ap (slice_index seats) (one_place rows (index_of rows (id_at rows a)) a t.distinct (index_in (id_at rows a) (in_table rows a lt)) lt
      (id_found (id_at rows a) (in_table rows a lt)))

  link_seat : (z : Option ℕ) → IfSome z (λ p. p < length rows) → place pos 0 (id_of_link rows z) ≡ seat_of seats z
  link_seat None lt = refl
  link_seat (Some p) lt = pos_at p lt

  low : (a : ℕ) → a < length rows → 0 < slice_index seats a
  low a lt = (seated.each a lt).low

  high : (a : ℕ) → a < length rows → slice_index seats a ≤ length rows
  high a lt = omega (arith, (seated.each a lt).high, seated.order_size)

  -- the order has the row at the number in front of its seat
  back : (a : ℕ) → a < length rows → slice_index order (slice_index seats a - 1) ≡ a
  back a lt = (seated.each a lt).back (slice_index seats a - 1) (omega (arith, low a lt))

  one_seat : (a b : ℕ) → a < length rows → b < length rows → slice_index seats a ≡ slice_index seats b → a ≡ b
  one_seat a b p q e = sym (back a p) ∙ ap (λ (n : ℕ). slice_index order (n - 1)) e ∙ back b q

  behind_left_at : (a : ℕ) → a < length rows → place pos 0 (left_of table (id_at rows a)) < pos (id_at rows a)
  behind_left_at a lt = omega (
    arith,
    ap (place pos 0) (left_is rows a t.distinct lt),
    link_seat (left_at rows a) (left_inside rows a linked lt),
    pos_at a lt,
    (stand a lt).between.left,
  )

  right_seat : (z : Option ℕ) (n : ℕ) → n ≤ length rows → IfSome z (λ p. p < length rows) → IfSome z (λ r. n < slice_index seats r) → n < place pos end (id_of_link rows z)
  right_seat None n le lt less = omega arith
  right_seat (Some r) n le lt less = omega (arith, pos_at r lt, less)

  before_right_at : (a : ℕ) → a < length rows → pos (id_at rows a) < place pos end (right_of table (id_at rows a))
  before_right_at a lt = omega (
    arith,
    ap (place pos end) (right_is rows a t.distinct lt),
    right_seat (right_at rows a) (slice_index seats a) (high a lt) (right_inside rows a linked lt) (stand a lt).between.right,
    pos_at a lt,
  )

  -- what a reason says
  passed_says : (z : Option ℕ) (n : ℕ) → IfSome z (λ p. p < length rows) → is_passed seats z n ≡ true → place pos end (id_of_link rows z) ≤ n
  passed_says None n lt e = absurd (true≢false (sym e))
  passed_says (Some r) n lt e = omega (arith, pos_at r lt, at_most (slice_index seats r) n e)
    where
      at_most : (m k : ℕ) → nat_le m k ≡ true → m ≤ k
      at_most m k le = grind (arith, tests)

  ahead_says : (m n : ℕ) (tie : Bool) → (nat_lt n m || (nat_eq m n && tie)) ≡ true → (n < m) ⊎ ((m ≡ n) × (one_if tie ≡ 1))
  ahead_says m n true e = either (nat_lt n m) refl (nat_eq m n) refl e
    where
      either : (p : Bool) → nat_lt n m ≡ p → (q : Bool) → nat_eq m n ≡ q → (p || (q && true)) ≡ true → (n < m) ⊎ ((m ≡ n) × (one_if true ≡ 1))
      either true f q g h = inl (grind (arith, tests))
      either false f true g h = inr (grind (arith, tests), refl)
      either false f false g h = absurd (true≢false (sym h))
  ahead_says m n false e = either (nat_lt n m) refl (nat_eq m n) refl e
    where
      either : (p : Bool) → nat_lt n m ≡ p → (q : Bool) → nat_eq m n ≡ q → (p || (q && false)) ≡ true → (n < m) ⊎ ((m ≡ n) × (one_if false ≡ 1))
      either true f q g h = inl (grind (arith, tests))
      either false f true g h = absurd (true≢false (sym h))
      either false f false g h = absurd (true≢false (sym h))

  either_test : (p q : Bool) → (p || q) ≡ true → (p ≡ true) ⊎ (q ≡ true)
  either_test true q e = inl refl
  either_test false q e = inr e

  reason_at : (a b : ℕ) → a < length rows → b < length rows → slice_index seats a < slice_index seats b → Reasons (left_of table) (right_of table) pos end (id_at rows a) (id_at rows b)
  reason_at a b p q lt = elim (reached (slice_index seats a) (seat_of seats (left_at rows b))) [
    | inl le ↦ inl (omega (arith, le, pos_at a p, left_b))
    | inr less ↦ elim (either_test (is_passed seats (right_at rows a) (slice_index seats b)) (is_ahead rows seats a b) (told less)) [
      | inl e ↦ inr (inl (omega (
        arith,
        ap (place pos end) (right_is rows a t.distinct p),
        passed_says (right_at rows a) (slice_index seats b) (right_inside rows a linked p) e,
        pos_at b q,
      )))
      | inr e ↦ elim (ahead_says (seat_of seats (left_at rows a)) (seat_of seats (left_at rows b)) (is_smaller (id_at rows a) (id_at rows b)) e) [
        | inl f ↦ inr (inr (inr (omega (arith, f, left_a, left_b))))
        | inr f ↦ inr (inr (inl (left_a ∙ f.0 ∙ sym left_b, f.1)))
      ]
    ]
  ]
    where
      reached : (m n : ℕ) → (m ≤ n) ⊎ (n < m)
      reached m n = grind arith

      left_a : place pos 0 (left_of table (id_at rows a)) ≡ seat_of seats (left_at rows a)
      left_a = ap (place pos 0) (left_is rows a t.distinct p) ∙ link_seat (left_at rows a) (left_inside rows a linked p)

      left_b : place pos 0 (left_of table (id_at rows b)) ≡ seat_of seats (left_at rows b)
      left_b = ap (place pos 0) (left_is rows b t.distinct q) ∙ link_seat (left_at rows b) (left_inside rows b linked q)

      told : seat_of seats (left_at rows b) < slice_index seats a → has_reason rows seats a b ≡ true
      told less = subst (λ (n : ℕ). has_reason rows seats n b ≡ true) (back a p)
          ((stand b q).reasons (slice_index seats a - 1) (omega (arith, less)) (omega (arith, low a p, lt)))

  stands : Stand table pos end
  stands = record {
    low = λ x i. low (index_of rows x) (index_in x i);
    high = λ x i. omega (arith, high (index_of rows x) (index_in x i));
    one = λ x y i j e. sym (id_found x i) ∙ ap (id_at rows) (one_seat (index_of rows x) (index_of rows y) (index_in x i) (index_in y j) e) ∙ id_found y j;
    behind_left = λ x i. subst (λ (z : Id). place pos 0 (left_of table z) < pos z) (id_found x i) (behind_left_at (index_of rows x) (index_in x i));
    before_right = λ x i. subst (λ (z : Id). pos z < place pos end (right_of table z)) (id_found x i) (before_right_at (index_of rows x) (index_in x i));
    reason = λ x y i j lt. subst (λ (z : Id). Reasons (left_of table) (right_of table) pos end z y) (id_found x i)
        (subst (λ (z : Id). Reasons (left_of table) (right_of table) pos end (id_at rows (index_of rows x)) z) (id_found y j)
        (reason_at (index_of rows x) (index_of rows y) (index_in x i) (index_in y j) lt));
  }

  -- ---- the order

  abbrev list : List Id
  list = map (id_at rows) order

  order_inside : (k : ℕ) → k < length order → slice_index order k < length rows
  order_inside k lt = omega (arith, (seated.each k (omega (arith, seated.order_size))).inside, seated.order_size)

  pos_in_order : (k : ℕ) → k < length order → pos (id_at rows (slice_index order k)) ≡ suc k
  pos_in_order k lt = pos_at (slice_index order k) (order_inside k lt) ∙ (seated.each k (omega (arith, seated.order_size))).there

  into : (x : Id) → IsIn x list → P x
  into x i = let (k, lt, e) = listed (id_at rows) order x i in subst P e (in_table rows (slice_index order k) (order_inside k lt))

  all_in : (x : Id) → P x → IsIn x list
  all_in x i = subst (λ (z : Id). IsIn z list) (ap (id_at rows) (back (index_of rows x) (index_in x i)) ∙ id_found x i)
      (in_list (id_at rows) order (slice_index seats (index_of rows x) - 1)
      (omega (arith, low (index_of rows x) (index_in x i), high (index_of rows x) (index_in x i), seated.order_size)))

  -- the ids in this order are the origin order
  pub seated_is_order : list ≡ origin_order table
  seated_is_order = in_order_is_order table t.distinct list
      (rising_goes_first table t pos end (omega arith) stands list into
      (rising pos (id_at rows) order (λ k j less lt. omega (arith, pos_in_order k (omega arith), pos_in_order j lt, less))))
      (λ x. (into x, all_in x))

  -- of two rows the one that stands in front is before the other
  pub seated_before : (i j : ℕ) → i < length order → j < length order →
      is_before table (id_at rows (slice_index order i)) (id_at rows (slice_index order j)) ≡ nat_lt i j
  seated_before i j p q = before_is_front table t pos end (omega arith) stands (id_at rows (slice_index order i)) (id_at rows (slice_index order j))
      (in_table rows (slice_index order i) (order_inside i p)) (in_table rows (slice_index order j) (order_inside j q))
      ∙ both (pos (id_at rows (slice_index order i))) (pos (id_at rows (slice_index order j))) (pos_in_order i p) (pos_in_order j q)
    where
      both : (m n : ℕ) → m ≡ suc i → n ≡ suc j → nat_lt m n ≡ nat_lt i j
      both m n e f = grind (arith, tests)

-- the order's places are rows
pub seated_below : (count : ℕ) (order seats : List ℕ) → AreSeated count order seats → AllBelow count order
seated_below count order seats seated k lt = omega (arith, (seated.each k (omega (arith, seated.order_size))).inside, seated.order_size)
