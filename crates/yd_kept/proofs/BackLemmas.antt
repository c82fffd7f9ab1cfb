-- A store that goes back to earlier clocks has its lists as they were.
use Rattle.std.proofs.Common.{◌≡◌, ℕ, ◌<◌, ◌≤◌, Bool, true, false, List, [], ◌∷◌, ◌++◌, inl, inr, Option, Some, length, refl, sym, ap, ◌∙◌, subst, arith, true≢false}
use Rattle.std.specs.Prelude.{filter, slice_get, if◌then◌else◌}
use Rattle.yd_words.specs.Member.{IsIn}
use Rattle.yd_words.proofs.FilterLemmas.{kept_one, filter-all}
use Rattle.yd_words.proofs.TestLemmas.{split, nat_lt_says}
use Rattle.yd_ids.specs.declared.id.Id.{Id}
use Rattle.yd_ops.specs.declared.lists.List.{List as DocList}
use Rattle.yd_ops.specs.Operation.{Operation}
use Rattle.yd_origins.specs.Table.{Row, OriginTable, ids_of, left_of, right_of}
use Rattle.yd_origins.specs.Scan.{scan_place, after_scan, after_scans}
use Rattle.yd_origins.specs.Growing.{IsArrangement, IsClosed}
use Rattle.yd_origins.proofs.ListTableLemmas.{own_member, own_list, in_own}
use Rattle.yd_origins.proofs.PartLemmas.{row_id_in}
use Rattle.yd_origins.proofs.PlacementLemmas.{scan_moves_none}
use Rattle.yd_arena.specs.Arena.{Placed, runs_of, count_of, places_in, units_in, next_clock}
use Rattle.yd_ops.specs.Received.{has_operation, IsWritten}
use Rattle.yd_meaning.specs.Held.{standing}
use Rattle.yd_meaning.specs.Order.{operation_set, list_of}
use Rattle.yd_meaning.proofs.RowLemmas.{has_row, row_has}
use Rattle.yd_meaning.proofs.StandingTableLemmas.{standing_table}
use Rattle.yd_meaning.specs.Grown.{table_in}
use Rattle.yd_meaning.specs.Staying.{StaysHeld}
use Rattle.yd_meaning.proofs.GrowthLemmas.{news_are_rows, nothing_closed}
use Rattle.yd_meaning.proofs.GrownStayingLemmas.{back, same_list, is_front}
use Rattle.yd_arena.specs.Rows.{rows_in}
use Rattle.yd_kept.specs.Placing.{IsRowOf, HasRowsBelow}
use Rattle.yd_kept.specs.Filling.{FillsLists, GrowsFrom}
use Rattle.yd_kept.specs.Back.{is_below, GoesBack, IsFilledAgain, GoingBackIsAgain}
use Rattle.yd_kept.proofs.FillingLemmas.{within_names, slice_below}
use Rattle.yd_arena.proofs.RowLemmas.{ids-rows}

-- ---- what a filter leaves after scans

filter-append : (test : Id → Bool) (xs ys : List Id) → filter test (xs ++ ys) ≡ filter test xs ++ filter test ys
filter-append test [] ys = refl
filter-append test (x ∷ xs) ys = go (test x) (filter-append test xs ys)
  where
    go : (t : Bool) → filter test (xs ++ ys) ≡ filter test xs ++ filter test ys →
        (if t then x ∷ filter test (xs ++ ys) else filter test (xs ++ ys)) ≡ (if t then x ∷ filter test xs else filter test xs) ++ filter test ys
    go true e = ap (λ zs. x ∷ zs) e
    go false e = e

pub filter-none : (test : Id → Bool) (xs : List Id) → ((x : Id) → IsIn x xs → test x ≡ false) → filter test xs ≡ []
filter-none test [] none = refl
filter-none test (x ∷ xs) none = rw (none x (inl refl)) (filter-none test xs (λ y i. none y (inr i)))

ids-filter : (test : Id → Bool) (rows : OriginTable) → ids_of (filter (λ (row : Row). test row.id) rows) ≡ filter test (ids_of rows)
ids-filter test [] = refl
ids-filter test (r ∷ rs) = go (test r.id) (ids-filter test rs)
  where
    go : (t : Bool) → ids_of (filter (λ (row : Row). test row.id) rs) ≡ filter test (ids_of rs) →
        ids_of (if t then r ∷ filter (λ (row : Row). test row.id) rs else filter (λ (row : Row). test row.id) rs) ≡ (if t then r.id ∷ filter test (ids_of rs) else filter test (ids_of rs))
    go true e = ap (λ zs. r.id ∷ zs) e
    go false e = e

-- a scan puts in nothing that fails the test, so what passes it stands as before
pub filter-scans : (left right : Id → Option Id) (test : Id → Bool) (news list : List Id) → ((x : Id) → IsIn x news → test x ≡ false) →
    filter test (after_scans left right list news) ≡ filter test list
filter-scans left right test [] list fails = refl
filter-scans left right test (n ∷ ns) list fails =
    let place = scan_place left right list n in
    filter-scans left right test ns (after_scan left right list n) (λ x i. fails x (inr i))
    ∙ filter-append test place.0 (n ∷ place.1)
    ∙ ap (λ zs. filter test place.0 ++ zs) (rw (fails n (inl refl)) refl)
    ∙ sym (filter-append test place.0 place.1)
    ∙ ap (filter test) (scan_moves_none left right list n)

-- what comes in an arrangement is not there yet
pub news_are_new : (table : OriginTable) (news l : List Id) → IsArrangement table l news → (x : Id) → IsIn x news → IsIn x l → ⊥
news_are_new table [] l a x i j = i
news_are_new table (n ∷ ns) l a x (inl e) j = a.0 (subst (λ y. IsIn y l) e j)
news_are_new table (n ∷ ns) l a x (inr i) j = news_are_new table ns (n ∷ l) a.5 x i (inr j)

pub below_is : (placed : Placed) (x : Id) → is_below placed x ≡ true → x.clock < next_clock placed x.client.0
below_is placed x e = elim (nat_lt_says x.clock (next_clock placed x.client.0)) [ inl y ↦ y.1 | inr y ↦ absurd (true≢false (sym e ∙ y.0)) ]

pub is_below-true : (placed : Placed) (x : Id) → x.clock < next_clock placed x.client.0 → is_below placed x ≡ true
is_below-true placed x lt = elim (nat_lt_says x.clock (next_clock placed x.client.0)) [ inl y ↦ y.0 | inr y ↦ absurd (omega (arith, lt, y.1)) ]

not_below : (placed : Placed) (x : Id) → (x.clock < next_clock placed x.client.0 → ⊥) → is_below placed x ≡ false
not_below placed x none = elim (nat_lt_says x.clock (next_clock placed x.client.0)) [ inl y ↦ absurd (none y.1) | inr y ↦ y.0 ]

module _ (part held : List Operation) (w : IsWritten held) (stays : StaysHeld part held) (names more : List DocList) (start mid back_at : Placed)
    (below : (x : Id) → x.clock < next_clock start x.client.0 → has_operation part x ≡ true) (was : FillsLists part names start) (fills : FillsLists held more mid)
    (from : GrowsFrom held names start more mid) (goes : GoesBack start mid back_at) where
  -- what is below the clocks at the start and stands in the whole stood in the part, in the same list
  stood : (name : DocList) (x : Id) → IsIn x (ids_of (table_in (standing held) name)) → x.clock < next_clock start x.client.0 → IsIn x (ids_of (table_in (standing part) name))
  stood name x i low =
      let up : has_operation (standing held) x ≡ true = row_has (standing held) x (own_member (operation_set (standing held)) (standing_table held w) name x i) in
      let down : has_operation (standing part) x ≡ true = back part held w stays x (below x low) up in
      in_own (operation_set (standing part)) (standing_table part stays.written) name x (has_row (standing part) x down)
      (same_list part held w stays x down ∙ own_list (operation_set (standing held)) (standing_table held w) name x i)

  inside : (n : ℕ) (name : DocList) → slice_get more n ≡ Some name → n < count_of mid
  inside n name e = omega (arith, within_names more n name e, fills.count)

  left_units : (n : ℕ) → n < count_of mid → units_in back_at n ≡ filter (is_below start) (units_in mid n)
  left_units n lt = sym (ids-rows (runs_of back_at) (places_in back_at n)) ∙ ap ids_of (goes.rows n lt) ∙ ids-filter (is_below start) (rows_in mid n)
      ∙ ap (filter (is_below start)) (ids-rows (runs_of mid) (places_in mid n))

  same_units : (n : ℕ) (name : DocList) → slice_get names n ≡ Some name → units_in back_at n ≡ units_in start n
  same_units n name e =
      let table = table_in (standing held) name in
      let grows = from.grows n name e in
      let its = was.rows n name e in
      left_units n (inside n name (from.kept n name e))
      ∙ ap (filter (is_below start)) (sym grows.grown)
      ∙ filter-scans (left_of table) (right_of table) (is_below start) grows.news (units_in start n) (λ x i. not_below start x (λ low.
      news_are_new table grows.news (units_in start n) grows.arranged x i ((its.each x).1 (stood name x (news_are_rows table grows.news (units_in start n) grows.arranged x i) low, low))))
      ∙ filter-all (is_below start) (units_in start n) (λ x i. is_below-true start x ((its.each x).0 i).1)

  -- an operation of a list that is new did not stand below the clocks
  none_stood : (n : ℕ) (name : DocList) → slice_get more n ≡ Some name → length names ≤ n → (x : Id) → IsIn x (ids_of (table_in (standing part) name)) →
      x.clock < next_clock start x.client.0 → ⊥
  none_stood n name e le x i low =
      let down : has_operation (standing part) x ≡ true = row_has (standing part) x (own_member (operation_set (standing part)) (standing_table part stays.written) name x i) in
      let of : list_of (standing part) x ≡ name = own_list (operation_set (standing part)) (standing_table part stays.written) name x i in
      let (m, f) = was.listed x down low in
      let g : slice_get names m ≡ Some name = f ∙ ap (λ (l : DocList). Some l) of in
      let same : m ≡ n = fills.distinct m n name (from.kept m name g) e in
      omega (arith, within_names names m name g, same, le)

  no_units : (n : ℕ) (name : DocList) → slice_get more n ≡ Some name → length names ≤ n → units_in back_at n ≡ []
  no_units n name e le = left_units n (inside n name e) ∙ filter-none (is_below start) (units_in mid n) (λ x i. not_below start x (λ low.
      none_stood n name e le x (stood name x (((fills.rows n name e).each x).0 i).0 low) low))

  -- the row of a unit that stood is the part's
  part_row : (n : ℕ) (name : DocList) → slice_get more n ≡ Some name → (row : Row) → IsIn row (rows_in back_at n) →
      IsIn row.id (ids_of (table_in (standing part) name)) → IsRowOf (table_in (standing part) name) row
  part_row n name e row i stands =
      let its = (fills.rows n name e).as_rows row (kept_one (λ (r : Row). is_below start r.id) (rows_in mid n) row (subst (IsIn row) (goes.rows n (inside n name e)) i)).1 in
      let same = (is_front part held w stays name).same row.id stands in
      record { left = sym same.0 ∙ its.left; right = sym same.1 ∙ its.right }

  unit_of_row : (n : ℕ) (row : Row) → IsIn row (rows_in back_at n) → IsIn row.id (units_in back_at n)
  unit_of_row n row i = subst (IsIn row.id) (ids-rows (runs_of back_at) (places_in back_at n)) (row_id_in row (rows_in back_at n) i)

  rows_again : (n : ℕ) (name : DocList) → slice_get more n ≡ Some name → HasRowsBelow (table_in (standing part) name) back_at n
  rows_again n name e = elim (split (length names) n) [
    | inl le ↦ let none = no_units n name e le in record {
      each = λ x. ((λ i. absurd (subst (IsIn x) none i)), (λ b. absurd (none_stood n name e le x b.0 (omega (arith, b.1, goes.nexts x.client.0)))));
      as_rows = λ row i. absurd (subst (IsIn row.id) none (unit_of_row n row i));
      closed = subst (IsClosed (table_in (standing part) name)) (sym none) (nothing_closed (table_in (standing part) name));
    }
    | inr lt ↦
        let (x, f) = slice_below names n lt in
        let g : slice_get names n ≡ Some name = f ∙ sym (from.kept n x f) ∙ e in
        let same = same_units n name g in
        let its = was.rows n name g in record {
          each = λ y. (
            (λ i. let b = (its.each y).0 (subst (IsIn y) same i) in (b.0, omega (arith, b.1, goes.nexts y.client.0))),
            (λ b. subst (IsIn y) (sym same) ((its.each y).1 (b.0, omega (arith, b.1, goes.nexts y.client.0)))),
          );
          as_rows = λ row i. part_row n name e row i (its.closed.within row.id (subst (IsIn row.id) same (unit_of_row n row i)));
          closed = subst (IsClosed (table_in (standing part) name)) (sym same) its.closed;
        }
  ]

  filled_again : IsFilledAgain part names start more back_at
  filled_again = record {
    fills = record {
      count = fills.count ∙ sym goes.count;
      distinct = fills.distinct;
      rows = rows_again;
      listed = λ x up low. let (n, e) = was.listed x up (omega (arith, low, goes.nexts x.client.0)) in (n, from.kept n (list_of (standing part) x) e);
    };
    same = same_units;
    none = no_units;
  }

-- ---- lemmas for callers

pub going_back_is_again : GoingBackIsAgain
going_back_is_again = filled_again
