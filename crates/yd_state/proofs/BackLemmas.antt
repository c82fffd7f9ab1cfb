-- Where memory ended and all was taken out again, no unit has changed.
use Rattle.std.proofs.Common.{◌≡◌, ℕ, ◌<◌, ◌≤◌, true, List, [], ◌∷◌, inl, inr, Some, length, refl, sym, ap, ap₂, ◌∙◌, subst, arith}
use Rattle.std.specs.Prelude.{flat_map, slice_get}
use Rattle.yd_words.specs.Member.{IsIn}
use Rattle.yd_words.proofs.MemberLemmas.{in_parts}
use Rattle.yd_words.proofs.TestLemmas.{split}
use Rattle.yd_ids.specs.declared.id.Id.{Id}
use Rattle.yd_ops.specs.declared.lists.List.{List as DocList}
use Rattle.yd_ops.specs.Operation.{Operation}
use Rattle.yd_origins.specs.Table.{Row, OriginTable, ids_of, left_of, right_of}
use Rattle.yd_origins.specs.Growing.{GrowsByScan, IsClosed}
use Rattle.yd_origins.proofs.ListTableLemmas.{own_member, own_list}
use Rattle.yd_arena.specs.Arena.{Placed, runs_of, count_of, places_in, units_in, next_clock}
use Rattle.yd_arena.specs.Rows.{rows_in}
use Rattle.yd_arena.proofs.ArenaLemmas.{unit_below}
use Rattle.yd_arena.proofs.RowLemmas.{ids-rows}
use Rattle.yd_store.specs.Contents.{told_of}
use Rattle.yd_store.specs.Store.{Stored}
use Rattle.yd_store.specs.Units.{operations_at, operations_in, HasOperation, HasMarked}
use Rattle.yd_store.proofs.TakingLemmas.{at_below}
use Rattle.yd_ops.specs.Received.{has_operation, IsWritten}
use Rattle.yd_meaning.specs.Held.{standing}
use Rattle.yd_meaning.specs.Order.{operation_set, list_of}
use Rattle.yd_meaning.proofs.RowLemmas.{row_has}
use Rattle.yd_meaning.proofs.StandingTableLemmas.{standing_table}
use Rattle.yd_meaning.specs.Grown.{table_in}
use Rattle.yd_meaning.proofs.GrowthLemmas.{nothing_closed}
use Rattle.yd_kept.specs.Placing.{IsRowOf, HasRowsBelow}
use Rattle.yd_kept.specs.Filling.{FillsLists, GrowsFrom}
use Rattle.yd_kept.proofs.FillingLemmas.{within_names, slice_below, filling_goes_on}
use Rattle.yd_kept.specs.Kept.{StaysFilled}
use Rattle.yd_state.specs.Back.{IsSound}

-- ---- rows of a table

row_same : (table : OriginTable) (a b : Row) → a.id ≡ b.id → IsRowOf table a → IsRowOf table b → a ≡ b
row_same table a b e f g = λ i. record { id = e i; left = left i; right = right i }
  where
    left : a.left ≡ b.left
    left = sym f.left ∙ ap (left_of table) e ∙ g.left

    right : a.right ≡ b.right
    right = sym f.right ∙ ap (right_of table) e ∙ g.right

-- rows of one table are told by their ids
pub rows_same : (table : OriginTable) (xs ys : List Row) → ids_of xs ≡ ids_of ys → ((row : Row) → IsIn row xs → IsRowOf table row) →
    ((row : Row) → IsIn row ys → IsRowOf table row) → xs ≡ ys
rows_same table [] [] e f g = refl
rows_same table [] (y ∷ ys) e f g = absurd cc
rows_same table (x ∷ xs) [] e f g = absurd cc
rows_same table (x ∷ xs) (y ∷ ys) e f g =
    let (first, rest) = parts x.id y.id (ids_of xs) (ids_of ys) e in
    ap₂ (λ r rs. r ∷ rs) (row_same table x y first (f x (inl refl)) (g y (inl refl))) (rows_same table xs ys rest (λ row i. f row (inr i)) (λ row i. g row (inr i)))
  where
    parts : (a b : Id) (us vs : List Id) → a ∷ us ≡ b ∷ vs → (a ≡ b) × (us ≡ vs)
    parts a b us vs h = (cc, cc)

-- ---- units of lists

in_flat : {X : Type 0} (f : ℕ → List X) (places : List ℕ) (x : X) → IsIn x (flat_map f places) → (i : ℕ) × IsIn i places × IsIn x (f i)
in_flat f [] x i = absurd i
in_flat f (p ∷ ps) x i = elim (in_parts x (f p) (flat_map f ps) i) [
  | inl j ↦ (p, inl refl, j)
  | inr j ↦ let (q, k, l) = in_flat f ps x j in (q, inr k, l)
]

pub has_below : (it : Stored) → IsSound it → (o : Operation) → HasOperation it o → o.id.clock < next_clock it.placed o.id.client.0
has_below it s o h = at_below it h.place o s.arena s.told h.within h.member

pub mark_below : (it : Stored) → IsSound it → (id : Id) → HasMarked it id → id.clock < next_clock it.placed id.client.0
mark_below it s id m = unit_below it.placed.lines (runs_of it.placed) s.arena.holds m.place m.before id m.has

pub list_below : (it : Stored) → IsSound it → (list : ℕ) → list < count_of it.placed → (o : Operation) → IsIn o (operations_in it list) → o.id.clock < next_clock it.placed o.id.client.0
list_below it s list lt o i =
    let (place, j, member) = in_flat (operations_at (runs_of it.placed) (told_of it.contents)) (places_in it.placed list) o i in
    at_below it place o s.arena s.told (s.lists.within list place lt j) member

-- ---- lists with the same rows are filled with the same

module _ (names more : List DocList) (start back : Placed) (kept : (n : ℕ) (name : DocList) → slice_get names n ≡ Some name → slice_get more n ≡ Some name)
    (all_named : length names ≡ count_of start) (more_named : length more ≡ count_of back)
    (distinct : (m n : ℕ) (name : DocList) → slice_get more m ≡ Some name → slice_get more n ≡ Some name → m ≡ n)
    (rows : (list : ℕ) → list < count_of start → rows_in back list ≡ rows_in start list) (none : (list : ℕ) → count_of start ≤ list → list < count_of back → rows_in back list ≡ [])
    (nexts : (client : ℕ) → next_clock back client ≡ next_clock start client) where
  units_same : (list : ℕ) → list < count_of start → units_in back list ≡ units_in start list
  units_same list lt = sym (ids-rows (runs_of back) (places_in back list)) ∙ ap ids_of (rows list lt) ∙ ids-rows (runs_of start) (places_in start list)

  units_none : (list : ℕ) → count_of start ≤ list → list < count_of back → units_in back list ≡ []
  units_none list le lt = sym (ids-rows (runs_of back) (places_in back list)) ∙ ap ids_of (none list le lt)

  module _ (held : List Operation) (w : IsWritten held) (fills : FillsLists held names start) where
    nothing_stands : (n : ℕ) (name : DocList) → slice_get more n ≡ Some name → length names ≤ n → (x : Id) → IsIn x (ids_of (table_in (standing held) name)) →
        x.clock < next_clock start x.client.0 → ⊥
    nothing_stands n name e le x i low =
        let up : has_operation (standing held) x ≡ true = row_has (standing held) x (own_member (operation_set (standing held)) (standing_table held w) name x i) in
        let of : list_of (standing held) x ≡ name = own_list (operation_set (standing held)) (standing_table held w) name x i in
        let (m, f) = fills.listed x up low in
        let g : slice_get names m ≡ Some name = f ∙ ap (λ (l : DocList). Some l) of in
        omega (arith, within_names names m name g, distinct m n name (kept m name g) e, le)

    rows_then : (n : ℕ) (name : DocList) → slice_get more n ≡ Some name → HasRowsBelow (table_in (standing held) name) back n
    rows_then n name e = elim (split (length names) n) [
      | inl le ↦
          let empty = units_none n (omega (arith, le, all_named)) (omega (arith, within_names more n name e, more_named)) in record {
            each = λ x. ((λ i. absurd (subst (IsIn x) empty i)), (λ b. absurd (nothing_stands n name e le x b.0 (omega (arith, b.1, nexts x.client.0)))));
            as_rows = λ row i. absurd (subst (IsIn row) (none n (omega (arith, le, all_named)) (omega (arith, within_names more n name e, more_named))) i);
            closed = subst (IsClosed (table_in (standing held) name)) (sym empty) (nothing_closed (table_in (standing held) name));
          }
      | inr lt ↦
          let (x, f) = slice_below names n lt in
          let g : slice_get names n ≡ Some name = f ∙ sym (kept n x f) ∙ e in
          let less : n < count_of start = omega (arith, lt, all_named) in
          let its = fills.rows n name g in
          let same = units_same n less in record {
            each = λ y. (
              (λ i. let b = (its.each y).0 (subst (IsIn y) same i) in (b.0, omega (arith, b.1, nexts y.client.0))),
              (λ b. subst (IsIn y) (sym same) ((its.each y).1 (b.0, omega (arith, b.1, nexts y.client.0)))),
            );
            as_rows = λ row i. its.as_rows row (subst (IsIn row) (rows n less) i);
            closed = subst (IsClosed (table_in (standing held) name)) (sym same) its.closed;
          }
    ]

    pub fills_again : FillsLists held more back
    fills_again = record {
      count = more_named;
      distinct = distinct;
      rows = rows_then;
      listed = λ x up low. let (n, e) = fills.listed x up (omega (arith, low, nexts x.client.0)) in (n, kept n (list_of (standing held) x) e);
    }

    pub grows_again : GrowsFrom held names start more back
    grows_again = record {
      kept = kept;
      grows = λ n name e. subst (GrowsByScan (table_in (standing held) name) (units_in start n)) (sym (units_same n (omega (arith, within_names names n name e, all_named))))
          ((filling_goes_on.start held names start).grows n name e);
      made = λ n name e le. subst (GrowsByScan (table_in (standing held) name) []) (sym (units_none n (omega (arith, le, all_named)) (omega (arith, within_names more n name e, more_named))))
          (record { news = []; arranged = tt; grown = refl });
    }

  pub stays_filled : (old new : Stored) → old.placed ≡ start → new.placed ≡ back → StaysFilled (record { store = old; names = names }) (record { store = new; names = more })
  stays_filled old new e f = λ held w fills.
      let was : FillsLists held names start = subst (FillsLists held names) e fills in record {
        fills = subst (FillsLists held more) (sym f) (fills_again held w was);
        grows = subst (λ p. GrowsFrom held names p more new.placed) (sym e) (subst (GrowsFrom held names start more) (sym f) (grows_again held w was));
      }
