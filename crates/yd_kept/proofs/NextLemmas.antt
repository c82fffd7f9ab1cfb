-- A run of operations that stand is the next one of the table of their list.
use Rattle.std.proofs.Common.{◌≡◌, ℕ, zero, suc, ◌+◌, ◌-◌, ◌<◌, Bool, true, false, List, [], ◌∷◌, inl, inr, Option, Some, None, length, refl, sym, ap, ◌∙◌, subst, arith}
use Rattle.std.specs.Prelude.{IfSome, if◌then◌else◌}
use Rattle.yd_words.specs.Member.{IsIn}
use Rattle.yd_words.proofs.OptionLemmas.{some_is, if_some_both}
use Rattle.yd_ids.specs.declared.id.Id.{Id}
use Rattle.yd_ops.specs.declared.lists.List.{List as DocList}
use Rattle.yd_ops.specs.Operation.{UnitContent, Operation, later_id, units_of_content, operations_from}
use Rattle.yd_ops.specs.Value.{RunValue, len_of}
use Rattle.yd_ops.proofs.OperationLemmas.{length-units_of_content}
use Rattle.yd_origins.specs.Table.{Row, OriginTable, ids_of, left_of, right_of, IsTable}
use Rattle.yd_origins.specs.Operations.{OperationSet, kept_right}
use Rattle.yd_origins.proofs.ListLemmas.{kept_same}
use Rattle.yd_origins.proofs.ListTableLemmas.{own_list, in_own, own_left, own_right, own_is_table}
use Rattle.yd_scan.specs.Stretches.{stretch_at}
use Rattle.yd_scan.proofs.UnitLemmas.{in_units, units_in as unit_there}
use Rattle.yd_index.proofs.RowLemmas.{from_says, from_in}
use Rattle.yd_arena.specs.Lists.{AreLists}
use Rattle.yd_arena.specs.Arena.{Placed, runs_of, count_of, places_in, units_in, next_clock}
use Rattle.yd_store.specs.Store.{StandsIn, IsKeptRight, stretch_of}
use Rattle.yd_ops.specs.Received.{has_operation, IsWritten}
use Rattle.yd_meaning.specs.Names.{same_list}
use Rattle.yd_meaning.specs.ListNames.{list_names, same_list_decides}
use Rattle.yd_meaning.specs.Held.{standing}
use Rattle.yd_meaning.specs.Order.{rows_of, operation_set, list_of}
use Rattle.yd_meaning.proofs.HeldListLemmas.{list_of-left}
use Rattle.yd_meaning.proofs.NeedLemmas.{right_source}
use Rattle.yd_meaning.proofs.RowLemmas.{one_row, has_row, left_of-row, right_of-row}
use Rattle.yd_meaning.proofs.StandingLemmas.{standing_sources}
use Rattle.yd_meaning.proofs.StandingTableLemmas.{standing_table}
use Rattle.yd_meaning.specs.Grown.{table_in}
use Rattle.yd_arena.specs.Rows.{rows_of_units, rows_of_run}
use Rattle.yd_kept.specs.Placing.{IsRowOf, HasRowsBelow, IsNextRun}
use Rattle.yd_kept.specs.Filling.{ComesNext}
use Rattle.yd_kept.proofs.RowLemmas.{right_is}

-- ---- where a unit stands

pub stands_there : (placed : Placed) (list : ℕ) (id : Id) → StandsIn placed list id → IsIn id (units_in placed list)
stands_there placed list id s =
    let run = stretch_at (runs_of placed) s.place in
    unit_there (runs_of placed) (places_in placed list) id s.place s.member
    (from_in run.id.client run.len run.id.clock id (sym s.has.client) (omega (arith, s.has.clock)) (omega (arith, s.has.clock, s.has.inside)))

pub there_stands : (placed : Placed) (list : ℕ) (id : Id) → AreLists placed.linked → list < count_of placed → IsIn id (units_in placed list) → StandsIn placed list id
there_stands placed list id lists lt i =
    let (place, m, k) = in_units (runs_of placed) (places_in placed list) id i in
    let run = stretch_at (runs_of placed) place in
    let s = from_says run.id.client run.len run.id.clock id k in record {
      place = place;
      before = id.clock - run.id.clock;
      has = record {
        within = lists.within list place lt m;
        inside = omega (arith, s.1, s.2);
        client = sym s.0;
        clock = omega (arith, s.1);
      };
      member = m;
    }

module _ (held : List Operation) (w : IsWritten held) (name : DocList) where
  abbrev stands : List Operation
  stands = standing held

  abbrev set : OperationSet list_names
  set = operation_set stands

  abbrev table : OriginTable
  table = table_in stands name

  rows_table : IsTable (rows_of stands)
  rows_table = standing_table held w

  -- ---- the operations of a run and its rows

  -- an operation of the list stands, with the id and the left of a row
  record HasUnitOf (right : Option Id) (row : Row) : Type 0 where
    operation : Operation
    there : IsIn operation stands
    id : operation.id ≡ row.id
    left : operation.left_origin ≡ row.left
    right_is : operation.right_origin ≡ right
    of_list : list_of stands operation.id ≡ name

  unit_of : (us : List UnitContent) (id : Id) (left right kept : Option Id) (list : Option DocList) →
      ((o : Operation) → IsIn o (operations_from id left right list us) → IsIn o stands) → list_of stands id ≡ name →
      (row : Row) → IsIn row (rows_of_units id.client left kept id.clock (length us)) → HasUnitOf right row
  unit_of [] id left right kept list f of row i = absurd i
  unit_of (u ∷ us) id left right kept list f of row (inl e) = record {
    operation = record { id = id; left_origin = left; right_origin = right; list = list; content = u };
    there = f (record { id = id; left_origin = left; right_origin = right; list = list; content = u }) (inl refl);
    id = sym (ap (λ (r : Row). r.id) e);
    left = sym (ap (λ (r : Row). r.left) e);
    right_is = refl;
    of_list = of;
  }
  unit_of (u ∷ []) id left right kept list f of row (inr i) = absurd i
  unit_of (u ∷ v ∷ us) id left right kept list f of row (inr i) =
      let next : Operation = record { id = later_id id 1; left_origin = Some id; right_origin = right; list = None; content = v } in
      let e : suc id.clock ≡ id.clock + 1 = omega arith in
      unit_of (v ∷ us) (later_id id 1) (Some id) right kept None (λ o j. f o (inr j)) (list_of-left stands rows_table next (f next (inr (inl refl))) id refl ∙ of) row
      (subst (λ c. IsIn row (rows_of_units id.client (Some id) kept c (length (v ∷ us)))) e i)

  module _ (placed : Placed) (list : ℕ) (run : RunValue) (kept : Option Id) (lists : AreLists placed.linked) (lt : list < count_of placed)
      (has : HasRowsBelow table placed list) (comes : ComesNext held placed run) (of : list_of stands run.id ≡ name)
      (keeps : IsKeptRight placed list run.right kept) where
    units : (row : Row) → IsIn row (rows_of_run (stretch_of run kept)) → HasUnitOf run.right row
    units row i = unit_of (units_of_content run.content) run.id run.left run.right kept run.list comes.stands of row
        (subst (λ n. IsIn row (rows_of_units run.id.client run.left kept run.id.clock n)) (sym (length-units_of_content run.content)) i)

    -- the right origin is kept where it is of the list, as the store keeps it
    kept_is : (x : Id) → list_of stands x ≡ name → (z k : Option Id) → IsKeptRight placed list z k →
        ((r : Id) → z ≡ Some r → (has_operation stands r ≡ true) × (r.clock < next_clock placed r.client.0)) → kept_right set x z ≡ k
    kept_is x e None None h f = refl
    kept_is x e None (Some k) h f = (let no : None ≡ Some k = h.0 in absurd cc)
    kept_is x e (Some r) None h f = go (same_list (list_of stands r) (list_of stands x)) refl
      where
        go : (t : Bool) → same_list (list_of stands r) (list_of stands x) ≡ t → (if t then Some r else None) ≡ None
        go true same = absurd (h (there_stands placed list r lists lt ((has.each r).1 (
          in_own set rows_table name r (has_row stands r (f r refl).0) ((same_list_decides (list_of stands r) (list_of stands x)).0 same ∙ e),
          (f r refl).1,
        ))))
        go false same = refl
    kept_is x e (Some r) (Some k) h f =
        let same : k ≡ r = sym (some_is r k h.0) in
        let own : list_of stands k ≡ name = own_list set rows_table name k ((has.each k).0 (stands_there placed list k h.1)).0 in
        kept_same set rows_table x r (ap (list_of stands) (sym same) ∙ own ∙ sym e) ∙ h.0

    right_there : (o : Operation) → IsIn o stands → o.right_origin ≡ run.right → (r : Id) → run.right ≡ Some r →
        (has_operation stands r ≡ true) × (r.clock < next_clock placed r.client.0)
    right_there o i e r is = (standing_sources held w o i r (right_source o r (e ∙ is)), rw is at comes.right)

    as_row : (row : Row) → (left_of table row.id ≡ row.left) × (right_of table row.id ≡ row.right) → IsRowOf table row
    as_row row b = record { left = b.0; right = b.1 }

    is_row : (row : Row) → IsIn row (rows_of_run (stretch_of run kept)) → IsIn row.id (ids_of table) × IsRowOf table row
    is_row row i =
        let u = units row i in
        let o : Operation = u.operation in
        let j : IsIn o.id (ids_of table) = in_own set rows_table name o.id (one_row stands o u.there) u.of_list in (
          subst (λ y. IsIn y (ids_of table)) u.id j,
          as_row row (subst (λ y. (left_of table y ≡ row.left) × (right_of table y ≡ row.right)) u.id (
            own_left set rows_table name o.id j ∙ left_of-row stands rows_table.distinct o u.there ∙ u.left,
            own_right set rows_table name o.id j ∙ ap (kept_right set o.id) (right_of-row stands rows_table.distinct o u.there ∙ u.right_is)
                ∙ kept_is o.id u.of_list run.right kept keeps (right_there o u.there u.right_is)
                ∙ sym (right_is table run.id.client kept (len_of run.content) run.id.clock run.left row i),
          )),
        )

    -- ---- lemmas for callers

    pub is_next : IsNextRun table placed list (stretch_of run kept)
    is_next = record {
      rows = is_row;
      next = comes.next;
      filled = comes.filled;
      left = left_in (is_row first first_there);
      right = right_in run.right kept keeps;
    }
      where
        first : Row
        first = record { id = run.id; left = run.left; right = kept }

        first_there : IsIn first (rows_of_run (stretch_of run kept))
        first_there = go (len_of run.content) comes.filled
          where
            go : (n : ℕ) → 0 < n → IsIn first (rows_of_units run.id.client run.left kept run.id.clock n)
            go zero less = absurd (omega arith)
            go (suc n) less = inl refl

        left_in : IsIn run.id (ids_of table) × IsRowOf table first → IfSome run.left (λ y. IsIn y (units_in placed list))
        left_in (i, row) = if_some_both (λ y. IsIn y (ids_of table)) (λ y. y.clock < next_clock placed y.client.0) (λ y. IsIn y (units_in placed list)) run.left
            (λ y j low. (has.each y).1 (j, low))
            (subst (λ z. IfSome z (λ y. IsIn y (ids_of table))) row.left ((own_is_table set rows_table name).has_left run.id i)) comes.left

        right_in : (z k : Option Id) → IsKeptRight placed list z k → IfSome k (λ y. IsIn y (units_in placed list))
        right_in z None h = tt
        right_in z (Some k) h = stands_there placed list k h.1
