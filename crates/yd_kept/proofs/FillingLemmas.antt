-- A store while held operations come into it: each list has what stands of it below the next clocks.
use Rattle.std.proofs.Common.{◌≡◌, ℕ, zero, suc, ◌+◌, ◌<◌, true, List, [], ◌∷◌, ◌++◌, ◌⊎◌, inl, inr, Some, length, get_or, refl, sym, ap, ◌∙◌, subst, arith, true≢false}
use Rattle.std.proofs.lemmas.List.{get_or_append_left, get_or_at, length-append}
use Rattle.std.specs.Prelude.{slice_get}
use Rattle.yd_words.specs.Member.{IsIn}
use Rattle.yd_words.proofs.OptionLemmas.{some_is}
use Rattle.yd_words.proofs.TestLemmas.{split, same_or_other}
use Rattle.yd_ids.specs.declared.id.Id.{Id}
use Rattle.yd_ops.specs.declared.lists.List.{List as DocList}
use Rattle.yd_ops.specs.Operation.{Operation}
use Rattle.yd_ops.specs.Value.{RunValue, len_of}
use Rattle.yd_origins.specs.Table.{OriginTable, ids_of}
use Rattle.yd_origins.specs.Growing.{GrowsByScan, IsClosed}
use Rattle.yd_origins.proofs.ListTableLemmas.{own_member, own_list, in_own}
use Rattle.yd_scan.specs.declared.stretch.Stretch.{Stretch}
use Rattle.yd_scan.specs.Stretches.{units_of, units_at}
use Rattle.yd_index.proofs.RowLemmas.{from_in}
use Rattle.yd_arena.specs.Lists.{AreLists}
use Rattle.yd_arena.specs.Arena.{Placed, runs_of, count_of, places_in, units_in, next_clock}
use Rattle.yd_store.specs.Store.{Stored, stretch_of, AddsRun}
use Rattle.yd_ops.specs.Received.{has_operation, IsWritten}
use Rattle.yd_meaning.specs.Held.{standing}
use Rattle.yd_meaning.specs.Order.{operation_set, list_of}
use Rattle.yd_meaning.proofs.RowLemmas.{has_row, row_has}
use Rattle.yd_meaning.proofs.StandingTableLemmas.{standing_table}
use Rattle.yd_meaning.specs.Grown.{table_in, IsGrown}
use Rattle.yd_arena.specs.Rows.{rows_at, rows_in, rows_of_run}
use Rattle.yd_kept.specs.Placing.{HasRowsBelow, IsNextRun, ComesElsewhere, GrowsInto}
use Rattle.yd_kept.specs.Filling.{FillsLists, AddsName, FillingGoesOn, FillsOn, ComesNext, FillingStarts, FillingStays, FillingIsKept, FillingAddsList, FillingAddsRun, FillingAddsLost, FillingEnds}
use Rattle.yd_meaning.proofs.GrowthLemmas.{nothing_closed, grows_on}
use Rattle.yd_kept.proofs.NextLemmas.{is_next}
use Rattle.yd_kept.proofs.PlacingLemmas.{units_same, rows_below, grows_into, same_rows_stay, other_lists_stay, rows_in_front}
use Rattle.yd_arena.proofs.RowLemmas.{ids-from, row_with}
use Rattle.yd_meaning.proofs.GrownStayingLemmas.{stands_held, back, same_list, is_front, lists_grown}

-- ---- names by number

pub within_names : (names : List DocList) (n : ℕ) (x : DocList) → slice_get names n ≡ Some x → n < length names
within_names [] n x e = absurd cc
within_names (y ∷ ys) zero x e = omega arith
within_names (y ∷ ys) (suc n) x e = omega (arith, within_names ys n x e)

in_names : (names : List DocList) (n : ℕ) (x : DocList) → slice_get names n ≡ Some x → IsIn x names
in_names [] n x e = absurd cc
in_names (y ∷ ys) zero x e = inl (sym (some_is y x e))
in_names (y ∷ ys) (suc n) x e = inr (in_names ys n x e)

pub still_named : (names : List DocList) (name : DocList) (n : ℕ) (x : DocList) → slice_get names n ≡ Some x → slice_get (names ++ name ∷ []) n ≡ Some x
still_named [] name n x e = absurd cc
still_named (y ∷ ys) name zero x e = e
still_named (y ∷ ys) name (suc n) x e = still_named ys name n x e

named_or_last : (names : List DocList) (name : DocList) (n : ℕ) (x : DocList) → slice_get (names ++ name ∷ []) n ≡ Some x →
    (slice_get names n ≡ Some x) ⊎ ((n ≡ length names) × (x ≡ name))
named_or_last [] name zero x e = inr (refl, sym (some_is name x e))
named_or_last [] name (suc n) x e = absurd cc
named_or_last (y ∷ ys) name zero x e = inl e
named_or_last (y ∷ ys) name (suc n) x e = elim (named_or_last ys name n x e) [ inl f ↦ inl f | inr f ↦ inr (ap suc f.0, f.1) ]

-- ---- growing by nothing

stays_grown : (table : OriginTable) (old new : List Id) → new ≡ old → GrowsByScan table old new
stays_grown table old new e = record { news = []; arranged = tt; grown = sym e }

-- ---- the laws

pub filling_starts : FillingStarts
filling_starts = λ held placed none nexts. record {
  count = sym none;
  distinct = λ m n name e f. absurd (omega (arith, within_names [] m name e));
  rows = λ n name e. absurd (omega (arith, within_names [] n name e));
  listed = λ x e low. absurd (omega (arith, low, nexts x.client.0));
}

pub filling_stays : FillingStays
filling_stays = λ part held w stays names placed below fills. record {
  count = fills.count;
  distinct = fills.distinct;
  rows = λ n name e. rows_in_front (table_in (standing part) name) (table_in (standing held) name) (is_front part held w stays name) placed n (fills.rows n name e)
      (λ x i low.
      let up : has_operation (standing held) x ≡ true = row_has (standing held) x (own_member (operation_set (standing held)) (standing_table held w) name x i) in
      let down : has_operation (standing part) x ≡ true = back part held w stays x (below x low) up in
      in_own (operation_set (standing part)) (standing_table part stays.written) name x (has_row (standing part) x down)
      (same_list part held w stays x down ∙ own_list (operation_set (standing held)) (standing_table held w) name x i));
  listed = λ x up low.
      let down : has_operation (standing part) x ≡ true = back part held w stays x (below x low) up in
      let (n, e) = fills.listed x down low in (n, e ∙ ap (λ (l : DocList). Some l) (same_list part held w stays x down));
}

pub filling_is_kept : FillingIsKept
filling_is_kept = λ held names old new fills keeps. record {
  fills = record {
    count = fills.count ∙ sym keeps.count;
    distinct = fills.distinct;
    rows = λ n name e. same_rows_stay (table_in (standing held) name) old new n (omega (arith, within_names names n name e, fills.count)) (fills.rows n name e) keeps;
    listed = λ x up low. fills.listed x up (omega (arith, low, keeps.nexts x.client.0));
  };
  grows = λ n name e. stays_grown (table_in (standing held) name) (units_in old n) (units_in new n)
      (units_same (table_in (standing held) name) old new n (fills.rows n name e) (keeps.rows n (omega (arith, within_names names n name e, fills.count))));
}

-- ---- a list more

module _ (held : List Operation) (w : IsWritten held) (names : List DocList) (name : DocList) (old new : Placed) (fills : FillsLists held names old)
    (is_new : IsIn name names → ⊥) (runs : runs_of new ≡ runs_of old) (lists : new.linked.lists ≡ old.linked.lists ++ [] ∷ [])
    (nexts : (client : ℕ) → next_clock new client ≡ next_clock old client) where
  old_rows : (n : ℕ) (x : DocList) → slice_get names n ≡ Some x → rows_in new n ≡ rows_in old n
  old_rows n x e = ap (λ rs. rows_at rs (places_in new n)) runs ∙ ap (rows_at (runs_of old))
      (ap (λ ls. get_or ls n []) lists ∙ get_or_append_left old.linked.lists ([] ∷ []) [] n (omega (arith, within_names names n x e, fills.count)))

  last_units : units_in new (length names) ≡ []
  last_units = ap (units_at (runs_of new)) (ap (λ ls. get_or ls (length names) []) lists ∙ get_or_at old.linked.lists [] [] [] (length names) (sym fills.count))

  last_rows : rows_in new (length names) ≡ []
  last_rows = ap (rows_at (runs_of new)) (ap (λ ls. get_or ls (length names) []) lists ∙ get_or_at old.linked.lists [] [] [] (length names) (sym fills.count))

  abbrev table : OriginTable
  table = table_in (standing held) name

  none_yet : (x : Id) → IsIn x (ids_of table) → x.clock < next_clock new x.client.0 → ⊥
  none_yet x i low =
      let up : has_operation (standing held) x ≡ true = row_has (standing held) x (own_member (operation_set (standing held)) (standing_table held w) name x i) in
      let (n, e) = fills.listed x up (omega (arith, low, nexts x.client.0)) in
      is_new (subst (λ l. IsIn l names) (own_list (operation_set (standing held)) (standing_table held w) name x i) (in_names names n (list_of (standing held) x) e))

  last_below : HasRowsBelow table new (length names)
  last_below = record {
    each = λ x. ((λ i. absurd (subst (IsIn x) last_units i)), (λ b. absurd (none_yet x b.0 b.1)));
    as_rows = λ row i. absurd (subst (IsIn row) last_rows i);
    closed = subst (IsClosed table) (sym last_units) (nothing_closed table);
  }

  with_list : FillsLists held (names ++ name ∷ []) new
  with_list = record {
    count = length-append names (name ∷ []) ∙ ap (λ n. n + 1) fills.count ∙ sym (ap length lists ∙ length-append old.linked.lists ([] ∷ []));
    distinct = λ m n x e f. elim (named_or_last names name m x e) [
      | inl a ↦ elim (named_or_last names name n x f) [
        | inl b ↦ fills.distinct m n x a b
        | inr b ↦ absurd (is_new (subst (λ l. IsIn l names) b.1 (in_names names m x a)))
      ]
      | inr a ↦ elim (named_or_last names name n x f) [
        | inl b ↦ absurd (is_new (subst (λ l. IsIn l names) a.1 (in_names names n x b)))
        | inr b ↦ a.0 ∙ sym b.0
      ]
    ];
    rows = λ n x e. elim (named_or_last names name n x e) [
      | inl a ↦ rows_below (table_in (standing held) x) old new n (fills.rows n x a) (old_rows n x a)
          (λ y i. omega (arith, (((fills.rows n x a).each y).0 i).1, nexts y.client.0))
          (λ y i low. omega (arith, low, nexts y.client.0))
      | inr a ↦ subst (λ l. HasRowsBelow (table_in (standing held) l) new n) (sym a.1) (subst (HasRowsBelow table new) (sym a.0) last_below)
    ];
    listed = λ x up low. let (n, e) = fills.listed x up (omega (arith, low, nexts x.client.0)) in (n, still_named names name n (list_of (standing held) x) e);
  }

  adds_name : AddsName held names name old new
  adds_name = record {
    fills = with_list;
    same = λ n x e. units_same (table_in (standing held) x) old new n (fills.rows n x e) (old_rows n x e);
    none = last_units;
  }

pub filling_adds_list : FillingAddsList
filling_adds_list = adds_name

-- ---- a run more

module _ (held : List Operation) (w : IsWritten held) (names : List DocList) (old new : Stored) (list : ℕ) (run : RunValue) (lists : AreLists old.placed.linked)
    (fills : FillsLists held names old.placed) (comes : ComesNext held old.placed run) (named : slice_get names list ≡ Some (list_of (standing held) run.id))
    (adds : AddsRun old new list run) where
  abbrev name : DocList
  name = list_of (standing held) run.id

  abbrev stretch : Stretch
  stretch = stretch_of run adds.right

  inside : (n : ℕ) (x : DocList) → slice_get names n ≡ Some x → n < count_of old.placed
  inside n x e = omega (arith, within_names names n x e, fills.count)

  here : IsNextRun (table_in (standing held) name) old.placed list stretch
  here = is_next held w name old.placed list run adds.right lists (inside list name named) (fills.rows list name named) comes refl adds.kept

  into : GrowsInto (table_in (standing held) name) old.placed new.placed list
  into = grows_into (table_in (standing held) name) old.placed new.placed list stretch lists (inside list name named) (fills.rows list name named) here adds.grows

  -- the units of the run stand, and are of the list
  unit_stands : (x : Id) → IsIn x (units_of stretch) → IsIn x (ids_of (table_in (standing held) name))
  unit_stands x i =
      let (row, j, e) = row_with (rows_of_run stretch) x (subst (IsIn x) (sym (ids-from stretch.id.client stretch.left stretch.right stretch.id.clock stretch.len)) i) in
      subst (λ y. IsIn y (ids_of (table_in (standing held) name))) e (here.rows row j).0

  elsewhere : (n : ℕ) → (n ≡ list → ⊥) → ComesElsewhere old.placed new.placed n stretch
  elsewhere n ne = record {
    runs = adds.grows.runs;
    places = adds.grows.others n ne;
    begins = comes.next;
    next = adds.grows.next;
    other_nexts = λ client other. adds.grows.other_nexts client other;
  }

  of_one : (n : ℕ) (x : DocList) → slice_get names n ≡ Some x → GrowsInto (table_in (standing held) x) old.placed new.placed n
  of_one n x e = elim (same_or_other n list) [
    | inl same ↦
        let one : x ≡ name = some_is x name (sym e ∙ ap (slice_get names) same ∙ named) in
        subst (λ l. GrowsInto (table_in (standing held) l) old.placed new.placed n) (sym one)
        (subst (GrowsInto (table_in (standing held) name) old.placed new.placed) (sym same) into)
    | inr other ↦
        let rest = other_lists_stay (table_in (standing held) x) old.placed new.placed n stretch lists (inside n x e) (fills.rows n x e) (elsewhere n other)
        (λ y i j. other (fills.distinct n list name
        (e ∙ ap (λ (l : DocList). Some l) (sym (own_list (operation_set (standing held)) (standing_table held w) x y j)
        ∙ own_list (operation_set (standing held)) (standing_table held w) name y (unit_stands y i))) named)) in
        record { grows = stays_grown (table_in (standing held) x) (units_in old.placed n) (units_in new.placed n) rest.0; rows = rest.1 }
  ]

  listed : (x : Id) → has_operation (standing held) x ≡ true → x.clock < next_clock new.placed x.client.0 → (n : ℕ) × (slice_get names n ≡ Some (list_of (standing held) x))
  listed x up low = elim (same_or_other x.client.0 run.id.client.0) [
    | inr ne ↦ fills.listed x up (omega (arith, low, adds.grows.other_nexts x.client.0 ne))
    | inl e ↦ elim (split run.id.clock x.clock) [
      | inr less ↦ fills.listed x up (omega (arith, less, comes.next, ap (next_clock old.placed) e))
      | inl le ↦ (
        list,
        named ∙ ap (λ (l : DocList). Some l) (sym (own_list (operation_set (standing held)) (standing_table held w) name x
            (unit_stands x (from_in run.id.client (len_of run.content) run.id.clock x (ap (λ (n : ℕ). record { 0 = n }) e) le
            (omega (arith, low, adds.grows.next, ap (next_clock new.placed) e)))))),
      )
    ]
  ]

  with_run : FillsOn held names old.placed new.placed
  with_run = record {
    fills = record {
      count = fills.count ∙ sym adds.grows.count;
      distinct = fills.distinct;
      rows = λ n x e. (of_one n x e).rows;
      listed = listed;
    };
    grows = λ n x e. (of_one n x e).grows;
  }

pub filling_adds_run : FillingAddsRun
filling_adds_run = with_run

-- ---- a lost run

pub filling_adds_lost : FillingAddsLost
filling_adds_lost = λ held w names old new stretch told lists fills begins lost adds.
    let inside : (n : ℕ) (x : DocList) → slice_get names n ≡ Some x → n < count_of old.placed =
    (λ n x e. omega (arith, within_names names n x e, fills.count)) in
    let elsewhere : (n : ℕ) → ComesElsewhere old.placed new.placed n stretch = (λ n. record {
      runs = adds.adds.runs;
      places = ap (λ ls. get_or ls n []) adds.adds.lists;
      begins = begins;
      next = adds.adds.next;
      other_nexts = λ client other. adds.adds.other_nexts client other;
    }) in
    let rest : (n : ℕ) (x : DocList) → slice_get names n ≡ Some x → (units_in new.placed n ≡ units_in old.placed n) × HasRowsBelow (table_in (standing held) x) new.placed n =
    (λ n x e. other_lists_stay (table_in (standing held) x) old.placed new.placed n stretch lists (inside n x e) (fills.rows n x e) (elsewhere n)
    (λ y i j. true≢false (sym (row_has (standing held) y (own_member (operation_set (standing held)) (standing_table held w) x y j)) ∙ lost y i))) in
    record {
      fills = record {
        count = fills.count ∙ sym (ap length adds.adds.lists);
        distinct = fills.distinct;
        rows = λ n x e. (rest n x e).1;
        listed = λ x up low. elim (same_or_other x.client.0 stretch.id.client.0) [
          | inr ne ↦ fills.listed x up (omega (arith, low, adds.adds.other_nexts x.client.0 ne))
          | inl e ↦ elim (split stretch.id.clock x.clock) [
            | inr less ↦ fills.listed x up (omega (arith, less, begins, ap (next_clock old.placed) e))
            | inl le ↦ absurd (true≢false (sym up ∙ lost x (from_in stretch.id.client stretch.len stretch.id.clock x (ap (λ (n : ℕ). record { 0 = n }) e) le
                (omega (arith, low, adds.adds.next, ap (next_clock new.placed) e)))))
          ]
        ];
      };
      grows = λ n x e. stays_grown (table_in (standing held) x) (units_in old.placed n) (units_in new.placed n) (rest n x e).0;
    }

-- ---- from a store to another

pub slice_below : (names : List DocList) (n : ℕ) → n < length names → (x : DocList) × (slice_get names n ≡ Some x)
slice_below [] n lt = absurd (omega (arith, lt))
slice_below (y ∷ ys) zero lt = (y, refl)
slice_below (y ∷ ys) (suc n) lt = slice_below ys n (omega (arith, lt))

pub filling_goes_on : FillingGoesOn
filling_goes_on = record {
  start = λ held names placed. record {
    kept = λ n name e. e;
    grows = λ n name e. stays_grown (table_in (standing held) name) (units_in placed n) (units_in placed n) refl;
    made = λ n name e le. absurd (omega (arith, le, within_names names n name e));
  };
  on = λ held names old more mid new from to. record {
    kept = from.kept;
    grows = λ n name e. grows_on (table_in (standing held) name) (units_in old n) (units_in mid n) (units_in new n) (from.grows n name e)
        (to.grows n name (from.kept n name e));
    made = λ n name e le. grows_on (table_in (standing held) name) [] (units_in mid n) (units_in new n) (from.made n name e le) (to.grows n name e);
  };
  list = λ held names old more mid name new from adds. record {
    kept = λ n x e. still_named more name n x (from.kept n x e);
    grows = λ n x e. subst (GrowsByScan (table_in (standing held) x) (units_in old n)) (sym (adds.same n x (from.kept n x e))) (from.grows n x e);
    made = λ n x e le. elim (named_or_last more name n x e) [
      | inl f ↦ subst (GrowsByScan (table_in (standing held) x) []) (sym (adds.same n x f)) (from.made n x f le)
      | inr f ↦ stays_grown (table_in (standing held) x) [] (units_in new n) (ap (units_in new) f.0 ∙ adds.none)
    ];
  };
  both = λ held names old more mid most new a b. record {
    kept = λ n x e. b.kept n x (a.kept n x e);
    grows = λ n x e. grows_on (table_in (standing held) x) (units_in old n) (units_in mid n) (units_in new n) (a.grows n x e) (b.grows n x (a.kept n x e));
    made = λ n x e le. elim (split (length more) n) [
      | inl above ↦ b.made n x e above
      | inr lt ↦
          let (y, f) = slice_below more n lt in
          let same : y ≡ x = some_is y x (sym (b.kept n y f) ∙ e) in
          subst (λ l. IsGrown (standing held) l (units_in new n)) same
          (grows_on (table_in (standing held) y) [] (units_in mid n) (units_in new n) (a.made n y f le) (b.grows n y f))
    ];
  };
  end = λ part held w stays names old more new grown from n name e. elim (split (length names) n) [
    | inl le ↦ from.made n name e le
    | inr lt ↦
        let (x, f) = slice_below names n lt in
        let same : x ≡ name = some_is x name (sym (from.kept n x f) ∙ e) in
        subst (λ l. IsGrown (standing held) l (units_in new n)) same (lists_grown part held w stays x (units_in old n) (units_in new n) (grown n x f) (from.grows n x f))
  ];
}

-- ---- the end

pub filling_ends : FillingEnds
filling_ends = λ held w names placed fills all. record {
  each = λ n name e x. (
    (λ i. let (row, low) = ((fills.rows n name e).each x).0 i in (
      row_has (standing held) x (own_member (operation_set (standing held)) (standing_table held w) name x row),
      own_list (operation_set (standing held)) (standing_table held w) name x row,
    )),
    (λ b. ((fills.rows n name e).each x).1 (
      in_own (operation_set (standing held)) (standing_table held w) name x (has_row (standing held) x b.0) b.1,
      all x (stands_held held w x b.0),
    )),
  );
  others = λ x up. let (n, e) = fills.listed x up (all x (stands_held held w x up)) in in_names names n (list_of (standing held) x) e;
}
