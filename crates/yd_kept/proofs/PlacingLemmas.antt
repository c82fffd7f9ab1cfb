-- The next run of a table goes where the scans of its units put these, and other lists stay.
use Rattle.std.proofs.Common.{◌≡◌, ℕ, zero, suc, ◌<◌, List, [], ◌∷◌, ◌⊎◌, inl, inr, Option, Some, length, refl, sym, ap, ap₂, ◌∙◌, subst, arith}
use Rattle.std.proofs.lemmas.List.{get_or_append_left, get_or_at}
use Rattle.std.specs.Prelude.{IfSome}
use Rattle.yd_words.specs.Member.{IsIn}
use Rattle.yd_words.proofs.OptionLemmas.{if_some_map}
use Rattle.yd_words.proofs.TestLemmas.{split, same_or_other}
use Rattle.yd_ids.specs.declared.id.Client.{Client}
use Rattle.yd_ids.specs.declared.id.Id.{Id}
use Rattle.yd_ids.proofs.IdLemmas.{same_numbers}
use Rattle.yd_origins.specs.Table.{Row, OriginTable, ids_of, left_of, right_of}
use Rattle.yd_origins.specs.Growing.{IsArrangement, GrowsByScan, IsClosed}
use Rattle.yd_origins.specs.Scan.{after_scans}
use Rattle.yd_origins.proofs.PartLemmas.{row_id_in}
use Rattle.yd_scan.specs.declared.stretch.Stretch.{Stretch}
use Rattle.yd_scan.specs.Stretches.{units_from, units_of, stretch_at, no_stretch, HasOrigins, HasLefts}
use Rattle.yd_scan.proofs.UnitLemmas.{units_head, units_in as unit_there}
use Rattle.yd_index.proofs.RowLemmas.{from_says, from_in}
use Rattle.yd_arena.specs.Lists.{AreLists}
use Rattle.yd_arena.specs.Arena.{Placed, runs_of, count_of, places_in, units_in, next_clock, GrowsByRun}
use Rattle.yd_arena.proofs.ListsLemmas.{in_put}
use Rattle.yd_arena.specs.Rows.{rows_of_units, rows_of_run, rows_at, rows_in}
use Rattle.yd_kept.specs.Placing.{IsRowOf, HasRowsBelow, IsNextRun, GrowsInto, SameRowsStay, OtherListsStay}
use Rattle.yd_meaning.proofs.GrowthLemmas.{in_scans, scans_have, grown_closed, IsFrontOf}
use Rattle.yd_kept.proofs.RowLemmas.{IsRunOfTable, run_of_table}
use Rattle.yd_arena.proofs.RowLemmas.{ids-from, ids-rows, row_with, in_rows, rows_there, rows_same}

-- ---- the units of a run, in turn

module _ (table : OriginTable) (client : Client) (right : Option Id) where
  -- the units of a run are in an arrangement, where each row is the table's and what comes before them is there
  run_arranged : (n clock : ℕ) (left : Option Id) (l : List Id) →
      ((row : Row) → IsIn row (rows_of_units client left right clock n) → IsIn row.id (ids_of table) × IsRowOf table row) →
      IfSome left (λ y. IsIn y l) → IfSome right (λ y. IsIn y l) → ((x : Id) → IsIn x l → x.client ≡ client → x.clock < clock) →
      ((y : Id) → IsIn y (ids_of table) → y.client ≡ client → y.clock < clock → IsIn y l) → IsArrangement table l (units_from client clock n)
  run_arranged zero clock left l rows there ends below all = tt
  run_arranged (suc n) clock left l rows there ends below all =
      let first = rows (record { id = x; left = left; right = right }) (inl refl) in (
        (λ i. absurd (omega (arith, below x i refl))),
        first.0,
        subst (λ z. IfSome z (λ y. IsIn y l)) (sym first.1.left) there,
        subst (λ z. IfSome z (λ y. IsIn y l)) (sym first.1.right) ends,
        (λ y i c. all y i c.0 c.1),
        run_arranged n (suc clock) (Some x) (x ∷ l) (λ row i. rows row (inr i)) (inl refl) (if_some_map (λ y. IsIn y l) (λ y. IsIn y (x ∷ l)) right (λ y i. inr i) ends)
            (λ y i same. elim i [ inl e ↦ omega (arith, ap (λ (z : Id). z.clock) e) | inr j ↦ omega (arith, below y j same) ])
            (λ y i same lt. elim (split clock y.clock) [
              | inl le ↦ inl (same_numbers y x (ap (λ (c : Client). c.0) same) (omega (arith, le, lt)))
              | inr less ↦ inr (all y i same less)
            ]),
      )
    where
      x : Id
      x = record { client = client; clock = clock }

-- ---- the list of the run

module _ (table : OriginTable) (old new : Placed) (list : ℕ) (run : Stretch) (lists : AreLists old.linked) (lt : list < count_of old) (has : HasRowsBelow table old list)
    (is_next : IsNextRun table old list run) (adds : GrowsByRun old new list run) where
  abbrev left : Id → Option Id
  left = left_of table

  abbrev right : Id → Option Id
  right = right_of table

  abbrev runs : List Stretch
  runs = runs_of old

  abbrev places : List ℕ
  places = places_in old list

  new_run : IsRunOfTable table run
  new_run = run_of_table table run is_next.filled (λ row i. (is_next.rows row i).1)

  at_place : (i : ℕ) → IsIn i places → IsRunOfTable table (stretch_at runs i)
  at_place i m = run_of_table table (stretch_at runs i) (lists.filled list i lt m) (λ row j. has.as_rows row (rows_there runs places row i m j))

  origins : HasOrigins left right runs places run
  origins = record {
    new_left = new_run.left;
    new_right = new_run.right;
    first_left = λ i m. (at_place i m).left;
    first_right = λ i m. (at_place i m).right;
    later_left = λ i m. (at_place i m).later;
  }

  first_there : (i : ℕ) → IsIn i places → IsIn (stretch_at runs i).id (units_in old list)
  first_there i m = unit_there runs places (stretch_at runs i).id i m
      (subst (λ us. IsIn (stretch_at runs i).id us) (sym (units_head (stretch_at runs i) (lists.filled list i lt m))) (inl refl))

  lefts : HasLefts runs places
  lefts i m = subst (λ z. IfSome z (λ y. IsIn y (units_in old list))) (at_place i m).left (has.closed.has_left (stretch_at runs i).id (first_there i m))

  scanned : units_in new list ≡ after_scans left right (units_in old list) (units_of run)
  scanned = adds.units left right origins new_run.later lefts

  own_next : (x : Id) → x.client ≡ run.id.client → next_clock old x.client.0 ≡ run.id.clock
  own_next x e = ap (λ (c : Client). next_clock old c.0) e ∙ sym is_next.next

  grows : GrowsByScan table (units_in old list) (units_in new list)
  grows = record {
    news = units_of run;
    arranged = run_arranged table run.id.client run.right run.len run.id.clock run.left (units_in old list) is_next.rows is_next.left is_next.right
        (λ x i e. omega (arith, ((has.each x).0 i).1, own_next x e))
        (λ y i e less. (has.each y).1 (i, omega (arith, less, own_next y e)));
    grown = sym scanned;
  }

  -- the units of the run are rows
  unit_is_row : (x : Id) → IsIn x (units_of run) → IsIn x (ids_of table)
  unit_is_row x i =
      let (row, j, e) = row_with (rows_of_run run) x (subst (IsIn x) (sym (ids-from run.id.client run.left run.right run.id.clock run.len)) i) in
      subst (λ y. IsIn y (ids_of table)) e (is_next.rows row j).0

  each_up : (x : Id) → IsIn x (units_of run) ⊎ IsIn x (units_in old list) → IsIn x (ids_of table) × (x.clock < next_clock new x.client.0)
  each_up x (inl i) = let s = from_says run.id.client run.len run.id.clock x i in
      (unit_is_row x i, omega (arith, s.2, adds.next, ap (λ (c : Client). next_clock new c.0) s.0))
  each_up x (inr i) = let (row, low) = (has.each x).0 i in (
    row,
    elim (same_or_other x.client.0 run.id.client.0) [
      | inl e ↦ omega (arith, low, is_next.next, adds.next, ap (next_clock old) e, ap (next_clock new) e)
      | inr ne ↦ omega (arith, low, adds.other_nexts x.client.0 ne)
    ],
  )

  each_down : (x : Id) → IsIn x (ids_of table) → x.clock < next_clock new x.client.0 → IsIn x (units_of run) ⊎ IsIn x (units_in old list)
  each_down x i low = elim (same_or_other x.client.0 run.id.client.0) [
    | inl e ↦ elim (split run.id.clock x.clock) [
      | inl le ↦ inl (from_in run.id.client run.len run.id.clock x (ap (λ (n : ℕ). record { 0 = n }) e) le (omega (arith, low, adds.next, ap (next_clock new) e)))
      | inr less ↦ inr ((has.each x).1 (i, omega (arith, less, is_next.next, ap (next_clock old) e)))
    ]
    | inr ne ↦ inr ((has.each x).1 (i, omega (arith, low, adds.other_nexts x.client.0 ne)))
  ]

  row_is : (row : Row) → IsIn row (rows_in new list) → IsRowOf table row
  row_is row i = at (in_rows (runs_of new) (places_in new list) row i)
    where
      at : (j : ℕ) × IsIn j (places_in new list) × IsIn row (rows_of_run (stretch_at (runs_of new) j)) → IsRowOf table row
      at (j, m, k) = elim (in_put j (length runs) adds.after places (subst (IsIn j) adds.place m)) [
        | inl e ↦ (is_next.rows row (subst (λ r. IsIn row (rows_of_run r))
            (ap (stretch_at (runs_of new)) e ∙ ap (λ rs. stretch_at rs (length runs)) adds.runs ∙ get_or_at runs run [] no_stretch (length runs) refl) k)).1
        | inr o ↦ has.as_rows row (rows_there runs places row j o (subst (λ r. IsIn row (rows_of_run r))
            (ap (λ rs. stretch_at rs j) adds.runs ∙ get_or_append_left runs (run ∷ []) no_stretch j (lists.within list j lt o)) k))
      ]

  pub grows_into : GrowsInto table old new list
  grows_into = record {
    grows = grows;
    rows = record {
      each = λ x. (
        (λ i. each_up x (scans_have left right (units_of run) (units_in old list) x (subst (IsIn x) scanned i))),
        (λ b. subst (IsIn x) (sym scanned) (in_scans left right (units_of run) (units_in old list) x (each_down x b.0 b.1))),
      );
      as_rows = row_is;
      closed = grown_closed table (units_in old list) (units_in new list) has.closed grows;
    };
  }

-- ---- other lists

module _ (table : OriginTable) (old new : Placed) (list : ℕ) (has : HasRowsBelow table old list) (same : rows_in new list ≡ rows_in old list) where
  pub units_same : units_in new list ≡ units_in old list
  units_same = sym (ids-rows (runs_of new) (places_in new list)) ∙ ap ids_of same ∙ ids-rows (runs_of old) (places_in old list)

  pub rows_below : ((x : Id) → IsIn x (units_in old list) → x.clock < next_clock new x.client.0) →
      ((x : Id) → IsIn x (ids_of table) → x.clock < next_clock new x.client.0 → x.clock < next_clock old x.client.0) → HasRowsBelow table new list
  rows_below up down = record {
    each = λ x. (
      (λ i. let j = subst (IsIn x) units_same i in (((has.each x).0 j).0, up x j)),
      (λ b. subst (IsIn x) (sym units_same) ((has.each x).1 (b.0, down x b.0 b.1))),
    );
    as_rows = λ row i. has.as_rows row (subst (IsIn row) same i);
    closed = subst (IsClosed table) (sym units_same) has.closed;
  }

pub same_rows_stay : SameRowsStay
same_rows_stay = λ table old new list lt has keeps. rows_below table old new list has (keeps.rows list lt)
    (λ x i. omega (arith, ((has.each x).0 i).1, keeps.nexts x.client.0))
    (λ x i low. omega (arith, low, keeps.nexts x.client.0))

pub other_lists_stay : OtherListsStay
other_lists_stay = λ table old new list run lists lt has comes apart.
    let same : rows_in new list ≡ rows_in old list =
    ap₂ rows_at comes.runs comes.places ∙ rows_same (runs_of old) run (places_in old list) (λ i m. lists.within list i lt m) in (
      units_same table old new list has same,
      rows_below table old new list has same
          (λ x i. elim (same_or_other x.client.0 run.id.client.0) [
            | inl e ↦ omega (arith, ((has.each x).0 i).1, comes.begins, comes.next, ap (next_clock old) e, ap (next_clock new) e)
            | inr ne ↦ omega (arith, ((has.each x).0 i).1, comes.other_nexts x.client.0 ne)
          ])
          (λ x i low. elim (same_or_other x.client.0 run.id.client.0) [
            | inl e ↦ elim (split run.id.clock x.clock) [
              | inl le ↦ absurd (apart x (from_in run.id.client run.len run.id.clock x (ap (λ (n : ℕ). record { 0 = n }) e) le (omega (arith, low, comes.next, ap (next_clock new) e))) i)
              | inr less ↦ omega (arith, less, comes.begins, ap (next_clock old) e)
            ]
            | inr ne ↦ omega (arith, low, comes.other_nexts x.client.0 ne)
          ]),
    )

-- ---- a table with rows more

-- a list has the rows of the larger table too, where the store has none of those that the smaller one lacks
pub rows_in_front : (part table : OriginTable) → IsFrontOf part table → (placed : Placed) (list : ℕ) → HasRowsBelow part placed list →
    ((x : Id) → IsIn x (ids_of table) → x.clock < next_clock placed x.client.0 → IsIn x (ids_of part)) → HasRowsBelow table placed list
rows_in_front part table front placed list has back = record {
  each = λ x. (
    (λ i. let (row, low) = (has.each x).0 i in (front.within x row, low)),
    (λ b. (has.each x).1 (back x b.0 b.1, b.1)),
  );
  as_rows = λ row i.
      let its = has.as_rows row i in
      let same = front.same row.id (has.closed.within row.id (subst (IsIn row.id) (ids-rows (runs_of placed) (places_in placed list)) (row_id_in row (rows_in placed list) i))) in
      record { left = same.0 ∙ its.left; right = same.1 ∙ its.right };
  closed = record {
    within = λ x i. front.within x (has.closed.within x i);
    has_left = λ x i. subst (λ z. IfSome z (λ y. IsIn y (units_in placed list))) (sym (front.same x (has.closed.within x i)).0) (has.closed.has_left x i);
    has_right = λ x i. subst (λ z. IfSome z (λ y. IsIn y (units_in placed list))) (sym (front.same x (has.closed.within x i)).1) (has.closed.has_right x i);
    has_clocks = λ x y i q c. has.closed.has_clocks x y i (front.clocks x y (has.closed.within x i) q c) c;
  };
}
