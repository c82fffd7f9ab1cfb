-- Where an entry found no memory and those before it are taken out again, no unit has changed.
use Rattle.std.proofs.Common.{◌≡◌, ℕ, ◌<◌, ◌≤◌, false, List, [], ◌∷◌, inl, inr, Some, length, take, refl, sym, ap, ◌∙◌, subst, arith}
use Rattle.std.specs.Prelude.{◌↔◌, filter, slice_get}
use Rattle.std.proofs.lemmas.List.{take_all}
use Rattle.yd_words.proofs.FilterLemmas.{filter-all}
use Rattle.yd_words.proofs.TestLemmas.{split, test_fails}
use Rattle.yd_ids.specs.declared.id.Id.{Id}
use Rattle.yd_ids.specs.Vector.{clock_of}
use Rattle.yd_ops.specs.declared.lists.List.{List as DocList}
use Rattle.yd_ops.specs.Operation.{Operation}
use Rattle.yd_origins.specs.Table.{Row, ids_of}
use Rattle.yd_arena.specs.Arena.{Placed, runs_of, count_of, places_in, next_clock}
use Rattle.yd_arena.specs.Rows.{rows_in}
use Rattle.yd_arena.proofs.RowLemmas.{ids-rows}
use Rattle.yd_arena.specs.Marks.{IsBorder}
use Rattle.yd_arena.proofs.BorderLemmas.{next_border_of}
use Rattle.yd_store.specs.Units.{operations_in, HasOperation, HasMarked}
use Rattle.yd_meaning.specs.Held.{standing}
use Rattle.yd_meaning.specs.Grown.{table_in}
use Rattle.yd_kept.specs.Back.{is_below, GoesBack, IsFilledAgain}
use Rattle.yd_kept.proofs.BackLemmas.{below_is, is_below-true, going_back_is_again}
use Rattle.yd_kept.proofs.GoingLemmas.{going_back_goes_on}
use Rattle.yd_kept.proofs.FillingLemmas.{slice_below, filling_goes_on}
use Rattle.yd_kept.specs.Kept.{KeptValue, FillsFurther, KeepsHeld}
use Rattle.yd_kept.proofs.ChangeLemmas.{further_both}
use Rattle.yd_received.specs.Received.{held_of}
use Rattle.yd_held.specs.Held.{HeldValue, HoldsAll}
use Rattle.yd_held.specs.Turn.{AreHeldInTurn}
use Rattle.yd_held.proofs.KeptLemmas.{holds_holding}
use Rattle.yd_state.specs.Back.{is_unit_below, CanBeTakenOut, TakesOut, IsSound, CanBeUndone}
use Rattle.yd_state.specs.Placing.{CanBePlaced}
use Rattle.yd_state.proofs.BackLemmas.{rows_same, has_below, mark_below, list_below, stays_filled}
use Rattle.yd_state.proofs.InTurnLemmas.{turn_to, turn_rises}
use Rattle.yd_state.proofs.PlacingLemmas.{IsPlacing, all_written, stays_itself}

-- they are held in turn up to the clocks where memory ended
turn_mid : (k : HeldValue) (order : List ℕ) (start cur mid : KeptValue) (done : ℕ) → IsPlacing k order start cur done → KeepsHeld cur mid →
    AreHeldInTurn k.received.runs k.received.entries (next_clock start.store.placed) (take done order) (next_clock mid.store.placed)
turn_mid k order start cur mid done is keeps =
    turn_to k.received.runs k.received.entries (next_clock start.store.placed) (next_clock cur.store.placed) (next_clock mid.store.placed) (take done order) keeps.nexts is.front

-- those that were placed can be taken out
pub can_be_taken : (k : HeldValue) (order : List ℕ) (start cur mid : KeptValue) (done : ℕ) → IsPlacing k order start cur done → KeepsHeld cur mid → CanBeTakenOut k (take done order) mid
can_be_taken k order start cur mid done is keeps = record {
  clocks = next_clock start.store.placed;
  turn = turn_mid k order start cur mid done is keeps;
  borders = λ at t i got. keeps.borders t.id.client.0 t.id.clock (is.begins at t i got);
}

module _ (k : HeldValue) (holds : HoldsAll k) (order : List ℕ) (start cur mid back : KeptValue) (done : ℕ) (can : CanBePlaced k order start) (is : IsPlacing k order start cur done)
    (keeps : KeepsHeld cur mid) (out : TakesOut k (take done order) mid back) (sound : IsSound start.store) (sound_back : IsSound back.store) where
  abbrev held : List Operation
  held = held_of k.received

  abbrev first : Placed
  first = start.store.placed

  abbrev last : Placed
  last = back.store.placed

  nexts : (client : ℕ) → next_clock last client ≡ next_clock first client
  nexts = out.nexts (next_clock first) (turn_mid k order start cur mid done is keeps)

  same_below : (x : Id) → is_below last x ≡ is_below first x
  same_below x = elim (split (next_clock first x.client.0) x.clock) [
    | inl above ↦ above_not last (omega (arith, above, nexts x.client.0)) ∙ sym (above_not first above)
    | inr low ↦ is_below-true last x (omega (arith, low, nexts x.client.0)) ∙ sym (is_below-true first x low)
  ]
    where
      above_not : (placed : Placed) → next_clock placed x.client.0 ≤ x.clock → is_below placed x ≡ false
      above_not placed le = test_fails (is_below placed x) (λ b. omega (arith, le, below_is placed x b))

  -- ---- lists

  is_all : (list : ℕ) → list < count_of first → filter (is_unit_below first) (operations_in start.store list) ≡ operations_in start.store list
  is_all list lt = filter-all (is_unit_below first) (operations_in start.store list) (λ o i. is_below-true first o.id (list_below start.store sound list lt o i))

  is_all_back : (list : ℕ) → list < count_of last → filter (is_unit_below first) (operations_in back.store list) ≡ operations_in back.store list
  is_all_back list lt = filter-all (is_unit_below first) (operations_in back.store list)
      (λ o i. is_below-true first o.id (omega (arith, list_below back.store sound_back list lt o i, nexts o.id.client.0)))

  of_mid : (list : ℕ) → list < count_of mid.store.placed → filter (is_unit_below first) (operations_in back.store list) ≡ filter (is_unit_below first) (operations_in mid.store list)
  of_mid list lt = out.leaves.lists (is_unit_below first) (λ o e. sym (same_below o.id) ∙ e) list lt

  lists_same : (list : ℕ) → list < count_of first → operations_in back.store list ≡ operations_in start.store list
  lists_same list lt =
      let there : list < count_of cur.store.placed = omega (arith, lt, is.count) in
      let later : list < count_of mid.store.placed = omega (arith, there, keeps.count) in
      sym (is_all_back list (omega (arith, later, out.leaves.count))) ∙ of_mid list later
      ∙ ap (filter (is_unit_below first)) (keeps.lists list there) ∙ is.lists list lt ∙ is_all list lt

  lists_none : (list : ℕ) → count_of first ≤ list → list < count_of last → operations_in back.store list ≡ []
  lists_none list le lt =
      let later : list < count_of mid.store.placed = omega (arith, lt, out.leaves.count) in
      sym (is_all_back list lt) ∙ of_mid list later
      ∙ elim (split (count_of cur.store.placed) list) [
        | inl above ↦ ap (filter (is_unit_below first)) (keeps.made list above later)
        | inr low ↦ ap (filter (is_unit_below first)) (keeps.lists list low) ∙ is.made list le low
      ]

  -- ---- units

  operations_same : (o : Operation) → HasOperation back.store o ↔ HasOperation start.store o
  operations_same o = (
    (λ h. elim ((is.operations o).0 ((keeps.operations o).0 (out.leaves.fewer o h))) [
      | inl was ↦ was
      | inr (i, low, high) ↦ absurd (omega (arith, low, has_below back.store sound_back o h, nexts o.id.client.0))
    ]),
    (λ h. out.leaves.left o ((keeps.operations o).1 ((is.operations o).1 (inl h))) (omega (arith, has_below start.store sound o h, nexts o.id.client.0))),
  )

  marks_same : (id : Id) → HasMarked back.store id ↔ HasMarked start.store id
  marks_same id = (
    (λ m. elim ((is.marks id).0 ((keeps.marks id).0 (out.leaves.fewer_marks id m))) [
      | inl was ↦ was
      | inr (i, low, high) ↦ absurd (omega (arith, low, mark_below back.store sound_back id m, nexts id.client.0))
    ]),
    (λ m. out.leaves.left_marks id ((keeps.marks id).1 ((is.marks id).1 (inl m))) (omega (arith, mark_below start.store sound id m, nexts id.client.0))),
  )

  borders_stay : (client clock : ℕ) → IsBorder (runs_of first) client clock → IsBorder (runs_of last) client clock
  borders_stay client clock border = elim (split (next_clock first client) clock) [
    | inl above ↦ next_border_of last.lines (runs_of last) client clock sound_back.arena (omega (arith, above, nexts client))
    | inr low ↦ out.leaves.borders client clock (keeps.borders client clock (is.borders client clock (omega (arith, low)) border))
  ]

  -- ---- rows

  mid_further : FillsFurther held start mid
  mid_further = further_both held start cur mid is.further (keeps.filled held (all_written k holds) is.further.fills)

  goes : GoesBack first mid.store.placed last
  goes = going_back_goes_on.end first mid.store.placed last
      (out.leaves.gone mid.store.placed (going_back_goes_on.start held mid.names mid.store.placed mid_further.fills)) nexts

  again : IsFilledAgain held start.names first mid.names last
  again = going_back_is_again held held (all_written k holds) (stays_itself k holds) start.names mid.names first mid.store.placed last
      (λ x low. ((holds_holding k holds).tells x).1 (omega (arith, low, turn_rises k.received.runs k.received.entries (next_clock first) (clock_of k.vector) order can.turn x.client.0)))
      can.filled mid_further.fills mid_further.grows goes

  rows_stay : (list : ℕ) → list < count_of first → rows_in last list ≡ rows_in first list
  rows_stay list lt =
      let (name, e) = slice_below start.names list (omega (arith, lt, can.filled.count)) in
      rows_same (table_in (standing held) name) (rows_in last list) (rows_in first list)
      (ids-rows (runs_of last) (places_in last list) ∙ again.same list name e ∙ sym (ids-rows (runs_of first) (places_in first list)))
      (again.fills.rows list name (mid_further.grows.kept list name e)).as_rows (can.filled.rows list name e).as_rows

  no_rows : (list : ℕ) → count_of first ≤ list → list < count_of last → rows_in last list ≡ []
  no_rows list le lt =
      let (name, e) = slice_below mid.names list (omega (arith, lt, again.fills.count)) in
      none_of (rows_in last list) (ids-rows (runs_of last) (places_in last list) ∙ again.none list name e (omega (arith, le, can.filled.count)))
    where
      none_of : (rows : List Row) → ids_of rows ≡ [] → rows ≡ []
      none_of [] f = refl
      none_of (r ∷ rs) f = absurd cc

  -- ---- altogether

  names_kept : (n : ℕ) (name : DocList) → slice_get start.names n ≡ Some name → slice_get back.names n ≡ Some name
  names_kept n name e = ap (λ ns. slice_get ns n) out.names ∙ mid_further.grows.kept n name e

  pub as_before : KeepsHeld start back
  as_before = record {
    count = omega (arith, is.count, keeps.count, out.leaves.count);
    names = names_kept;
    lists = lists_same;
    rows = rows_stay;
    made = lists_none;
    operations = operations_same;
    marks = marks_same;
    nexts = nexts;
    borders = borders_stay;
    filled = stays_filled start.names back.names first last names_kept can.filled.count (ap length out.names ∙ again.fills.count)
        (λ m n name e f. again.fills.distinct m n name (ap (λ ns. slice_get ns m) (sym out.names) ∙ e) (ap (λ ns. slice_get ns n) (sym out.names) ∙ f))
        rows_stay no_rows nexts start.store back.store refl refl;
  }

-- ---- all of them

-- nothing changed
pub keeps_itself : (it : KeptValue) → KeepsHeld it it
keeps_itself it = record {
  count = omega arith;
  names = λ n name e. e;
  lists = λ list lt. refl;
  rows = λ list lt. refl;
  made = λ list le lt. absurd (omega (arith, le, lt));
  operations = λ o. ((λ h. h), (λ h. h));
  marks = λ id. ((λ m. m), (λ m. m));
  nexts = λ client. refl;
  borders = λ client clock border. border;
  filled = λ held w filled. record { fills = filled; grows = filling_goes_on.start held it.names it.store.placed };
}

-- what was placed can be taken out again, all of it, and then no unit has changed
pub can_be_undone : (k : HeldValue) → HoldsAll k → (order : List ℕ) (start cur : KeptValue) (done : ℕ) → CanBePlaced k order start → IsPlacing k order start cur done →
    length order ≤ done → IsSound start.store → CanBeUndone k order start cur
can_be_undone k holds order start cur done can is all sound = record {
  can = subst (λ ns. CanBeTakenOut k ns cur) whole (can_be_taken k order start cur cur done is (keeps_itself cur));
  undone = λ back sound_back out. as_before k holds order start cur cur back done can is (keeps_itself cur) (subst (λ ns. TakesOut k ns cur back) (sym whole) out) sound sound_back;
}
  where
    whole : take done order ≡ order
    whole = take_all done order all
