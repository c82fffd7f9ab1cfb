-- Entries are placed one after another: what stays true, and what is so at the end.
use Rattle.std.proofs.Common.{◌≡◌, ℕ, ◌+◌, ◌<◌, ◌≤◌, true, false, List, [], ◌∷◌, ◌++◌, ◌⊎◌, inl, inr, Some, length, take, drop, get_or, refl, sym, ap, ◌∙◌, subst, arith}
use Rattle.std.specs.Prelude.{◌↔◌, filter, slice_get}
use Rattle.std.proofs.lemmas.List.{take_more, drop_more, drop_all}
use Rattle.yd_words.specs.Member.{IsIn}
use Rattle.yd_words.proofs.MemberLemmas.{in_parts}
use Rattle.yd_words.proofs.OptionLemmas.{some_is}
use Rattle.yd_words.proofs.TestLemmas.{split, same_or_other, test_fails, both_hold}
use Rattle.yd_ids.specs.declared.id.Id.{Id}
use Rattle.yd_ids.specs.Vector.{clock_of}
use Rattle.yd_ids.specs.Ids.{HasSmallerClock}
use Rattle.yd_ops.specs.Operation.{Operation}
use Rattle.yd_arena.specs.Arena.{runs_of, count_of, next_clock}
use Rattle.yd_arena.specs.Marks.{IsBorder}
use Rattle.yd_store.specs.Units.{operations_in, HasOperation, HasMarked}
use Rattle.yd_ops.specs.Received.{has_operation, IsWritten}
use Rattle.yd_ops.proofs.OneOfLemmas.{id_is_there}
use Rattle.yd_meaning.specs.Held.{is_lost}
use Rattle.yd_meaning.specs.Staying.{StaysHeld}
use Rattle.yd_kept.proofs.BackLemmas.{below_is}
use Rattle.yd_kept.proofs.FillingLemmas.{filling_goes_on}
use Rattle.yd_kept.specs.Kept.{KeptValue, FillsFurther}
use Rattle.yd_kept.proofs.ChangeLemmas.{further_both}
use Rattle.yd_entries.specs.declared.entry.Entry.{Entry}
use Rattle.yd_entries.specs.Entries.{operations_of_taken, covers, is_held, IsTakenOf}
use Rattle.yd_received.specs.Received.{held_of}
use Rattle.yd_entries.proofs.ChangeLemmas.{entry_got}
use Rattle.yd_entries.proofs.EntriesLemmas.{one_entry}
use Rattle.yd_entries.proofs.EntryLemmas.{covers_in}
use Rattle.yd_held.specs.Held.{HeldValue, HoldsAll}
use Rattle.yd_held.specs.Turn.{clocks_with, IsNextHeld, AreHeldInTurn}
use Rattle.yd_held.proofs.HeldEntryLemmas.{chosen_entry, entry_chosen}
use Rattle.yd_held.proofs.HeldUnitLemmas.{covers_less, unit_covers}
use Rattle.yd_held.proofs.HoldingLemmas.{is_written}
use Rattle.yd_held.proofs.KeptLemmas.{holds_holding}
use Rattle.yd_held.proofs.TurnLemmas.{turn_more, clocks_own, clocks_other}
use Rattle.yd_state.specs.Back.{BeginAtBorders, is_unit_below}
use Rattle.yd_state.specs.Placing.{KeepsIds, CanBePlaced, PlacesAll, IsNextFor, AddsEntry}
use Rattle.yd_state.proofs.EntryLemmas.{entry_taken, held_lost, lost_other}
use Rattle.yd_state.proofs.InTurnLemmas.{turn_from, turn_rises, turn_below}

-- what stays true, with how many entries are placed
pub record IsPlacing (k : HeldValue) (order : List ℕ) (start cur : KeptValue) (done : ℕ) : Type 0 where
  pub within : done ≤ length order
  pub further : FillsFurther (held_of k.received) start cur
  pub front : AreHeldInTurn k.received.runs k.received.entries (next_clock start.store.placed) (take done order) (next_clock cur.store.placed)
  pub rest : AreHeldInTurn k.received.runs k.received.entries (next_clock cur.store.placed) (drop done order) (clock_of k.vector)
  pub count : count_of start.store.placed ≤ count_of cur.store.placed
  pub lists : (list : ℕ) → list < count_of start.store.placed →
      filter (is_unit_below start.store.placed) (operations_in cur.store list) ≡ filter (is_unit_below start.store.placed) (operations_in start.store list)
  pub made : (list : ℕ) → count_of start.store.placed ≤ list → list < count_of cur.store.placed → filter (is_unit_below start.store.placed) (operations_in cur.store list) ≡ []
  pub operations : (o : Operation) → HasOperation cur.store o ↔ (HasOperation start.store o ⊎
      (IsIn o (held_of k.received) × (next_clock start.store.placed o.id.client.0 ≤ o.id.clock) × (o.id.clock < next_clock cur.store.placed o.id.client.0)))
  pub marks : (id : Id) → HasMarked cur.store id ↔ (HasMarked start.store id ⊎
      ((is_lost (held_of k.received) id ≡ true) × (next_clock start.store.placed id.client.0 ≤ id.clock) × (id.clock < next_clock cur.store.placed id.client.0)))
  pub borders : (client clock : ℕ) → clock ≤ next_clock start.store.placed client → IsBorder (runs_of start.store.placed) client clock → IsBorder (runs_of cur.store.placed) client clock
  pub begins : BeginAtBorders k.received.entries (take done order) cur.store

pub placing_none : (k : HeldValue) (order : List ℕ) (it : KeptValue) → CanBePlaced k order it → IsPlacing k order it it 0
placing_none k order it can = record {
  within = omega arith;
  further = record { fills = can.filled; grows = filling_goes_on.start (held_of k.received) it.names it.store.placed };
  front = λ client. refl;
  rest = can.turn;
  count = omega arith;
  lists = λ list lt. refl;
  made = λ list le lt. absurd (omega (arith, le, lt));
  operations = λ o. ((λ h. inl h), (λ h. elim h [ inl was ↦ was | inr (i, le, lt) ↦ absurd (omega (arith, le, lt)) ]));
  marks = λ id. ((λ m. inl m), (λ m. elim m [ inl was ↦ was | inr (e, le, lt) ↦ absurd (omega (arith, le, lt)) ]));
  borders = λ client clock le border. border;
  begins = λ at t i got. absurd i;
}

-- ---- one more

module _ (k : HeldValue) (holds : HoldsAll k) (order : List ℕ) (start cur : KeptValue) (done : ℕ) (is : IsPlacing k order start cur done) (lt : done < length order)
    (at d : ℕ) (at_is : at ≡ get_or order done d) where
  rest_now : drop done order ≡ at ∷ drop (done + 1) order
  rest_now = drop_more order done d lt ∙ ap (λ n. n ∷ drop (done + 1) order) (sym at_is)

  turn_now : AreHeldInTurn k.received.runs k.received.entries (next_clock cur.store.placed) (at ∷ drop (done + 1) order) (clock_of k.vector)
  turn_now = subst (λ ns. AreHeldInTurn k.received.runs k.received.entries (next_clock cur.store.placed) ns (clock_of k.vector)) rest_now is.rest

  pub next_is : IsNextFor k cur at
  next_is = let (t, got, next, rest) = turn_now in record { entry = t; there = got; next = next }

  module _ (t : Entry) (got : slice_get k.received.entries at ≡ Some t) where
    same : turn_now.0 ≡ t
    same = some_is turn_now.0 t (sym turn_now.1 ∙ got)

    next : IsNextHeld k.received.runs (next_clock cur.store.placed) t
    next = subst (IsNextHeld k.received.runs (next_clock cur.store.placed)) same turn_now.2

    here : IsIn t k.received.entries
    here = entry_got k.received.entries at t got

    taken : IsTakenOf k.received.runs t
    taken = entry_taken k holds t here

    rises : (client : ℕ) → next_clock start.store.placed client ≤ next_clock cur.store.placed client
    rises = turn_rises k.received.runs k.received.entries (next_clock start.store.placed) (next_clock cur.store.placed) (take done order) is.front

    module _ (new : KeptValue) (adds : AddsEntry k t cur new) where
      clocks_are : (client : ℕ) → next_clock new.store.placed client ≡ clocks_with t (next_clock cur.store.placed) client
      clocks_are client = elim (same_or_other client t.id.client.0) [
        | inl e ↦ ap (next_clock new.store.placed) e ∙ adds.next ∙ sym (clocks_own t (next_clock cur.store.placed) client e)
        | inr other ↦ adds.other_nexts client other ∙ sym (clocks_other t (next_clock cur.store.placed) client other)
      ]

      new_rises : (client : ℕ) → next_clock cur.store.placed client ≤ next_clock new.store.placed client
      new_rises client = elim (same_or_other client t.id.client.0) [
        | inl e ↦ omega (arith, ap (next_clock new.store.placed) e, ap (next_clock cur.store.placed) e, adds.next, next.begins)
        | inr other ↦ omega (arith, adds.other_nexts client other)
      ]

      -- the units of the entry have just the clocks in between
      between : (x : Id) → covers t x ≡ true → (next_clock cur.store.placed x.client.0 ≤ x.clock) × (x.clock < next_clock new.store.placed x.client.0)
      between x c = let (client, low, high) = covers_less t x c in (
        omega (arith, low, next.begins, ap (next_clock cur.store.placed) client),
        omega (arith, high, adds.next, ap (next_clock new.store.placed) client),
      )

      covered : (x : Id) → next_clock cur.store.placed x.client.0 ≤ x.clock → x.clock < next_clock new.store.placed x.client.0 → covers t x ≡ true
      covered x low high = elim (same_or_other x.client.0 t.id.client.0) [
        | inl e ↦ covers_in t x (sym e) (omega (arith, low, next.begins, ap (next_clock cur.store.placed) e)) (omega (arith, high, adds.next, ap (next_clock new.store.placed) e))
        | inr other ↦ absurd (omega (arith, low, high, adds.other_nexts x.client.0 other))
      ]

      not_below_start : (o : Operation) → IsIn o (operations_of_taken k.received.runs t) → is_unit_below start.store.placed o ≡ false
      not_below_start o i = test_fails (is_unit_below start.store.placed o) (λ b.
          omega (arith, below_is start.store.placed o.id b, (between o.id (unit_covers k.received.runs t taken o i)).0, rises o.id.client.0))

      of_entry : (o : Operation) → IsIn o (held_of k.received) → covers t o.id ≡ true → IsIn o (operations_of_taken k.received.runs t)
      of_entry o i c =
          let (u, j, u_held, l) = chosen_entry is_held k.received holds.in_order o i in
          let same_entry : u ≡ t = one_entry k.received.entries holds.in_order.in_order u t o.id j here (unit_covers k.received.runs u (entry_taken k holds u j) o l) c in
          subst (λ v. IsIn o (operations_of_taken k.received.runs v)) same_entry l

      operations_then : (o : Operation) → HasOperation new.store o ↔ (HasOperation start.store o ⊎
          (IsIn o (held_of k.received) × (next_clock start.store.placed o.id.client.0 ≤ o.id.clock) × (o.id.clock < next_clock new.store.placed o.id.client.0)))
      operations_then o = (
        (λ h. elim ((adds.operations o).0 h) [
          | inl was ↦ elim ((is.operations o).0 was) [
            | inl first ↦ inl first
            | inr (i, low, high) ↦ inr (i, low, omega (arith, high, new_rises o.id.client.0))
          ]
          | inr news ↦
              let b = between o.id (unit_covers k.received.runs t taken o news) in
              inr (entry_chosen is_held k.received holds.in_order t here next.held o news, omega (arith, b.0, rises o.id.client.0), b.1)
        ]),
        (λ h. (adds.operations o).1 (elim h [
          | inl first ↦ inl ((is.operations o).1 (inl first))
          | inr (i, low, high) ↦ elim (split (next_clock cur.store.placed o.id.client.0) o.id.clock) [
            | inl above ↦ inr (of_entry o i (covered o.id above high))
            | inr less ↦ inl ((is.operations o).1 (inr (i, low, omega (arith, less))))
          ]
        ])),
      )

      marks_then : (id : Id) → HasMarked new.store id ↔ (HasMarked start.store id ⊎
          ((is_lost (held_of k.received) id ≡ true) × (next_clock start.store.placed id.client.0 ≤ id.clock) × (id.clock < next_clock new.store.placed id.client.0)))
      marks_then id = (
        (λ m. elim ((adds.marks id).0 m) [
          | inl was ↦ elim ((is.marks id).0 was) [
            | inl first ↦ inl first
            | inr (e, low, high) ↦ inr (e, low, omega (arith, high, new_rises id.client.0))
          ]
          | inr (lost, c) ↦ let b = between id c in inr (held_lost k holds t here next.held lost id c, omega (arith, b.0, rises id.client.0), b.1)
        ]),
        (λ m. (adds.marks id).1 (elim m [
          | inl first ↦ inl ((is.marks id).1 (inl first))
          | inr (e, low, high) ↦ elim (split (next_clock cur.store.placed id.client.0) id.clock) [
            | inl above ↦ let c = covered id above high in inr (lost_other k holds t here id c e, c)
            | inr less ↦ inl ((is.marks id).1 (inr (e, low, omega (arith, less))))
          ]
        ])),
      )

      front_now : take (done + 1) order ≡ take done order ++ at ∷ []
      front_now = take_more order done d lt ∙ ap (λ n. take done order ++ n ∷ []) (sym at_is)

      begins_then : IsBorder (runs_of new.store.placed) t.id.client.0 t.id.clock → BeginAtBorders k.received.entries (take (done + 1) order) new.store
      begins_then border n u i there = elim (in_parts n (take done order) (at ∷ []) (subst (IsIn n) front_now i)) [
        | inl was ↦ adds.borders u.id.client.0 u.id.clock
            (turn_below k.received.runs k.received.entries (next_clock start.store.placed) (next_clock cur.store.placed) (take done order) is.front n u was there) (is.begins n u was there)
        | inr (inl e) ↦
            let same_entry : u ≡ t = some_is u t (sym there ∙ (ap (slice_get k.received.entries) e ∙ got)) in
            subst (λ v. IsBorder (runs_of new.store.placed) v.id.client.0 v.id.clock) (sym same_entry) border
        | inr (inr none) ↦ absurd none
      ]

      pub placing_then : IsBorder (runs_of new.store.placed) t.id.client.0 t.id.clock → IsPlacing k order start new (done + 1)
      placing_then border = record {
        within = omega (arith, lt);
        further = further_both (held_of k.received) start cur new is.further adds.further;
        front = subst (λ ns. AreHeldInTurn k.received.runs k.received.entries (next_clock start.store.placed) ns (next_clock new.store.placed)) (sym front_now)
            (turn_more k.received.runs k.received.entries (take done order) (next_clock start.store.placed) (next_clock cur.store.placed) (next_clock new.store.placed) at t is.front got next clocks_are);
        rest = turn_from k.received.runs k.received.entries (clocks_with t (next_clock cur.store.placed)) (next_clock new.store.placed) (clock_of k.vector) (drop (done + 1) order) clocks_are
            (subst (λ u. AreHeldInTurn k.received.runs k.received.entries (clocks_with u (next_clock cur.store.placed)) (drop (done + 1) order) (clock_of k.vector)) same turn_now.3);
        count = omega (arith, is.count, adds.count);
        lists = λ list less. adds.lists (is_unit_below start.store.placed) not_below_start list (omega (arith, less, is.count)) ∙ is.lists list less;
        made = λ list le less. elim (split (count_of cur.store.placed) list) [
          | inl above ↦ adds.made (is_unit_below start.store.placed) not_below_start list above less
          | inr low ↦ adds.lists (is_unit_below start.store.placed) not_below_start list low ∙ is.made list le low
        ];
        operations = operations_then;
        marks = marks_then;
        borders = λ client clock le b. adds.borders client clock (omega (arith, le, rises client)) (is.borders client clock le b);
        begins = begins_then border;
      }

-- ---- at the end

module _ (k : HeldValue) (holds : HoldsAll k) where
  abbrev held : List Operation
  held = held_of k.received

  pub all_written : IsWritten held
  all_written = is_written k (holds_holding k holds)

  -- what is held stays so where nothing more is
  pub stays_itself : StaysHeld held held
  stays_itself = record {
    written = all_written;
    ids = λ x e. e;
    clocks = smaller;
    stands = λ o i. (o, i, record { id = refl; left = refl; right = refl; list = refl });
    lost = λ x e. e;
  }
    where
      smaller : (x y : Id) → has_operation held x ≡ true → HasSmallerClock y x → has_operation held y ≡ true
      smaller x y e c =
          let tells = (holds_holding k holds).tells in
          (tells y).1 (omega (arith, (tells x).0 e, c.1, ap (λ client. clock_of k.vector client.0) c.0))

  module _ (order : List ℕ) (start new : KeptValue) (done : ℕ) (can : CanBePlaced k order start) (is : IsPlacing k order start new done) (all : length order ≤ done) where
    nexts : (client : ℕ) → next_clock new.store.placed client ≡ clock_of k.vector client
    nexts client = sym (last client)
      where
        last : AreHeldInTurn k.received.runs k.received.entries (next_clock new.store.placed) [] (clock_of k.vector)
        last = subst (λ ns. AreHeldInTurn k.received.runs k.received.entries (next_clock new.store.placed) ns (clock_of k.vector)) (drop_all done order all) is.rest

    pub places_all : PlacesAll k start new
    places_all = record {
      further = is.further;
      nexts = nexts;
      operations = λ o. (
        (λ h. elim ((is.operations o).0 h) [ inl was ↦ inl was | inr (i, low, high) ↦ inr (i, low) ]),
        (λ h. (is.operations o).1 (elim h [
          | inl was ↦ inl was
          | inr (i, low) ↦ inr (i, low, omega (arith, ((holds_holding k holds).tells o.id).0 (id_is_there held o i), nexts o.id.client.0))
        ])),
      );
      marks = λ id. (
        (λ m. elim ((is.marks id).0 m) [ inl was ↦ inl was | inr (e, low, high) ↦ inr (e, low) ]),
        (λ m. (is.marks id).1 (elim m [
          | inl was ↦ inl was
          | inr (e, low) ↦ inr (e, low, omega (arith, ((holds_holding k holds).tells id).0 (both_hold (has_operation held id) _ e).0, nexts id.client.0))
        ])),
      );
    }

    pub keeps_ids : KeepsIds held new
    keeps_ids = record {
      filled = is.further.fills;
      all = λ x e. omega (arith, ((holds_holding k holds).tells x).0 e, nexts x.client.0);
      below = λ x low. ((holds_holding k holds).tells x).1 (omega (arith, low, nexts x.client.0));
      grown = filling_goes_on.end held held all_written stays_itself start.names start.store.placed new.names new.store.placed can.grown is.further.grows;
    }
