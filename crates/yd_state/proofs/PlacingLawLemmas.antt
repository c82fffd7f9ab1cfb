-- What was held stays held, so what became held can be placed; and the document of a store with just what is held.
use Rattle.std.proofs.Common.{◌≡◌, ℕ, ◌<◌, List, [], inl, inr, Some, length, sym, ap, ◌∙◌, subst, arith, ◌∷◌, map, refl}
use Rattle.std.specs.Prelude.{slice_get}
use Rattle.yd_words.specs.Member.{IsIn, AreDistinct}
use Rattle.yd_words.proofs.OptionLemmas.{some_is}
use Rattle.yd_words.proofs.TestLemmas.{split}
use Rattle.yd_ids.specs.declared.id.Id.{Id}
use Rattle.yd_ids.specs.Vector.{clock_of}
use Rattle.yd_ops.specs.declared.lists.List.{List as DocList}
use Rattle.yd_ops.specs.Operation.{Operation}
use Rattle.yd_origins.specs.Table.{ids_of}
use Rattle.yd_arena.specs.Arena.{next_clock}
use Rattle.yd_ops.specs.Received.{IsWritten}
use Rattle.yd_meaning.specs.Held.{standing}
use Rattle.yd_meaning.specs.Order.{rows_of, order_of}
use Rattle.yd_meaning.specs.Document.{Document, operations_at}
use Rattle.yd_meaning.proofs.DocumentLemmas.{found_before}
use Rattle.yd_meaning.proofs.StandingTableLemmas.{standing_table}
use Rattle.yd_meaning.specs.Grown.{table_in, StandsHonest}
use Rattle.yd_meaning.specs.Own.{ids_in, HasGrownLists}
use Rattle.yd_meaning.proofs.GrowthLemmas.{grows_on}
use Rattle.yd_meaning.proofs.GrownHonestLemmas.{grown_is_order}
use Rattle.yd_meaning.proofs.GrownStayingLemmas.{stays_grown}
use Rattle.yd_kept.specs.Filling.{FillsLists}
use Rattle.yd_kept.specs.Telling.{IsSoundStore, TellsLists}
use Rattle.yd_kept.proofs.FillingLemmas.{slice_below, filling_starts, filling_stays}
use Rattle.yd_kept.proofs.TellingLemmas.{filled_lists_are_grown}
use Rattle.yd_kept.specs.Kept.{KeptValue, KeepsHeld}
use Rattle.yd_received.specs.Received.{held_of}
use Rattle.yd_held.specs.Held.{HeldValue, HoldsAll}
use Rattle.yd_held.specs.Turn.{AreHeldInTurn, HoldsOn}
use Rattle.yd_held.proofs.HoldingLemmas.{is_written}
use Rattle.yd_held.proofs.KeptLemmas.{holds_holding}
use Rattle.yd_state.specs.Placing.{KeepsIds, KeepsAll, CanBePlaced}
use Rattle.yd_state.specs.PlacingLaw.{IsEmptyStore, EntriesCanBePlaced, KeepsLists, KeepingKeepsAll, StoreTellsLists}
use Rattle.yd_state.proofs.InTurnLemmas.{turn_from}

-- ---- what can be placed

-- two clocks are one where the same ids are below them
same_clocks : (m n : ℕ) → ((k : ℕ) → k < m → k < n) → ((k : ℕ) → k < n → k < m) → m ≡ n
same_clocks m n f g = elim (split m n) [
  | inl le ↦ elim (split n m) [ inl ge ↦ omega (arith, le, ge) | inr lt ↦ absurd (less m (g m lt)) ]
  | inr lt ↦ absurd (less n (f n lt))
]
  where
    less : (k : ℕ) → k < k → ⊥
    less k lt = omega (arith, lt)

module _ (old new : HeldValue) (holds : HoldsAll old) (now : HoldsAll new) (told order : List ℕ) (h : HoldsOn told order old new) (it : KeptValue) (keeps : KeepsAll (held_of old.received) it) where
  w : IsWritten (held_of new.received)
  w = is_written new (holds_holding new now)

  nexts : (client : ℕ) → next_clock it.store.placed client ≡ clock_of old.vector client
  nexts client = same_clocks (next_clock it.store.placed client) (clock_of old.vector client)
      (λ k lt. ((holds_holding old holds).tells (at k)).0 (keeps.ids.below (at k) lt))
      (λ k lt. keeps.ids.all (at k) (((holds_holding old holds).tells (at k)).1 lt))
    where
      at : ℕ → Id
      at k = record { client = record { 0 = client }; clock = k }

  placed_on : CanBePlaced new order it
  placed_on = record {
    filled = filling_stays (held_of old.received) (held_of new.received) w h.stays it.names it.store.placed keeps.ids.below keeps.ids.filled;
    grown = λ n name e. (stays_grown (held_of old.received) (held_of new.received) w h.stays).same name _ (keeps.ids.grown n name e);
    turn = turn_from new.received.runs new.received.entries (clock_of old.vector) (next_clock it.store.placed) (clock_of new.vector) order nexts h.turn;
  }

placed_anew : (new : HeldValue) → HoldsAll new → (order : List ℕ) → AreHeldInTurn new.received.runs new.received.entries (λ client. 0) order (clock_of new.vector) → (it : KeptValue) →
    IsEmptyStore it → CanBePlaced new order it
placed_anew new now order turn it empty = record {
  filled = subst (λ ns. FillsLists (held_of new.received) ns it.store.placed) (sym empty.names) (filling_starts (held_of new.received) it.store.placed empty.lists empty.clocks);
  grown = λ n name e. absurd (nameless n name (ap (λ ns. slice_get ns n) (sym empty.names) ∙ e));
  turn = turn_from new.received.runs new.received.entries (λ client. 0) (next_clock it.store.placed) (clock_of new.vector) order empty.clocks turn;
}
  where
    nameless : (n : ℕ) (name : DocList) → slice_get [] n ≡ Some name → ⊥
    nameless n name e = cc

pub entries_can_be_placed : EntriesCanBePlaced
entries_can_be_placed = record { on = placed_on; anew = placed_anew }

-- ---- where no unit changed

pub keeping_keeps_ids : (held : List Operation) → IsWritten held → (old new : KeptValue) → KeepsIds held old → KeepsLists old new → KeepsIds held new
keeping_keeps_ids held w old new ids keeps =
    let further = keeps.filled held w ids.filled in record {
      filled = further.fills;
      all = λ x e. omega (arith, ids.all x e, keeps.nexts x.client.0);
      below = λ x low. ids.below x (omega (arith, low, keeps.nexts x.client.0));
      grown = λ n name e. elim (split (length old.names) n) [
        | inl le ↦ further.grows.made n name e le
        | inr lt ↦
            let (x, f) = slice_below old.names n lt in
            let same : x ≡ name = some_is x name (sym (keeps.names n x f) ∙ e) in
            let g : slice_get old.names n ≡ Some name = f ∙ ap (λ (l : DocList). Some l) same in
            grows_on (table_in (standing held) name) [] _ _ (ids.grown n name g) (further.grows.grows n name g)
      ];
    }

pub keeping_keeps_all : KeepingKeepsAll
keeping_keeps_all held w old new all keeps = record {
  ids = keeping_keeps_ids held w old new all.ids keeps;
  no_more = λ o i. all.no_more o ((keeps.operations o).0 i);
}

-- so it is where runs are cut, or lists are added
pub held_lists : (old new : KeptValue) → KeepsHeld old new → KeepsLists old new
held_lists old new keeps = record {
  names = keeps.names;
  lists = keeps.lists;
  made = keeps.made;
  operations = keeps.operations;
  marks = keeps.marks;
  nexts = keeps.nexts;
  filled = keeps.filled;
}

-- ---- the document

-- operations of a table are those at their ids
at_their_ids : (stands : List Operation) → AreDistinct (ids_of (rows_of stands)) → (os : List Operation) → ((o : Operation) → IsIn o os → IsIn o stands) →
    os ≡ operations_at stands (map (λ (o : Operation). o.id) os)
at_their_ids stands a [] f = refl
at_their_ids stands a (o ∷ os) f = ap (λ ps. o ∷ ps) (at_their_ids stands a os (λ p i. f p (inr i)))
    ∙ sym (found_before stands o (operations_at stands (map (λ (p : Operation). p.id) os)) a (f o (inl refl)))

module _ (held : List Operation) (w : IsWritten held) (document : Document) (grown : HasGrownLists document held) where
  ordered : StandsHonest held → (list : DocList) → ids_in document list ≡ order_of (standing held) list
  ordered honest list = grown_is_order held w honest list (ids_in document list) (grown.grown list) (λ x up of. (grown.each list x).1 (up, of))

  units_are : StandsHonest held → (list : DocList) → document.units list ≡ operations_at (standing held) (order_of (standing held) list)
  units_are honest list = at_their_ids (standing held) (standing_table held w).distinct (document.units list) (grown.as_held list)
      ∙ ap (operations_at (standing held)) (ordered honest list)

pub store_tells_lists : StoreTellsLists
store_tells_lists = record {
  grown = lists_grown;
  defined = λ held w honest it sound all document tells named list. units_are held w document (lists_grown held w it sound all document tells) honest list;
}
  where
    lists_grown : (held : List Operation) → IsWritten held → (it : KeptValue) → IsSoundStore it.store → KeepsAll held it → (document : Document) →
        TellsLists document it.names it.store → HasGrownLists document held
    lists_grown held w it sound all document tells = filled_lists_are_grown held w it.names it.store document sound all.ids.filled
        (record { all = all.ids.all; no_more = all.no_more }) all.ids.grown tells
