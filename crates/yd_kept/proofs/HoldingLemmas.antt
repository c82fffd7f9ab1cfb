-- A run that comes next: the list of its operations, and what becomes of the lists where it goes into it.
use Rattle.std.proofs.Common.{◌≡◌, ℕ, ◌+◌, ◌<◌, inl, true, List, [], ◌∷◌, Option, Some, None, length, refl, sym, ap, ◌∙◌, subst, arith}
use Rattle.std.specs.Prelude.{IfSome, slice_get}
use Rattle.yd_words.specs.Member.{IsIn}
use Rattle.yd_words.proofs.OptionLemmas.{some_is, if_some_map, if_some_each}
use Rattle.yd_ids.specs.declared.id.Id.{Id}
use Rattle.yd_ids.specs.Id.{IsClock}
use Rattle.yd_ops.specs.declared.lists.List.{List as DocList}
use Rattle.yd_ops.specs.Operation.{UnitContent, Operation, units_of_content, operations_from, operations_of_run}
use Rattle.yd_ops.specs.Value.{RunValue, len_of}
use Rattle.yd_ops.proofs.OperationLemmas.{length-units_of_content}
use Rattle.yd_origins.specs.Table.{IsTable}
use Rattle.yd_origins.proofs.ListTableLemmas.{in_own}
use Rattle.yd_arena.specs.Lists.{AreLists}
use Rattle.yd_arena.specs.Arena.{Placed, count_of, next_clock}
use Rattle.yd_store.specs.Store.{Stored, StandsIn}
use Rattle.yd_store.specs.Units.{AddsUnits}
use Rattle.yd_store.specs.Integrating.{IsReady, Integrates}
use Rattle.yd_ops.specs.Received.{has_operation, IsWritten}
use Rattle.yd_meaning.specs.Held.{standing}
use Rattle.yd_meaning.specs.Order.{rows_of, list_or_root, operation_set, list_of}
use Rattle.yd_meaning.proofs.HeldListLemmas.{list_of-left, list_of-right, list_of-carried}
use Rattle.yd_meaning.proofs.NeedLemmas.{left_source, right_source}
use Rattle.yd_meaning.proofs.RowLemmas.{has_row}
use Rattle.yd_meaning.proofs.StandingLemmas.{standing_sources}
use Rattle.yd_meaning.proofs.StandingTableLemmas.{standing_table}
use Rattle.yd_kept.specs.Filling.{ComesNext}
use Rattle.yd_kept.proofs.FillingLemmas.{within_names, filling_is_kept, filling_adds_run}
use Rattle.yd_kept.proofs.NextLemmas.{there_stands}
use Rattle.yd_kept.specs.Kept.{KeptValue, IsFilled, ComesNextOfSome, telling_origin, IsListFor, KeepsHeld, HoldsRun}
use Rattle.yd_kept.proofs.ChangeLemmas.{further_on, further_both}

-- ---- the first operation of a run

record IsFirst (run : RunValue) (o : Operation) : Type 0 where
  there : IsIn o (operations_of_run run)
  id : o.id ≡ run.id
  left : o.left_origin ≡ run.left
  right : o.right_origin ≡ run.right
  list : o.list ≡ run.list

first_of_run : (run : RunValue) → 0 < len_of run.content → (o : Operation) × IsFirst run o
first_of_run run filled =
    let (o, i, a, b, c, d) = go (units_of_content run.content) (omega (arith, filled, length-units_of_content run.content)) in
    (o, record { there = i; id = a; left = b; right = c; list = d })
  where
    go : (us : List UnitContent) → 0 < length us → (o : Operation) × IsIn o (operations_from run.id run.left run.right run.list us) ×
        (o.id ≡ run.id) × (o.left_origin ≡ run.left) × (o.right_origin ≡ run.right) × (o.list ≡ run.list)
    go [] lt = absurd (omega (arith, lt))
    go (u ∷ us) lt = (record { id = run.id; left_origin = run.left; right_origin = run.right; list = run.list; content = u }, inl refl, refl, refl, refl, refl)

-- ---- its list

-- a list has the name of the run's operations, and the unit stands in it
pub record TellsList (held : List Operation) (it : KeptValue) (run : RunValue) (y : Id) : Type 0 where
  pub number : ℕ
  pub within : number < count_of it.store.placed
  pub stands : StandsIn it.store.placed number y
  pub named : slice_get it.names number ≡ Some (list_of (standing held) run.id)

module _ (held : List Operation) (w : IsWritten held) (it : KeptValue) (run : RunValue) (lists : AreLists it.store.placed.linked)
    (fills : IsFilled held it) (comes : ComesNext held it.store.placed run) where
  abbrev stands : List Operation
  stands = standing held

  rows_table : IsTable (rows_of stands)
  rows_table = standing_table held w

  tells : (y : Id) → has_operation stands y ≡ true → y.clock < next_clock it.store.placed y.client.0 → list_of stands run.id ≡ list_of stands y → TellsList held it run y
  tells y up low same =
      let (n, e) = fills.listed y up low in
      let lt : n < count_of it.store.placed = omega (arith, within_names it.names n (list_of stands y) e, fills.count) in
      let i = ((fills.rows n (list_of stands y) e).each y).1 (in_own (operation_set stands) rows_table (list_of stands y) y (has_row stands y up) refl, low) in record {
        number = n;
        within = lt;
        stands = there_stands it.store.placed n y lists lt i;
        named = e ∙ ap (λ (l : DocList). Some l) (sym same);
      }

  pub origin_tells : (y : Id) → telling_origin run.left run.right ≡ Some y → TellsList held it run y
  origin_tells y e = go run.left run.right refl refl e
    where
      go : (l r : Option Id) → run.left ≡ l → run.right ≡ r → telling_origin l r ≡ Some y → TellsList held it run y
      go (Some x) r is other f =
          let (o, first) = first_of_run run comes.filled in
          let s = comes.stands o first.there in
          let l : run.left ≡ Some y = is ∙ f in
          tells y (standing_sources held w o s y (left_source o y (first.left ∙ l))) (subst (λ z. IfSome z (λ v. v.clock < next_clock it.store.placed v.client.0)) l comes.left)
          (subst (λ x. list_of stands x ≡ list_of stands y) first.id (list_of-left stands rows_table o s y (first.left ∙ l)))
      go None r is other f =
          let (o, first) = first_of_run run comes.filled in
          let s = comes.stands o first.there in
          let k : run.right ≡ Some y = other ∙ f in
          tells y (standing_sources held w o s y (right_source o y (first.right ∙ k))) (subst (λ z. IfSome z (λ v. v.clock < next_clock it.store.placed v.client.0)) k comes.right)
          (subst (λ x. list_of stands x ≡ list_of stands y) first.id (list_of-right stands rows_table o s (first.left ∙ is) y (first.right ∙ k)))

module _ (held : List Operation) (w : IsWritten held) (it : KeptValue) (run : RunValue) (comes : ComesNext held it.store.placed run) where
  pub carried_list : telling_origin run.left run.right ≡ None → (name : DocList) → run.list ≡ Some name → list_of (standing held) run.id ≡ name
  carried_list e name of = go run.left run.right refl refl e
    where
      go : (l r : Option Id) → run.left ≡ l → run.right ≡ r → telling_origin l r ≡ None → list_of (standing held) run.id ≡ name
      go (Some x) r is other f = absurd cc
      go None r is other f =
          let (o, first) = first_of_run run comes.filled in
          let s = comes.stands o first.there in
          subst (λ x. list_of (standing held) x ≡ name) first.id (list_of-carried (standing held) (standing_table held w) o s (first.left ∙ is) (first.right ∙ (other ∙ f)) ∙ of_list o.list (first.list ∙ of))
        where
          of_list : (z : Option DocList) → z ≡ Some name → list_or_root z ≡ name
          of_list None c = absurd cc
          of_list (Some l) c = some_is l name c

-- ---- lemmas for callers

pub list_told : (it : KeptValue) (run : RunValue) (list : ℕ) (y : Id) → AreLists it.store.placed.linked → telling_origin run.left run.right ≡ Some y →
    ((n : ℕ) → n < count_of it.store.placed → StandsIn it.store.placed n y → n ≡ list) → IsListFor it run list
list_told it run list y lists e one = λ held w fills comes.
    let t = origin_tells held w it run lists fills comes y e in
    subst (λ n. slice_get it.names n ≡ Some (list_of (standing held) run.id)) (one t.number t.within t.stands) t.named

pub list_carried : (it : KeptValue) (run : RunValue) (list : ℕ) (name : DocList) → telling_origin run.left run.right ≡ None → run.list ≡ Some name →
    slice_get it.names list ≡ Some name → IsListFor it run list
list_carried it run list name e of named = λ held w fills comes. named ∙ ap (λ (l : DocList). Some l) (sym (carried_list held w it run comes e name of))

comes_on : (held : List Operation) (old new : Placed) (run : RunValue) → ((client : ℕ) → next_clock new client ≡ next_clock old client) → ComesNext held old run → ComesNext held new run
comes_on held old new run nexts c = record {
  stands = c.stands;
  filled = c.filled;
  next = c.next ∙ sym (nexts run.id.client.0);
  left = if_some_map (λ y. y.clock < next_clock old y.client.0) (λ y. y.clock < next_clock new y.client.0) run.left (λ y lt. omega (arith, lt, nexts y.client.0)) c.left;
  right = if_some_map (λ y. y.clock < next_clock old y.client.0) (λ y. y.clock < next_clock new y.client.0) run.right (λ y lt. omega (arith, lt, nexts y.client.0)) c.right;
}

module _ (old it : KeptValue) (run : RunValue) (list : ℕ) (keeps : KeepsHeld old it) (is : IsListFor it run list) where
  module _ (lists : AreLists it.store.placed.linked) (some : ComesNextOfSome old run) where
    now_filled : IsFilled some.held it
    now_filled = (keeps.filled some.held some.written some.filled).fills

    now_comes : ComesNext some.held it.store.placed run
    now_comes = comes_on some.held old.store.placed it.store.placed run keeps.nexts some.comes

    named : slice_get it.names list ≡ Some (list_of (standing some.held) run.id)
    named = is some.held some.written now_filled now_comes

    pub list_within : list < count_of it.store.placed
    list_within = omega (arith, within_names it.names list (list_of (standing some.held) run.id) named, now_filled.count)

    pub is_ready : IsClock (run.id.clock + len_of run.content) → IsReady it.store list run
    is_ready fits = record {
      left = if_some_each (λ y. StandsIn it.store.placed list y) run.left (λ y e.
          let t = origin_tells some.held some.written it run lists now_filled now_comes y (ap (λ z. telling_origin z run.right) e) in
          subst (λ n. StandsIn it.store.placed n y) (now_filled.distinct t.number list (list_of (standing some.held) run.id) t.named named) t.stands);
      next = now_comes.next;
      filled = now_comes.filled;
      fits = fits;
    }

  pub holds_run : (new : Stored) → Integrates it.store new list run → AddsUnits it.store new list run → HoldsRun old (record { store = new; names = it.names }) run
  holds_run new done units = record {
    ready = it;
    keeps = keeps;
    names = refl;
    list = list;
    adds = units;
    filled = λ held w fills comes.
        let a = keeps.filled held w fills in
        let mid = done.parted in
        let now = comes_on held old.store.placed it.store.placed run keeps.nexts comes in
        let cut = filling_is_kept held it.names it.store.placed mid.placed a.fills (record { count = done.kept.count; rows = done.kept.rows; nexts = done.kept.nexts }) in
        let on = filling_adds_run held w it.names mid new list run done.lists cut.fills (comes_on held it.store.placed mid.placed run done.kept.nexts now) (is held w a.fills now) done.adds in
        further_both held old it (record { store = new; names = it.names }) a
        (further_both held it (record { store = mid; names = it.names }) (record { store = new; names = it.names }) (further_on held it.names it.store mid cut) (further_on held it.names mid new on));
  }
