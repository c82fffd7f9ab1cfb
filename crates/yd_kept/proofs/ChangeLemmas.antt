-- What becomes of the lists of a store with names where it changes and no run goes into a list.
use Rattle.std.proofs.Common.{◌≡◌, ℕ, zero, suc, ◌+◌, ◌<◌, inl, inr, List, [], ◌∷◌, ◌++◌, Option, Some, Result, Ok, Err, length, get_or, refl, ap, ap₂, ◌∙◌, subst, sym, arith}
use Rattle.std.specs.Prelude.{OnErr, flat_map, slice_get, take}
use Rattle.std.proofs.lemmas.List.{get_or_append_left, get_or_at, length-append}
use Rattle.yd_words.specs.Member.{IsIn}
use Rattle.yd_words.proofs.TestLemmas.{split}
use Rattle.yd_ops.specs.declared.lists.List.{List as DocList}
use Rattle.yd_ops.specs.Operation.{Operation}
use Rattle.yd_ops.specs.Value.{RunValue}
use Rattle.yd_scan.specs.declared.stretch.Stretch.{Stretch}
use Rattle.yd_index.specs.Lines.{next_of}
use Rattle.yd_arena.specs.Lists.{AreLists}
use Rattle.yd_arena.specs.Arena.{runs_of, count_of, places_in, next_clock}
use Rattle.yd_arena.specs.Rows.{rows_at, rows_in}
use Rattle.yd_store.specs.Contents.{Contented, told_of}
use Rattle.yd_store.specs.Store.{Stored, KeepsRuns, AddsOutside}
use Rattle.yd_store.specs.Units.{operations_at, KeepsUnits}
use Rattle.yd_store.proofs.IntegratingLemmas.{keeps_itself}
use Rattle.yd_kept.specs.Filling.{FillsOn}
use Rattle.yd_kept.proofs.FillingLemmas.{still_named, filling_is_kept, filling_adds_list, filling_adds_lost, filling_goes_on}
use Rattle.yd_kept.specs.Kept.{KeptValue, FillsFurther, StaysFilled, FillsByLost, KeepsHeld, JoinsHeld}

-- what holds whatever was answered holds of an error
pub on_err : {T E : Type 0} {P : Type 0} (z : Result T E) → P → OnErr z P
on_err (Ok x) p = tt
on_err (Err e) p = p

-- ---- further and further

pub further_both : (held : List Operation) (old mid new : KeptValue) → FillsFurther held old mid → FillsFurther held mid new → FillsFurther held old new
further_both held old mid new a b = record {
  fills = b.fills;
  grows = filling_goes_on.both held old.names old.store.placed mid.names mid.store.placed new.names new.store.placed a.grows b.grows;
}

pub further_on : (held : List Operation) (names : List DocList) (old new : Stored) → FillsOn held names old.placed new.placed →
    FillsFurther held (record { store = old; names = names }) (record { store = new; names = names })
further_on held names old new on = record {
  fills = on.fills;
  grows = filling_goes_on.on held names old.placed names old.placed new.placed (filling_goes_on.start held names old.placed) on;
}

-- ---- where all rows stay

pub rows_stay : (names : List DocList) (old new : Stored) → count_of new.placed ≡ count_of old.placed →
    ((list : ℕ) → list < count_of old.placed → rows_in new.placed list ≡ rows_in old.placed list) →
    ((client : ℕ) → next_clock new.placed client ≡ next_clock old.placed client) →
    StaysFilled (record { store = old; names = names }) (record { store = new; names = names })
rows_stay names old new count rows nexts = λ held w fills.
    further_on held names old new (filling_is_kept held names old.placed new.placed fills (record { count = count; rows = rows; nexts = nexts }))

pub units_keep : (names : List DocList) (old new : Stored) → KeepsUnits old new → KeepsHeld (record { store = old; names = names }) (record { store = new; names = names })
units_keep names old new k = record {
  count = omega (arith, k.count);
  names = λ n x e. e;
  lists = k.lists;
  rows = k.rows;
  made = λ n le lt. absurd (omega (arith, le, lt, k.count));
  operations = k.operations;
  marks = k.marks;
  nexts = k.nexts;
  borders = k.borders;
  filled = rows_stay names old new k.count k.rows k.nexts;
}

pub units_join : (names : List DocList) (old new : Stored) → KeepsUnits new old → JoinsHeld (record { store = old; names = names }) (record { store = new; names = names })
units_join names old new k =
    let count : count_of new.placed ≡ count_of old.placed = sym k.count in
    let rows : (list : ℕ) → list < count_of old.placed → rows_in new.placed list ≡ rows_in old.placed list = (λ list lt. sym (k.rows list (omega (arith, lt, count)))) in
    let nexts : (client : ℕ) → next_clock new.placed client ≡ next_clock old.placed client = (λ client. sym (k.nexts client)) in
    record {
      names = refl;
      count = count;
      lists = λ list lt. sym (k.lists list (omega (arith, lt, count)));
      rows = rows;
      operations = λ o. ((k.operations o).1, (k.operations o).0);
      marks = λ id. ((k.marks id).1, (k.marks id).0);
      live = sym k.live;
      nexts = nexts;
      filled = rows_stay names old new count rows nexts;
    }

pub held_itself : (it : KeptValue) → KeepsHeld it it
held_itself it = units_keep it.names it.store it.store (keeps_itself it.store)

pub held_both : (old mid new : KeptValue) → KeepsHeld old mid → KeepsHeld mid new → KeepsHeld old new
held_both old mid new a b = record {
  count = omega (arith, a.count, b.count);
  names = λ n x e. b.names n x (a.names n x e);
  lists = λ n lt. b.lists n (omega (arith, lt, a.count)) ∙ a.lists n lt;
  rows = λ n lt. b.rows n (omega (arith, lt, a.count)) ∙ a.rows n lt;
  made = λ n le lt. elim (split (count_of mid.store.placed) n) [ inl above ↦ b.made n above lt | inr low ↦ b.lists n low ∙ a.made n le low ];
  operations = λ o. ((λ h. (a.operations o).0 ((b.operations o).0 h)), (λ h. (b.operations o).1 ((a.operations o).1 h)));
  marks = λ id. ((λ h. (a.marks id).0 ((b.marks id).0 h)), (λ h. (b.marks id).1 ((a.marks id).1 h)));
  nexts = λ client. b.nexts client ∙ a.nexts client;
  borders = λ client clock border. b.borders client clock (a.borders client clock border);
  filled = λ held w fills. let f = a.filled held w fills in further_both held old mid new f (b.filled held w f.fills);
}

-- ---- a list more

number_in : (names : List DocList) (name : DocList) → IsIn name names → (n : ℕ) × (slice_get names n ≡ Some name)
number_in [] name i = absurd i
number_in (x ∷ xs) name (inl e) = (zero, ap (λ (l : DocList). Some l) (sym e))
number_in (x ∷ xs) name (inr i) = let (n, e) = number_in xs name i in (suc n, e)

pub named_last : (names : List DocList) (name : DocList) → slice_get (names ++ name ∷ []) (length names) ≡ Some name
named_last [] name = refl
named_last (x ∷ xs) name = named_last xs name

-- and it is given up again
pub take_front : (names more : List DocList) → take (length names) (names ++ more) ≡ names
take_front [] more = refl
take_front (x ∷ xs) more = ap (λ ys. x ∷ ys) (take_front xs more)

module _ (old new : Stored) (names : List DocList) (name : DocList) (is_new : (n : ℕ) → slice_get names n ≡ Some name → ⊥)
    (lists : new.placed.linked.lists ≡ old.placed.linked.lists ++ [] ∷ []) (runs : KeepsRuns old.placed old.marks new.placed new.marks) (contents : new.contents ≡ old.contents) where
  same_places : (n : ℕ) → n < count_of old.placed → places_in new.placed n ≡ places_in old.placed n
  same_places n lt = ap (λ ls. get_or ls n []) lists ∙ get_or_append_left old.placed.linked.lists ([] ∷ []) [] n lt

  last_places : (n : ℕ) → n ≡ count_of old.placed → places_in new.placed n ≡ []
  last_places n e = ap (λ ls. get_or ls n []) lists ∙ get_or_at old.placed.linked.lists [] [] [] n (sym e)

  one_more : count_of new.placed ≡ count_of old.placed + 1
  one_more = ap length lists ∙ length-append old.placed.linked.lists ([] ∷ [])

  same_at : (i : ℕ) → operations_at (runs_of new.placed) (told_of new.contents) i ≡ operations_at (runs_of old.placed) (told_of old.contents) i
  same_at i = ap₂ (λ (rs : List Stretch) (c : Contented). operations_at rs (told_of c) i) runs.runs contents

  same_operations : (places : List ℕ) → flat_map (operations_at (runs_of new.placed) (told_of new.contents)) places ≡ flat_map (operations_at (runs_of old.placed) (told_of old.contents)) places
  same_operations places = ap₂ (λ (rs : List Stretch) (c : Contented). flat_map (operations_at rs (told_of c)) places) runs.runs contents

  same_nexts : (client : ℕ) → next_clock new.placed client ≡ next_clock old.placed client
  same_nexts client = ap (λ ls. next_of ls client) runs.lines

  pub list_made : KeepsHeld (record { store = old; names = names }) (record { store = new; names = names ++ name ∷ [] })
  list_made = record {
    count = omega (arith, one_more);
    names = still_named names name;
    lists = λ n lt. same_operations (places_in new.placed n) ∙ ap (flat_map (operations_at (runs_of old.placed) (told_of old.contents))) (same_places n lt);
    rows = λ n lt. ap (λ rs. rows_at rs (places_in new.placed n)) runs.runs ∙ ap (rows_at (runs_of old.placed)) (same_places n lt);
    made = λ n le lt. ap (flat_map (operations_at (runs_of new.placed) (told_of new.contents))) (last_places n (omega (arith, le, lt, one_more)));
    operations = λ o. (
      (λ h. record { place = h.place; within = omega (arith, h.within, ap length runs.runs); member = subst (IsIn o) (same_at h.place) h.member }),
      (λ h. record { place = h.place; within = omega (arith, h.within, ap length runs.runs); member = subst (IsIn o) (sym (same_at h.place)) h.member }),
    );
    marks = λ id. rw (runs.runs, runs.rows) ((λ h. h), (λ h. h));
    nexts = same_nexts;
    borders = λ client clock border. rw runs.runs border;
    filled = λ held w fills.
        let adds = filling_adds_list held w names name old.placed new.placed fills (λ i. let (n, e) = number_in names name i in is_new n e) runs.runs lists same_nexts in
        record { fills = adds.fills; grows = filling_goes_on.list held names old.placed names old.placed name new.placed (filling_goes_on.start held names old.placed) adds };
  }

-- ---- a lost run

pub lost_fills : (names : List DocList) (old new : Stored) (stretch : Stretch) (told : Option RunValue) → AreLists old.placed.linked →
    stretch.id.clock ≡ next_clock old.placed stretch.id.client.0 → AddsOutside old new stretch told →
    FillsByLost (record { store = old; names = names }) (record { store = new; names = names }) stretch
lost_fills names old new stretch told lists begins adds = λ held w fills lost.
    further_on held names old new (filling_adds_lost held w names old new stretch told lists fills begins lost adds)
