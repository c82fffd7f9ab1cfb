-- A run that is added to a store adds its operations: to a list, in a row, or outside all lists.
use Rattle.std.proofs.Common.{◌≡◌, ◌↔◌, ◌⊎◌, ℕ, ◌+◌, ◌<◌, ◌≤◌, true, false, inl, inr, List, [], ◌∷◌, ◌++◌, Option, Some, None, map, length, get_or, refl, sym, ap, ap₂, ◌∙◌, subst, arith, true≢false}
use Rattle.std.specs.Prelude.{flat_map}
use Rattle.std.proofs.lemmas.List.{get_or_append_left, get_or_at, length-append, append_assoc}
use Rattle.std.proofs.lemmas.List.Concat.{flat_map-append}
use Rattle.yd_ids.specs.declared.id.Id.{Id}
use Rattle.yd_words.specs.Member.{IsIn}
use Rattle.yd_words.proofs.MemberLemmas.{in_left_part, in_right_part}
use Rattle.yd_chains.specs.Chain.{up_to, behind}
use Rattle.yd_chains.proofs.ChainLemmas.{parts_are}
use Rattle.yd_ops.specs.Value.{RunValue}
use Rattle.yd_ops.specs.declared.runs.Run.{Run}
use Rattle.yd_ops.specs.Operation.{Operation, operations_of_run}
use Rattle.yd_scan.specs.declared.stretch.Stretch.{Stretch}
use Rattle.yd_scan.specs.Stretches.{stretch_at, no_stretch, units_of}
use Rattle.yd_index.proofs.HoldingLemmas.{below_or_last}
use Rattle.yd_arena.specs.Lists.{AreLists}
use Rattle.yd_arena.specs.Arena.{Placed, runs_of, count_of, places_in, next_clock, IsSame, AddsLoose}
use Rattle.yd_arena.specs.declared.mark.Mark.{Mark}
use Rattle.yd_arena.specs.Marks.{Marked, IsMarked, IsBorder}
use Rattle.yd_arena.proofs.MarkLemmas.{adds_keep_marks}
use Rattle.yd_store.specs.Contents.{Contented, told, told_of, run_at}
use Rattle.yd_store.specs.Store.{Stored, IsStore, stretch_of, AddsRun, AddsOutside}
use Rattle.yd_store.specs.Units.{operations_told, operations_at, HasOperation, AddsUnits, AddsApart}
use Rattle.yd_store.proofs.StoreLemmas.{told_more}
use Rattle.yd_store.proofs.KeepingLemmas.{lists_same}

module _ (old new : Stored) (store : IsStore old.placed old.marks old.contents) (lists : AreLists old.placed.linked) (stretch : Stretch) (z : Option RunValue)
    (runs : runs_of new.placed ≡ runs_of old.placed ++ stretch ∷ []) (told : told_of new.contents ≡ told_of old.contents ++ z ∷ []) where
  abbrev were : List Stretch
  were = runs_of old.placed

  abbrev now : ℕ → List Operation
  now = operations_at (runs_of new.placed) (told_of new.contents)

  abbrev was : ℕ → List Operation
  was = operations_at were (told_of old.contents)

  at_old : (j : ℕ) → j < length were → now j ≡ was j
  at_old j lt = ap₂ operations_told
      (ap (λ (rs : List Stretch). stretch_at rs j) runs ∙ get_or_append_left were (stretch ∷ []) no_stretch j lt)
      (ap (λ (ts : List (Option RunValue)). run_at ts j) told ∙ get_or_append_left (told_of old.contents) (z ∷ []) None j (omega (arith, lt, store.told.each)))

  at_new : now (length were) ≡ operations_told stretch z
  at_new = ap₂ operations_told
      (ap (λ (rs : List Stretch). stretch_at rs (length were)) runs ∙ get_or_at were stretch [] no_stretch (length were) refl)
      (ap (λ (ts : List (Option RunValue)). run_at ts (length were)) told ∙ get_or_at (told_of old.contents) z [] None (length were) store.told.each)

  len_is : length (runs_of new.placed) ≡ length were + 1
  len_is = ap length runs ∙ length-append were (stretch ∷ [])

  run_old : (i : ℕ) → i < length were → stretch_at (runs_of new.placed) i ≡ stretch_at were i
  run_old i lt = ap (λ (rs : List Stretch). stretch_at rs i) runs ∙ get_or_append_left were (stretch ∷ []) no_stretch i lt

  run_new : stretch_at (runs_of new.placed) (length were) ≡ stretch
  run_new = ap (λ (rs : List Stretch). stretch_at rs (length were)) runs ∙ get_or_at were stretch [] no_stretch (length were) refl

  -- the new run begins at its client's next clock, so it goes over none up to there
  border_stays : stretch.id.clock ≡ next_clock old.placed stretch.id.client.0 → (k c : ℕ) → c ≤ next_clock old.placed k → IsBorder were k c → IsBorder (runs_of new.placed) k c
  border_stays at_next k c le border i il own = elim (below_or_last i (length were) (omega (arith, il, len_is))) [
    | inl low ↦ subst (λ (r : Stretch). (r.id.clock + r.len ≤ c) ⊎ (c ≤ r.id.clock)) (sym (run_old i low)) (border i low (subst (λ (r : Stretch). r.id.client.0 ≡ k) (run_old i low) own))
    | inr e ↦
        let same : stretch_at (runs_of new.placed) i ≡ stretch = ap (λ j. stretch_at (runs_of new.placed) j) e ∙ run_new in
        let is : stretch.id.client.0 ≡ k = subst (λ (r : Stretch). r.id.client.0 ≡ k) same own in
        inr (omega (arith, le, at_next, ap (next_clock old.placed) is, ap (λ (r : Stretch). r.id.clock) same))
  ]

  -- places of the lists have what they had
  places_same : (list : ℕ) → list < count_of old.placed → (places : List ℕ) → ((j : ℕ) → IsIn j places → IsIn j (places_in old.placed list)) → flat_map now places ≡ flat_map was places
  places_same list lt places of = lists_same was now places (λ j h. at_old j (lists.within list j lt (of j h)))

  operations_back : (o : Operation) → HasOperation new o → HasOperation old o ⊎ IsIn o (operations_told stretch z)
  operations_back o h = elim (below_or_last h.place (length were) (omega (arith, h.within, len_is))) [
    | inl low ↦ inl (record { place = h.place; within = low; member = subst (IsIn o) (at_old h.place low) h.member })
    | inr e ↦ inr (subst (IsIn o) at_new (subst (λ j. IsIn o (now j)) e h.member))
  ]

  operations_on : (o : Operation) → HasOperation old o ⊎ IsIn o (operations_told stretch z) → HasOperation new o
  operations_on o (inl h) = record { place = h.place; within = omega (arith, h.within, len_is); member = subst (IsIn o) (sym (at_old h.place h.within)) h.member }
  operations_on o (inr h) = record { place = length were; within = omega (arith, len_is); member = subst (IsIn o) (sym at_new) h }

-- ---- marks

unmarked : (runs : List Stretch) (rows : List Mark) (stretch : Stretch) (mark : Mark) → length rows ≡ length runs → mark.deleted ≡ false → (id : Id) →
    IsMarked (runs ++ stretch ∷ []) (rows ++ mark ∷ []) id ↔ IsMarked runs rows id
unmarked runs rows stretch mark each live id =
    let law = adds_keep_marks runs rows stretch mark each id in
    ((λ h. elim (law.0 h) [ inl x ↦ x | inr x ↦ absurd (true≢false (sym x.0 ∙ live)) ]), (λ h. law.1 (inl h)))

marked : (runs : List Stretch) (rows : List Mark) (stretch : Stretch) (mark : Mark) → length rows ≡ length runs → mark.deleted ≡ true → (id : Id) →
    IsMarked (runs ++ stretch ∷ []) (rows ++ mark ∷ []) id ↔ (IsMarked runs rows id ⊎ IsIn id (units_of stretch))
marked runs rows stretch mark each deleted id =
    let law = adds_keep_marks runs rows stretch mark each id in
    ((λ h. elim (law.0 h) [ inl x ↦ inl x | inr x ↦ inr x.1 ]), (λ h. law.1 (elim h [ inl x ↦ inl x | inr x ↦ inr (deleted, x) ])))

-- ---- a run in a list

pub adds_units : (old new : Stored) (list : ℕ) (run : RunValue) → IsStore old.placed old.marks old.contents → AreLists old.placed.linked → list < count_of old.placed → AddsRun old new list run → run.id.clock ≡ next_clock old.placed run.id.client.0 → AddsUnits old new list run
adds_units old new list run store lists lt adds at_next =
    let stretch = stretch_of run adds.right in
    let f = now old new store lists stretch (Some run) adds.grows.runs adds.runs in
    let was_then = was old new store lists stretch (Some run) adds.grows.runs adds.runs in
    let at = places_in old.placed list in
    let front = up_to adds.grows.after at in
    let back = behind adds.grows.after at in
    let same = places_same old new store lists stretch (Some run) adds.grows.runs adds.runs list lt in
    record {
      count = adds.grows.count;
      before = flat_map was_then front;
      behind = flat_map was_then back;
      parts = ap (flat_map was_then) (sym (parts_are adds.grows.after at)) ∙ flat_map-append was_then front back;
      list_is =
          ap (flat_map f) adds.grows.place
          ∙ flat_map-append f front (length (runs_of old.placed) ∷ back)
          ∙ ap₂ (λ xs ys. xs ++ ys) (same front (λ j h. subst (IsIn j) (parts_are adds.grows.after at) (in_left_part j front back h)))
          (ap₂ (λ xs ys. xs ++ ys) (at_new old new store lists stretch (Some run) adds.grows.runs adds.runs)
          (same back (λ j h. subst (IsIn j) (parts_are adds.grows.after at) (in_right_part j front back h))))
          ∙ sym (append_assoc (flat_map was_then front) (operations_of_run run) (flat_map was_then back));
      others = λ other olt ne. ap (flat_map f) (adds.grows.others other ne) ∙ places_same old new store lists stretch (Some run) adds.grows.runs adds.runs other olt (places_in old.placed other) (λ j h. h);
      operations = λ o. (operations_back old new store lists stretch (Some run) adds.grows.runs adds.runs o, operations_on old new store lists stretch (Some run) adds.grows.runs adds.runs o);
      marks = λ id. rw (adds.grows.runs, adds.rows) (unmarked (runs_of old.placed) old.marks.rows (stretch_of run adds.right) _ store.counted.each refl id);
      next = adds.grows.next;
      other_nexts = adds.grows.other_nexts;
      borders = border_stays old new store lists stretch (Some run) adds.grows.runs adds.runs at_next;
    }

-- ---- a run in no list

pub outside_added : (old mid new : Placed) (marks midm more : Marked) (contents midc grown : Contented) (stretch : Stretch) (z : Option Run) → IsSame old mid → midm.rows ≡ marks.rows → midm.live ≡ marks.live → midc.rows ≡ contents.rows →
    AddsLoose mid new stretch → more.rows ≡ midm.rows ++ record { deleted = true; counted = false } ∷ [] → more.live ≡ midm.live → grown.rows ≡ midc.rows ++ z ∷ [] →
    AddsOutside (record { placed = old; marks = marks; contents = contents }) (record { placed = new; marks = more; contents = grown }) stretch (told z)
outside_added old mid new marks midm more contents midc grown stretch z same rows live contents_same loose more_rows more_live more_runs = record {
  adds = record {
    runs = loose.runs ∙ ap (λ rs. rs ++ stretch ∷ []) same.runs;
    lists = loose.lists ∙ same.lists;
    next = loose.next;
    other_nexts = λ k ne. loose.other_nexts k ne ∙ same.nexts k;
  };
  rows = more_rows ∙ ap (λ (rs : List Mark). rs ++ record { deleted = true; counted = false } ∷ []) rows;
  live = more_live ∙ live;
  runs = told_more midc grown z more_runs ∙ ap (λ (rs : List (Option Run)). map told rs ++ told z ∷ []) contents_same;
}

pub adds_apart : (old new : Stored) (stretch : Stretch) (z : Option RunValue) → IsStore old.placed old.marks old.contents → AreLists old.placed.linked → AddsOutside old new stretch z → stretch.id.clock ≡ next_clock old.placed stretch.id.client.0 → AddsApart old new stretch z
adds_apart old new stretch z store lists adds at_next = record {
  count = ap length adds.adds.lists;
  lists = λ list lt.
      ap (λ (ls : List (List ℕ)). flat_map (now old new store lists stretch z adds.adds.runs adds.runs) (get_or ls list [])) adds.adds.lists
      ∙ places_same old new store lists stretch z adds.adds.runs adds.runs list lt (places_in old.placed list) (λ j h. h);
  operations = λ o. (operations_back old new store lists stretch z adds.adds.runs adds.runs o, operations_on old new store lists stretch z adds.adds.runs adds.runs o);
  marks = λ id. rw (adds.adds.runs, adds.rows) (marked (runs_of old.placed) old.marks.rows stretch _ store.counted.each refl id);
  next = adds.adds.next;
  other_nexts = adds.adds.other_nexts;
  borders = border_stays old new store lists stretch z adds.adds.runs adds.runs at_next;
}
