-- A cut keeps the operations of a store and of its lists, in their order.
use Rattle.std.proofs.Common.{◌≡◌, ◌≢◌, ℕ, zero, suc, ◌+◌, ◌-◌, ◌<◌, inl, inr, List, [], ◌∷◌, ◌++◌, Option, Some, None, length, get_or, refl, sym, ap, ap₂, ◌∙◌, subst, arith}
use Rattle.std.specs.Prelude.{flat_map, IfSome}
use Rattle.std.proofs.lemmas.List.{take-append-drop, append_assoc}
use Rattle.yd_ids.specs.declared.id.Id.{Id}
use Rattle.yd_words.specs.Member.{IsIn, AreDistinct}
use Rattle.yd_words.proofs.MemberLemmas.{in_left_part, in_right_part, in_parts}
use Rattle.yd_chains.specs.Chain.{put_behind}
use Rattle.yd_chains.proofs.ChainLemmas as chain
use Rattle.yd_ops.specs.Value.{RunValue, len_of}
use Rattle.yd_ops.specs.Operation.{Operation, operations_of_run, gone_from, gone_operation, later_id}
use Rattle.yd_ops.proofs.OperationLemmas.{later_later, later_none}
use Rattle.yd_ops.proofs.CutLemmas.{first-operations, other-operations}
use Rattle.yd_scan.specs.declared.stretch.Stretch.{Stretch}
use Rattle.yd_scan.specs.Stretches.{stretch_at, units_at}
use Rattle.yd_index.specs.Holding.{cut_stretches, front_of, rest_of}
use Rattle.yd_index.proofs.HoldingLemmas.{below_or_last}
use Rattle.yd_index.proofs.LinesLemmas.{eq_says}
use Rattle.yd_index.proofs.CuttingLemmas.{cut_len, cut_front, cut_rest, cut_other}
use Rattle.yd_arena.specs.Lists.{AreLists}
use Rattle.yd_arena.specs.Arena.{runs_of, count_of, places_in, CutsRun}
use Rattle.yd_arena.proofs.CutLemmas.{cuts_keep_rows, same_has_rows}
use Rattle.yd_arena.specs.Marks.{mark_at}
use Rattle.yd_arena.proofs.MarkLemmas.{cuts_keep_marks}
use Rattle.yd_arena.proofs.BorderLemmas.{cut_border}
use Rattle.yd_store.specs.Contents.{told_of, run_at, told_before, told_behind, cut_runs}
use Rattle.yd_store.specs.Store.{Stored, IsRunOf, AreTold, IsStore, IsKept}
use Rattle.yd_store.specs.Units.{operations_told, operations_at, operations_in, HasOperation, KeepsUnits}
use Rattle.yd_store.proofs.StoreLemmas.{told_front, told_rest, told_other}

-- ---- what stands at places, where one is parted in two

pub lists_same : (f g : ℕ → List Operation) (list : List ℕ) → ((j : ℕ) → IsIn j list → g j ≡ f j) → flat_map g list ≡ flat_map f list
lists_same f g [] same = refl
lists_same f g (x ∷ xs) same = ap₂ (λ us vs. us ++ vs) (same x (inl refl)) (lists_same f g xs (λ j h. same j (inr h)))

module _ (f g : ℕ → List Operation) (i m : ℕ) (parts : g i ++ g m ≡ f i) where
  list_with : (list : List ℕ) → ((j : ℕ) → IsIn j list → j ≢ i → g j ≡ f j) → AreDistinct list → IsIn i list → flat_map g (put_behind (Some i) m list) ≡ flat_map f list
  list_with [] same d h = absurd h
  list_with (x ∷ xs) same d h = elim (chain.same_place x i) [
    | inl t ↦ (let out : IsIn i xs → ⊥ = (λ n. d.0 (subst (λ j. IsIn j xs) (sym t.1) n)) in
        rw t.0 (
        ap (λ us. us ++ (g m ++ flat_map g xs)) (ap g t.1)
        ∙ sym (append_assoc (g i) (g m) (flat_map g xs))
        ∙ ap₂ (λ us vs. us ++ vs) (parts ∙ ap f (sym t.1)) (lists_same f g xs (λ j n. same j (inr n) (λ e. out (subst (λ k. IsIn k xs) e n))))))
    | inr t ↦ rw t.0 (
        ap₂ (λ us vs. us ++ vs) (same x (inl refl) t.1) (list_with xs (λ j n. same j (inr n)) d.1 (elim h [ inl e ↦ absurd (t.1 (sym e)) | inr n ↦ n ])))
  ]

-- ---- the operations of the parts of a run

gone_parts : (n m total : ℕ) (id : Id) → total ≡ n + m → gone_from id n ++ gone_from (later_id id n) m ≡ gone_from id total
gone_parts zero m total id e =
    let a : m ≡ total = omega (arith, e) in
    ap₂ gone_from (later_none id) a
gone_parts (suc n) m zero id e = absurd (omega (arith, e))
gone_parts (suc n) m (suc total) id e =
    let a : 1 + n ≡ suc n = omega arith in
    ap (λ os. gone_operation id ∷ os) (ap (λ x. gone_from (later_id id 1) n ++ gone_from x m) (ap (later_id id) (sym a) ∙ sym (later_later id 1 n)) ∙ gone_parts n m total (later_id id 1) (omega (arith, e)))

told_parts : (stretch : Stretch) (z : Option RunValue) (n : ℕ) → 0 < n → n < stretch.len → IfSome z (λ run. IsRunOf stretch run) →
    operations_told (front_of stretch n) (told_before n z) ++ operations_told (rest_of stretch n) (told_behind n z) ≡ operations_told stretch z
told_parts stretch None n some inside of = gone_parts n (stretch.len - n) stretch.len stretch.id (omega (arith, inside))
told_parts stretch (Some run) n some inside of =
    let within : n < len_of run.content = omega (arith, inside, of.len_is) in
    ap₂ (λ xs ys. xs ++ ys) (first-operations n run some within) (other-operations n run some within) ∙ take-append-drop n (operations_of_run run)

module _ (runs : List Stretch) (told : List (Option RunValue)) (are : AreTold runs told) (place n : ℕ) (within : place < length runs) (some : 0 < n) (inside : n < (stretch_at runs place).len) where
  abbrev now : ℕ → List Operation
  now = operations_at (cut_stretches runs place n) (cut_runs told place n)

  abbrev was : ℕ → List Operation
  was = operations_at runs told

  at_parts : now place ++ now (length runs) ≡ was place
  at_parts =
      ap₂ (λ xs ys. xs ++ ys)
      (ap₂ operations_told (cut_front runs place n within) (told_front runs told are place n within some inside))
      (ap₂ operations_told (cut_rest runs place n within) (told_rest runs told are place n within some inside))
      ∙ told_parts (stretch_at runs place) (run_at told place) n some inside (are.fits place within)

  at_other : (j : ℕ) → j < length runs → j ≢ place → now j ≡ was j
  at_other j lt ne = ap₂ operations_told (cut_other runs place n within j lt ne) (told_other runs told are place n within some inside j lt ne)

  -- what a place has after the cut, a place had before
  was_there : (o : Operation) (j : ℕ) → j < length runs + 1 → IsIn o (now j) → (k : ℕ) × (k < length runs) × IsIn o (was k)
  was_there o j lt h = elim (below_or_last j (length runs) lt) [
    | inl low ↦ elim (eq_says j place) [
      | inl y ↦ (place, within, subst (IsIn o) at_parts (in_left_part o (now place) (now (length runs)) (subst (λ k. IsIn o (now k)) y.1 h)))
      | inr y ↦ (j, low, subst (IsIn o) (at_other j low y.1) h)
    ]
    | inr e ↦ (place, within, subst (IsIn o) at_parts (in_right_part o (now place) (now (length runs)) (subst (λ k. IsIn o (now k)) e h)))
  ]

  -- and the other way round
  is_there : (o : Operation) (j : ℕ) → j < length runs → IsIn o (was j) → (k : ℕ) × (k < length runs + 1) × IsIn o (now k)
  is_there o j lt h = elim (eq_says j place) [
    | inl y ↦ elim (in_parts o (now place) (now (length runs)) (subst (IsIn o) (sym at_parts) (subst (λ k. IsIn o (was k)) y.1 h))) [
      | inl x ↦ (place, omega (arith, within), x)
      | inr x ↦ (length runs, omega arith, x)
    ]
    | inr y ↦ (j, omega (arith, lt), subst (IsIn o) (sym (at_other j lt y.1)) h)
  ]

-- ---- a cut of a store

module _ (old new : Stored) (store : IsStore old.placed old.marks old.contents) (lists : AreLists old.placed.linked) (place n : ℕ) (within : place < length (runs_of old.placed)) (some : 0 < n) (inside : n < (stretch_at (runs_of old.placed) place).len)
    (cuts : CutsRun old.placed new.placed place n) (rows : new.marks.rows ≡ old.marks.rows ++ mark_at old.marks.rows place ∷ []) (live : new.marks.live ≡ old.marks.live) (runs : told_of new.contents ≡ cut_runs (told_of old.contents) place n) where
  abbrev were : List Stretch
  were = runs_of old.placed

  abbrev is_now : ℕ → List Operation
  is_now = operations_at (cut_stretches were place n) (cut_runs (told_of old.contents) place n)

  abbrev was_then : ℕ → List Operation
  was_then = operations_at were (told_of old.contents)

  now_is : (list : List ℕ) → flat_map (operations_at (runs_of new.placed) (told_of new.contents)) list ≡ flat_map is_now list
  now_is list = ap₂ (λ (rs : List Stretch) (ts : List (Option RunValue)). flat_map (operations_at rs ts) list) cuts.runs runs

  len_is : length (runs_of new.placed) ≡ length were + 1
  len_is = ap length cuts.runs ∙ cut_len were place n within

  list_kept : (list : ℕ) → list < count_of old.placed → operations_in new list ≡ operations_in old list
  list_kept list lt =
      let at = places_in old.placed list in
      let pieces = at_parts were (told_of old.contents) store.told place n within some inside in
      let others = at_other were (told_of old.contents) store.told place n within some inside in
      now_is (places_in new.placed list)
      ∙ elim (chain.has_place place at) [
        | inl h ↦ ap (flat_map is_now) (cuts.lists.own list lt h)
            ∙ list_with was_then is_now place (length were) pieces at (λ j m ne. others j (lists.within list j lt m) ne) (lists.distinct list lt) h
        | inr h ↦ ap (flat_map is_now) (cuts.lists.others list lt h)
            ∙ lists_same was_then is_now at (λ j m. others j (lists.within list j lt m) (λ e. h (subst (λ k. IsIn k at) e m)))
      ]

  operations_back : (o : Operation) → HasOperation new o → HasOperation old o
  operations_back o h =
      let t = was_there were (told_of old.contents) store.told place n within some inside o h.place (omega (arith, h.within, len_is))
      (subst (λ (ts : List (Option RunValue)). IsIn o (operations_at (cut_stretches were place n) ts h.place)) runs (subst (λ (rs : List Stretch). IsIn o (operations_at rs (told_of new.contents) h.place)) cuts.runs h.member)) in
      record { place = t.0; within = t.1; member = t.2 }

  operations_on : (o : Operation) → HasOperation old o → HasOperation new o
  operations_on o h =
      let t = is_there were (told_of old.contents) store.told place n within some inside o h.place h.within h.member in
      record {
        place = t.0;
        within = omega (arith, t.1, len_is);
        member = subst (λ (rs : List Stretch). IsIn o (operations_at rs (told_of new.contents) t.0)) (sym cuts.runs)
            (subst (λ (ts : List (Option RunValue)). IsIn o (operations_at (cut_stretches were place n) ts t.0)) (sym runs) t.2);
      }

  pub cut_keeps : KeepsUnits old new
  cut_keeps = record {
    count = cuts.lists.count;
    lists = list_kept;
    units = cuts.units;
    rows = cuts_keep_rows old.placed new.placed place n lists within some (omega (arith, inside)) cuts;
    operations = λ o. (operations_back o, operations_on o);
    marks = λ id. rw (cuts.runs, rows) (cuts_keep_marks were old.marks.rows place n store.counted.each within (omega (arith, inside)) id);
    live = live;
    nexts = cuts.nexts;
    borders = λ client clock border. rw cuts.runs (cut_border were place n client clock within (omega (arith, inside)) border);
  }

-- ---- where only room changes

pub kept_keeps : (old new : Stored) → IsKept old new → KeepsUnits old new
kept_keeps old new kept = record {
  count = ap length kept.placed.lists;
  lists = λ list lt. (
      ap₂ (λ (rs : List Stretch) (ts : List (Option RunValue)). flat_map (operations_at rs ts) (places_in new.placed list)) kept.placed.runs kept.runs
      ∙ ap (λ (ls : List (List ℕ)). flat_map (operations_at (runs_of old.placed) (told_of old.contents)) (get_or ls list [])) kept.placed.lists);
  units = λ list lt. ap₂ (λ (rs : List Stretch) (ls : List (List ℕ)). units_at rs (get_or ls list [])) kept.placed.runs kept.placed.lists;
  rows = λ list lt. same_has_rows old.placed new.placed kept.placed list;
  operations = λ o. (
    (λ h. record { place = h.place; within = omega (arith, h.within, ap length kept.placed.runs); member = (rw (kept.placed.runs, kept.runs) at h.member) }),
    (λ h. record { place = h.place; within = omega (arith, h.within, ap length kept.placed.runs); member = rw (kept.placed.runs, kept.runs) h.member }),
  );
  marks = λ id. rw (kept.placed.runs, kept.rows) ((λ h. h), (λ h. h));
  live = kept.live;
  nexts = kept.placed.nexts;
  borders = λ client clock border. rw kept.placed.runs border;
}
