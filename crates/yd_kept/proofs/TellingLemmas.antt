-- The document that a filled store tells has grown lists.
use Rattle.std.proofs.Common.{◌≡◌, ℕ, zero, suc, ◌+◌, ◌<◌, true, false, List, [], ◌∷◌, ◌++◌, ◌⊎◌, inl, inr, Option, Some, None, map, length, refl, sym, ap, ap₂, ◌∙◌, subst, arith}
use Rattle.std.proofs.lemmas.Bool.{cases_Bool}
use Rattle.std.specs.Prelude.{◌↔◌, IfSome, slice_get, flat_map}
use Rattle.yd_words.specs.Member.{IsIn}
use Rattle.yd_words.proofs.MemberLemmas.{in_parts}
use Rattle.yd_ids.specs.declared.id.Id.{Id}
use Rattle.yd_ops.specs.declared.lists.List.{List as DocList}
use Rattle.yd_ops.specs.Operation.{UnitContent, Operation, later_id, units_of_content, operations_from, gone_from}
use Rattle.yd_ops.specs.Value.{RunValue}
use Rattle.yd_ops.proofs.OperationLemmas.{length-units_of_content}
use Rattle.yd_scan.specs.declared.stretch.Stretch.{Stretch}
use Rattle.yd_scan.specs.Stretches.{units_from, units_of, stretch_at, units_at}
use Rattle.yd_arena.specs.Arena.{runs_of, count_of, places_in, units_in}
use Rattle.yd_store.specs.Contents.{told_of, run_at}
use Rattle.yd_store.specs.Store.{Stored, IsRunOf}
use Rattle.yd_store.specs.Units.{operations_told, operations_at, operations_in, HasOperation}
use Rattle.yd_ops.specs.Received.{has_operation, IsWritten}
use Rattle.yd_meaning.specs.Names.{same_list}
use Rattle.yd_meaning.specs.ListNames.{same_list_decides}
use Rattle.yd_meaning.specs.Held.{standing}
use Rattle.yd_meaning.specs.Order.{list_of}
use Rattle.yd_meaning.specs.Document.{Document}
use Rattle.yd_meaning.proofs.StandingLemmas.{standing_one}
use Rattle.yd_meaning.specs.Grown.{table_in, IsGrown}
use Rattle.yd_meaning.specs.Own.{ids_in, HasGrownLists}
use Rattle.yd_kept.specs.Filling.{FillsLists, AreFilledLists}
use Rattle.yd_kept.specs.Telling.{IsSoundStore, ListsTellUnits, TellsLists, HasAllHeld, ListsAreGrown, FilledListsAreGrown}
use Rattle.yd_kept.proofs.FillingLemmas.{within_names, filling_ends}
use Rattle.yd_meaning.proofs.GrowthLemmas.{grown_distinct}

-- ---- the ids of operations

abbrev ids : List Operation → List Id
ids os = map (λ (o : Operation). o.id) os

ids-append : (os ps : List Operation) → ids (os ++ ps) ≡ ids os ++ ids ps
ids-append [] ps = refl
ids-append (o ∷ os) ps = ap (λ xs. o.id ∷ xs) (ids-append os ps)

ids-from : (us : List UnitContent) (id : Id) (left right : Option Id) (list : Option DocList) → ids (operations_from id left right list us) ≡ units_from id.client id.clock (length us)
ids-from [] id left right list = refl
ids-from (u ∷ us) id left right list = let e : id.clock + 1 ≡ suc id.clock = omega arith in
    ap (λ xs. id ∷ xs) (ids-from us (later_id id 1) (Some id) right None ∙ ap (λ c. units_from id.client c (length us)) e)

ids-gone : (n : ℕ) (id : Id) → ids (gone_from id n) ≡ units_from id.client id.clock n
ids-gone zero id = refl
ids-gone (suc n) id = let e : id.clock + 1 ≡ suc id.clock = omega arith in
    ap (λ xs. id ∷ xs) (ids-gone n (later_id id 1) ∙ ap (λ c. units_from id.client c n) e)

ids-told : (stretch : Stretch) (z : Option RunValue) → IfSome z (λ run. IsRunOf stretch run) → ids (operations_told stretch z) ≡ units_of stretch
ids-told stretch None of = ids-gone stretch.len stretch.id
ids-told stretch (Some run) of = ids-from (units_of_content run.content) run.id run.left run.right run.list
    ∙ ap (units_from run.id.client run.id.clock) (length-units_of_content run.content ∙ of.len_is)
    ∙ ap (λ (id : Id). units_from id.client id.clock stretch.len) of.id_is

module _ (it : Stored) (sound : IsSoundStore it) where
  abbrev at : ℕ → List Operation
  at = operations_at (runs_of it.placed) (told_of it.contents)

  ids-places : (places : List ℕ) → ((i : ℕ) → IsIn i places → i < length (runs_of it.placed)) → ids (flat_map at places) ≡ units_at (runs_of it.placed) places
  ids-places [] within = refl
  ids-places (p ∷ ps) within = ids-append (at p) (flat_map at ps)
      ∙ ap₂ (λ xs ys. xs ++ ys) (ids-told (stretch_at (runs_of it.placed) p) (run_at (told_of it.contents) p) (sound.told.fits p (within p (inl refl))))
      (ids-places ps (λ i m. within i (inr m)))

  -- ---- lemmas for callers

  pub ids_are_units : (list : ℕ) → list < count_of it.placed → ids (operations_in it list) ≡ units_in it.placed list
  ids_are_units list lt = ids-places (places_in it.placed list) (λ i m. sound.lists.within list i lt m)

  in_place : (o : Operation) (places : List ℕ) → IsIn o (flat_map at places) → (i : ℕ) × IsIn i places × IsIn o (at i)
  in_place o [] m = absurd m
  in_place o (p ∷ ps) m = elim (in_parts o (at p) (flat_map at ps) m) [
    | inl k ↦ (p, inl refl, k)
    | inr k ↦ let d = in_place o ps k in (d.0, inr d.1, d.2)
  ]

  -- an operation of a list is one of the store
  pub in_store : (list : ℕ) → list < count_of it.placed → (o : Operation) → IsIn o (operations_in it list) → HasOperation it o
  in_store list lt o m = let (i, k, there) = in_place o (places_in it.placed list) m in
      record { place = i; within = sound.lists.within list i lt k; member = there }

pub lists_tell_units : ListsTellUnits
lists_tell_units = ids_are_units

-- ---- names

-- a name has a number, or is none of the names
number_of : (names : List DocList) (name : DocList) → ((n : ℕ) × (slice_get names n ≡ Some name)) ⊎ (IsIn name names → ⊥)
number_of [] name = inr (λ i. i)
number_of (y ∷ ys) name = elim (cases_Bool (same_list y name)) [
  | inl e ↦ inl (zero, ap (λ (l : DocList). Some l) ((same_list_decides y name).0 e))
  | inr e ↦ elim (number_of ys name) [
    | inl found ↦ inl (suc found.0, found.1)
    | inr none ↦ inr (λ i. elim i [
      | inl same ↦ true_not_false (sym ((same_list_decides y name).1 (sym same)) ∙ e)
      | inr j ↦ none j
    ])
  ]
]
  where
    true_not_false : true ≡ false → ⊥
    true_not_false e = absurd cc

id_in : (os : List Operation) (o : Operation) → IsIn o os → IsIn o.id (ids os)
id_in [] o m = absurd m
id_in (p ∷ ps) o (inl e) = inl (ap (λ (q : Operation). q.id) e)
id_in (p ∷ ps) o (inr m) = inr (id_in ps o m)

-- ---- the document

module _ (held : List Operation) (w : IsWritten held) (names : List DocList) (it : Stored) (document : Document) (sound : IsSoundStore it)
    (fills : FillsLists held names it.placed) (has : HasAllHeld held it) (grown : ListsAreGrown held names it) (tells : TellsLists document names it) where
  filled : AreFilledLists held names it.placed
  filled = filling_ends held w names it.placed fills has.all

  -- what is asked of one list
  record IsGrownList (name : DocList) : Type 0 where
    each : (x : Id) → IsIn x (ids_in document name) ↔ (has_operation (standing held) x ≡ true) × (list_of (standing held) x ≡ name)
    as_held : (o : Operation) → IsIn o (document.units name) → IsIn o (standing held)
    by_scans : IsGrown (standing held) name (ids_in document name)

  one : (name : DocList) → IsGrownList name
  one name = elim (number_of names name) [
    | inl found ↦
        let n : ℕ = found.0 in
        let lt : n < count_of it.placed = omega (arith, within_names names n name found.1, fills.count) in
        let same : ids_in document name ≡ units_in it.placed n = ap ids (tells.named n name found.1) ∙ ids_are_units it sound n lt in
        let each : (x : Id) → IsIn x (ids_in document name) ↔ (has_operation (standing held) x ≡ true) × (list_of (standing held) x ≡ name) =
        (λ x. ((λ i. (filled.each n name found.1 x).0 (subst (IsIn x) same i)), (λ b. subst (IsIn x) (sym same) ((filled.each n name found.1 x).1 b)))) in
        record {
          each = each;
          as_held = λ o m. standing_one held w o (has.no_more o (in_store it sound n lt o (subst (IsIn o) (tells.named n name found.1) m)))
              ((each o.id).0 (id_in (document.units name) o m)).0;
          by_scans = subst (IsGrown (standing held) name) (sym same) (grown n name found.1);
        }
    | inr none ↦
        let empty : ids_in document name ≡ [] = ap ids (tells.others name none) in record {
          each = λ x. ((λ i. absurd (subst (IsIn x) empty i)), (λ b. absurd (none (subst (λ l. IsIn l names) b.1 (filled.others x b.0)))));
          as_held = λ o m. absurd (subst (IsIn o) (tells.others name none) m);
          by_scans = record { news = []; arranged = tt; grown = sym empty };
        }
  ]

  pub grown_lists : HasGrownLists document held
  grown_lists = record {
    each = λ name. (one name).each;
    once = λ name. grown_distinct (table_in (standing held) name) (ids_in document name) (one name).by_scans;
    as_held = λ name. (one name).as_held;
    grown = λ name. (one name).by_scans;
  }

pub filled_lists_are_grown : FilledListsAreGrown
filled_lists_are_grown = grown_lists
