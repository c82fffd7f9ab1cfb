-- A run that is added and taken back leaves a store as it was.
use Rattle.std.proofs.Common.{◌≡◌, ℕ, ◌<◌, inl, inr, Bool, true, false, List, [], ◌∷◌, ◌++◌, refl, sym, ap, ap₂, ◌∙◌, subst, arith}
use Rattle.std.specs.Prelude.{filter, flat_map}
use Rattle.std.proofs.lemmas.List.{append_assoc}
use Rattle.yd_ids.specs.declared.id.Id.{Id}
use Rattle.yd_ids.specs.declared.id.Client.{Client}
use Rattle.yd_words.specs.Member.{IsIn}
use Rattle.yd_words.proofs.FilterLemmas.{filter-all}
use Rattle.yd_words.proofs.MemberLemmas.{in_left_part, in_right_part, in_parts}
use Rattle.yd_ops.specs.Value.{RunValue}
use Rattle.yd_ops.specs.Operation.{Operation, units_of_content, operations_of_run}
use Rattle.yd_index.proofs.LinesLemmas.{eq_says}
use Rattle.yd_arena.specs.Lists.{AreLists}
use Rattle.yd_arena.specs.Arena.{IsArena, runs_of, count_of, places_in, next_clock}
use Rattle.yd_arena.proofs.ArenaLemmas.{unit_below}
use Rattle.yd_store.specs.Contents.{told_of}
use Rattle.yd_store.specs.Store.{Stored, AreTold}
use Rattle.yd_store.specs.Units.{operations_at, operations_in, HasOperation, AddsUnits}
use Rattle.yd_store.specs.Taking.{is_left, IsLeft, TakesBack}
use Rattle.yd_store.specs.Law.{TakenBackIsAsBefore, IsAsBefore}
use Rattle.yd_store.proofs.LoweringLemmas.{from_among}
use Rattle.yd_store.proofs.TakingLemmas.{left_passes, left_fails, filter_none, filter_append, at_below, below_left}

-- what is of a list is of one of its places
of_places : (f : ℕ → List Operation) (places : List ℕ) (o : Operation) → IsIn o (flat_map f places) → (i : ℕ) × IsIn i places × IsIn o (f i)
of_places f [] o h = absurd h
of_places f (i ∷ is) o h = elim (in_parts o (f i) (flat_map f is) h) [
  | inl m ↦ (i, inl refl, m)
  | inr m ↦ (let r = of_places f is o m in (r.0, inr r.1, r.2))
]

module _ (old new back : Stored) (list : ℕ) (run : RunValue) (arena : IsArena old.placed.lines (runs_of old.placed)) (told : AreTold (runs_of old.placed) (told_of old.contents)) (lists : AreLists old.placed.linked)
    (lt : list < count_of old.placed) (at_next : run.id.clock ≡ next_clock old.placed run.id.client.0) (adds : AddsUnits old new list run) (takes : TakesBack new back run.id.client.0 run.id.clock) where
  abbrev client : ℕ
  client = run.id.client.0

  abbrev test : Operation → Bool
  test = is_left client run.id.clock

  old_left : (id : Id) → id.clock < next_clock old.placed id.client.0 → IsLeft client run.id.clock id
  old_left id below = subst (λ n. IsLeft client n id) (sym at_next) (below_left old client id below)

  listed_left : (k : ℕ) → k < count_of old.placed → (o : Operation) → IsIn o (operations_in old k) → test o ≡ true
  listed_left k kl o h =
      let r = of_places (operations_at (runs_of old.placed) (told_of old.contents)) (places_in old.placed k) o h in
      left_passes client run.id.clock o (old_left o.id (at_below old r.0 o arena told (lists.within k r.0 kl r.1) r.2))

  -- the run's own go
  own_go : (o : Operation) → IsIn o (operations_of_run run) → test o ≡ false
  own_go o h =
      let a = from_among run.id run.left run.right run.list (units_of_content run.content) o h in
      left_fails client run.id.clock o (λ l. elim l [ inl x ↦ x (ap (λ (c : Client). c.0) a.client) | inr x ↦ omega (arith, x, a.low) ])

  parts_left : (o : Operation) → IsIn o (adds.before ++ adds.behind) → test o ≡ true
  parts_left o h = listed_left list lt o (subst (IsIn o) (sym adds.parts) h)

  own_list : filter test (operations_in new list) ≡ operations_in old list
  own_list =
      let own = operations_of_run run in
      let front : filter test adds.before ≡ adds.before = filter-all test adds.before (λ o h. parts_left o (in_left_part o adds.before adds.behind h)) in
      let back : filter test adds.behind ≡ adds.behind = filter-all test adds.behind (λ o h. parts_left o (in_right_part o adds.before adds.behind h)) in
      let rest : filter test (own ++ adds.behind) ≡ adds.behind = filter_append test own adds.behind ∙ ap (λ os. os ++ filter test adds.behind) (filter_none test own own_go) ∙ back in
      let whole : filter test (adds.before ++ (own ++ adds.behind)) ≡ adds.before ++ adds.behind = filter_append test adds.before (own ++ adds.behind) ∙ ap₂ (λ os ps. os ++ ps) front rest in
      ap (filter test) (adds.list_is ∙ append_assoc adds.before own adds.behind) ∙ whole ∙ sym adds.parts

  list_back : (k : ℕ) → k < count_of old.placed → operations_in back k ≡ operations_in old k
  list_back k kl = takes.lists k (omega (arith, kl, adds.count)) ∙ elim (eq_says k list) [
    | inl y ↦ subst (λ j. filter test (operations_in new j) ≡ operations_in old j) (sym y.1) own_list
    | inr y ↦ ap (filter test) (adds.others k kl y.1) ∙ filter-all test (operations_in old k) (listed_left k kl)
  ]

  has_back : (o : Operation) → HasOperation back o → HasOperation old o
  has_back o h =
      let r = (takes.operations o).0 h in
      elim ((adds.operations o).0 r.0) [
        | inl x ↦ x
        | inr x ↦ (let a = from_among run.id run.left run.right run.list (units_of_content run.content) o x in
            absurd (elim r.1 [ inl y ↦ y (ap (λ (c : Client). c.0) a.client) | inr y ↦ omega (arith, y, a.low) ]))
      ]

  pub as_before : IsAsBefore old back
  as_before = record {
    count = takes.count ∙ adds.count;
    lists = list_back;
    operations = λ o. (has_back o, (λ h. (takes.operations o).1 ((adds.operations o).1 (inl h), old_left o.id (at_below old h.place o arena told h.within h.member))));
    marks = λ id. (
      (λ m. (adds.marks id).0 ((takes.marks id).0 m).0),
      (λ m. (takes.marks id).1 ((adds.marks id).1 m, old_left id (unit_below old.placed.lines (runs_of old.placed) arena.holds m.place m.before id m.has))),
    );
    nexts = λ k. elim (eq_says k client) [
      | inl y ↦ subst (λ j. next_clock back.placed j ≡ next_clock old.placed j) (sym y.1) (takes.next ∙ at_next)
      | inr y ↦ takes.other_nexts k y.1 ∙ adds.other_nexts k y.1
    ];
  }

pub taken_back_is_as_before : TakenBackIsAsBefore
taken_back_is_as_before = λ old new back list run arena told lists lt at_next adds takes. as_before old new back list run arena told lists lt at_next adds takes
