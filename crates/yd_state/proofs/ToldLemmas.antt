-- What a store with just what is held tells of its units: each is told, by a client's id, and so is the item of its list.
use Rattle.std.proofs.Common.{◌≡◌, ℕ, zero, suc, ◌<◌, ◌≤◌, true, false, List, [], ◌∷◌, inl, inr, Some, length, map, get_or, refl, sym, ap, ◌∙◌, subst, arith, true≢false}
use Rattle.std.specs.Prelude.{IfSome, is_some, nat_eq, slice_get}
use Rattle.yd_words.specs.Member.{IsIn}
use Rattle.yd_words.proofs.OptionLemmas.{if_some_each}
use Rattle.yd_words.proofs.TestLemmas.{split}
use Rattle.yd_ids.specs.declared.id.Id.{Id}
use Rattle.yd_ids.specs.Id.{IsClient, IsId}
use Rattle.yd_ops.specs.declared.lists.List.{List as DocList}
use Rattle.yd_ops.specs.Operation.{UnitContent, Operation, level_of}
use Rattle.yd_arena.specs.Arena.{count_of}
use Rattle.yd_scan.specs.Stretches.{units_at as units_at_places}
use Rattle.yd_store.specs.Units.{operations_in}
use Rattle.yd_listing.specs.Lending.{HasNoGone}
use Rattle.yd_ops.specs.Received.{has_operation}
use Rattle.yd_meaning.specs.Names.{item_of_list}
use Rattle.yd_meaning.specs.Held.{standing}
use Rattle.yd_meaning.specs.Order.{list_of}
use Rattle.yd_meaning.specs.Document.{Document}
use Rattle.yd_meaning.proofs.StandingLemmas.{standing_in, standing_one}
use Rattle.yd_meaning.specs.Own.{HasGrownLists}
use Rattle.yd_meaning.proofs.GrownStayingLemmas.{stands_held}
use Rattle.yd_kept.specs.Telling.{IsSoundStore}
use Rattle.yd_kept.proofs.FillingLemmas.{slice_below}
use Rattle.yd_kept.proofs.TellingLemmas.{in_store, lists_tell_units, filled_lists_are_grown}
use Rattle.yd_kept.specs.Kept.{KeptValue}
use Rattle.yd_entries.specs.Entries.{is_held}
use Rattle.yd_received.specs.Received.{held_of, listed_of}
use Rattle.yd_held.specs.Held.{HeldValue, HoldsAll}
use Rattle.yd_held.proofs.HeldEntryLemmas.{id_chosen}
use Rattle.yd_held.proofs.HeldUnitLemmas.{covers_less}
use Rattle.yd_held.proofs.KeptLemmas.{holds_holding}
use Rattle.yd_held.proofs.ListedLemmas.{numbered_id}
use Rattle.yd_held.proofs.NotedLemmas.{one_client}
use Rattle.yd_held.proofs.StandingLemmas.{number_listed}
use Rattle.yd_listing.specs.Falling.{units_of_list, IsTold}
use Rattle.yd_listing.proofs.LawLemmas.{find_name}
use Rattle.yd_state.specs.Placing.{KeepsIds, KeepsAll}
use Rattle.yd_state.specs.Telling.{EachIsHeld}
use Rattle.yd_state.proofs.EntryLemmas.{entry_taken}
use Rattle.yd_state.specs.Grown.{units_of}
use Rattle.yd_state.proofs.NamesLemmas.{units_at, units_none, has_lists}
use Rattle.yd_state.proofs.CameLemmas.{written, filled}

-- ---- numbers past the last

past : (lists : List (List ℕ)) (n : ℕ) → length lists ≤ n → get_or lists n [] ≡ []
past [] n le = refl
past (l ∷ ls) zero le = absurd (omega (arith, le))
past (l ∷ ls) (suc n) le = past ls n (omega (arith, le))

-- a unit is in a list that is there
pub in_some_list : (it : KeptValue) (n : ℕ) (x : Id) → IsIn x (units_of_list it n) → n < count_of it.store.placed
in_some_list it n x i = elim (split (count_of it.store.placed) n) [
  | inl le ↦ absurd (subst (λ ps. IsIn x (units_at_places it.store.placed.linked.stretches ps)) (past it.store.placed.linked.lists n le) i)
  | inr lt ↦ lt
]

id_in : (os : List Operation) (o : Operation) → IsIn o os → IsIn o.id (map (λ (p : Operation). p.id) os)
id_in [] o i = absurd i
id_in (p ∷ os) o (inl e) = inl (ap (λ (q : Operation). q.id) e)
id_in (p ∷ os) o (inr i) = inr (id_in os o i)

-- ---- the document

-- a document that tells the lists by their names has grown lists
pub lists_grown : (k : HeldValue) → HoldsAll k → (it : KeptValue) → KeepsAll (held_of k.received) it → IsSoundStore it.store → (document : Document) →
    ((list : DocList) → document.units list ≡ units_of it list) → HasGrownLists document (held_of k.received)
lists_grown k holds it keeps sound document same =
    filled_lists_are_grown (held_of k.received) (written k holds it keeps.ids) it.names it.store document sound keeps.ids.filled
    (record { all = keeps.ids.all; no_more = keeps.no_more }) keeps.ids.grown (record {
      named = λ n name e. same name ∙ units_at it keeps.ids.filled.distinct n name e;
      others = λ name none. same name ∙ units_none it keeps.ids.filled.distinct name none;
    })

-- so an operation of a list stands
pub list_stands : (k : HeldValue) → HoldsAll k → (it : KeptValue) → KeepsAll (held_of k.received) it → IsSoundStore it.store → (n : ℕ) → n < count_of it.store.placed →
    (o : Operation) → IsIn o (operations_in it.store n) → IsIn o (standing (held_of k.received))
list_stands k holds it keeps sound n lt o i =
    let (name, e) = slice_below it.names n (omega (arith, lt, keeps.ids.filled.count)) in
    (lists_grown k holds it keeps sound (record { units = units_of it; deleted = λ x. false; keys = λ parent. [] }) (λ list. refl)).as_held name o
    (subst (IsIn o) (sym (units_at it keeps.ids.filled.distinct n name e)) i)

module _ (k : HeldValue) (holds : HoldsAll k) (it : KeptValue) (keeps : KeepsIds (held_of k.received) it) (sound : IsSoundStore it.store) where
  abbrev held : List Operation
  held = held_of k.received

  -- a held id is an id
  id_of_held : (x : Id) → has_operation held x ≡ true → IsId x
  id_of_held x e =
      let (t, i, is, c) = id_chosen is_held k.received holds.in_order x e in
      let taken = entry_taken k holds t i in
      let (client, low, high) = covers_less t x c in record {
        client = subst IsClient (one_client t.id.client x.client client) taken.id.client;
        clock = omega (arith, high, taken.end);
      }

  unit_stands : (n : ℕ) (name : DocList) (x : Id) → slice_get it.names n ≡ Some name → IsIn x (units_of_list it n) →
      (has_operation (standing held) x ≡ true) × (list_of (standing held) x ≡ name)
  unit_stands n name x e i = ((filled k holds it keeps).each n name e x).0 i

  -- and so is the item of the list of what stands
  item_is_id : (n : ℕ) (name : DocList) (x : Id) → slice_get it.names n ≡ Some name → IsIn x (units_of_list it n) → IfSome (item_of_list name) IsId
  item_is_id n name x e i =
      let (up, of) = unit_stands n name x e i in
      let (m, number, got) = numbered_id k (holds_holding k holds) x (subst (λ os. has_operation os x ≡ true) (sym holds.stands) up) in
      let named : slice_get k.names m ≡ Some name = got ∙ ap (λ (l : DocList). Some l) (ap (λ os. list_of os x) holds.stands ∙ of) in
      if_some_each IsId (item_of_list name) (λ y item.
      let (j, lt, numbered) = holds.numbered.parents m name y named item in
      let listed : has_operation (listed_of k.received) y ≡ true = number_listed k (holds_holding k holds) y (ap is_some numbered) in
      id_of_held y (stands_held held (written k holds it keeps) y (subst (λ os. has_operation os y ≡ true) holds.stands listed)))

  -- ---- lemmas for callers

  -- a list that has a unit has a name
  pub unit_named : (list : DocList) (o : Operation) → IsIn o (units_of it list) → (n : ℕ) × (slice_get k.names n ≡ Some list)
  unit_named list o i = elim (find_name it.names list) [
    | inl h ↦
        let there : IsIn o.id (units_of_list it h.0) = subst (IsIn o.id) ((has_lists it keeps.filled.distinct sound keeps.filled.count).named h.0 list h.1) (id_in (units_of it list) o i) in
        let (up, of) = unit_stands h.0 list o.id h.1 there in
        let (m, number, got) = numbered_id k (holds_holding k holds) o.id (subst (λ os. has_operation os o.id ≡ true) (sym holds.stands) up) in
        (m, got ∙ ap (λ (l : DocList). Some l) (ap (λ os. list_of os o.id) holds.stands ∙ of))
    | inr none ↦ absurd (subst (IsIn o) (units_none it keeps.filled.distinct list none) i)
  ]

  module _ (left : Id → Type 0) (each : EachIsHeld k left it.store) where
    -- no operation of a list is gone
    told : (n : ℕ) → n < count_of it.store.placed → HasNoGone it.store n
    told n lt o i gone =
        let (name, e) = slice_below it.names n (omega (arith, lt, keeps.filled.count)) in
        let there : IsIn o.id (units_of_list it n) = subst (IsIn o.id) (lists_tell_units it.store sound n lt) (id_in (operations_in it.store n) o i) in
        let up = (unit_stands n name o.id e there).0 in
        let found = each o (in_store it.store sound n lt o i) in
        elim found.told.alike [
          | inl lost ↦
              let stands : IsIn found.held (standing held) = standing_one held (written k holds it keeps) found.held found.there (subst (λ x. has_operation (standing held) x ≡ true) (sym found.told.id) up) in
              true≢false (sym lost ∙ (standing_in held (written k holds it keeps) found.held stands).1)
          | inr both ↦ true≢false (sym (ap (λ (c : UnitContent). nat_eq (level_of c) 0) gone) ∙ both.0)
        ]

    pub is_told : IsTold it
    is_told = record {
      told = told;
      clients = λ n x lt i.
          let (name, e) = slice_below it.names n (omega (arith, lt, keeps.filled.count)) in
          (id_of_held x (stands_held held (written k holds it keeps) x (unit_stands n name x e i).0)).client;
      items = item_is_id;
    }
