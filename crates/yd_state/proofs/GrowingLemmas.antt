-- Lists that grow by scans from one store to another, by their names.
use Rattle.std.proofs.Common.{ℕ, ◌≤◌, ◌≡◌, Bool, true, false, List, [], inl, inr, Some, length, ◌⊎◌, refl, sym, ap, ◌∙◌, subst, arith, true≢false}
use Rattle.std.specs.Prelude.{slice_get, map}
use Rattle.yd_words.specs.Member.{IsIn}
use Rattle.yd_words.proofs.OptionLemmas.{some_is}
use Rattle.yd_words.proofs.TestLemmas.{split}
use Rattle.yd_ops.specs.declared.lists.List.{List as DocList}
use Rattle.yd_ops.specs.Operation.{Operation}
use Rattle.yd_ops.specs.Received.{has_operation}
use Rattle.yd_ops.proofs.OneOfLemmas.{operation_with, id_is_there}
use Rattle.yd_origins.specs.Table.{OriginTable}
use Rattle.yd_origins.specs.Growing.{GrowsByScan}
use Rattle.yd_meaning.specs.Held.{standing}
use Rattle.yd_meaning.specs.Grown.{table_in}
use Rattle.yd_meaning.specs.Order.{list_of}
use Rattle.yd_meaning.specs.Own.{ids_in}
use Rattle.yd_meaning.proofs.GrownStayingLemmas.{stands_not_lost}
use Rattle.yd_arena.specs.Arena.{units_in}
use Rattle.yd_kept.specs.Telling.{IsSoundStore}
use Rattle.yd_kept.proofs.FillingLemmas.{slice_below, within_names}
use Rattle.yd_kept.specs.Kept.{KeptValue, IsFilled, FillsFurther}
use Rattle.yd_received.specs.Received.{held_of, listed_of}
use Rattle.yd_held.specs.Held.{HeldValue}
use Rattle.yd_held.specs.Turn.{LosesOne, TellsOrder}
use Rattle.yd_held.proofs.TryingLemmas.{got_in}
use Rattle.yd_listing.proofs.LawLemmas.{find_name}
use Rattle.yd_state.specs.State.{document_in}
use Rattle.yd_state.specs.Grown.{GrownValue, held_by, ids_of, seen_of, IsWhole}
use Rattle.yd_state.specs.Growing.{LosesNone, Grows}
use Rattle.yd_state.specs.Settling.{ListsGrow, GrowsThen}
use Rattle.yd_state.proofs.DocumentLemmas.{units_same, seen_sound}
use Rattle.yd_state.proofs.NamesLemmas.{has_lists}

module _ (k : HeldValue) (was it : KeptValue) (filled : IsFilled (held_of k.received) was) (further : FillsFurther (held_of k.received) was it)
    (sound : IsSoundStore it.store) (sound_was : IsSoundStore was.store) where
  module _ (list : DocList) where
    abbrev table : OriginTable
    table = table_in (standing (held_of k.received)) list

    -- a list whose number is new was not there
    none_before : (n : ℕ) → slice_get it.names n ≡ Some list → length was.names ≤ n → IsIn list was.names → ⊥
    none_before n e le i = elim (find_name was.names list) [
      | inl h ↦
          let lt = within_names was.names h.0 list h.1 in
          let same = further.fills.distinct h.0 n list (further.grows.kept h.0 list h.1) e in
          omega (arith, lt, same, le)
      | inr none ↦ none i
    ]

    -- it grew, under its number, from what it was or from nothing
    from_units : (n : ℕ) → slice_get it.names n ≡ Some list → GrowsByScan table (ids_of was list) (ids_of it list)
    from_units n e = subst (GrowsByScan table (ids_of was list)) (sym ((has_lists it further.fills.distinct sound further.fills.count).named n list e))
        (elim (split (length was.names) n) [
          | inl le ↦ subst (λ ids. GrowsByScan table ids (units_in it.store.placed n)) (sym ((has_lists was filled.distinct sound_was filled.count).others list (none_before n e le)))
              (further.grows.made n list e le)
          | inr lt ↦
              let (x, f) = slice_below was.names n lt in
              let g : slice_get was.names n ≡ Some list = f ∙ ap (λ (l : DocList). Some l) (some_is x list (sym (further.grows.kept n x f) ∙ e)) in
              subst (λ ids. GrowsByScan table ids (units_in it.store.placed n)) (sym ((has_lists was filled.distinct sound_was filled.count).named n list g)) (further.grows.grows n list g)
        ])

    -- a name that no list has has none before either
    from_none : (IsIn list it.names → ⊥) → GrowsByScan table (ids_of was list) (ids_of it list)
    from_none none = subst (GrowsByScan table (ids_of was list)) (sym ((has_lists it further.fills.distinct sound further.fills.count).others list none))
        (subst (λ ids. GrowsByScan table ids []) (sym ((has_lists was filled.distinct sound_was filled.count).others list (λ i. elim (find_name was.names list) [
          | inl h ↦ none (got_in it.names h.0 list (further.grows.kept h.0 list h.1))
          | inr never ↦ never i
        ]))) (record { news = []; arranged = tt; grown = refl }))

    grows_by_name : GrowsByScan table (ids_of was list) (ids_of it list)
    grows_by_name = elim (find_name it.names list) [ inl h ↦ from_units h.0 h.1 | inr none ↦ from_none none ]

-- each list grew, and so it did to another store that has the same lists
pub lists_grow : (k : HeldValue) (was it new : KeptValue) → IsFilled (held_of k.received) was → FillsFurther (held_of k.received) was it → IsSoundStore it.store →
    ((list : DocList) → ids_of new list ≡ ids_of it list) → ListsGrow k was new
lists_grow k was it new filled further sound same sound_was list =
    subst (GrowsByScan (table_in (standing (held_of k.received)) list) (ids_of was list)) (sym (same list))
    (grows_by_name k was it filled further sound sound_was list)

-- so the lists grew from one state to another, as contracts see them
pub grows_then : (old new : GrownValue) → IsWhole old → IsWhole new → (anew : Bool) → (anew ≡ true → LosesOne old.held new.held) → GrowsThen anew new.held old.kept new.kept →
    Grows (seen_of old) (seen_of new)
grows_then old new was now true loses grows none list =
    let one = loses refl in
    let up : has_operation (standing (held_by old)) one.unit.id ≡ true = subst (λ os. has_operation os one.unit.id ≡ true) was.holds.stands (id_is_there (listed_of old.held.received) one.unit one.was) in
    absurd (none (list_of (standing (held_by old)) one.unit.id) one.unit.id (((seen_sound old was).own.lists.each (list_of (standing (held_by old)) one.unit.id) one.unit.id).1 (up, refl)) one.lost)
grows_then old new was now false loses grows none list =
    let table : OriginTable = table_in (standing (held_by new)) list in
    subst (λ (os : List Operation). GrowsByScan table (map (λ (o : Operation). o.id) os) (ids_in (document_in (seen_of new)) list)) (sym (units_same old was list))
    (subst (λ (os : List Operation). GrowsByScan table (ids_of old.kept list) (map (λ (o : Operation). o.id) os)) (sym (units_same new now list)) (grows was.store list))

-- and no unit of them is lost, unless the update says less of something
pub loses_then : (old new : GrownValue) → IsWhole old → (X : Type 0) → (anew : Bool) (told order : List ℕ) → TellsOrder anew told order old.held new.held → (anew ≡ true → X) →
    LosesNone (seen_of old) (seen_of new) ⊎ X
loses_then old new was X true told order tells lowers = inr (lowers refl)
loses_then old new was X false told order tells lowers = inl (λ list x i lost.
    let (up, of) = ((seen_sound old was).own.lists.each list x).0 i in
    let (o, j, e) = operation_with (standing (held_by old)) x up in
    let (q, l, alike) = tells.stays.stands o j in
    let stands : has_operation (standing (held_by new)) x ≡ true = subst (λ y. has_operation (standing (held_by new)) y ≡ true) (alike.id ∙ e) (id_is_there (standing (held_by new)) q l) in
    true≢false (sym lost ∙ stands_not_lost (held_by new) x stands))
