-- What is lent of a list is its operations, with what the store has marked.
use Rattle.std.proofs.Common.{◌≡◌, ℕ, ◌-◌, ◌<◌, inl, inr, Bool, true, List, [], ◌∷◌, ◌++◌, map, length, refl, sym, ap, ap₂, ◌∙◌, true≢false}
use Rattle.std.proofs.lemmas.Bool.{cases_Bool}
use Rattle.std.proofs.lemmas.List.{map-append}
use Rattle.std.specs.Prelude.{◌↔◌, flat_map}
use Rattle.yd_words.specs.Member.{IsIn}
use Rattle.yd_ids.specs.declared.id.Id.{Id}
use Rattle.yd_ops.specs.Operation.{Operation}
use Rattle.yd_scan.specs.Stretches.{stretch_at}
use Rattle.yd_arena.specs.Arena.{runs_of, places_in, IsArena, HasUnit}
use Rattle.yd_arena.proofs.ArenaLemmas.{units_stand_once}
use Rattle.yd_arena.specs.Marks.{mark_at}
use Rattle.yd_store.specs.Contents.{told_of}
use Rattle.yd_store.specs.Store.{Stored, AreTold}
use Rattle.yd_store.specs.Units.{operations_at, HasOperation, HasMarked}
use Rattle.yd_store.proofs.HalvesLemmas.{has_unit}
use Rattle.yd_listing.specs.Lending.{Lent, lent, lent_at, ListsLendUnits}

lent_same : (deleted : Id → Bool) (os : List Operation) (mark : Bool) → ((o : Operation) → IsIn o os → deleted o.id ≡ mark) →
    map (lent mark) os ≡ map (λ (o : Operation). lent (deleted o.id) o) os
lent_same deleted [] mark same = refl
lent_same deleted (o ∷ os) mark same =
    ap₂ (λ (u : Lent) us. u ∷ us) (ap (λ b. lent b o) (sym (same o (inl refl)))) (lent_same deleted os mark (λ p i. same p (inr i)))

module _ (it : Stored) (arena : IsArena it.placed.lines (runs_of it.placed)) (told : AreTold (runs_of it.placed) (told_of it.contents))
    (deleted : Id → Bool) (decides : (id : Id) → (deleted id ≡ true) ↔ HasMarked it id) where
  abbrev at : ℕ → List Operation
  at = operations_at (runs_of it.placed) (told_of it.contents)

  abbrev mark : ℕ → Bool
  mark place = (mark_at it.marks.rows place).deleted

  marked : (place : ℕ) (o : Operation) → place < length (runs_of it.placed) → IsIn o (at place) → deleted o.id ≡ mark place
  marked place o within i =
      let h : HasOperation it o = record { place = place; within = within; member = i } in
      let n = o.id.clock - (stretch_at (runs_of it.placed) place).id.clock in
      let has : HasUnit (runs_of it.placed) place n o.id = has_unit it o told h in
      elim (cases_Bool (mark place)) [
        | inl e ↦ (decides o.id).1 (record { place = place; before = n; has = has; deleted = e }) ∙ sym e
        | inr e ↦ elim (cases_Bool (deleted o.id)) [
          | inr d ↦ d ∙ sym e
          | inl d ↦
              let k = (decides o.id).0 d in
              let one = units_stand_once it.placed.lines (runs_of it.placed) o.id k.place k.before place n arena k.has has in
              absurd (true≢false (sym k.deleted ∙ ap mark one.0 ∙ e))
        ]
      ]

  places_lent : (places : List ℕ) → ((i : ℕ) → IsIn i places → i < length (runs_of it.placed)) →
      flat_map (lent_at it) places ≡ map (λ (o : Operation). lent (deleted o.id) o) (flat_map at places)
  places_lent [] within = refl
  places_lent (p ∷ ps) within =
      ap₂ (λ (us vs : List Lent). us ++ vs) (lent_same deleted (at p) (mark p) (λ o i. marked p o (within p (inl refl)) i)) (places_lent ps (λ i m. within i (inr m)))
      ∙ sym (map-append (λ (o : Operation). lent (deleted o.id) o) (at p) (flat_map at ps))

pub lists_lend_units : ListsLendUnits
lists_lend_units = λ it arena lists told deleted decides list lt.
    places_lent it arena told deleted decides (places_in it.placed list) (λ i m. lists.within list i lt m)
