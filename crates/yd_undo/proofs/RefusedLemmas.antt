-- An undo is refused for what it makes alone: the places where it makes something are there, and what it removes is held.
use Rattle.std.proofs.Common.{◌≡◌, ℕ, ◌+◌, ◌-◌, ◌<◌, ◌&&◌, not, Bool, true, false, List, [], ◌∷◌, map, nat_le, nat_lt, Option, Some, None, inl, inr, refl, sym, ◌∙◌, arith, tests, true≢false}
use Rattle.std.specs.Prelude.{if◌then◌else◌}
use Rattle.yd_words.specs.Each.{Each}
use Rattle.yd_words.specs.Member.{IsIn}
use Rattle.yd_ids.specs.declared.id.Id.{Id}
use Rattle.yd_ids.specs.declared.id.Span.{Span}
use Rattle.yd_ids.specs.Ids.{is_same, is_same_neighbour}
use Rattle.yd_ids.specs.Set.{HasId, AreMaximal}
use Rattle.yd_ids.specs.Span.{InSpan}
use Rattle.yd_ops.specs.declared.lists.List.{List as DocList}
use Rattle.yd_ops.specs.Operation.{Operation}
use Rattle.yd_ops.specs.Received.{has_operation}
use Rattle.yd_ops.proofs.OneOfLemmas.{id_is_there}
use Rattle.yd_origins.specs.Deleted.{last_of}
use Rattle.yd_meaning.specs.Names.{item_of_list, has_key}
use Rattle.yd_state.specs.Lent.{Lent, lent, last_unit}
use Rattle.yd_editing.specs.Refused.{first_of_steps, parent_refusal, after_refusal, place_refusal, removal_refusal, span_refusal, spans_refusal}
use Rattle.yd_editing.specs.Step.{Step, Refusal, first_or}
use Rattle.yd_editing.proofs.RefusalLemmas.{not_some}
use Rattle.yd_subsets.specs.Part.{part_that}
use Rattle.yd_subsets.proofs.PartLemmas.{part_ids, part_maximal}
use Rattle.yd_remaking.specs.Group.{units_from, group_from}
use Rattle.yd_remaking.specs.Last.{last_made}
use Rattle.yd_remaking.specs.Rows.{unit_before}
use Rattle.yd_undo.specs.Law.{UndosAreRefusedForMaking, making_refusal}
use Rattle.yd_undo.specs.Remade.{Seen, units_in, is_place, group_in, step_of_group, step_at_end, step_of_key, remade_steps}
use Rattle.yd_undo.specs.Steps.{is_live}
use Rattle.yd_undo.proofs.EachLemmas.{remade_each}

none_first : (a b : Option Refusal) → a ≡ None → first_or a b ≡ b
none_first None b e = refl
none_first (Some refusal) b e = absurd (not_some refusal e)

-- ---- places

there : (units : List Operation) (y : Id) → has_operation units y ≡ true → after_refusal units (Some y) ≡ None
there units y e = rw e refl

-- the unit before another is one of the list's
before_there : (units : List Operation) (deleted : Id → Bool) (x : Id) (before : Option Id) (os : List Operation) → after_refusal units before ≡ None →
    ((o : Operation) → IsIn o os → has_operation units o.id ≡ true) → after_refusal units (unit_before x before (map (lent deleted) os)) ≡ None
before_there units deleted x before [] is among = is
before_there units deleted x before (o ∷ os) is among =
    go (is_same o.id x) (before_there units deleted x (Some o.id) os (there units o.id (among o (inl refl))) (λ p i. among p (inr i)))
  where
    go : (t : Bool) → after_refusal units (unit_before x (Some o.id) (map (lent deleted) os)) ≡ None →
        after_refusal units (if t then before else unit_before x (Some o.id) (map (lent deleted) os)) ≡ None
    go true rest = is
    go false rest = rest

-- and so is the last one
last_there : (units os : List Operation) → ((o : Operation) → IsIn o os → has_operation units o.id ≡ true) →
    after_refusal units (last_of (map (λ (o : Operation). o.id) os)) ≡ None
last_there units [] among = refl
last_there units (o ∷ []) among = there units o.id (among o (inl refl))
last_there units (o ∷ p ∷ os) among = last_there units (p ∷ os) (λ q i. among q (inr i))

module _ (seen : Seen) where
  -- a step is refused neither for its place nor for what it removes
  abbrev IsPlaced : Step → Type 0
  IsPlaced step = (place_refusal seen.basis step ≡ None) × (removal_refusal seen.basis step ≡ None)

  parent_there : (name : DocList) → is_place seen name ≡ true → parent_refusal seen.basis (item_of_list name) ≡ None
  parent_there name e = go (item_of_list name) e
    where
      go : (item : Option Id) → elim item [ None ↦ true | Some y ↦ seen.basis.has_type y ] ≡ true → parent_refusal seen.basis item ≡ None
      go None f = refl
      go (Some y) f = rw f refl

  placed : (name : DocList) (after : Option Id) → is_place seen name ≡ true → after_refusal (seen.basis.document.units name) after ≡ None →
      first_or (parent_refusal seen.basis (item_of_list name)) (after_refusal (seen.basis.document.units name) after) ≡ None
  placed name after e f = none_first (parent_refusal seen.basis (item_of_list name)) (after_refusal (seen.basis.document.units name) after) (parent_there name e) ∙ f

  group_step : (name : DocList) (x : Id) (group : List Lent) → is_place seen name ≡ true → Each IsPlaced (step_of_group seen (Some name) x group)
  group_step name x [] e = tt
  group_step name x (u ∷ us) e = (
    (
      placed name (unit_before x None (units_in seen name)) e
          (before_there (seen.basis.document.units name) seen.basis.document.deleted x None (seen.basis.document.units name) refl (id_is_there (seen.basis.document.units name))),
      refl,
    ),
    tt,
  )

  end_step : (name : DocList) (group : List Lent) → is_place seen name ≡ true → Each IsPlaced (step_at_end name (last_unit seen.basis.document name) group)
  end_step name [] e = tt
  end_step name (u ∷ us) e = (
    (
      placed name (last_unit seen.basis.document name) e
          (last_there (seen.basis.document.units name) (seen.basis.document.units name) (id_is_there (seen.basis.document.units name))),
      refl,
    ),
    tt,
  )

  group_placed : (name : DocList) (x : Id) (most : ℕ) → Each IsPlaced (step_of_group seen (Some name) x (group_in seen (Some name) x most))
  group_placed name x most = go (has_key name) (is_place seen name) refl
    where
      go : (k p : Bool) → is_place seen name ≡ p → Each IsPlaced (step_of_group seen (Some name) x (if not k && p then group_from most (units_from x (units_in seen name)) else []))
      go true p e = tt
      go false false e = tt
      go false true e = group_step name x (group_from most (units_from x (units_in seen name))) e

  key_placed : (deleted : List Span) (name : DocList) (x : Id) → Each IsPlaced (step_of_key seen deleted (Some name) x)
  key_placed deleted name x = go (has_key name) (is_place seen name) refl (is_same_neighbour (Some x) (last_made deleted None (units_in seen name)))
    where
      go : (k p : Bool) → is_place seen name ≡ p → (l : Bool) →
          Each IsPlaced (if k && (p && l) then step_at_end name (last_unit seen.basis.document name) (group_from 1 (units_from x (units_in seen name))) else [])
      go false p e l = tt
      go true false e l = tt
      go true true e false = tt
      go true true e true = end_step name (group_from 1 (units_from x (units_in seen name))) e

  all_placed : (deleted : List Span) → Each IsPlaced (remade_steps seen deleted)
  all_placed deleted = remade_each IsPlaced seen group_placed key_placed deleted

  places_none : (steps : List Step) → Each IsPlaced steps → first_of_steps (place_refusal seen.basis) steps ≡ None
  places_none [] each = refl
  places_none (step ∷ steps) each = none_first (place_refusal seen.basis step) (first_of_steps (place_refusal seen.basis) steps) each.0.0 ∙ places_none steps each.1

  removals_none : (steps : List Step) → Each IsPlaced steps → first_of_steps (removal_refusal seen.basis) steps ≡ None
  removals_none [] each = refl
  removals_none (step ∷ steps) each = none_first (removal_refusal seen.basis step) (first_of_steps (removal_refusal seen.basis) steps) each.0.1 ∙ removals_none steps each.1

-- ---- removals

ends_below : (start len clock : ℕ) → 0 < len → start + (len - 1) < clock → nat_le (start + len) clock ≡ true
ends_below start len clock some lt = grind (arith, tests)

-- a span whose ids are all below the clocks is not refused
span_none : (vector : ℕ → ℕ) (span : Span) → 0 < span.len → ((x : Id) → InSpan span x → x.clock < vector x.client.0) → span_refusal vector span ≡ None
span_none vector span some below = rw (ends_below span.clock span.len (vector span.client.0) some (below (record { client = span.client; clock = span.clock + (span.len - 1) })
    (refl, omega (arith, some), omega (arith, some)))) refl

spans_none : (vector : ℕ → ℕ) (spans : List Span) → AreMaximal spans → ((x : Id) → HasId spans x → x.clock < vector x.client.0) → spans_refusal vector spans ≡ None
spans_none vector [] maximal below = refl
spans_none vector (span ∷ spans) maximal below =
    none_first (span_refusal vector span) (spans_refusal vector spans) (span_none vector span maximal.1 (λ x i. below x (inl i)))
    ∙ spans_none vector spans maximal.3 (λ x i. below x (inr i))

is_below : (clock end : ℕ) (deleted : Bool) → nat_lt clock end && not deleted ≡ true → clock < end
is_below clock end deleted e = go (nat_lt clock end) refl e
  where
    go : (t : Bool) → nat_lt clock end ≡ t → t && not deleted ≡ true → clock < end
    go true f g = grind (arith, tests)
    go false f g = absurd (true≢false (sym g))

-- ---- lemmas for callers

pub undo_refused : UndosAreRefusedForMaking
undo_refused seen e ranges =
    none_first (first_of_steps (place_refusal seen.basis) steps) (first_or (first_or (spans_refusal seen.basis.vector live) (first_of_steps (removal_refusal seen.basis) steps)) (making_refusal seen.basis steps))
    (places_none seen steps (all_placed seen e.deleted))
    ∙ none_first (first_or (spans_refusal seen.basis.vector live) (first_of_steps (removal_refusal seen.basis) steps)) (making_refusal seen.basis steps)
    (none_first (spans_refusal seen.basis.vector live) (first_of_steps (removal_refusal seen.basis) steps)
    (spans_none seen.basis.vector live (part_maximal (is_live seen) e.inserted ranges)
    (λ x i. is_below x.clock (seen.basis.vector x.client.0) (seen.basis.document.deleted x) ((part_ids (is_live seen) e.inserted x).0 i).1))
    ∙ removals_none seen steps (all_placed seen e.deleted))
  where
    steps : List Step
    steps = remade_steps seen e.deleted

    live : List Span
    live = part_that (is_live seen) e.inserted
