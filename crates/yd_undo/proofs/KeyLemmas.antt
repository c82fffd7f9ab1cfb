-- What is made again of ids in lists with a key, one by one; and all steps of an undo.
use Rattle.std.proofs.Common.{◌≡◌, ℕ, zero, suc, ◌+◌, ◌-◌, ◌<◌, ◌&&◌, not, Bool, true, false, List, [], ◌∷◌, ◌++◌, ◌↔◌, length, Option, Some, nat_lt, refl, sym, ap, ◌∙◌, subst, arith, tests, true≢false, append_assoc, append-nil}
use Rattle.std.specs.Prelude.{if◌then◌else◌}
use Rattle.std.proofs.lemmas.List.{map-append}
use Rattle.yd_ids.specs.declared.id.Id.{Id}
use Rattle.yd_ids.specs.declared.id.Span.{Span}
use Rattle.yd_ids.specs.Set.{HasId}
use Rattle.yd_ops.specs.declared.contents.Content.{Content}
use Rattle.yd_ops.specs.declared.lists.List.{List as DocList}
use Rattle.yd_ops.specs.Operation.{later_id}
use Rattle.yd_ops.specs.View.{content_value}
use Rattle.yd_state.specs.Lent.{Lent, last_unit}
use Rattle.yd_editing.specs.Step.{Step, make, remove}
use Rattle.yd_making.specs.declared.step.Step.{Step as StepGiven}
use Rattle.yd_making.specs.declared.step.Step.TheVariants.{Make, Remove}
use Rattle.yd_making.specs.Steps.{step_value, steps_value}
use Rattle.yd_subsets.specs.Part.{part_that}
use Rattle.yd_copying.specs.Content.{content_of}
use Rattle.yd_copying.specs.Piece.{pieces_units}
use Rattle.yd_remaking.specs.declared.finding.Group.{Group}
use Rattle.yd_remaking.specs.Group.{units_from, group_from}
use Rattle.yd_remaking.specs.Parts.{contents_of, IsFound}
use Rattle.yd_undo.specs.declared.entry.Entry.{Entry}
use Rattle.yd_undo.specs.Remade.{Seen, units_in, is_made_in, step_at_end, step_of_key, key_steps_from, steps_of_groups, steps_of_keys}
use Rattle.yd_undo.specs.Steps.{is_live, undo_steps}
use Rattle.yd_undo.proofs.RemadeLemmas.{some_found}

-- ---- one id

end_there : (name : DocList) (end : Option Id) (g : List Lent) → 0 < length g → step_at_end name end g ≡ make name end (content_of (contents_of g)) ∷ []
end_there name end [] some = absurd (omega (arith, some))
end_there name end (u ∷ us) some = refl

pub key_added : (seen : Seen) (deleted : List Span) (name list : DocList) (x : Id) (after : Option Id) (group : Group) (content : Content) (old new : List StepGiven) →
    is_made_in seen deleted name x ≡ true → IsFound (units_in seen name) x 1 group → content_value content ≡ content_of (pieces_units group.pieces.items) → list ≡ name →
    after ≡ last_unit seen.basis.document name → new ≡ old ++ Make list after content ∷ [] → steps_value new ≡ steps_value old ++ step_of_key seen deleted (Some name) x
key_added seen deleted name list x after group content old new made is held same last e = ap steps_value e ∙ map-append step_value old (Make list after content ∷ [])
    ∙ ap (λ ss. steps_value old ++ ss) ((λ i. make (same i) (last i) ((held ∙ ap content_of is.units) i) ∷ [])
    ∙ sym (end_there name (last_unit seen.basis.document name) g (some_found (units_in seen name) x 1 group is))
    ∙ ap (λ t. if t then step_at_end name (last_unit seen.basis.document name) g else []) (sym made))
  where
    g : List Lent
    g = group_from 1 (units_from x (units_in seen name))

-- where there is no group, no step is added
pub no_key_added : (seen : Seen) (deleted : List Span) (name : DocList) (x : Id) (old : List StepGiven) → is_made_in seen deleted name x ≡ true →
    group_from 1 (units_from x (units_in seen name)) ≡ [] → steps_value old ≡ steps_value old ++ step_of_key seen deleted (Some name) x
no_key_added seen deleted name x old made none = sym (append-nil (steps_value old))
    ∙ (λ i. steps_value old ++ (if sym made i then step_at_end name (last_unit seen.basis.document name) (sym none i) else []))

pub key_next : (seen : Seen) (deleted : List Span) (x : Id) (left : ℕ) (old new : List Step) → 0 < left → new ≡ old ++ step_of_key seen deleted (seen.list_of x) x →
    new ++ key_steps_from seen deleted (record { client = x.client; clock = x.clock + 1 }) (left - 1) ≡ old ++ key_steps_from seen deleted x left
key_next seen deleted x zero old new some e = absurd (omega (arith, some))
key_next seen deleted x (suc n) old new some e = (λ i. e i ++ key_steps_from seen deleted (later_id x 1) (one i))
    ∙ append_assoc old (step_of_key seen deleted (seen.list_of x) x) (key_steps_from seen deleted (later_id x 1) n)
  where
    one : suc n - 1 ≡ n
    one = omega arith

-- ---- what is live

pub live_ids : (seen : Seen) (ids held deletes live : List Span) (clocks : ℕ → ℕ) → ((client : ℕ) → clocks client ≡ seen.basis.vector client) →
    ((x : Id) → HasId deletes x ↔ (seen.basis.document.deleted x ≡ true)) → ((x : Id) → HasId held x ↔ (HasId ids x × (x.clock < clocks x.client.0))) →
    ((x : Id) → HasId live x ↔ (HasId held x × (HasId deletes x → ⊥))) → (x : Id) → HasId live x ↔ (HasId ids x × (is_live seen x ≡ true))
live_ids seen ids held deletes live clocks same are below rest x = (
  (λ h. let (a, b) = (rest x).0 h in let (i, lt) = (below x).0 a in (i, there (subst (λ n. x.clock < n) (same x.client.0) lt) (λ d. b ((are x).1 d)))),
  (λ h. let (lt, d) = back h.1 in (rest x).1 ((below x).1 (h.0, subst (λ n. x.clock < n) (sym (same x.client.0)) lt), (λ k. true≢false (sym ((are x).0 k) ∙ d)))),
)
  where
    there : x.clock < seen.basis.vector x.client.0 → (seen.basis.document.deleted x ≡ true → ⊥) → is_live seen x ≡ true
    there lt alive = go (nat_lt x.clock (seen.basis.vector x.client.0)) refl (seen.basis.document.deleted x) refl
      where
        go : (t : Bool) → nat_lt x.clock (seen.basis.vector x.client.0) ≡ t → (d : Bool) → seen.basis.document.deleted x ≡ d → (t && not d) ≡ true
        go true e true f = absurd (alive f)
        go true e false f = refl
        go false e d f = absurd (grind (arith, tests))

    back : is_live seen x ≡ true → (x.clock < seen.basis.vector x.client.0) × (seen.basis.document.deleted x ≡ false)
    back live = go (nat_lt x.clock (seen.basis.vector x.client.0)) refl (seen.basis.document.deleted x) refl live
      where
        go : (t : Bool) → nat_lt x.clock (seen.basis.vector x.client.0) ≡ t → (d : Bool) → seen.basis.document.deleted x ≡ d → (t && not d) ≡ true →
            (x.clock < seen.basis.vector x.client.0) × (seen.basis.document.deleted x ≡ false)
        go true e false f g = (let lt : x.clock < seen.basis.vector x.client.0 = grind (arith, tests) in lt, f)
        go true e true f g = absurd (true≢false (sym g))
        go false e d f g = absurd (true≢false (sym g))

-- ---- all steps

pub all_steps : (seen : Seen) (e : Entry) (live : List Span) (none removed grouped all : List StepGiven) → none ≡ [] → removed ≡ none ++ Remove live ∷ [] →
    live ≡ part_that (is_live seen) e.inserted → steps_value grouped ≡ steps_value removed ++ steps_of_groups seen e.deleted →
    steps_value all ≡ steps_value grouped ++ steps_of_keys seen e.deleted e.deleted → steps_value all ≡ undo_steps seen e
all_steps seen e live none removed grouped all n r is g k = k ∙ ap (λ ss. ss ++ steps_of_keys seen e.deleted e.deleted)
    (g ∙ ap (λ ss. ss ++ steps_of_groups seen e.deleted) (ap steps_value (r ∙ ap (λ ss. ss ++ Remove live ∷ []) n) ∙ ap (λ spans. remove spans ∷ []) is))
