-- An undo removes just what its entry inserted: all other steps make something.
use Rattle.std.proofs.Common.{◌≡◌, Bool, true, false, List, [], ◌∷◌, Option, Some, inl, inr, refl, sym, subst}
use Rattle.std.specs.Prelude.{if◌then◌else◌}
use Rattle.yd_words.specs.Each.{Each}
use Rattle.yd_ids.specs.declared.id.Id.{Id}
use Rattle.yd_ids.specs.declared.id.Span.{Span}
use Rattle.yd_ids.specs.Set.{HasId, union_of}
use Rattle.yd_ids.proofs.UnionLemmas.{union_ids}
use Rattle.yd_ops.specs.declared.lists.List.{List as DocList}
use Rattle.yd_state.specs.Lent.{Lent, last_unit}
use Rattle.yd_editing.specs.Made.{removed_by}
use Rattle.yd_editing.specs.Step.{Step, make, remove}
use Rattle.yd_subsets.specs.Part.{part_that}
use Rattle.yd_subsets.proofs.PartLemmas.{part_ids}
use Rattle.yd_remaking.specs.Group.{units_from, group_from}
use Rattle.yd_undo.proofs.EachLemmas.{remade_each}
use Rattle.yd_undo.specs.Law.{UndoRemovesItsOwn}
use Rattle.yd_undo.specs.Remade.{Seen, units_in, is_made_in, group_in, step_of_group, step_at_end, step_of_key, remade_steps}
use Rattle.yd_undo.specs.Steps.{is_live}

-- a step makes something
abbrev pub Makes : Step → Type 0
Makes (make name after content) = Unit {0}
Makes (remove spans) = ⊥

removed_none : (steps : List Step) → Each Makes steps → removed_by steps ≡ []
removed_none [] each = refl
removed_none (make name after content ∷ steps) each = removed_none steps each.1
removed_none (remove spans ∷ steps) each = absurd each.0

group_makes : (seen : Seen) (name : DocList) (x : Id) (group : List Lent) → Each Makes (step_of_group seen (Some name) x group)
group_makes seen name x [] = tt
group_makes seen name x (u ∷ us) = (tt, tt)

end_makes : (name : DocList) (end : Option Id) (group : List Lent) → Each Makes (step_at_end name end group)
end_makes name end [] = tt
end_makes name end (u ∷ us) = (tt, tt)

key_makes : (seen : Seen) (deleted : List Span) (name : DocList) (x : Id) → Each Makes (step_of_key seen deleted (Some name) x)
key_makes seen deleted name x = go (is_made_in seen deleted name x)
  where
    go : (t : Bool) → Each Makes (if t then step_at_end name (last_unit seen.basis.document name) (group_from 1 (units_from x (units_in seen name))) else [])
    go true = end_makes name (last_unit seen.basis.document name) (group_from 1 (units_from x (units_in seen name)))
    go false = tt

-- ---- lemmas for callers

pub remade_removes : (seen : Seen) (deleted : List Span) → removed_by (remade_steps seen deleted) ≡ []
remade_removes seen deleted = removed_none (remade_steps seen deleted)
    (remade_each Makes seen (λ name x most. group_makes seen name x (group_in seen (Some name) x most)) (λ spans name x. key_makes seen spans name x) deleted)

pub undo_removes : UndoRemovesItsOwn
undo_removes seen e x = (
  (λ h. (part_ids (is_live seen) e.inserted x).0 (alone (subst (λ ss. HasId (union_of (part_that (is_live seen) e.inserted) ss) x) (remade_removes seen e.deleted) h))),
  (λ h. subst (λ ss. HasId (union_of (part_that (is_live seen) e.inserted) ss) x) (sym (remade_removes seen e.deleted))
      ((union_ids (part_that (is_live seen) e.inserted) [] x).1 (inl ((part_ids (is_live seen) e.inserted x).1 h)))),
)
  where
    alone : HasId (union_of (part_that (is_live seen) e.inserted) []) x → HasId (part_that (is_live seen) e.inserted) x
    alone h = elim ((union_ids (part_that (is_live seen) e.inserted) [] x).0 h) [ inl a ↦ a | inr k ↦ absurd k ]
