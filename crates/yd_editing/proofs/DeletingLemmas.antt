-- What is deleted after an edit: what was, and in each list what is named, overwritten, or of a deleted parent.
use Rattle.std.proofs.Common.{◌≡◌, true, ◌&&◌, ◌||◌, not, List, map, Option, Some, None, inl, refl, sym, ap, ◌∙◌, subst}
use Rattle.yd_words.specs.Each.{Each}
use Rattle.yd_words.specs.Test.{is_some_and}
use Rattle.yd_words.specs.Member.{IsIn}
use Rattle.yd_words.proofs.TestLemmas.{both_hold, hold_both}
use Rattle.yd_ids.specs.declared.id.Client.{Client}
use Rattle.yd_ids.specs.declared.id.Id.{Id}
use Rattle.yd_ids.specs.Ids.{is_same_neighbour}
use Rattle.yd_ops.specs.declared.lists.List.{List as DocList}
use Rattle.yd_ops.specs.Operation.{Operation}
use Rattle.yd_origins.specs.Deleted.{last_of}
use Rattle.yd_ops.specs.Received.{has_operation, Received}
use Rattle.yd_ops.specs.ReceivedLaw.{IsReceived}
use Rattle.yd_ops.proofs.OneOfLemmas.{ids_stay}
use Rattle.yd_meaning.specs.Names.{has_key, item_of_list}
use Rattle.yd_meaning.specs.Held.{held_set, standing, is_named}
use Rattle.yd_meaning.specs.Order.{list_of, AreHonest}
use Rattle.yd_meaning.specs.Deleted.{is_overwritten, is_deleted, is_in_delete_set}
use Rattle.yd_meaning.specs.Document.{document_of}
use Rattle.yd_meaning.specs.Law.{StaysAsItIs}
use Rattle.yd_meaning.proofs.NestingLemmas.{standing_item}
use Rattle.yd_meaning.proofs.PartLemmas.{part_stays}
use Rattle.yd_editing.specs.Step.{Step}
use Rattle.yd_editing.specs.Basis.{basis_of}
use Rattle.yd_editing.specs.Refused.{refusal_of}
use Rattle.yd_editing.specs.Law.{after_edit, IsHonestHeld, units_of, MakesContent, evolved_by, EditIsTaken, EditIsHeld, EditDeletes}
use Rattle.yd_editing.proofs.NamedLemmas.{has_named, named_has}
use Rattle.yd_editing.proofs.UnitLemmas.{needs_there, in_list, unit_ids, held_id}
use Rattle.yd_editing.proofs.RefusalLemmas.{id_in_map}
use Rattle.yd_editing.proofs.TakenLemmas.{honest_held, edit_is_taken, edit_is_held}
use Rattle.yd_editing.proofs.LiveLemmas.{is_deleted_at}

module _ (client : Client) (r : Received) (steps : List Step) (received : IsReceived r) (all : held_set r.operations ≡ r.operations) (honest : AreHonest (held_set r.operations))
    (makes : Each MakesContent steps) (done : refusal_of (basis_of client r) steps ≡ None) where
  abbrev held : List Operation
  held = held_set r.operations

  abbrev r_after : Received
  r_after = after_edit client r steps

  abbrev new : List Operation
  new = held_set r_after.operations

  taken : EditIsTaken client r steps
  taken = edit_is_taken client r steps received makes done

  is_held : EditIsHeld client r steps
  is_held = edit_is_held client r steps received makes done all honest

  is : IsHonestHeld held
  is = honest_held r.operations received.written honest

  new_is : IsHonestHeld new
  new_is = subst (λ os. IsHonestHeld os) (sym is_held.all_held.whole) is_held.all_held

  there : (o : Operation) → IsIn o held → IsIn o new
  there o i = subst (λ os. IsIn o os) (sym is_held.held) ((taken.moment honest).all_stay o i)

  part : StaysAsItIs held new
  part = part_stays r_after.operations is_held.all_held.written held record { written = is.written; within = there; closed = needs_there held is }

  stay_deleted : (x : Id) → is_in_delete_set r x ≡ true → is_in_delete_set r_after x ≡ true
  stay_deleted x e = let b = both_hold (has_operation held x) (is_deleted held (is_named r.deletes) x) e in
      hold_both (has_operation new x) (is_deleted new (is_named r_after.deletes) x) (ids_stay held new x there b.0)
      (part.deletes new_is.honest (is_named r.deletes) (is_named r_after.deletes)
      (λ y f. has_named r_after.deletes y ((taken.deletes y).1 (inl (named_has r.deletes y f)))) x b.0 b.1)

  -- what is in a list stands, and is of the list
  in_new : (name : DocList) (o : Operation) → IsIn o (evolved_by client r steps name) → (has_operation (standing new) o.id ≡ true) × (list_of (standing new) o.id ≡ name)
  in_new name o i = (in_list new new_is name o.id).0 (subst (λ ids. IsIn o.id ids) (unit_ids new new_is name)
      (id_in_map (units_of new name) o (subst (λ os. IsIn o os) (sym (is_held.lists name)) i)))

  of_list : (name : DocList) (o : Operation) → IsIn o (evolved_by client r steps name) → is_deleted new (is_named r_after.deletes) o.id
      ≡ (is_named r_after.deletes o.id || ((has_key name && not (is_same_neighbour (last_of (map (λ (p : Operation). p.id) (evolved_by client r steps name))) (Some o.id)))
      || is_some_and (is_deleted new (is_named r_after.deletes)) (item_of_list name)))
  of_list name o i = is_deleted_at new new_is (is_named r_after.deletes) o.id (in_new name o i).0
      ∙ ap (λ list. is_named r_after.deletes o.id || (is_overwritten (standing new) list o.id
      || is_some_and (is_deleted new (is_named r_after.deletes)) (item_of_list list))) (in_new name o i).1
      ∙ ap (λ order. is_named r_after.deletes o.id || ((has_key name && not (is_same_neighbour (last_of order) (Some o.id)))
      || is_some_and (is_deleted new (is_named r_after.deletes)) (item_of_list name)))
      (sym (unit_ids new new_is name) ∙ ap (map (λ (p : Operation). p.id)) (is_held.lists name))

  -- the item of a list that has units is held, so the document says of it the same
  item_same : (name : DocList) (o : Operation) → IsIn o (evolved_by client r steps name) → (z : Option Id) → item_of_list name ≡ z →
      is_some_and (document_of r_after).deleted z ≡ is_some_and (is_deleted new (is_named r_after.deletes)) z
  item_same name o i None e = refl
  item_same name o i (Some y) e = ap (λ t. t && is_deleted new (is_named r_after.deletes) y)
      (held_id new new_is y (standing_item new new_is.written o.id y (in_new name o i).0 (ap item_of_list (in_new name o i).1 ∙ e)))

  unit_deleted : (name : DocList) (o : Operation) → IsIn o (evolved_by client r steps name) → (document_of r_after).deleted o.id
      ≡ (is_named r_after.deletes o.id || ((has_key name && not (is_same_neighbour (last_of (map (λ (p : Operation). p.id) (evolved_by client r steps name))) (Some o.id)))
      || is_some_and (document_of r_after).deleted (item_of_list name)))
  unit_deleted name o i = ap (λ t. t && is_deleted new (is_named r_after.deletes) o.id) (held_id new new_is o.id (in_new name o i).0)
      ∙ of_list name o i
      ∙ ap (λ t. is_named r_after.deletes o.id || ((has_key name && not (is_same_neighbour (last_of (map (λ (p : Operation). p.id) (evolved_by client r steps name)))
      (Some o.id))) || t))
      (sym (item_same name o i (item_of_list name) refl))

  -- ---- lemmas for callers

  pub edit_deletes : EditDeletes client r steps
  edit_deletes = record { stays = stay_deleted; of_units = unit_deleted }
