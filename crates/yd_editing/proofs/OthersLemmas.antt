-- An edit of one list: every other list stays, and where nothing is removed from a text nothing more is deleted.
use Rattle.std.proofs.Common.{◌≡◌, ◌≢◌, Bool, true, false, ◌&&◌, ◌||◌, not, List, map, Option, Some, None, inl, inr, refl, sym, ap, ◌∙◌, subst, true≢false}
use Rattle.std.proofs.lemmas.Bool.{cases_Bool}
use Rattle.yd_words.specs.Each.{Each}
use Rattle.yd_words.specs.Test.{is_some_and}
use Rattle.yd_words.specs.Member.{IsIn}
use Rattle.yd_words.proofs.TestLemmas.{hold_both}
use Rattle.yd_ids.specs.declared.id.Client.{Client}
use Rattle.yd_ids.specs.declared.id.Id.{Id}
use Rattle.yd_ids.specs.Set.{HasId}
use Rattle.yd_ids.specs.Ids.{is_same_neighbour}
use Rattle.yd_ops.specs.declared.lists.List.{List as DocList}
use Rattle.yd_ops.specs.Operation.{Operation}
use Rattle.yd_origins.specs.Deleted.{last_of}
use Rattle.yd_ops.specs.Received.{has_operation, Received}
use Rattle.yd_ops.proofs.OneOfLemmas.{operation_with, id_there, ids_stay}
use Rattle.yd_meaning.specs.Names.{has_key, item_of_list}
use Rattle.yd_meaning.specs.Held.{held_set, standing, is_named}
use Rattle.yd_meaning.specs.Order.{list_of, order_of}
use Rattle.yd_meaning.specs.Deleted.{is_deleted}
use Rattle.yd_meaning.specs.Document.{document_of}
use Rattle.yd_meaning.proofs.NestingLemmas.{standing_item}
use Rattle.yd_editing.specs.Step.{Step}
use Rattle.yd_editing.specs.Basis.{basis_of}
use Rattle.yd_editing.specs.Made.{removed_by}
use Rattle.yd_editing.specs.Refused.{refusal_of}
use Rattle.yd_editing.specs.Law.{after_edit, IsHonestHeld, units_of, MakesContent, made_by, evolved_by, EditDeletes}
use Rattle.yd_editing.specs.Others.{OtherListsStay}
use Rattle.yd_editing.specs.TextLaw.{IsQuietText, MakesIn}
use Rattle.yd_editing.proofs.DeletingLemmas.{edit_deletes}
use Rattle.yd_editing.proofs.EditedListLemmas as edited
use Rattle.yd_editing.proofs.EditedListLemmas.{IsQuietList, as_list, other_evolves}
use Rattle.yd_editing.proofs.LiveLemmas.{unit_deleted, own_live}
use Rattle.yd_editing.proofs.RefusalLemmas.{id_in_map}
use Rattle.yd_editing.proofs.TakenLemmas.{honest_held}
use Rattle.yd_editing.proofs.UnitLemmas.{in_list, unit_ids, held_id}

-- of a unit whose item stays deleted: it is deleted then where it was, or where the item is
deleted_with : (n o a b : Bool) → (a ≡ true → b ≡ true) → (n || (o || b)) ≡ ((n || (o || a)) || b)
deleted_with true o a b f = refl
deleted_with false true a b f = refl
deleted_with false false true b f = f refl
deleted_with false false false b f = refl

module _ (client : Client) (r : Received) (name : DocList) (quiet : IsQuietList r name) (steps : List Step) (makes : Each MakesContent steps) (own : MakesIn name steps)
    (removed : (x : Id) → HasId (removed_by steps) x → IsIn x (order_of (standing (held_set r.operations)) name)) (done : refusal_of (basis_of client r) steps ≡ None) where
  abbrev held : List Operation
  held = held_set r.operations

  abbrev r_after : Received
  r_after = after_edit client r steps

  is : IsHonestHeld held
  is = honest_held r.operations quiet.received.written quiet.honest

  deletes : EditDeletes client r steps
  deletes = edit_deletes client r steps quiet.received quiet.whole quiet.honest makes done

  -- of a unit of another list
  module _ (other : DocList) (differ : other ≢ name) (o : Operation) (i : IsIn o (units_of held other)) where
    -- the list is not evolved
    evolved_other : evolved_by client r steps other ≡ units_of held other
    evolved_other = other_evolves name other differ steps own client _ (units_of held)

    -- it stands, and is of the list
    at : (has_operation (standing held) o.id ≡ true) × (list_of (standing held) o.id ≡ other)
    at = (in_list held is other o.id).0 (subst (λ ids. IsIn o.id ids) (unit_ids held is other) (id_in_map (units_of held other) o i))

    -- the item of its list is deleted still
    item_stays : (z : Option Id) → item_of_list other ≡ z → is_some_and (is_deleted held (is_named r.deletes)) z ≡ true → is_some_and (document_of r_after).deleted z ≡ true
    item_stays None e f = f
    item_stays (Some y) e f = deletes.stays y (hold_both (has_operation held y) (is_deleted held (is_named r.deletes) y)
        (held_id held is y (standing_item held is.written o.id y at.0 (ap item_of_list at.1 ∙ e))) f)

    deleted_then : (document_of r_after).deleted o.id ≡ ((document_of r).deleted o.id || is_some_and (document_of r_after).deleted (item_of_list other))
    deleted_then = deletes.of_units other o (subst (λ os. IsIn o os) (sym evolved_other) i)
        ∙ ap (λ ids. is_named r_after.deletes o.id || ((has_key other && not (is_same_neighbour (last_of ids) (Some o.id)))
        || is_some_and (document_of r_after).deleted (item_of_list other))) (ap (map (λ (p : Operation). p.id)) evolved_other ∙ unit_ids held is other)
        ∙ ap (λ t. t || ((has_key other && not (is_same_neighbour (last_of (order_of (standing held) other)) (Some o.id)))
        || is_some_and (document_of r_after).deleted (item_of_list other)))
        (edited.same_named client r name quiet steps makes own removed done o.id at.0 (λ e. differ (sym at.1 ∙ e)))
        ∙ deleted_with (is_named r.deletes o.id) (has_key other && not (is_same_neighbour (last_of (order_of (standing held) other)) (Some o.id)))
        (is_some_and (is_deleted held (is_named r.deletes)) (item_of_list other)) (is_some_and (document_of r_after).deleted (item_of_list other))
        (item_stays (item_of_list other) refl)
        ∙ ap (λ t. t || is_some_and (document_of r_after).deleted (item_of_list other)) (sym (unit_deleted held is (is_named r.deletes) other o i))

  -- ---- lemmas for callers

  pub other_lists : OtherListsStay (document_of r) (document_of r_after) name
  other_lists = record {
    units = λ other differ. (edited.is_held client r name quiet steps makes own removed done).lists other ∙ other_evolves name other differ steps own client _ (units_of held);
    deleted = deleted_then;
  }

-- where nothing more is named, and all that is made stands in a text
module _ (client : Client) (r : Received) (name : DocList) (quiet : IsQuietText r name) (steps : List Step) (makes : Each MakesContent steps) (own : MakesIn name steps)
    (removed : (x : Id) → HasId (removed_by steps) x → IsIn x (order_of (standing (held_set r.operations)) name)) (done : refusal_of (basis_of client r) steps ≡ None)
    (same : (x : Id) → is_named (after_edit client r steps).deletes x ≡ is_named r.deletes x)
    (made_there : (o : Operation) → IsIn o (made_by client r steps) → IsIn o (evolved_by client r steps name)) where
  abbrev held_now : List Operation
  held_now = held_set r.operations

  abbrev held_then : List Operation
  held_then = held_set (after_edit client r steps).operations

  abbrev named_then : Id → Bool
  named_then = is_named (after_edit client r steps).deletes

  is_now : IsHonestHeld held_now
  is_now = honest_held r.operations quiet.received.written quiet.honest

  there : (x : Id) → has_operation held_now x ≡ true → has_operation held_then x ≡ true
  there x e = subst (λ os. has_operation os x ≡ true) (sym (edited.is_held client r name (as_list r name quiet) steps makes own removed done).held)
      (ids_stay held_now _ x (edited.moment client r name (as_list r name quiet) steps makes own removed done).all_stay e)

  -- what stood is deleted as before
  stood : (x : Id) → has_operation (standing held_now) x ≡ true → (document_of (after_edit client r steps)).deleted x ≡ (document_of r).deleted x
  stood x e = ap (λ t. t && is_deleted held_then named_then x) (there x (held_id held_now is_now x e))
      ∙ edited.stood_as_before client r name (as_list r name quiet) steps makes own removed done quiet.no_key same x e
      ∙ ap (λ t. t && is_deleted held_now (is_named r.deletes) x) (sym (held_id held_now is_now x e))

  -- what is lost was deleted, and is so still
  lost : (x : Id) → has_operation held_now x ≡ true → has_operation (standing held_now) x ≡ false → (document_of (after_edit client r steps)).deleted x ≡ (document_of r).deleted x
  lost x e none = (edit_deletes client r steps quiet.received quiet.whole quiet.honest makes done).stays x was ∙ sym was
    where
      was : (document_of r).deleted x ≡ true
      was = rw (e, none) refl

  -- what is made is live
  made_live : (o : Operation) → IsIn o (made_by client r steps) → (document_of (after_edit client r steps)).deleted o.id ≡ false
  made_live o i = own_live held_then (edited.new_is client r name (as_list r name quiet) steps makes own removed done) named_then name o
      (subst (λ os. IsIn o os) (sym ((edited.is_held client r name (as_list r name quiet) steps makes own removed done).lists name)) (made_there o i))
      quiet.no_key (edited.live_new client r name (as_list r name quiet) steps makes own removed done)
      ∙ same o.id ∙ edited.new_not_named client r name (as_list r name quiet) steps makes own removed done o i

  -- what was not held is not deleted
  not_held : (x : Id) → has_operation held_now x ≡ false → (document_of (after_edit client r steps)).deleted x ≡ false
  not_held x none = elim (cases_Bool (has_operation held_then x)) [
    | inr f ↦ ap (λ t. t && is_deleted held_then named_then x) f
    | inl f ↦ let (o, i, e) = operation_with held_then x f in subst (λ y. (document_of (after_edit client r steps)).deleted y ≡ false) e (elim
        ((edited.moment client r name (as_list r name quiet) steps makes own removed done).no_other o
        (subst (λ os. IsIn o os) (edited.is_held client r name (as_list r name quiet) steps makes own removed done).held i)) [
          | inl j ↦ made_live o j
          | inr j ↦ absurd (true≢false (sym (id_there held_now o x j e) ∙ none))
        ])
  ]

  -- ---- lemmas for callers

  pub deleted_same : (x : Id) → (document_of (after_edit client r steps)).deleted x ≡ (document_of r).deleted x
  deleted_same x = elim (cases_Bool (has_operation (standing held_now) x)) [
    | inl e ↦ stood x e
    | inr none ↦ elim (cases_Bool (has_operation held_now x)) [
      | inl e ↦ lost x e none
      | inr e ↦ not_held x e ∙ ap (λ t. t && is_deleted held_now (is_named r.deletes) x) (sym e)
    ]
  ]
