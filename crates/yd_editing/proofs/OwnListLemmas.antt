-- An edit of one text: its live units afterwards are those of the evolved list that no deletion names.
use Rattle.std.proofs.Common.{append-nil, ◌≡◌, Bool, true, false, not, ◌&&◌, List, [], ◌∷◌, Option, Some, None, inl, inr, refl, sym, ap, ◌∙◌, subst}
use Rattle.std.proofs.lemmas.Bool.{cases_Bool}
use Rattle.std.specs.Prelude.{IfSome, filter, if◌then◌else◌}
use Rattle.yd_words.specs.Each.{Each}
use Rattle.yd_words.specs.Test.{is_some_and}
use Rattle.yd_words.specs.Member.{IsIn, AreDistinct}
use Rattle.yd_words.proofs.FilterLemmas.{filter_alike}
use Rattle.yd_ids.specs.declared.id.Client.{Client}
use Rattle.yd_ids.specs.declared.id.Id.{Id}
use Rattle.yd_ids.specs.Set.{HasId}
use Rattle.yd_ops.specs.declared.lists.List.{List as DocList}
use Rattle.yd_ops.specs.Value.{ContentValue}
use Rattle.yd_ops.specs.Operation.{Operation, operations_of_run}
use Rattle.yd_ops.specs.Valid.{IsValidUpdate}
use Rattle.yd_ops.specs.Received.{has_operation, all_taken, Received}
use Rattle.yd_ops.proofs.ReceivedLemmas.{after_is_received}
use Rattle.yd_ops.proofs.OneOfLemmas.{operation_with, id_there, ids_stay}
use Rattle.yd_meaning.specs.ListNames.{same_list_decides}
use Rattle.yd_meaning.specs.Names.{item_of_list}
use Rattle.yd_meaning.specs.Held.{held_set, held_clock, standing, is_named}
use Rattle.yd_meaning.specs.Order.{order_of}
use Rattle.yd_meaning.specs.Deleted.{is_deleted}
use Rattle.yd_meaning.specs.Document.{document_of, document_with}
use Rattle.yd_meaning.specs.Text.{live_units}
use Rattle.yd_meaning.proofs.DocumentLemmas.{order_distinct}
use Rattle.yd_shown.specs.Shown.{is_counted}
use Rattle.yd_editing.specs.TextEdit.{counted_units}
use Rattle.yd_editing.proofs.IndexLemmas.{AreApart}
use Rattle.yd_editing.proofs.RefusalLemmas.{id_in_map}
use Rattle.yd_editing.specs.Step.{Step, make}
use Rattle.yd_editing.specs.Basis.{basis_of}
use Rattle.yd_editing.specs.Made.{update_of_edit, put_behind, run_of_step, removed_by}
use Rattle.yd_editing.specs.Refused.{refusal_of}
use Rattle.yd_editing.specs.Law.{after_edit, IsHonestHeld, units_of, StandAfter, MakesContent, made_by, evolved_by, EditIsTaken, EditIsHeld}
use Rattle.yd_editing.specs.TextLaw.{IsQuietText, MakesIn}
use Rattle.yd_editing.proofs.EditedListLemmas as edited
use Rattle.yd_editing.proofs.EditedListLemmas.{as_list, live_before}
use Rattle.yd_editing.proofs.LiveLemmas.{own_live}
use Rattle.yd_editing.proofs.UnitLemmas.{in_list, unit_ids, standing_is_table, held_id}
use Rattle.yd_editing.proofs.TakenLemmas.{honest_held}

module _ (client : Client) (r : Received) (name : DocList) (quiet : IsQuietText r name) (steps : List Step) (makes : Each MakesContent steps) (own : MakesIn name steps)
    (removed : (x : Id) → HasId (removed_by steps) x → IsIn x (order_of (standing (held_set r.operations)) name)) (done : refusal_of (basis_of client r) steps ≡ None) where
  abbrev held : List Operation
  held = held_set r.operations

  abbrev news : List Operation
  news = made_by client r steps

  abbrev r_after : Received
  r_after = after_edit client r steps

  abbrev new : List Operation
  new = held_set r_after.operations

  is : IsHonestHeld held
  is = honest_held r.operations quiet.received.written quiet.honest

  pub taken : EditIsTaken client r steps
  taken = edited.taken client r name (as_list r name quiet) steps makes own removed done

  pub is_held : EditIsHeld client r steps
  is_held = edited.is_held client r name (as_list r name quiet) steps makes own removed done

  moment : StandAfter held news (evolved_by client r steps)
  moment = edited.moment client r name (as_list r name quiet) steps makes own removed done

  live_after : is_some_and (is_deleted (all_taken news held) (is_named r_after.deletes)) (item_of_list name) ≡ false
  live_after = edited.live_after client r name (as_list r name quiet) steps makes own removed done

  -- ---- lemmas for callers

  -- the text stays quiet, where the update is valid
  pub quiet_after : IsValidUpdate (update_of_edit (basis_of client r) steps) → IsQuietText (after_edit client r steps) name
  quiet_after valid = record {
    received = after_is_received r (update_of_edit (basis_of client r) steps) quiet.received valid;
    whole = is_held.all_held.whole;
    deletes = λ x h. elim ((taken.deletes x).0 h) [
      | inl k ↦ let (o, i, e) = operation_with r.operations x (quiet.deletes x k) in id_there r_after.operations o x ((taken.members o).1 (inr i)) e
      | inr k ↦ let there : has_operation held x ≡ true = held_id held is x ((in_list held is name x).0 (removed x k)).0 in
          let (o, i, e) = operation_with held x there in id_there r_after.operations o x ((taken.members o).1 (inr (subst (λ os. IsIn o os) quiet.whole i))) e
    ];
    honest = (edited.new_is client r name (as_list r name quiet) steps makes own removed done).honest;
    no_key = quiet.no_key;
    live = go (item_of_list name) refl quiet.live live_after;
  }
    where
      go : (z : Option Id) → item_of_list name ≡ z → IfSome z (λ y. (has_operation held y ≡ true) × (is_deleted held (is_named r.deletes) y ≡ false)) →
          is_some_and (is_deleted (all_taken news held) (is_named r_after.deletes)) z ≡ false →
          IfSome z (λ y. (has_operation new y ≡ true) × (is_deleted new (is_named r_after.deletes) y ≡ false))
      go None e f g = tt
      go (Some y) e f g = (
        subst (λ os. has_operation os y ≡ true) (sym is_held.held) (ids_stay held (all_taken news held) y moment.all_stay f.0),
        subst (λ os. is_deleted os (is_named r_after.deletes) y ≡ false) (sym is_held.held) g,
      )

  live_new : live_units (document_with (all_taken news held) (is_named r_after.deletes)) name
      ≡ filter (λ o. not (is_named r_after.deletes o.id)) (units_of (all_taken news held) name)
  live_new = filter_alike (λ o. not ((document_with (all_taken news held) (is_named r_after.deletes)).deleted o.id)) (λ o. not (is_named r_after.deletes o.id))
      (units_of (all_taken news held) name)
      (λ o i. ap not (own_live (all_taken news held) moment.all_held (is_named r_after.deletes) name o i quiet.no_key live_after))

  pub live_evolved : live_units (document_of r_after) name ≡ filter (λ o. not (is_named r_after.deletes o.id)) (evolved_by client r steps name)
  live_evolved = ap (λ os. live_units (document_with os (is_named r_after.deletes)) name) is_held.held ∙ live_new
      ∙ ap (filter (λ o. not (is_named r_after.deletes o.id))) (moment.lists name)

-- ---- the live counted units

pub filter_filter : (f g : Operation → Bool) (os : List Operation) → filter g (filter f os) ≡ filter (λ o. f o && g o) os
filter_filter f g [] = refl
filter_filter f g (o ∷ os) = elim (cases_Bool (f o)) [
  | inl e ↦ elim (cases_Bool (g o)) [
    | inl h ↦ rw (e, h) (ap (λ ps. o ∷ ps) (filter_filter f g os))
    | inr h ↦ rw (e, h) (filter_filter f g os)
  ]
  | inr e ↦ rw e (filter_filter f g os)
]

-- whether a unit is counted, and no deletion names it
abbrev pub is_shown_by : (Id → Bool) → Operation → Bool
is_shown_by named o = not (named o.id) && is_counted o.content

module _ (client : Client) (r : Received) (name : DocList) (quiet : IsQuietText r name) (steps : List Step) (makes : Each MakesContent steps) (own : MakesIn name steps)
    (removed : (x : Id) → HasId (removed_by steps) x → IsIn x (order_of (standing (held_set r.operations)) name)) (done : refusal_of (basis_of client r) steps ≡ None) where
  pub counted_after : counted_units (document_of (after_edit client r steps)) name
      ≡ filter (is_shown_by (is_named (after_edit client r steps).deletes)) (evolved_by client r steps name)
  counted_after = ap (filter (λ o. is_counted o.content)) (live_evolved client r name quiet steps makes own removed done)
      ∙ filter_filter (λ o. not (is_named (after_edit client r steps).deletes o.id)) (λ o. is_counted o.content) (evolved_by client r steps name)

  -- what a new operation is: not named
  pub new_not_named : (o : Operation) → IsIn o (made_by client r steps) → is_named r.deletes o.id ≡ false
  new_not_named = edited.new_not_named client r name (as_list r name quiet) steps makes own removed done

-- the same before, of a quiet text
module _ (r : Received) (name : DocList) (quiet : IsQuietText r name) where
  pub live_named : live_units (document_of r) name ≡ filter (λ o. not (is_named r.deletes o.id)) ((document_of r).units name)
  live_named = filter_alike (λ o. not ((document_of r).deleted o.id)) (λ o. not (is_named r.deletes o.id)) (units_of (held_set r.operations) name)
      (λ o i. ap not (own_live (held_set r.operations) (honest_held r.operations quiet.received.written quiet.honest) (is_named r.deletes) name o i quiet.no_key
      (live_before r name (as_list r name quiet))))

  pub counted_named : counted_units (document_of r) name ≡ filter (is_shown_by (is_named r.deletes)) ((document_of r).units name)
  counted_named = ap (filter (λ o. is_counted o.content)) live_named
      ∙ filter_filter (λ o. not (is_named r.deletes o.id)) (λ o. is_counted o.content) ((document_of r).units name)

  pub units_apart : AreApart ((document_of r).units name)
  units_apart = subst (λ ids. AreDistinct ids) (sym (unit_ids (held_set r.operations) (honest_held r.operations quiet.received.written quiet.honest) name))
      (order_distinct (standing (held_set r.operations)) (standing_is_table (held_set r.operations) (honest_held r.operations quiet.received.written quiet.honest)) name)

  -- the units of the list are in its order
  pub unit_in_order : (o : Operation) → IsIn o ((document_of r).units name) → IsIn o.id (order_of (standing (held_set r.operations)) name)
  unit_in_order o i = subst (λ ids. IsIn o.id ids) (unit_ids (held_set r.operations) (honest_held r.operations quiet.received.written quiet.honest) name)
      (id_in_map ((document_of r).units name) o i)

-- ---- one made run in the list

pub own_evolves : (client : Client) (r : Received) (name : DocList) (after : Option Id) (content : ContentValue) →
    evolved_by client r (make name after content ∷ []) name ≡ put_behind after (made_by client r (make name after content ∷ [])) ((document_of r).units name)
own_evolves client r name after content = ap (λ t. if t then put_behind after news units else units) ((same_list_decides name name).1 refl)
    ∙ ap (λ os. put_behind after os units) (sym (append-nil news))
  where
    units : List Operation
    units = (document_of r).units name

    news : List Operation
    news = operations_of_run (run_of_step client (held_clock (held_set r.operations) client.0) (document_of r).units name after content)

-- the units of a quiet text are received
pub unit_received : (r : Received) (name : DocList) → IsQuietText r name → (o : Operation) → IsIn o ((document_of r).units name) → has_operation r.operations o.id ≡ true
unit_received r name quiet o i = subst (λ os. has_operation os o.id ≡ true) quiet.whole
    (held_id (held_set r.operations) is o.id ((in_list (held_set r.operations) is name o.id).0 (unit_in_order r name quiet o i)).0)
  where
    is : IsHonestHeld (held_set r.operations)
    is = honest_held r.operations quiet.received.written quiet.honest
