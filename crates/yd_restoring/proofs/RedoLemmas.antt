-- What is left by the undo of an entry of a text: its own entry is of the text too, and what this one would show is what was shown.
use Rattle.std.proofs.Common.{◌≡◌, ◌≢◌, ℕ, ◌<◌, ◌≤◌, ◌&&◌, ◌||◌, not, Bool, true, false, List, [], ◌∷◌, ◌++◌, map, ◌⊎◌, Option, Some, None, inl, inr, refl, sym, ap, ap₂, ◌∙◌, subst, arith, true≢false}
use Rattle.std.proofs.lemmas.Bool.{false_from_ne_true}
use Rattle.std.proofs.lemmas.List.Elements.{filter-append}
use Rattle.std.specs.Prelude.{filter, IfSome, if◌then◌else◌}
use Rattle.yd_words.specs.Each.{Each}
use Rattle.yd_words.specs.Member.{IsIn}
use Rattle.yd_words.proofs.FilterLemmas.{filter_alike, one_kept}
use Rattle.yd_words.proofs.MemberLemmas.{in_right_part}
use Rattle.yd_ids.specs.declared.id.Client.{Client}
use Rattle.yd_ids.specs.declared.id.Id.{Id}
use Rattle.yd_ids.specs.declared.id.Span.{Span}
use Rattle.yd_ids.specs.Set.{HasId}
use Rattle.yd_ids.proofs.SetOfLemmas.{maximal_spans, set_of_ids}
use Rattle.yd_ops.specs.declared.lists.List.{List as DocList}
use Rattle.yd_ops.specs.Operation.{Operation}
use Rattle.yd_ops.specs.Valid.{IsValidUpdate}
use Rattle.yd_ops.specs.Value.{UpdateValue}
use Rattle.yd_ops.specs.Received.{has_operation, all_taken, Received}
use Rattle.yd_ops.proofs.OneOfLemmas.{operation_with, id_is_there, id_there}
use Rattle.yd_meaning.specs.Document.{document_of}
use Rattle.yd_meaning.specs.Held.{held_set, held_clock, standing, is_named}
use Rattle.yd_meaning.specs.ListNames.{same_list_decides}
use Rattle.yd_meaning.specs.Names.{item_of_list, same_list}
use Rattle.yd_meaning.specs.Order.{list_of, order_of}
use Rattle.yd_meaning.specs.Text.{live_units}
use Rattle.yd_meaning.proofs.RowLemmas.{written_distinct, one_operation}
use Rattle.yd_meaning.proofs.StandingLemmas.{standing_in}
use Rattle.yd_subsets.proofs.PartLemmas.{part_maximal, part_ids}
use Rattle.yd_copying.specs.Content.{can_be_made}
use Rattle.yd_editing.specs.Basis.{basis_of, is_type, has_type_item}
use Rattle.yd_editing.specs.Law.{IsHonestHeld, units_of, StandAfter, after_edit, MakesContent, made_by, evolved_by, EditIsHeld}
use Rattle.yd_editing.specs.Made.{update_of_edit, removed_by, runs_on}
use Rattle.yd_editing.specs.Refused.{refusal_of}
use Rattle.yd_editing.specs.Step.{Step}
use Rattle.yd_editing.specs.TextLaw.{IsQuietText}
use Rattle.yd_editing.proofs.AroundLemmas.{SplitAt, split_at}
use Rattle.yd_editing.proofs.EditedListLemmas as edited
use Rattle.yd_editing.proofs.EditedListLemmas.{as_list, live_before, other_evolves}
use Rattle.yd_editing.proofs.LiveLemmas.{own_live}
use Rattle.yd_editing.proofs.NamedLemmas.{has_named, named_has}
use Rattle.yd_editing.proofs.OwnListLemmas.{quiet_after, unit_received}
use Rattle.yd_editing.proofs.RefusalLemmas.{id_in_map}
use Rattle.yd_editing.proofs.TakenLemmas.{honest_held}
use Rattle.yd_editing.proofs.UnitLemmas.{in_list, unit_ids, units_stand, held_id}
use Rattle.yd_undo.specs.declared.entry.Entry.{Entry}
use Rattle.yd_undo.specs.Entry.{structs_ids, blocks_ids, undo_entry}
use Rattle.yd_undo.specs.Steps.{undo_steps}
use Rattle.yd_restoring.specs.Again.{contents}
use Rattle.yd_restoring.specs.Law.{IsOfText, shows_again}
use Rattle.yd_restoring.proofs.BeforeLemmas.{with_before}
use Rattle.yd_restoring.proofs.MadeLemmas.{items, structs_within, runs_have, blocks_are}
use Rattle.yd_restoring.proofs.PutLemmas.{Grown}
use Rattle.yd_restoring.proofs.ShowsLemmas as shows
use Rattle.yd_restoring.proofs.ShowsLemmas.{seen_in}
use Rattle.yd_restoring.proofs.TypeLemmas.{type_with, all_types}

-- ---- lists with others before some units

in_with : (f : Id → List Operation) (os : List Operation) (o : Operation) → IsIn o os → IsIn o (with_before f os)
in_with f (p ∷ os) o (inl e) = in_right_part o (f p.id) (p ∷ with_before f os) (inl e)
in_with f (p ∷ os) o (inr i) = in_right_part o (f p.id) (p ∷ with_before f os) (inr (in_with f os o i))
in_with f [] o i = absurd i

none_pass : (test : Operation → Bool) (os : List Operation) → ((o : Operation) → IsIn o os → test o ≡ false) → filter test os ≡ []
none_pass test [] f = refl
none_pass test (o ∷ os) f = rw (f o (inl refl)) (none_pass test os (λ p i. f p (inr i)))

-- a test that none of the others passes
filter_with : (test : Operation → Bool) (f : Id → List Operation) (os : List Operation) → ((y : Id) (o : Operation) → IsIn o (f y) → IsIn o (with_before f os) → test o ≡ false) →
    filter test (with_before f os) ≡ filter test os
filter_with test f [] none = refl
filter_with test f (o ∷ os) none = filter-append test (f o.id) (o ∷ with_before f os)
    ∙ ap₂ (λ xs ys. xs ++ ys) (none_pass test (f o.id) (λ p i. none o.id p i (in_left p i)))
    (ap (λ ps. if test o then o ∷ ps else ps) (filter_with test f os (λ y p i j. none y p i (in_right_part p (f o.id) (o ∷ with_before f os) (inr j)))))
  where
    in_left : (p : Operation) → IsIn p (f o.id) → IsIn p (f o.id ++ (o ∷ with_before f os))
    in_left p i = go (f o.id) i
      where
        go : (ps : List Operation) → IsIn p ps → IsIn p (ps ++ (o ∷ with_before f os))
        go [] j = absurd j
        go (q ∷ ps) (inl e) = inl e
        go (q ∷ ps) (inr j) = inr (go ps j)

-- ---- the entry of an undo

module _ (client : Client) (r : Received) (name : DocList) (quiet : IsQuietText r name) (e : Entry) (of : IsOfText r name e)
    (makes : Each MakesContent (undo_steps (seen_in client r) e)) (done : refusal_of (basis_of client r) (undo_steps (seen_in client r) e) ≡ None)
    (valid : IsValidUpdate (update_of_edit (basis_of client r) (undo_steps (seen_in client r) e))) (noted : List Span)
    (dead : (x : Id) → HasId noted x → HasId r.deletes x)
    (no_types : (o : Operation) → IsIn o (live_units (document_of r) name) → HasId e.inserted o.id → can_be_made o.content ≡ true) where
  abbrev steps : List Step
  steps = undo_steps (seen_in client r) e

  abbrev update : UpdateValue
  update = update_of_edit (basis_of client r) (undo_steps (seen_in client r) e)

  abbrev r_after : Received
  r_after = after_edit client r (undo_steps (seen_in client r) e)

  abbrev again : Entry
  again = undo_entry noted (update_of_edit (basis_of client r) (undo_steps (seen_in client r) e))

  abbrev held : List Operation
  held = held_set r.operations

  abbrev held_then : List Operation
  held_then = held_set (after_edit client r (undo_steps (seen_in client r) e)).operations

  abbrev units : List Operation
  units = (document_of r).units name

  abbrev units_then : List Operation
  units_then = (document_of (after_edit client r (undo_steps (seen_in client r) e))).units name

  abbrev start : ℕ
  start = held_clock (held_set r.operations) client.0

  pub quiet_then : IsQuietText r_after name
  quiet_then = quiet_after client r name quiet steps makes (shows.own client r name quiet e of makes done) (shows.removed client r name quiet e of makes done) done valid

  is : IsHonestHeld held
  is = honest_held r.operations quiet.received.written quiet.honest

  then_is : IsHonestHeld held_then
  then_is = honest_held r_after.operations quiet_then.received.written quiet_then.honest

  stands : EditIsHeld client r steps
  stands = shows.held_after client r name quiet e of makes done

  moment : StandAfter held (made_by client r steps) (evolved_by client r steps)
  moment = edited.moment client r name (as_list r name quiet) steps makes (shows.own client r name quiet e of makes done) (shows.removed client r name quiet e of makes done) done

  grown : Grown client start (λ y. false) units ((shows.loop client r name quiet e of makes done).lists_then name)
  grown = (shows.loop client r name quiet e of makes done).grown

  then_parts : units_then ≡ with_before grown.before units
  then_parts = stands.lists name ∙ shows.evolved_is client r name quiet e of makes done ∙ grown.is

  -- what is of the client and not below its clock was not received before
  not_before : (x : Id) → client.0 ≡ x.client.0 → start ≤ x.clock → has_operation r.operations x ≡ true → ⊥
  not_before x c le h = never (subst (λ n. x.clock < held_clock held n) (sym c) ((shows.is_below client r name quiet e of makes done x).0 h))
    where
      never : x.clock < start → ⊥
      never lt = absurd (omega (arith, lt, le))

  -- an operation that is there then was made, or was received before
  made_or_before : (o : Operation) → IsIn o held_then → IsIn o (made_by client r steps) ⊎ IsIn o r.operations
  made_or_before o i = ((shows.edit client r name quiet e of makes done).members o).0 (subst (λ os. IsIn o os) quiet_then.whole i)

  unit_then_held : (o : Operation) → IsIn o units_then → IsIn o held_then
  unit_then_held o i = (standing_in held_then then_is.written o (units_stand held_then then_is name o i)).0

  -- a unit of the list stays there
  unit_stays : (x : Id) → IsIn x (order_of (standing held) name) → IsIn x (order_of (standing held_then) name)
  unit_stays x i = subst (λ ids. IsIn x ids) (unit_ids held_then then_is name) (subst (λ y. IsIn y (map (λ (p : Operation). p.id) units_then)) at.is
      (id_in_map units_then at.unit (subst (λ os. IsIn at.unit os) (sym then_parts) (in_with grown.before units at.unit
      (subst (λ os. IsIn at.unit os) (sym at.parts) (in_right_part at.unit at.front (at.unit ∷ at.back) (inl refl)))))))
    where
      at : SplitAt units x
      at = split_at units x (subst (λ ids. IsIn x ids) (sym (unit_ids held is name)) i)

  -- what is made is of the list
  made_in : (o : Operation) → IsIn o (made_by client r steps) → IsIn o.id (order_of (standing held_then) name)
  made_in o i = subst (λ os. IsIn o.id (order_of (standing os) name)) (sym stands.held) (go (same_list (list_of (standing new) o.id) name) refl)
    where
      new : List Operation
      new = all_taken (made_by client r steps) held

      there : has_operation (standing (all_taken (made_by client r steps) held)) o.id ≡ true
      there = id_is_there (standing (all_taken (made_by client r steps) held)) o (moment.stand o i)

      go : (t : Bool) → same_list (list_of (standing (all_taken (made_by client r steps) held)) o.id) name ≡ t →
          IsIn o.id (order_of (standing (all_taken (made_by client r steps) held)) name)
      go true f = (in_list (all_taken (made_by client r steps) held) moment.all_held name o.id).1
          (there, (same_list_decides (list_of (standing (all_taken (made_by client r steps) held)) o.id) name).0 f)
      go false f = absurd (true≢false (sym received ∙ (shows.edit client r name quiet e of makes done).new o i))
        where
          other : DocList
          other = list_of (standing (all_taken (made_by client r steps) held)) o.id

          differ : list_of (standing (all_taken (made_by client r steps) held)) o.id ≢ name
          differ g = true≢false (sym ((same_list_decides (list_of (standing (all_taken (made_by client r steps) held)) o.id) name).1 g) ∙ f)

          same : order_of (standing (all_taken (made_by client r steps) held)) (list_of (standing (all_taken (made_by client r steps) held)) o.id)
              ≡ order_of (standing held) (list_of (standing (all_taken (made_by client r steps) held)) o.id)
          same = sym (unit_ids (all_taken (made_by client r steps) held) moment.all_held (list_of (standing (all_taken (made_by client r steps) held)) o.id))
              ∙ ap (map (λ (p : Operation). p.id)) (moment.lists (list_of (standing (all_taken (made_by client r steps) held)) o.id)
              ∙ other_evolves name (list_of (standing (all_taken (made_by client r steps) held)) o.id) differ steps (shows.own client r name quiet e of makes done) client
              (held_clock held client.0) (units_of held))
              ∙ unit_ids held is (list_of (standing (all_taken (made_by client r steps) held)) o.id)

          in_held : IsIn o.id (order_of (standing held) (list_of (standing (all_taken (made_by client r steps) held)) o.id))
          in_held = subst (λ ids. IsIn o.id ids) same ((in_list (all_taken (made_by client r steps) held) moment.all_held
              (list_of (standing (all_taken (made_by client r steps) held)) o.id) o.id).1 (there, refl))

          received : has_operation r.operations o.id ≡ true
          received = subst (λ os. has_operation os o.id ≡ true) quiet.whole
              (held_id held is o.id ((in_list held is (list_of (standing (all_taken (made_by client r steps) held)) o.id) o.id).0 in_held).0)

  -- ---- its ids

  blocks_then : blocks_ids update.blocks ≡ structs_ids client start (items (runs_on (basis_of client r) steps))
  blocks_then = blocks_are steps client start (document_of r).units

  inserted_new : (x : Id) → HasId again.inserted x → (client.0 ≡ x.client.0) × (start ≤ x.clock)
  inserted_new x h = structs_within client start (items (runs_on (basis_of client r) steps)) x
      (subst (λ ss. HasId ss x) blocks_then ((set_of_ids (blocks_ids update.blocks) x).0 h))

  made_inserted : (o : Operation) → IsIn o (made_by client r steps) → HasId again.inserted o.id
  made_inserted o i = (set_of_ids (blocks_ids update.blocks) o.id).1 (subst (λ ss. HasId ss o.id) (sym blocks_then)
      (runs_have steps client start (document_of r).units o i))

  removes_not_noted : (x : Id) → HasId again.deleted x → HasId (removed_by steps) x × (not (is_named noted x) ≡ true)
  removes_not_noted x h = (part_ids (λ y. not (is_named noted y)) update.deletes x).0 h

  inserted_then : (x : Id) → HasId again.inserted x → has_operation held_then x ≡ true → IsIn x (order_of (standing held_then) name)
  inserted_then x h there = let (o, i, f) = operation_with held_then x there in elim (made_or_before o i) [
    | inl j ↦ subst (λ y. IsIn y (order_of (standing held_then) name)) f (made_in o j)
    | inr j ↦ absurd (not_before x (inserted_new x h).0 (inserted_new x h).1 (id_there r.operations o x j f))
  ]

  parent_then : IfSome (item_of_list name) (λ y. has_type_item (standing held_then) y ≡ true)
  parent_then = go (item_of_list name) of.parent
    where
      at : (y : Id) → has_type_item (standing held) y ≡ true → has_type_item (standing held_then) y ≡ true
      at y f = let (o, i, g, k) = type_with (standing held) y f in
          subst (λ os. has_type_item (standing os) y ≡ true) (sym stands.held)
          (all_types (standing (all_taken (made_by client r steps) held)) y (id_there (standing (all_taken (made_by client r steps) held)) o y (moment.stay_standing o i) g)
          (λ p j l. elim (moment.no_other_stands p j) [
            | inl new ↦ absurd (true≢false (sym (received p o l g i) ∙ (shows.edit client r name quiet e of makes done).new p new))
            | inr old ↦ ap (λ (q : Operation). is_type q.content) (one_of_id p o old i (l ∙ sym g)) ∙ k
          ]))
        where
          stood : (q : Operation) → IsIn q (standing held) → IsIn q held
          stood q i = (standing_in held is.written q i).0

          received : (p o : Operation) → p.id ≡ y → o.id ≡ y → IsIn o (standing held) → has_operation r.operations p.id ≡ true
          received p o l g i = id_there r.operations o p.id (subst (λ os. IsIn o os) quiet.whole (stood o i)) (g ∙ sym l)

          one_of_id : (p o : Operation) → IsIn p (standing held) → IsIn o (standing held) → p.id ≡ o.id → p ≡ o
          one_of_id p o i j same = one_operation held (written_distinct held is.written) p o (stood p i) (stood o j) same

      go : (z : Option Id) → IfSome z (λ y. has_type_item (standing held) y ≡ true) → IfSome z (λ y. has_type_item (standing held_then) y ≡ true)
      go None f = tt
      go (Some y) f = at y f

  pub of_then : IsOfText r_after name again
  of_then = record {
    parent = parent_then;
    inserted = inserted_then;
    deleted = λ x h. unit_stays x (shows.removed client r name quiet e of makes done x (removes_not_noted x h).0);
    dead = λ x h. ((shows.edit client r name quiet e of makes done).deletes x).1 (inr (removes_not_noted x h).0);
    maximal = part_maximal (λ y. not (is_named noted y)) update.deletes (maximal_spans update.deletes valid.deletes);
  }

  -- ---- what it would show

  abbrev test : Operation → Bool
  test o = shows_again (document_of (after_edit client r (undo_steps (seen_in client r) e))) (undo_entry noted (update_of_edit (basis_of client r) (undo_steps (seen_in client r) e))) o

  -- what is made does not show
  made_hidden : (y : Id) (o : Operation) → IsIn o (grown.before y) → IsIn o (with_before grown.before units) → test o ≡ false
  made_hidden y o i j = hidden ((document_of r_after).deleted o.id) (can_be_made o.content) is_inserted not_deleted
    where
      fresh : (client.0 ≡ o.id.client.0) × (start ≤ o.id.clock)
      fresh = let (c, le) = grown.new y o i in (ap (λ (k : Client). k.0) (sym c), le)

      is_inserted : is_named again.inserted o.id ≡ true
      is_inserted = has_named again.inserted o.id (elim (made_or_before o (unit_then_held o (subst (λ os. IsIn o os) (sym then_parts) j))) [
        | inl k ↦ made_inserted o k
        | inr k ↦ absurd (not_before o.id fresh.0 fresh.1 (id_is_there r.operations o k))
      ])

      not_deleted : is_named again.deleted o.id ≡ false
      not_deleted = false_from_ne_true (is_named again.deleted o.id) (λ f. not_before o.id fresh.0 fresh.1
          (shows.of_list client r name quiet e of makes done o.id (shows.removed client r name quiet e of makes done o.id (removes_not_noted o.id (named_has again.deleted o.id f)).0)))

      hidden : (d c : Bool) → is_named again.inserted o.id ≡ true → is_named again.deleted o.id ≡ false →
          (not d && not (is_named again.inserted o.id)) || (is_named again.deleted o.id && c) ≡ false
      hidden d c f g = rw (f, g) (no_more d)
        where
          no_more : (t : Bool) → (not t && false) || false ≡ false
          no_more true = refl
          no_more false = refl

  -- and what was there shows where it was live
  same_shown : (o : Operation) → IsIn o units → test o ≡ not ((document_of r).deleted o.id)
  same_shown o i = ap (λ t. (not t && not (is_named again.inserted o.id)) || (is_named again.deleted o.id && can_be_made o.content)) deleted_then
      ∙ ap (λ t. (not (is_named r.deletes o.id || is_named e.inserted o.id) && not t) || (is_named again.deleted o.id && can_be_made o.content)) not_inserted
      ∙ cases (is_named r.deletes o.id) refl (is_named e.inserted o.id) refl
      ∙ ap not (sym (shows.named_before client r name quiet e of makes done o i))
    where
      in_then : IsIn o units_then
      in_then = subst (λ os. IsIn o os) (sym then_parts) (in_with grown.before units o i)

      deleted_then : (document_of r_after).deleted o.id ≡ (is_named r.deletes o.id || is_named e.inserted o.id)
      deleted_then = own_live held_then then_is (is_named r_after.deletes) name o in_then quiet_then.no_key (live_before r_after name (as_list r_after name quiet_then))
          ∙ shows.named_after client r name quiet e of makes done o i

      not_inserted : is_named again.inserted o.id ≡ false
      not_inserted = false_from_ne_true (is_named again.inserted o.id) (λ f. let (c, le) = inserted_new o.id (named_has again.inserted o.id f) in
          not_before o.id c le (unit_received r name quiet o i))

      live_if : is_named r.deletes o.id ≡ false → (document_of r).deleted o.id ≡ false
      live_if f = shows.named_before client r name quiet e of makes done o i ∙ f

      cases : (a : Bool) → is_named r.deletes o.id ≡ a → (b : Bool) → is_named e.inserted o.id ≡ b →
          (not (a || b) && true) || (is_named again.deleted o.id && can_be_made o.content) ≡ not a
      cases true f b g = ap (λ t. t && can_be_made o.content) (false_from_ne_true (is_named again.deleted o.id) (λ h. true≢false (sym f ∙ not_named h)))
        where
          not_named : is_named again.deleted o.id ≡ true → is_named r.deletes o.id ≡ false
          not_named h = sym (shows.named_before client r name quiet e of makes done o i)
              ∙ shows.live_not_deleted client r name quiet e of makes done o.id
              (((shows.removes client r name quiet e of makes done o.id).0 (removes_not_noted o.id (named_has again.deleted o.id h)).0).1)
      cases false f true g = rw (is_deleted_again, no_types o (one_kept (λ p. not ((document_of r).deleted p.id)) units o (ap not (live_if f)) i) (named_has e.inserted o.id g)) refl
        where
          is_deleted_again : is_named again.deleted o.id ≡ true
          is_deleted_again = has_named again.deleted o.id ((part_ids (λ y. not (is_named noted y)) update.deletes o.id).1 (
            (shows.removes client r name quiet e of makes done o.id).1 (named_has e.inserted o.id g, shows.is_alive client r name quiet e of makes done o i f),
            ap not (false_from_ne_true (is_named noted o.id) (λ h. true≢false (sym (has_named r.deletes o.id (dead o.id (named_has noted o.id h))) ∙ f))),
          ))
      cases false f false g = refl

  pub same_contents : contents (filter test units_then) ≡ contents (live_units (document_of r) name)
  same_contents = ap contents (ap (filter test) then_parts ∙ filter_with test grown.before units made_hidden
      ∙ filter_alike test (λ o. not ((document_of r).deleted o.id)) units same_shown)
