-- What stands under a key after an edit and its undo, where both may be of several lists.
use Rattle.std.proofs.Common.{◌≡◌, ◌⊎◌, ℕ, ◌&&◌, ◌||◌, not, Bool, true, false, List, [], ◌∷◌, ◌++◌, map, Option, Some, None, inl, inr, refl, sym, ap, ap₂, ◌∙◌, subst, true≢false}
use Rattle.std.proofs.lemmas.Bool.{cases_Bool, false_from_ne_true}
use Rattle.std.proofs.lemmas.List.Elements.{filter-append}
use Rattle.std.specs.Prelude.{filter, if◌then◌else◌}
use Rattle.yd_words.specs.Each.{Each}
use Rattle.yd_words.specs.Member.{IsIn, AreDistinct}
use Rattle.yd_words.specs.Test.{is_some_and}
use Rattle.yd_words.proofs.FilterLemmas.{filter-all}
use Rattle.yd_words.proofs.TestLemmas.{both_hold}
use Rattle.yd_ids.specs.declared.id.Client.{Client}
use Rattle.yd_ids.specs.declared.id.Id.{Id}
use Rattle.yd_ids.specs.declared.id.Span.{Span}
use Rattle.yd_ids.specs.Ids.{is_same, is_same_neighbour}
use Rattle.yd_ids.specs.Set.{HasId}
use Rattle.yd_ids.proofs.IdLemmas.{same_is}
use Rattle.yd_ops.specs.declared.lists.List.{List as DocList}
use Rattle.yd_ops.specs.declared.lists.Parent.{Parent}
use Rattle.yd_ops.specs.Operation.{Operation}
use Rattle.yd_ops.specs.Valid.{IsValidUpdate}
use Rattle.yd_origins.specs.Deleted.{last_of}
use Rattle.yd_ops.specs.Received.{has_operation, Received}
use Rattle.yd_meaning.specs.Deleted.{is_deleted}
use Rattle.yd_meaning.specs.Document.{document_of}
use Rattle.yd_meaning.specs.Held.{held_set, held_clock, standing, is_named}
use Rattle.yd_meaning.specs.Names.{item_of_list}
use Rattle.yd_meaning.proofs.DocumentLemmas.{order_distinct}
use Rattle.yd_shown.specs.Shown.{is_counted, own_list, key_list, last_unit, if_shown, unit_under}
use Rattle.yd_editing.proofs.NamedLemmas.{has_named, named_has}
use Rattle.yd_copying.specs.Content.{can_be_made}
use Rattle.yd_editing.specs.Basis.{basis_of}
use Rattle.yd_editing.specs.Law.{IsHonestHeld, after_edit, MakesContent, EditIsTaken, EditIsHeld}
use Rattle.yd_editing.specs.Made.{removed_by, update_of_edit}
use Rattle.yd_editing.specs.Refused.{refusal_of}
use Rattle.yd_editing.specs.Step.{Step}
use Rattle.yd_editing.specs.TextLaw.{IsQuietText}
use Rattle.yd_editing.proofs.AroundLemmas.{apart_one, last_view}
use Rattle.yd_editing.proofs.EditedListLemmas.{live_before}
use Rattle.yd_editing.proofs.IndexLemmas.{AreApart}
use Rattle.yd_editing.proofs.LiveLemmas.{unit_deleted}
use Rattle.yd_editing.proofs.RefusalLemmas.{id_in_map}
use Rattle.yd_editing.proofs.UnitLemmas.{in_list, unit_ids, held_id, standing_is_table}
use Rattle.yd_undo.specs.declared.entry.Entry.{Entry}
use Rattle.yd_undo.specs.Entry.{undo_entry}
use Rattle.yd_undo.specs.Law.{IsOfUpdate}
use Rattle.yd_restoring.specs.Each.{IsLive}
use Rattle.yd_restoring.specs.Keyed.{MakesElse, last_again, under_then, under_again}
use Rattle.yd_restoring.proofs.EditUndoneLemmas as edits
use Rattle.yd_restoring.proofs.EditUndoneLemmas.{evolved_kept, none_kept, not_deleted}
use Rattle.yd_restoring.proofs.ElseLemmas.{else_stays}
use Rattle.yd_restoring.proofs.KeyedLemmas.{last_named}
use Rattle.yd_restoring.proofs.LastLemmas.{last_is, last_id_is, last_there}

module _ (client : Client) (r : Received) (parent : Parent) (key : List ℕ) (quiet : IsQuietText r (own_list parent)) (steps : List Step) (makes : Each MakesContent steps)
    (done : refusal_of (basis_of client r) steps ≡ None) (valid : IsValidUpdate (update_of_edit (basis_of client r) steps)) (noted : List Span)
    (live : IsLive (after_edit client r steps) (own_list parent)) (dead : (x : Id) → HasId noted x → HasId r.deletes x)
    (removes_live : (o : Operation) → IsIn o ((document_of r).units (key_list parent key)) → HasId (removed_by steps) o.id →
    ((document_of r).deleted o.id ≡ false) × (can_be_made o.content ≡ true))
    (replaced : (o : Operation) → last_unit ((document_of r).units (key_list parent key)) ≡ Some o → (document_of r).deleted o.id ≡ false →
    HasId (removed_by steps) o.id ⊎ Each (MakesElse (key_list parent key)) steps) where
  abbrev name : DocList
  name = key_list parent key

  abbrev r_after : Received
  r_after = after_edit client r steps

  abbrev e : Entry
  e = undo_entry noted (update_of_edit (basis_of client r) steps)

  abbrev held : List Operation
  held = held_set r.operations

  abbrev held_then : List Operation
  held_then = held_set (after_edit client r steps).operations

  abbrev units : List Operation
  units = (document_of r).units (key_list parent key)

  abbrev units_then : List Operation
  units_then = (document_of (after_edit client r steps)).units (key_list parent key)

  is : IsHonestHeld held
  is = edits.is client r (own_list parent) quiet steps makes done valid noted live

  then_is : IsHonestHeld held_then
  then_is = edits.then_is client r (own_list parent) quiet steps makes done valid noted live

  edit : EditIsTaken client r steps
  edit = edits.edit client r (own_list parent) quiet steps makes done valid noted live

  stands : EditIsHeld client r steps
  stands = edits.stands client r (own_list parent) quiet steps makes done valid noted live

  entry_is : IsOfUpdate noted (update_of_edit (basis_of client r) steps)
  entry_is = edits.entry_is client r (own_list parent) quiet steps makes done valid noted live

  live_now : is_some_and (is_deleted held (is_named r.deletes)) (item_of_list name) ≡ false
  live_now = live_before r name (record { received = quiet.received; whole = quiet.whole; deletes = quiet.deletes; honest = quiet.honest; live = quiet.live })

  live_then : is_some_and (is_deleted held_then (is_named r_after.deletes)) (item_of_list name) ≡ false
  live_then = not_deleted r_after (own_list parent) live

  apart : AreApart units
  apart = subst (λ ids. AreDistinct ids) (sym (unit_ids held is name)) (order_distinct (standing held) (standing_is_table held is) name)

  received : (o : Operation) → IsIn o units → has_operation r.operations o.id ≡ true
  received o i = subst (λ os. has_operation os o.id ≡ true) quiet.whole
      (held_id held is o.id ((in_list held is name o.id).0 (subst (λ ids. IsIn o.id ids) (unit_ids held is name) (id_in_map units o i))).0)

  -- just the last unit can be live
  only_last : (o : Operation) → IsIn o units → (document_of r).deleted o.id ≡ false → last_unit units ≡ Some o
  only_last o i f = elim (last_view units) [
    | inl g ↦ absurd (subst (λ os. IsIn o os) g i)
    | inr (front, l, g) ↦ elim (cases_Bool (is_same l.id o.id)) [
      | inl a ↦ ap last_unit g ∙ last_is front l ∙ ap (λ (p : Operation). Some p)
          (apart_one units apart l o (subst (λ os. IsIn l os) (sym g) (last_there front l)) i (same_is l.id o.id a))
      | inr a ↦ absurd (true≢false (sym (overwritten front l g a) ∙ f))
    ]
  ]
    where
      or_true : (t : Bool) → t || true ≡ true
      or_true true = refl
      or_true false = refl

      overwritten : (front : List Operation) (l : Operation) → units ≡ front ++ l ∷ [] → is_same l.id o.id ≡ false → (document_of r).deleted o.id ≡ true
      overwritten front l g a = unit_deleted held is (is_named r.deletes) name o i
          ∙ ap (λ z. is_named r.deletes o.id || ((not (is_same_neighbour z (Some o.id))) || is_some_and (is_deleted held (is_named r.deletes)) (item_of_list name)))
          (ap last_of (sym (unit_ids held is name)) ∙ ap (λ os. last_of (map (λ (p : Operation). p.id) os)) g ∙ last_id_is front l)
          ∙ ap (λ t. is_named r.deletes o.id || (not t || is_some_and (is_deleted held (is_named r.deletes)) (item_of_list name))) a
          ∙ or_true (is_named r.deletes o.id)

  -- ---- what the entry deleted of the key

  again_same : last_again e units_then ≡ last_again e units
  again_same = ap last_unit (ap (filter (λ o. is_named e.deleted o.id && can_be_made o.content)) (stands.lists name)
      ∙ evolved_kept name (λ o. is_named e.deleted o.id && can_be_made o.content) steps client (held_clock held client.0) (document_of r).units
      (λ o i. ap (λ t. t && can_be_made o.content) (edits.made_kept client r (own_list parent) quiet steps makes done valid noted live o i)))

  is_removed : (o : Operation) → is_named e.deleted o.id ≡ true → HasId (removed_by steps) o.id
  is_removed o f = ((entry_is.deleted o.id).0 (named_has e.deleted o.id f)).0

  -- of the units at most the last one is removed, if it is live
  none_again : ((l : Operation) → last_unit units ≡ Some l → HasId (removed_by steps) l.id → ⊥) → last_again e units ≡ None
  none_again none = ap last_unit (none_kept (λ o. is_named e.deleted o.id && can_be_made o.content) units (λ o i. false_from_ne_true
      (is_named e.deleted o.id && can_be_made o.content) (λ f. let h = is_removed o (both_hold (is_named e.deleted o.id) (can_be_made o.content) f).0 in
      none o (only_last o i (removes_live o i h).0) h)))

  -- ---- what stands last then

  abbrev hides : Id → Bool
  hides x = (document_of (after_edit client r steps)).deleted x || is_named (undo_entry noted (update_of_edit (basis_of client r) steps)).inserted x

  abbrev older : Operation → Bool
  older o = not (is_named (undo_entry noted (update_of_edit (basis_of client r) steps)).inserted o.id)

  older_same : filter older units_then ≡ units
  older_same = ap (filter older) (stands.lists name)
      ∙ evolved_kept name older steps client (held_clock held client.0) (document_of r).units
      (λ o i. ap not (edits.made_inserted client r (own_list parent) quiet steps makes done valid noted live o i))
      ∙ filter-all older units (λ o i. ap not (edits.old_kept client r (own_list parent) quiet steps makes done valid noted live o.id (received o i)))

  -- if what stood last was not live, nothing is shown
  nothing_shown : ((l : Operation) → last_unit units ≡ Some l → (document_of r).deleted l.id ≡ true) → if_shown hides (last_unit units_then) ≡ None
  nothing_shown hidden = elim (last_view units_then) [
    | inl f ↦ ap (λ os. if_shown hides (last_unit os)) f
    | inr (front, m, f) ↦ ap (λ os. if_shown hides (last_unit os)) f ∙ ap (if_shown hides) (last_is front m)
        ∙ ap (λ t. if not t && is_counted m.content then Some m else None) (last_hidden front m f (cases_Bool (is_named e.inserted m.id)))
  ]
    where
      or_true : (t : Bool) → t || true ≡ true
      or_true true = refl
      or_true false = refl

      last_hidden : (front : List Operation) (m : Operation) → units_then ≡ front ++ m ∷ [] → (is_named e.inserted m.id ≡ true) ⊎ (is_named e.inserted m.id ≡ false) →
          hides m.id ≡ true
      last_hidden front m f (inl a) = ap (λ t. (document_of r_after).deleted m.id || t) a ∙ or_true ((document_of r_after).deleted m.id)
      last_hidden front m f (inr a) = ap (λ t. t || is_named e.inserted m.id)
          (last_named held_then then_is (is_named r_after.deletes) name live_then front m f
          ∙ has_named r_after.deletes m.id ((edit.deletes m.id).1 (inl (named_has r.deletes m.id was_named))))
        where
          -- it stood last
          split : units ≡ filter older front ++ m ∷ []
          split = sym older_same ∙ ap (filter older) f ∙ filter-append older front (m ∷ [])
              ∙ ap (λ t. filter older front ++ (if not t then m ∷ [] else [])) a

          was_named : is_named r.deletes m.id ≡ true
          was_named = sym (last_named held is (is_named r.deletes) name live_now (filter older front) m split) ∙ hidden m (ap last_unit split ∙ last_is (filter older front) m)

  -- ---- what its undo would show

  two : (o p : Operation) → ◌≡◌ {A = Option Operation} (Some o) (Some p) → o ≡ p
  two o p f = cc

  not_none : (o : Operation) → ◌≡◌ {A = Option Operation} None (Some o) → ⊥
  not_none o f = absurd cc

  -- of a last unit that was live
  module _ (l : Operation) (last : last_unit units ≡ Some l) (alive : (document_of r).deleted l.id ≡ false) where
    named_not : (front : List Operation) → units ≡ front ++ l ∷ [] → is_named r.deletes l.id ≡ false
    named_not front f = sym (last_named held is (is_named r.deletes) name live_now front l f) ∙ alive

    view : (front : List Operation) × (units ≡ front ++ l ∷ [])
    view = elim (last_view units) [
      | inl f ↦ absurd (not_none l (sym (ap last_unit f) ∙ last))
      | inr (front, m, f) ↦ (front, f ∙ ap (λ o. front ++ o ∷ []) (two m l (sym (last_is front m) ∙ sym (ap last_unit f) ∙ last)))
    ]

    inside : IsIn l units
    inside = subst (λ os. IsIn l os) (sym view.1) (last_there view.0 l)

    -- it is removed, so it is made again
    of_removed : HasId (removed_by steps) l.id → under_again (document_of r_after) e parent key ≡ if_shown (document_of r).deleted (Some l)
    of_removed h = ap (under_then (document_of r_after) e units_then) (again_same ∙ ap (last_again e) view.1 ∙ found)
        ∙ ap (λ t. if not t && is_counted l.content then Some l else None) (sym alive)
      where
        is_again : is_named e.deleted l.id ≡ true
        is_again = has_named e.deleted l.id ((entry_is.deleted l.id).1 (h, λ k. true≢false (sym (has_named r.deletes l.id (dead l.id k)) ∙ named_not view.0 view.1)))

        found : last_again e (view.0 ++ l ∷ []) ≡ Some l
        found = ap last_unit (filter-append (λ o. is_named e.deleted o.id && can_be_made o.content) view.0 (l ∷ [])
            ∙ ap (λ t. filter (λ o. is_named e.deleted o.id && can_be_made o.content) view.0 ++ (if t then l ∷ [] else [])) both)
            ∙ last_is (filter (λ o. is_named e.deleted o.id && can_be_made o.content) view.0) l
          where
            both : is_named e.deleted l.id && can_be_made l.content ≡ true
            both = ap (λ t. t && can_be_made l.content) is_again ∙ (removes_live l inside h).1

    -- it stays
    of_kept : (HasId (removed_by steps) l.id → ⊥) → Each (MakesElse name) steps → under_again (document_of r_after) e parent key ≡ if_shown (document_of r).deleted (Some l)
    of_kept kept each = ap (under_then (document_of r_after) e units_then) (again_same ∙ none_again (λ m f h. kept (subst (λ (o : Operation). HasId (removed_by steps) o.id)
        (two m l (sym f ∙ last)) h)))
        ∙ ap (λ os. if_shown hides (last_unit os)) same ∙ ap (if_shown hides) last
        ∙ ap (λ t. if not t && is_counted l.content then Some l else None) (shows ∙ sym alive)
      where
        same : units_then ≡ units
        same = stands.lists name ∙ else_stays name client steps each (document_of r).units (held_clock held client.0)

        shows : hides l.id ≡ false
        shows = ap₂ (λ s t. s || t)
            (last_named held_then then_is (is_named r_after.deletes) name live_then view.0 l (same ∙ view.1)
            ∙ false_from_ne_true (is_named r_after.deletes l.id) (λ f. elim ((edit.deletes l.id).0 (named_has r_after.deletes l.id f)) [
              | inl k ↦ true≢false (sym (has_named r.deletes l.id k) ∙ named_not view.0 view.1)
              | inr k ↦ kept k
            ]))
            (edits.old_kept client r (own_list parent) quiet steps makes done valid noted live l.id (received l inside))

    of_live : under_again (document_of r_after) e parent key ≡ if_shown (document_of r).deleted (Some l)
    of_live = elim (cases_Bool (is_named (removed_by steps) l.id)) [
      | inl a ↦ of_removed (named_has (removed_by steps) l.id a)
      | inr a ↦ elim (replaced l last alive) [
        | inl h ↦ of_removed h
        | inr each ↦ of_kept (λ k. true≢false (sym (has_named (removed_by steps) l.id k) ∙ a)) each
      ]
    ]

  -- of a last unit that was not
  of_dead : ((l : Operation) → last_unit units ≡ Some l → (document_of r).deleted l.id ≡ true) → under_again (document_of r_after) e parent key ≡ None
  of_dead hidden = ap (under_then (document_of r_after) e units_then) (again_same ∙ none_again (λ l f h. true≢false (sym (hidden l f) ∙ (removes_live l (there l f) h).0)))
      ∙ nothing_shown hidden
    where
      there : (l : Operation) → last_unit units ≡ Some l → IsIn l units
      there l f = elim (last_view units) [
        | inl g ↦ absurd (not_none l (sym (ap last_unit g) ∙ f))
        | inr (front, m, g) ↦ subst (λ os. IsIn l os) (sym g) (subst (λ o. IsIn l (front ++ o ∷ [])) (two l m (sym f ∙ ap last_unit g ∙ last_is front m)) (last_there front l))
      ]

  -- ---- lemmas for callers

  pub same_under : under_again (document_of r_after) e parent key ≡ unit_under (document_of r) parent key
  same_under = go (last_unit units) refl
    where
      go : (u : Option Operation) → last_unit units ≡ u → under_again (document_of r_after) e parent key ≡ if_shown (document_of r).deleted u
      go None f = of_dead (λ l g. absurd (not_none l (sym f ∙ g)))
      go (Some l) f = elim (cases_Bool ((document_of r).deleted l.id)) [
        | inl a ↦ of_dead (λ m g. ap (λ (o : Operation). (document_of r).deleted o.id) (two m l (sym g ∙ f)) ∙ a) ∙ ap (λ t. if not t && is_counted l.content then Some l else None) (sym a)
        | inr a ↦ of_live l f a
      ]
