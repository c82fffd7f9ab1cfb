-- The edits of a map: what is set stands under its key, what is removed does not, and other keys and lists stay.
use Rattle.std.proofs.Common.{append-nil, append_assoc, ◌≡◌, ◌≢◌, ℕ, Bool, true, false, not, ◌&&◌, List, [], ◌∷◌, ◌++◌, map, Option, Some, None, inl, inr, refl, sym, ap, ◌∙◌, subst, true≢false}
use Rattle.std.proofs.lemmas.Bool.{false_from_ne_true}
use Rattle.std.specs.Prelude.{if◌then◌else◌}
use Rattle.yd_words.specs.Each.{Each}
use Rattle.yd_words.specs.Test.{is_some_and}
use Rattle.yd_words.specs.Member.{IsIn, AreDistinct}
use Rattle.yd_ids.specs.declared.id.Client.{Client}
use Rattle.yd_ids.specs.declared.id.Id.{Id}
use Rattle.yd_ids.specs.Set.{HasId, union_of}
use Rattle.yd_ids.proofs.UnionLemmas.{union_ids}
use Rattle.yd_ops.specs.declared.lists.List.{List as DocList}
use Rattle.yd_ops.specs.declared.lists.Parent.{Parent}
use Rattle.yd_ops.specs.Operation.{UnitContent, Operation, units_of_content}
use Rattle.yd_ops.specs.Value.{ContentValue}
use Rattle.yd_origins.specs.Deleted.{last_of}
use Rattle.yd_ops.specs.Received.{has_operation, Received}
use Rattle.yd_meaning.specs.Names.{item_of_list}
use Rattle.yd_meaning.specs.Held.{held_set, standing, is_named}
use Rattle.yd_meaning.specs.Order.{order_of}
use Rattle.yd_meaning.specs.Deleted.{is_deleted}
use Rattle.yd_meaning.specs.Document.{document_of, document_with}
use Rattle.yd_meaning.proofs.DocumentLemmas.{order_distinct}
use Rattle.yd_shown.specs.Shown.{is_counted, own_list, key_list, last_unit, if_shown, unit_under}
use Rattle.yd_editing.specs.Step.{Step, no_key}
use Rattle.yd_editing.specs.Basis.{basis_of}
use Rattle.yd_editing.specs.Made.{put_behind, removed_by}
use Rattle.yd_editing.specs.Refused.{refusal_of}
use Rattle.yd_editing.specs.Law.{after_edit, IsHonestHeld, units_of, IsMakeable, MakesContent, made_by, evolved_by}
use Rattle.yd_editing.specs.MapEdit.{last_under, id_of_unit, listed, if_live, set_steps, unset_steps, value_refusal, unset_refusal}
use Rattle.yd_editing.specs.MapLaw.{OthersStay, IsSet, IsUnset}
use Rattle.yd_editing.specs.TextEdit.{ids_of_units}
use Rattle.yd_editing.specs.TextLaw.{IsQuietText, MakesIn}
use Rattle.yd_editing.proofs.NamedLemmas.{has_named, named_has}
use Rattle.yd_editing.proofs.RefusalLemmas.{neither, not_some, id_in_map}
use Rattle.yd_editing.proofs.UnitLemmas.{in_list, unit_ids, standing_is_table}
use Rattle.yd_editing.proofs.TakenLemmas.{honest_held}
use Rattle.yd_editing.proofs.LiveLemmas.{last_live}
use Rattle.yd_editing.proofs.EditedListLemmas as edited
use Rattle.yd_editing.proofs.EditedListLemmas.{IsQuietList, live_before, other_evolves}
use Rattle.yd_editing.proofs.OwnListLemmas.{own_evolves}
use Rattle.yd_editing.proofs.OthersLemmas.{other_lists}
use Rattle.yd_editing.proofs.AroundLemmas.{last_view, put_after}
use Rattle.yd_editing.proofs.DeleteLemmas.{apart_parts}
use Rattle.yd_editing.proofs.IndexLemmas.{AreApart, units_have, has_units}
use Rattle.yd_editing.proofs.InsertLemmas.{contents_from}

-- ---- what stands last

last_is : (front : List Operation) (l : Operation) → last_unit (front ++ l ∷ []) ≡ Some l
last_is [] l = refl
last_is (o ∷ []) l = refl
last_is (o ∷ p ∷ ps) l = last_is (p ∷ ps) l

last_id : (front : List Operation) (l : Operation) → last_of (map (λ (o : Operation). o.id) (front ++ l ∷ [])) ≡ Some l.id
last_id [] l = refl
last_id (o ∷ []) l = refl
last_id (o ∷ p ∷ ps) l = last_id (p ∷ ps) l

last_in : (front : List Operation) (l : Operation) → IsIn l (front ++ l ∷ [])
last_in [] l = inl refl
last_in (o ∷ os) l = inr (last_in os l)

-- the last unit is shown alike by two tests that are alike of it
shown_alike : (f g : Id → Bool) (os : List Operation) → ((front : List Operation) (l : Operation) → os ≡ front ++ l ∷ [] → f l.id ≡ g l.id) →
    if_shown f (last_unit os) ≡ if_shown g (last_unit os)
shown_alike f g os alike = elim (last_view os) [
  | inl e ↦ subst (λ ps. if_shown f (last_unit ps) ≡ if_shown g (last_unit ps)) (sym e) refl
  | inr (front, l, e) ↦ subst (λ u. if_shown f u ≡ if_shown g u) (sym (ap last_unit e ∙ last_is front l))
      (ap (λ t. if not t && is_counted l.content then Some l else None) (alike front l e))
]

-- one unit of one content
one_unit : (os : List Operation) (unit : UnitContent) → map (λ (o : Operation). o.content) os ≡ unit ∷ [] → (n : Operation) × (os ≡ n ∷ []) × (n.content ≡ unit)
one_unit [] unit e = absurd cc
one_unit (o ∷ []) unit e = (o, refl, cc)
one_unit (o ∷ p ∷ ps) unit e = absurd cc

-- two keys of a parent have two lists
two_lists : (parent : Parent) (key other : List ℕ) → other ≢ key → key_list parent other ≢ key_list parent key
two_lists parent key other differ e = differ (one_key other key (ap (λ (l : DocList). l.key) e))
  where
    one_key : (a b : List ℕ) → ◌≡◌ {A = Option (List ℕ)} (Some a) (Some b) → a ≡ b
    one_key a b f = cc

-- ---- what stands under a key

-- of a parent that is live: the last unit, where no deletion names it
module _ (held : List Operation) (is : IsHonestHeld held) (named : Id → Bool) (parent : Parent) (key : List ℕ)
    (live : is_some_and (is_deleted held named) (item_of_list (key_list parent key)) ≡ false) where
  under_key : unit_under (document_with held named) parent key ≡ if_shown named (last_unit (units_of held (key_list parent key)))
  under_key = shown_alike (document_with held named).deleted named (units_of held (key_list parent key)) alike
    where
      alike : (front : List Operation) (l : Operation) → units_of held (key_list parent key) ≡ front ++ l ∷ [] → (document_with held named).deleted l.id ≡ named l.id
      alike front l e = last_live held is named (key_list parent key) l (subst (λ os. IsIn l os) (sym e) (last_in front l))
          (ap last_of (sym (unit_ids held is (key_list parent key))) ∙ ap (λ os. last_of (map (λ (o : Operation). o.id) os)) e ∙ last_id front l) live

-- ---- an edit of one key

quiet_key : (r : Received) (parent : Parent) (key : List ℕ) → IsQuietText r (own_list parent) → IsQuietList r (key_list parent key)
quiet_key r parent key quiet = record { received = quiet.received; whole = quiet.whole; deletes = quiet.deletes; honest = quiet.honest; live = quiet.live }

module _ (client : Client) (r : Received) (parent : Parent) (key : List ℕ) (quiet : IsQuietText r (own_list parent)) (steps : List Step)
    (makes : Each MakesContent steps) (own : MakesIn (key_list parent key) steps)
    (removed : (x : Id) → HasId (removed_by steps) x → IsIn x (order_of (standing (held_set r.operations)) (key_list parent key)))
    (done : refusal_of (basis_of client r) steps ≡ None) where
  abbrev name : DocList
  name = key_list parent key

  abbrev held : List Operation
  held = held_set r.operations

  abbrev now : Id → Bool
  now = is_named (after_edit client r steps).deletes

  is : IsHonestHeld held
  is = honest_held r.operations quiet.received.written quiet.honest

  evolved_other : (list : DocList) → list ≢ name → evolved_by client r steps list ≡ units_of held list
  evolved_other list differ = other_evolves name list differ steps own client _ (units_of held)

  -- what stands under a key of the parent, afterwards and before
  under_after : (other : List ℕ) → unit_under (document_of (after_edit client r steps)) parent other ≡ if_shown now (last_unit (evolved_by client r steps (key_list parent other)))
  under_after other = under_key (held_set (after_edit client r steps).operations)
      (edited.new_is client r name (quiet_key r parent key quiet) steps makes own removed done) now parent other
      (edited.live_new client r name (quiet_key r parent key quiet) steps makes own removed done)
      ∙ ap (λ os. if_shown now (last_unit os)) ((edited.is_held client r name (quiet_key r parent key quiet) steps makes own removed done).lists (key_list parent other))

  under_before : (other : List ℕ) → unit_under (document_of r) parent other ≡ if_shown (is_named r.deletes) (last_unit (units_of held (key_list parent other)))
  under_before other = under_key held is (is_named r.deletes) parent other (live_before r name (quiet_key r parent key quiet))

  others : OthersStay (document_of r) (document_of (after_edit client r steps)) parent key
  others = record {
    keys = λ other differ. under_after other
        ∙ ap (λ os. if_shown now (last_unit os)) (evolved_other (key_list parent other) (two_lists parent key other differ))
        ∙ shown_alike now (is_named r.deletes) (units_of held (key_list parent other)) (same other (two_lists parent key other differ))
        ∙ sym (under_before other);
    lists = other_lists client r name (quiet_key r parent key quiet) steps makes own removed done;
  }
    where
      same : (other : List ℕ) → key_list parent other ≢ name → (front : List Operation) (l : Operation) → units_of held (key_list parent other) ≡ front ++ l ∷ [] →
          now l.id ≡ is_named r.deletes l.id
      same other differ front l e =
          let at = (in_list held is (key_list parent other) l.id).0 (subst (λ ids. IsIn l.id ids) (unit_ids held is (key_list parent other))
          (id_in_map (units_of held (key_list parent other)) l (subst (λ os. IsIn l os) (sym e) (last_in front l)))) in
          edited.same_named client r name (quiet_key r parent key quiet) steps makes own removed done l.id at.0 (λ f. differ (sym at.1 ∙ f))

  -- what is removed is named afterwards
  removed_named : (x : Id) → HasId (removed_by steps) x → now x ≡ true
  removed_named x h = has_named (after_edit client r steps).deletes x
      (((edited.taken client r name (quiet_key r parent key quiet) steps makes own removed done).deletes x).1 (inr h))

  -- what is made is not
  made_not_named : (n : Operation) → IsIn n (made_by client r steps) → now n.id ≡ false
  made_not_named n i = false_from_ne_true (now n.id) (λ e. elim (((edited.taken client r name (quiet_key r parent key quiet) steps makes own removed done).deletes n.id).0
      (named_has (after_edit client r steps).deletes n.id e)) [
        | inl h ↦ true≢false (sym (quiet.deletes n.id h) ∙ is_new)
        | inr h ↦ true≢false (sym (edited.received_unit client r name (quiet_key r parent key quiet) steps makes own removed done n.id (removed n.id h)) ∙ is_new)
      ])
    where
      is_new : has_operation r.operations n.id ≡ false
      is_new = (edited.taken client r name (quiet_key r parent key quiet) steps makes own removed done).new n i

-- ---- the removed unit

removed_unit : (unit : Option Operation) (x : Id) → HasId (union_of (ids_of_units (listed unit)) []) x → (o : Operation) × (unit ≡ Some o) × (o.id ≡ x)
removed_unit None x h = let (o, i, e) = has_units [] x (only h) in absurd i
  where
    only : HasId (union_of (ids_of_units []) []) x → HasId (ids_of_units []) x
    only k = elim ((union_ids (ids_of_units []) [] x).0 k) [ inl i ↦ i | inr i ↦ absurd i ]
removed_unit (Some p) x h = let (o, i, e) = has_units (p ∷ []) x (only h) in elim i [ inl f ↦ (p, refl, ap (λ (q : Operation). q.id) (sym f) ∙ e) | inr j ↦ absurd j ]
  where
    only : HasId (union_of (ids_of_units (p ∷ [])) []) x → HasId (ids_of_units (p ∷ [])) x
    only k = elim ((union_ids (ids_of_units (p ∷ [])) [] x).0 k) [ inl i ↦ i | inr i ↦ absurd i ]

is_removed : (o : Operation) → HasId (union_of (ids_of_units (listed (Some o))) []) o.id
is_removed o = (union_ids (ids_of_units (o ∷ [])) [] o.id).1 (inl (units_have (o ∷ []) o (inl refl)))

-- where a unit stands last and is picked by a test, it is one of the list's
module _ (r : Received) (parent : Parent) (key : List ℕ) (quiet : IsQuietText r (own_list parent)) where
  -- the units of the key's list are apart
  key_apart : AreApart (units_of (held_set r.operations) (key_list parent key))
  key_apart = subst (λ ids. AreDistinct ids) (sym (unit_ids (held_set r.operations) (honest_held r.operations quiet.received.written quiet.honest) (key_list parent key)))
      (order_distinct (standing (held_set r.operations)) (standing_is_table (held_set r.operations) (honest_held r.operations quiet.received.written quiet.honest)) (key_list parent key))

  last_listed : (o : Operation) → last_under (document_of r) parent key ≡ Some o → IsIn o.id (order_of (standing (held_set r.operations)) (key_list parent key))
  last_listed o e = subst (λ ids. IsIn o.id ids) (unit_ids (held_set r.operations) (honest_held r.operations quiet.received.written quiet.honest) (key_list parent key))
      (id_in_map (units_of (held_set r.operations) (key_list parent key)) o (in_units (units_of (held_set r.operations) (key_list parent key)) o e))
    where
      in_units : (os : List Operation) (p : Operation) → last_unit os ≡ Some p → IsIn p os
      in_units [] p f = absurd cc
      in_units (q ∷ []) p f = inl cc
      in_units (q ∷ t ∷ ts) p f = inr (in_units (t ∷ ts) p f)

live_is : (deleted : Id → Bool) (unit : Option Operation) (o : Operation) → if_live deleted unit ≡ Some o → unit ≡ Some o
live_is deleted None o e = absurd cc
live_is deleted (Some p) o e = go (not (deleted p.id)) e
  where
    go : (t : Bool) → (if t then Some p else None) ≡ Some o → Some p ≡ Some o
    go true f = f
    go false f = absurd cc

shown_is : (deleted : Id → Bool) (unit : Option Operation) (o : Operation) → if_shown deleted unit ≡ Some o → unit ≡ Some o
shown_is deleted None o e = absurd cc
shown_is deleted (Some p) o e = go (not (deleted p.id) && is_counted p.content) e
  where
    go : (t : Bool) → (if t then Some p else None) ≡ Some o → Some p ≡ Some o
    go true f = f
    go false f = absurd cc

-- ---- what is set

module _ (client : Client) (r : Received) (parent : Parent) (key : List ℕ) (content : ContentValue) (unit : UnitContent) (quiet : IsQuietText r (own_list parent))
    (makeable : IsMakeable content) (one : units_of_content content ≡ unit ∷ []) (counted : is_counted unit ≡ true)
    (done : refusal_of (basis_of client r) (set_steps (document_of r) parent key content) ≡ None) where
  abbrev steps : List Step
  steps = set_steps (document_of r) parent key content

  abbrev units : List Operation
  units = units_of (held_set r.operations) (key_list parent key)

  removed : (x : Id) → HasId (removed_by steps) x → IsIn x (order_of (standing (held_set r.operations)) (key_list parent key))
  removed x h = let (o, e, f) = removed_unit (if_live (document_of r).deleted (last_under (document_of r) parent key)) x h in
      subst (λ y. IsIn y (order_of (standing (held_set r.operations)) (key_list parent key))) f
      (last_listed r parent key quiet o (live_is (document_of r).deleted (last_under (document_of r) parent key) o e))

  news_one : (n : Operation) × (made_by client r steps ≡ n ∷ []) × (n.content ≡ unit)
  news_one = one_unit (made_by client r steps) unit (ap (map (λ (o : Operation). o.content)) (append-nil _) ∙ contents_from (units_of_content content) _ _ _ _ ∙ one)

  evolved_is : (n : Operation) → made_by client r steps ≡ n ∷ [] → (front : List Operation) × (evolved_by client r steps (key_list parent key) ≡ front ++ n ∷ [])
  evolved_is n e = elim (last_view units) [
    | inl f ↦ ([], put ∙ ap (λ os. put_behind (id_of_unit (last_unit os)) (n ∷ []) os) f)
    | inr (front, l, f) ↦ (
      front ++ l ∷ [],
      put ∙ ap (λ os. put_behind (id_of_unit (last_unit os)) (n ∷ []) os) f
          ∙ ap (λ u. put_behind (id_of_unit u) (n ∷ []) (front ++ l ∷ [])) (last_is front l)
          ∙ put_after (n ∷ []) l front [] (apart front l f) ∙ sym (append_assoc front (l ∷ []) (n ∷ [])),
    )
  ]
    where
      put : evolved_by client r steps (key_list parent key) ≡ put_behind (id_of_unit (last_unit units)) (n ∷ []) units
      put = own_evolves client r (key_list parent key) (id_of_unit (last_under (document_of r) parent key)) content
          ∙ ap (λ os. put_behind (id_of_unit (last_unit units)) os units) e

      apart : (front : List Operation) (l : Operation) → units ≡ front ++ l ∷ [] → (o : Operation) → IsIn o front → o.id ≢ l.id
      apart front l f o i = apart_parts front (l ∷ []) (subst (λ os. AreApart os) f (key_apart r parent key quiet)) o l i (inl refl)

  is_set : IsSet client r parent key unit steps
  is_set = let (n, e, f) = news_one in let (front, g) = evolved_is n e in record {
    held = edited.is_held client r (key_list parent key) (quiet_key r parent key quiet) steps (makeable, (tt, tt)) (refl, tt) removed done;
    made = n;
    content = f;
    under = under_after client r parent key quiet steps (makeable, (tt, tt)) (refl, tt) removed done key
        ∙ ap (if_shown (is_named (after_edit client r steps).deletes)) (ap last_unit g ∙ last_is front n)
        ∙ rw (made_not_named client r parent key quiet steps (makeable, (tt, tt)) (refl, tt) removed done n (subst (λ os. IsIn n os) (sym e) (inl refl)), f, counted) refl;
    others = others client r parent key quiet steps (makeable, (tt, tt)) (refl, tt) removed done;
  }

-- ---- what is removed

module _ (client : Client) (r : Received) (parent : Parent) (key : List ℕ) (quiet : IsQuietText r (own_list parent))
    (done : refusal_of (basis_of client r) (unset_steps (document_of r) parent key) ≡ None) where
  abbrev unsets : List Step
  unsets = unset_steps (document_of r) parent key

  unset_listed : (x : Id) → HasId (removed_by unsets) x → IsIn x (order_of (standing (held_set r.operations)) (key_list parent key))
  unset_listed x h = let (o, e, f) = removed_unit (unit_under (document_of r) parent key) x h in
      subst (λ y. IsIn y (order_of (standing (held_set r.operations)) (key_list parent key))) f
      (last_listed r parent key quiet o (shown_is (document_of r).deleted (last_under (document_of r) parent key) o e))

  is_unset : (o : Operation) → unit_under (document_of r) parent key ≡ Some o → IsUnset client r parent key unsets
  is_unset o e = record {
    held = edited.is_held client r (key_list parent key) (quiet_key r parent key quiet) unsets (tt, tt) tt unset_listed done;
    under = under_after client r parent key quiet unsets (tt, tt) tt unset_listed done key
        ∙ ap (if_shown (is_named (after_edit client r unsets).deletes)) (shown_is (document_of r).deleted (last_under (document_of r) parent key) o e)
        ∙ rw (removed_named client r parent key quiet unsets (tt, tt) tt unset_listed done o.id
        (subst (λ u. HasId (union_of (ids_of_units (listed u)) []) o.id) (sym e) (is_removed o))) refl;
    others = others client r parent key quiet unsets (tt, tt) tt unset_listed done;
  }

-- ---- lemmas for callers

pub set_stands : (client : Client) (r : Received) (parent : Parent) (key : List ℕ) (content : ContentValue) (unit : UnitContent) → IsQuietText r (own_list parent) →
    IsMakeable content → units_of_content content ≡ unit ∷ [] → is_counted unit ≡ true → refusal_of (basis_of client r) (set_steps (document_of r) parent key content) ≡ None →
    IsSet client r parent key unit (set_steps (document_of r) parent key content)
set_stands client r parent key content unit quiet makeable one counted done = is_set client r parent key content unit quiet makeable one counted done

pub unset_stands : (client : Client) (r : Received) (parent : Parent) (key : List ℕ) → IsQuietText r (own_list parent) → unset_refusal (basis_of client r) parent key ≡ None →
    IsUnset client r parent key (unset_steps (document_of r) parent key)
unset_stands client r parent key quiet done =
    let a = neither (value_refusal (unit_under (document_of r) parent key)) (refusal_of (basis_of client r) (unset_steps (document_of r) parent key)) done in
    go (unit_under (document_of r) parent key) refl a.0 a.1
  where
    go : (u : Option Operation) → unit_under (document_of r) parent key ≡ u → value_refusal u ≡ None → refusal_of (basis_of client r) (unset_steps (document_of r) parent key) ≡ None →
        IsUnset client r parent key (unset_steps (document_of r) parent key)
    go None e f g = absurd (not_some no_key f)
    go (Some o) e f g = is_unset client r parent key quiet g o e
