-- An insertion: the made units stand at the index.
use Rattle.std.proofs.Common.{append-nil, ◌≡◌, ◌↔◌, ◌≤◌, ℕ, Bool, true, false, not, ◌&&◌, List, [], ◌∷◌, ◌++◌, map, length, nat_eq, nat_lt, Option, Some, None, inl, inr, refl, sym, ap, ap₂, ◌∙◌, subst, arith, tests, true≢false}
use Rattle.std.proofs.lemmas.Bool.{cases_Bool, false_from_ne_true}
use Rattle.std.proofs.lemmas.List.{take-append-drop}
use Rattle.std.proofs.lemmas.List.Elements.{filter-append}
use Rattle.std.specs.Prelude.{filter, take, drop, if◌then◌else◌}
use Rattle.yd_words.specs.Each.{Each}
use Rattle.yd_words.specs.Member.{IsIn}
use Rattle.yd_words.proofs.FilterLemmas.{filter_alike, filter-all}
use Rattle.yd_words.proofs.MemberLemmas.{in_left_part, in_right_part}
use Rattle.yd_ids.specs.declared.id.Client.{Client}
use Rattle.yd_ids.specs.declared.id.Id.{Id}
use Rattle.yd_ids.specs.Set.{HasId}
use Rattle.yd_ops.specs.declared.lists.List.{List as DocList}
use Rattle.yd_ops.specs.Value.{ContentValue, len_of}
use Rattle.yd_ops.specs.Operation.{UnitContent, Operation, units_of_content, later_id, operations_from}
use Rattle.yd_ops.proofs.OperationLemmas.{length-units_of_content}
use Rattle.yd_ops.specs.Received.{Received}
use Rattle.yd_meaning.specs.Held.{is_named}
use Rattle.yd_meaning.specs.Document.{document_of}
use Rattle.yd_shown.specs.Shown.{is_counted}
use Rattle.yd_editing.specs.Step.{Step, make, past_end}
use Rattle.yd_editing.specs.Basis.{basis_of}
use Rattle.yd_editing.specs.Made.{units_up_to, units_behind}
use Rattle.yd_editing.specs.Refused.{refusal_of}
use Rattle.yd_editing.specs.TextEdit.{counted_units, place_at, insert_steps, insert_refusal, list_refusal, end_refusal, index_refusal}
use Rattle.yd_editing.specs.Law.{after_edit, IsMakeable, made_by, evolved_by}
use Rattle.yd_editing.specs.TextLaw.{IsQuietText, IsInserted}
use Rattle.yd_editing.proofs.NamedLemmas.{has_named, named_has}
use Rattle.yd_editing.proofs.RefusalLemmas.{neither, not_some}
use Rattle.yd_editing.proofs.IndexLemmas.{at_place}
use Rattle.yd_editing.proofs.EditedListLemmas.{as_list}
use Rattle.yd_editing.proofs.OthersLemmas.{other_lists, deleted_same}
use Rattle.yd_editing.proofs.OwnListLemmas.{is_shown_by, taken, is_held, counted_after, new_not_named, counted_named, units_apart, own_evolves}

-- ---- the units of a run

pub contents_from : (units : List UnitContent) (id : Id) (left right : Option Id) (list : Option DocList) →
    map (λ (o : Operation). o.content) (operations_from id left right list units) ≡ units
contents_from [] id left right list = refl
contents_from (unit ∷ units) id left right list = ap (λ us. unit ∷ us) (contents_from units (later_id id 1) (Some id) right None)

pub each_content : (P : UnitContent → Type 0) (os : List Operation) (units : List UnitContent) → map (λ (o : Operation). o.content) os ≡ units → Each P units →
    (o : Operation) → IsIn o os → P o.content
each_content P [] units e each o i = absurd i
each_content P (p ∷ ps) [] e each o i = absurd cc
each_content P (p ∷ ps) (unit ∷ units) e each o i = let first : p.content ≡ unit = cc in let rest : map (λ (q : Operation). q.content) ps ≡ units = cc in elim i [
  | inl f ↦ subst (λ (q : Operation). P q.content) (sym f) (subst P (sym first) each.0)
  | inr j ↦ each_content P ps units rest each.1 o j
]

none_of_none : (units : List UnitContent) → length units ≡ 0 → units ≡ []
none_of_none [] e = refl
none_of_none (unit ∷ units) e = absurd (omega (arith, e))

pub not_past : (units : List Operation) (end : ℕ) → end_refusal units end ≡ None → end ≤ length units
not_past units end e = go (nat_lt (length units) end) refl e
  where
    go : (t : Bool) → nat_lt (length units) end ≡ t → (if t then Some (past_end (length units)) else None) ≡ None → end ≤ length units
    go true f g = absurd (not_some (past_end (length units)) g)
    go false f g = grind (arith, tests)

-- what is named stays so, where nothing is removed
pub named_stays : (client : Client) (r : Received) (steps : List Step) (x : Id) → HasId (after_edit client r steps).deletes x ↔ HasId r.deletes x →
    is_named (after_edit client r steps).deletes x ≡ is_named r.deletes x
named_stays client r steps x f = elim (cases_Bool (is_named r.deletes x)) [
  | inl e ↦ has_named (after_edit client r steps).deletes x (f.1 (named_has r.deletes x e)) ∙ sym e
  | inr e ↦ false_from_ne_true (is_named (after_edit client r steps).deletes x) (λ g. true≢false
      (sym (has_named r.deletes x (f.0 (named_has (after_edit client r steps).deletes x g))) ∙ e)) ∙ sym e
]

module _ (client : Client) (r : Received) (name : DocList) (index : ℕ) (content : ContentValue) (quiet : IsQuietText r name) (makeable : IsMakeable content)
    (counted : Each (λ unit. is_counted unit ≡ true) (units_of_content content)) (within : index ≤ length (counted_units (document_of r) name)) where
  abbrev units : List Operation
  units = (document_of r).units name

  abbrev shown : List Operation
  shown = counted_units (document_of r) name

  -- nothing is made
  none_inserted : len_of content ≡ 0 → refusal_of (basis_of client r) [] ≡ None → IsInserted client r name index content []
  none_inserted none done = record {
    held = is_held client r name quiet [] tt tt (λ x i. absurd i) done;
    counted = counted_after client r name quiet [] tt tt (λ x i. absurd i) done
        ∙ filter_alike (is_shown_by (is_named (after_edit client r []).deletes)) (is_shown_by (is_named r.deletes)) units
        (λ o i. ap (λ t. not t && is_counted o.content) (named_stays client r [] o.id (same o.id)))
        ∙ sym (counted_named r name quiet) ∙ sym (take-append-drop index shown);
    contents = sym (none_of_none (units_of_content content) (length-units_of_content content ∙ none));
    others = other_lists client r name (as_list r name quiet) [] tt tt (λ x i. absurd i) done;
    deleted = deleted_same client r name quiet [] tt tt (λ x i. absurd i) done (λ x. named_stays client r [] x (same x)) (λ o i. absurd i);
  }
    where
      same : (x : Id) → HasId (after_edit client r []).deletes x ↔ HasId r.deletes x
      same x = let d = (taken client r name quiet [] tt tt (λ y i. absurd i) done).deletes x in ((λ h. elim (d.0 h) [ inl k ↦ k | inr k ↦ absurd k ]), (λ h. d.1 (inl h)))

  module _ (done : refusal_of (basis_of client r) (make name (place_at (counted_units (document_of r) name) index) content ∷ []) ≡ None) where
    abbrev place : Option Id
    place = place_at (counted_units (document_of r) name) index

    abbrev steps : List Step
    steps = make name place content ∷ []

    abbrev news : List Operation
    news = made_by client r steps

    contents_are : map (λ (o : Operation). o.content) news ≡ units_of_content content
    contents_are = ap (map (λ (o : Operation). o.content)) (append-nil _) ∙ contents_from (units_of_content content) _ _ _ _

    same : (x : Id) → is_named (after_edit client r steps).deletes x ≡ is_named r.deletes x
    same x = let d = (taken client r name quiet steps (makeable, tt) (refl, tt) (λ y i. absurd i) done).deletes x in
        named_stays client r steps x ((λ h. elim (d.0 h) [ inl k ↦ k | inr k ↦ absurd k ]), (λ h. d.1 (inl h)))

    old_test : (os : List Operation) → filter (is_shown_by (is_named (after_edit client r steps).deletes)) os ≡ filter (is_shown_by (is_named r.deletes)) os
    old_test os = filter_alike (is_shown_by (is_named (after_edit client r steps).deletes)) (is_shown_by (is_named r.deletes)) os
        (λ o i. ap (λ t. not t && is_counted o.content) (same o.id))

    news_shown : filter (is_shown_by (is_named r.deletes)) news ≡ news
    news_shown = filter-all (is_shown_by (is_named r.deletes)) news (λ o i. rw (
      new_not_named client r name quiet steps (makeable, tt) (refl, tt) (λ y j. absurd j) done o i,
      each_content (λ unit. is_counted unit ≡ true) news (units_of_content content) contents_are counted o i,
    ) refl)

    shown_is : shown ≡ filter (is_shown_by (is_named r.deletes)) units
    shown_is = counted_named r name quiet

    around : (filter (is_shown_by (is_named r.deletes)) (units_up_to place units) ≡ take index shown)
        × (filter (is_shown_by (is_named r.deletes)) (units_behind place units) ≡ drop index shown)
    around = subst (λ os. (filter (is_shown_by (is_named r.deletes)) (units_up_to (place_at os index) units) ≡ take index os)
        × (filter (is_shown_by (is_named r.deletes)) (units_behind (place_at os index) units) ≡ drop index os))
        (sym shown_is) (at_place (is_shown_by (is_named r.deletes)) units index (units_apart r name quiet) (subst (λ os. index ≤ length os) shown_is within))

    news_there : (o : Operation) → IsIn o news → IsIn o (evolved_by client r steps name)
    news_there o i = subst (λ os. IsIn o os) (sym (own_evolves client r name place content))
        (in_right_part o (units_up_to place units) (news ++ units_behind place units) (in_left_part o news (units_behind place units) i))

    counted_is : counted_units (document_of (after_edit client r steps)) name ≡ take index shown ++ (news ++ drop index shown)
    counted_is = counted_after client r name quiet steps (makeable, tt) (refl, tt) (λ y i. absurd i) done
        ∙ old_test (evolved_by client r steps name)
        ∙ ap (filter (is_shown_by (is_named r.deletes))) (own_evolves client r name place content)
        ∙ filter-append (is_shown_by (is_named r.deletes)) (units_up_to place units) (news ++ units_behind place units)
        ∙ ap₂ (λ xs ys. xs ++ ys) around.0 (filter-append (is_shown_by (is_named r.deletes)) news (units_behind place units) ∙ ap₂ (λ xs ys. xs ++ ys) news_shown around.1)

    one_inserted : IsInserted client r name index content steps
    one_inserted = record {
      held = is_held client r name quiet steps (makeable, tt) (refl, tt) (λ x i. absurd i) done;
      counted = counted_is;
      contents = contents_are;
      others = other_lists client r name (as_list r name quiet) steps (makeable, tt) (refl, tt) (λ x i. absurd i) done;
      deleted = deleted_same client r name quiet steps (makeable, tt) (refl, tt) (λ x i. absurd i) done same news_there;
    }

  either : (t : Bool) → nat_eq (len_of content) 0 ≡ t → refusal_of (basis_of client r)
      (if t then [] else make name (place_at (counted_units (document_of r) name) index) content ∷ []) ≡ None →
      IsInserted client r name index content (if t then [] else make name (place_at (counted_units (document_of r) name) index) content ∷ [])
  either true e done = none_inserted (grind (arith, tests)) done
  either false e done = one_inserted done

-- ---- lemmas for callers

pub inserted : (client : Client) (r : Received) (name : DocList) (index : ℕ) (content : ContentValue) → IsQuietText r name → IsMakeable content →
    Each (λ unit. is_counted unit ≡ true) (units_of_content content) → insert_refusal (basis_of client r) name index content ≡ None →
    IsInserted client r name index content (insert_steps (document_of r) name index content)
inserted client r name index content quiet makeable counted done =
    let a = neither (list_refusal (basis_of client r) name (nat_lt 0 (len_of content))) _ done in
    let b = neither (end_refusal (counted_units (document_of r) name) index) _ a.1 in
    let c = neither (index_refusal (counted_units (document_of r) name) index) _ b.1 in
    either client r name index content quiet makeable counted (not_past (counted_units (document_of r) name) index b.0) (nat_eq (len_of content) 0) refl c.1
