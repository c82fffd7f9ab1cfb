-- Plain replicas: all that is held stands, in the one text, and what is deleted is what deletions name.
use Rattle.std.proofs.Common.{◌≡◌, ◌⊎◌, Bool, true, false, ◌&&◌, ◌||◌, List, [], ◌∷◌, Option, Some, None, filter, map, nat_eq, inl, inr, refl, sym, ap, ◌∙◌, subst, arith, true≢false}
use Rattle.std.proofs.lemmas.Bool.{cases_Bool}
use Rattle.yd_words.specs.Each.{Each}
use Rattle.yd_words.specs.Member.{IsIn}
use Rattle.yd_words.specs.Test.{is_some_and}
use Rattle.yd_words.proofs.FilterLemmas.{kept_one, one_kept}
use Rattle.yd_words.proofs.MemberLemmas.{each_in}
use Rattle.yd_words.proofs.TestLemmas.{test_fails}
use Rattle.yd_ids.specs.declared.id.Id.{Id}
use Rattle.yd_ids.specs.declared.id.Span.{Span}
use Rattle.yd_ids.specs.Id.{IsId, IsSpan}
use Rattle.yd_ids.specs.Set.{AreMaximal, HasId}
use Rattle.yd_ids.proofs.SetOfLemmas.{set_of_maximal}
use Rattle.yd_ids.proofs.UnionLemmas.{sets_same}
use Rattle.yd_ops.specs.declared.lists.List.{List as DocList}
use Rattle.yd_ops.specs.Operation.{Operation}
use Rattle.yd_ops.specs.Received.{has_operation, IsWritten, Received}
use Rattle.yd_ops.specs.Valid.{CarriesList}
use Rattle.yd_ops.proofs.OneOfLemmas.{operation_with}
use Rattle.yd_origins.specs.Table.{IsTable}
use Rattle.yd_meaning.specs.Deleted.{is_deleted, is_in_delete_set, is_overwritten}
use Rattle.yd_meaning.specs.Document.{AreDeletedIn, document_of}
use Rattle.yd_meaning.specs.Held.{is_gone, is_lost, is_named, needs, standing}
use Rattle.yd_meaning.specs.Names.{item_of_list}
use Rattle.yd_meaning.specs.Order.{list_of, list_or_root, rows_of}
use Rattle.yd_meaning.proofs.DeletedTestLemmas.{is_deleted-one}
use Rattle.yd_meaning.proofs.HeldLemmas.{held_least}
use Rattle.yd_meaning.proofs.HeldListLemmas.{list_of-carried, list_of-left, list_of-right}
use Rattle.yd_meaning.proofs.NeedLemmas.{left_needed, right_needed}
use Rattle.yd_meaning.proofs.StandingLemmas.{standing-all}
use Rattle.yd_meaning.proofs.StandingTableLemmas.{standing_table}
use Rattle.yd_grouping.specs.Groupable.{IsValidOperation}
use Rattle.yd_editing.specs.TextEdit.{ids_of_units}
use Rattle.yd_editing.proofs.IndexLemmas.{has_units, units_have}
use Rattle.yd_editing.proofs.NamedLemmas.{has_named, named_has}
use Rattle.yd_generator.specs.Generated.{delete_set_of, text_list}
use Rattle.yd_generator.specs.Plain.{IsPlain}

or_none : (t : Bool) → t || (false || false) ≡ t
or_none true = refl
or_none false = refl

-- the ids of valid operations, as spans
spans_valid : (os : List Operation) → ((o : Operation) → IsIn o os → IsValidOperation o) →
    Each IsSpan (map (λ (o : Operation). record { client = o.id.client; clock = o.id.clock; len = 1 }) os)
spans_valid [] valid = tt
spans_valid (o ∷ os) valid = (record { client = (valid o (inl refl)).client; end = (valid o (inl refl)).end }, spans_valid os (λ p i. valid p (inr i)))

pub units_maximal : (os : List Operation) → ((o : Operation) → IsIn o os → IsValidOperation o) → AreMaximal (ids_of_units os)
units_maximal os valid = set_of_maximal (map (λ (o : Operation). record { client = o.id.client; clock = o.id.clock; len = 1 }) os) (spans_valid os valid)

carries_text : (left right : Option Id) (list : Option DocList) → left ≡ None → right ≡ None → CarriesList left right list → (list ≡ None) ⊎ (list ≡ Some text_list) →
    list_or_root list ≡ text_list
carries_text left right list e f carries (inr g) = ap list_or_root g
carries_text left right list e f carries (inl g) =
    let alone : CarriesList None None None = subst (λ z. CarriesList None None z) g (subst (λ z. CarriesList None z list) f (subst (λ z. CarriesList z right list) e carries)) in absurd alone

module _ (r : Received) (is : IsPlain r) where
  abbrev os : List Operation
  os = r.operations

  w : IsWritten os
  w = is.received.written

  pub valid_one : (o : Operation) → IsIn o os → IsValidOperation o
  valid_one = each_in IsValidOperation os is.groupable.valid

  pub id_in_range : (o : Operation) → IsIn o os → IsId o.id
  id_in_range o i = let valid = valid_one o i in record { client = valid.client; clock = omega (arith, valid.end) }

  -- ---- what stands

  not_gone : (o : Operation) → IsIn o os → is_gone o ≡ false
  not_gone o i = ap (λ level. nat_eq level 0) (is.letters o i).full

  pub stands_all : standing os ≡ os
  stands_all = subst (λ h. standing h ≡ h) is.all_held (standing-all os w (λ o i. not_gone o (subst (λ h. IsIn o h) is.all_held i)))

  table : IsTable (rows_of os)
  table = subst (λ s. IsTable (rows_of s)) stands_all (standing_table os w)

  in_text : (o : Operation) → IsIn o os → list_of os o.id ≡ text_list
  in_text o i = held_least os (λ x. list_of os x ≡ text_list) one o (subst (λ h. IsIn o h) (sym is.all_held) i)
    where
      one : (p : Operation) → IsIn p os → ((x : Id) → IsIn x (needs p) → list_of os x ≡ text_list) → list_of os p.id ≡ text_list
      one p j f = go p.left_origin refl p.right_origin refl
        where
          go : (left : Option Id) → p.left_origin ≡ left → (right : Option Id) → p.right_origin ≡ right → list_of os p.id ≡ text_list
          go (Some y) e right g = list_of-left os table p j y e ∙ f y (left_needed p y e)
          go None e (Some y) g = list_of-right os table p j e y g ∙ f y (right_needed p y g)
          go None e None g = list_of-carried os table p j e g
              ∙ carries_text p.left_origin p.right_origin p.list e g ((valid_one p j).list (let full = (is.letters p j).full in omega (arith, full))) (is.lists p j)

  -- ---- what is deleted

  abbrev named : Id → Bool
  named = is_named r.deletes

  deleted_one : (x : Id) → has_operation os x ≡ true → is_deleted os named x ≡ named x
  deleted_one x there = by_rule ∙ ap (λ t. t || (named x || (is_overwritten (standing os) (list_of (standing os) x) x || is_some_and (is_deleted os named) (item_of_list (list_of (standing os) x))))) not_lost
      ∙ ap (λ list. named x || (is_overwritten (standing os) list x || is_some_and (is_deleted os named) (item_of_list list))) of_text
      ∙ or_none (named x)
    where
      by_rule : is_deleted os named x
          ≡ (is_lost os x || (named x || (is_overwritten (standing os) (list_of (standing os) x) x || is_some_and (is_deleted os named) (item_of_list (list_of (standing os) x)))))
      by_rule = subst (λ h. is_deleted h named x
          ≡ (is_lost h x || (named x || (is_overwritten (standing h) (list_of (standing h) x) x || is_some_and (is_deleted h named) (item_of_list (list_of (standing h) x))))))
          is.all_held (is_deleted-one os w named x (subst (λ h. has_operation h x ≡ true) (sym is.all_held) there))

      not_lost : is_lost os x ≡ false
      not_lost = rw (stands_all, there) refl

      of_text : list_of (standing os) x ≡ text_list
      of_text = let (o, i, e) = operation_with os x there in ap (λ s. list_of s x) stands_all ∙ subst (λ y. list_of os y ≡ text_list) e (in_text o i)

  pub deleted_named : (x : Id) → is_in_delete_set r x ≡ named x
  deleted_named x = ap (λ h. has_operation h x && is_deleted h named x) is.all_held ∙ elim (cases_Bool (has_operation os x)) [
    | inl there ↦ ap (λ t. t && is_deleted os named x) there ∙ deleted_one x there
    | inr none ↦ ap (λ t. t && is_deleted os named x) none
        ∙ sym (test_fails (named x) (λ e. true≢false (sym (is.deletes x (named_has r.deletes x e)) ∙ none)))
  ]

  -- its delete set is its deletions
  pub own_deletes : (own : List Span) → AreMaximal own → AreDeletedIn own (document_of r) → own ≡ r.deletes
  own_deletes own maximal are = sets_same own r.deletes maximal is.received.maximal (λ x. (
    (λ h. named_has r.deletes x (sym (deleted_named x) ∙ (are x).0 h)),
    (λ h. (are x).1 (deleted_named x ∙ has_named r.deletes x h)),
  ))

  in_set : List Operation
  in_set = filter (λ o. is_in_delete_set r o.id) os

  pub delete_set_is : delete_set_of r ≡ r.deletes
  delete_set_is = own_deletes (delete_set_of r)
      (units_maximal (filter (λ o. is_in_delete_set r o.id) os) (λ o i. valid_one o (kept_one (λ p. is_in_delete_set r p.id) os o i).1))
      (λ x. (
        (λ h. let (o, i, e) = has_units (filter (λ o. is_in_delete_set r o.id) os) x h in
            subst (λ y. is_in_delete_set r y ≡ true) e (kept_one (λ p. is_in_delete_set r p.id) os o i).0),
        (λ e. let (o, i, f) = operation_with os x (is.deletes x (named_has r.deletes x (sym (deleted_named x) ∙ e))) in
            subst (λ y. HasId (delete_set_of r) y) f (units_have (filter (λ p. is_in_delete_set r p.id) os) o
            (one_kept (λ p. is_in_delete_set r p.id) os o (subst (λ y. is_in_delete_set r y ≡ true) (sym f) e) i))),
      ))
