-- A deletion: the live counted units are the old ones without those named.
use Rattle.std.proofs.Common.{◌≡◌, ◌≢◌, ◌+◌, ℕ, Bool, true, false, not, ◌&&◌, List, [], ◌∷◌, ◌++◌, map, None, inl, inr, refl, sym, ap, ap₂, ◌∙◌, subst, true≢false}
use Rattle.std.proofs.lemmas.Bool.{false_from_ne_true}
use Rattle.std.proofs.lemmas.List.{take-append-drop}
use Rattle.std.proofs.lemmas.List.Elements.{filter-append}
use Rattle.std.specs.Prelude.{filter, take, drop, if◌then◌else◌}
use Rattle.yd_words.specs.Member.{IsIn}
use Rattle.yd_words.proofs.FilterLemmas.{filter_alike, filter-all, kept_one}
use Rattle.yd_words.proofs.MemberLemmas.{in_left_part, in_right_part}
use Rattle.yd_ids.specs.declared.id.Client.{Client}
use Rattle.yd_ids.specs.declared.id.Id.{Id}
use Rattle.yd_ids.specs.Set.{HasId, union_of}
use Rattle.yd_ids.proofs.UnionLemmas.{union_ids}
use Rattle.yd_ops.specs.declared.lists.List.{List as DocList}
use Rattle.yd_ops.specs.Operation.{Operation}
use Rattle.yd_ops.specs.Received.{Received}
use Rattle.yd_meaning.specs.Held.{held_set, standing, is_named}
use Rattle.yd_meaning.specs.Order.{order_of}
use Rattle.yd_meaning.specs.Document.{document_of}
use Rattle.yd_shown.specs.Shown.{is_counted}
use Rattle.yd_editing.specs.Law.{after_edit}
use Rattle.yd_editing.specs.Step.{Step}
use Rattle.yd_editing.specs.Basis.{basis_of}
use Rattle.yd_editing.specs.Refused.{refusal_of}
use Rattle.yd_editing.specs.TextEdit.{counted_units, ids_of_units, delete_steps, delete_refusal, end_refusal, index_refusal}
use Rattle.yd_editing.specs.TextLaw.{IsQuietText, IsRemoved}
use Rattle.yd_editing.proofs.NamedLemmas.{has_named, named_has}
use Rattle.yd_editing.proofs.RefusalLemmas.{neither, id_in_map}
use Rattle.yd_editing.proofs.IndexLemmas.{AreApart, units_have, has_units}
use Rattle.yd_editing.proofs.EditedListLemmas.{as_list}
use Rattle.yd_editing.proofs.OthersLemmas.{other_lists}
use Rattle.yd_editing.proofs.OwnListLemmas.{is_shown_by, taken, is_held, counted_after, counted_named, units_apart, unit_in_order, filter_filter}

-- ---- members of parts

pub in_take : (n : ℕ) (os : List Operation) (o : Operation) → IsIn o (take n os) → IsIn o os
in_take n os o i = subst (λ ps. IsIn o ps) (take-append-drop n os) (in_left_part o (take n os) (drop n os) i)

pub in_drop : (n : ℕ) (os : List Operation) (o : Operation) → IsIn o (drop n os) → IsIn o os
in_drop n os o i = subst (λ ps. IsIn o ps) (take-append-drop n os) (in_right_part o (take n os) (drop n os) i)

-- of two parts of a list of units that are apart no unit of one has the id of a unit of the other
pub apart_parts : (os ps : List Operation) → AreApart (os ++ ps) → (o p : Operation) → IsIn o os → IsIn p ps → o.id ≢ p.id
apart_parts [] ps a o p i j e = i
apart_parts (q ∷ qs) ps a o p (inl f) j e = a.0 (subst (λ x. IsIn x (map (λ (r : Operation). r.id) (qs ++ ps))) (sym e ∙ ap (λ (r : Operation). r.id) f)
    (id_in_map (qs ++ ps) p (in_right_part p qs ps j)))
apart_parts (q ∷ qs) ps a o p (inr i) j e = apart_parts qs ps a.1 o p i j e

pub apart_back : (os ps : List Operation) → AreApart (os ++ ps) → AreApart ps
apart_back [] ps a = a
apart_back (o ∷ os) ps a = apart_back os ps a.1

pub apart_kept : (test : Operation → Bool) (os : List Operation) → AreApart os → AreApart (filter test os)
apart_kept test [] a = tt
apart_kept test (o ∷ os) a = go (test o) (apart_kept test os a.1)
  where
    within : (x : Id) → (ps : List Operation) → ((p : Operation) → IsIn p ps → IsIn p os) → IsIn x (map (λ (r : Operation). r.id) ps) →
        IsIn x (map (λ (r : Operation). r.id) os)
    within x [] f i = absurd i
    within x (p ∷ ps) f (inl e) = subst (λ y. IsIn y (map (λ (r : Operation). r.id) os)) (sym e) (id_in_map os p (f p (inl refl)))
    within x (p ∷ ps) f (inr i) = within x ps (λ q j. f q (inr j)) i

    go : (t : Bool) → AreApart (filter test os) → AreApart (if t then o ∷ filter test os else filter test os)
    go true b = ((λ i. a.0 (within o.id (filter test os) (λ p j. (kept_one test os p j).1) i)), b)
    go false b = b

filter_none : (test : Operation → Bool) (os : List Operation) → ((o : Operation) → IsIn o os → test o ≡ false) → filter test os ≡ []
filter_none test [] f = refl
filter_none test (o ∷ os) f = rw (f o (inl refl)) (filter_none test os (λ p i. f p (inr i)))

module _ (client : Client) (r : Received) (name : DocList) (index len : ℕ) (quiet : IsQuietText r name)
    (done : refusal_of (basis_of client r) (delete_steps (document_of r) name index len) ≡ None) where
  abbrev units : List Operation
  units = (document_of r).units name

  abbrev shown : List Operation
  shown = counted_units (document_of r) name

  abbrev front : List Operation
  front = take index shown

  abbrev middle : List Operation
  middle = take len (drop index shown)

  abbrev back : List Operation
  back = drop len (drop index shown)

  abbrev steps : List Step
  steps = delete_steps (document_of r) name index len

  shown_is : shown ≡ filter (is_shown_by (is_named r.deletes)) units
  shown_is = counted_named r name quiet

  shown_unit : (o : Operation) → IsIn o shown → IsIn o units
  shown_unit o i = (kept_one (is_shown_by (is_named r.deletes)) units o (subst (λ os. IsIn o os) shown_is i)).1

  shown_apart : AreApart shown
  shown_apart = subst (λ os. AreApart os) (sym shown_is) (apart_kept (is_shown_by (is_named r.deletes)) units (units_apart r name quiet))

  in_middle : (x : Id) → HasId (union_of (ids_of_units middle) []) x → (o : Operation) × IsIn o middle × (o.id ≡ x)
  in_middle x h = elim ((union_ids (ids_of_units middle) [] x).0 h) [ inl i ↦ has_units middle x i | inr i ↦ absurd i ]

  removed : (x : Id) → HasId (union_of (ids_of_units middle) []) x → IsIn x (order_of (standing (held_set r.operations)) name)
  removed x h = let (o, i, e) = in_middle x h in
      subst (λ y. IsIn y (order_of (standing (held_set r.operations)) name)) e (unit_in_order r name quiet o
      (shown_unit o (in_drop index shown o (in_take len (drop index shown) o i))))

  abbrev now : Id → Bool
  now = is_named (after_edit client r steps).deletes

  -- what was shown is shown still, but for the middle
  shown_of : counted_units (document_of (after_edit client r steps)) name ≡ filter (λ o. not (now o.id)) shown
  shown_of = counted_after client r name quiet steps (tt, tt) tt removed done
      ∙ filter_alike (is_shown_by now) (λ o. is_shown_by (is_named r.deletes) o && not (now o.id)) units same
      ∙ sym (filter_filter (is_shown_by (is_named r.deletes)) (λ o. not (now o.id)) units)
      ∙ ap (filter (λ o. not (now o.id))) (sym shown_is)
    where
      both : (before after counts : Bool) → (before ≡ true → after ≡ true) → not after && counts ≡ (not before && counts) && not after
      both true true true f = refl
      both true true false f = refl
      both true false true f = absurd (true≢false (sym (f refl)))
      both true false false f = refl
      both false true true f = refl
      both false true false f = refl
      both false false true f = refl
      both false false false f = refl

      same : (o : Operation) → IsIn o units → is_shown_by now o ≡ (is_shown_by (is_named r.deletes) o && not (now o.id))
      same o i = both (is_named r.deletes o.id) (now o.id) (is_counted o.content)
          (λ e. has_named (after_edit client r steps).deletes o.id (((taken client r name quiet steps (tt, tt) tt removed done).deletes o.id).1 (inl (named_has r.deletes o.id e))))

  parts : front ++ (middle ++ back) ≡ shown
  parts = ap (λ os. front ++ os) (take-append-drop len (drop index shown)) ∙ take-append-drop index shown

  parts_apart : AreApart (front ++ (middle ++ back))
  parts_apart = subst (λ os. AreApart os) (sym parts) shown_apart

  -- a shown unit is named now exactly where it is of the middle
  of_middle : (o : Operation) → IsIn o middle → now o.id ≡ true
  of_middle o i = has_named (after_edit client r steps).deletes o.id (((taken client r name quiet steps (tt, tt) tt removed done).deletes o.id).1
      (inr ((union_ids (ids_of_units middle) [] o.id).1 (inl (units_have middle o i)))))

  not_named_before : (o : Operation) → IsIn o shown → is_named r.deletes o.id ≡ false
  not_named_before o i = go (is_named r.deletes o.id) (kept_one (is_shown_by (is_named r.deletes)) units o (subst (λ os. IsIn o os) shown_is i)).0
    where
      go : (t : Bool) → (not t && is_counted o.content) ≡ true → t ≡ false
      go true e = sym e
      go false e = refl

  not_of_middle : (o : Operation) → IsIn o shown → ((p : Operation) → IsIn p middle → p.id ≢ o.id) → now o.id ≡ false
  not_of_middle o i other = false_from_ne_true (now o.id) (λ e. elim (((taken client r name quiet steps (tt, tt) tt removed done).deletes o.id).0
      (named_has (after_edit client r steps).deletes o.id e)) [
        | inl h ↦ true≢false (sym (has_named r.deletes o.id h) ∙ not_named_before o i)
        | inr h ↦ let (p, j, f) = in_middle o.id h in other p j f
      ])

  counted_is : counted_units (document_of (after_edit client r steps)) name ≡ front ++ back
  counted_is = shown_of ∙ ap (filter (λ o. not (now o.id))) (sym parts) ∙ filter-append (λ o. not (now o.id)) front (middle ++ back)
      ∙ ap₂ (λ xs ys. xs ++ ys)
      (filter-all (λ o. not (now o.id)) front (λ o i. ap not (not_of_middle o (in_take index shown o i)
      (λ p j e. apart_parts front (middle ++ back) parts_apart o p i (in_left_part p middle back j) (sym e)))))
      (filter-append (λ o. not (now o.id)) middle back
      ∙ ap₂ (λ xs ys. xs ++ ys) (filter_none (λ o. not (now o.id)) middle (λ o i. ap not (of_middle o i)))
      (filter-all (λ o. not (now o.id)) back (λ o i. ap not (not_of_middle o (in_drop index shown o (in_drop len (drop index shown) o i))
      (λ p j e. apart_parts middle back (apart_back front (middle ++ back) parts_apart) p o j i e)))))

  is_removed : IsRemoved client r name index len steps
  is_removed = record {
    held = is_held client r name quiet steps (tt, tt) tt removed done;
    counted = counted_is;
    others = other_lists client r name (as_list r name quiet) steps (tt, tt) tt removed done;
  }

-- ---- lemmas for callers

pub deleted_units_go : (client : Client) (r : Received) (name : DocList) (index len : ℕ) → IsQuietText r name →
    delete_refusal (basis_of client r) name index len ≡ None → IsRemoved client r name index len (delete_steps (document_of r) name index len)
deleted_units_go client r name index len quiet done =
    let a = neither (end_refusal (counted_units (document_of r) name) (index + len)) _ done in
    let b = neither (index_refusal (counted_units (document_of r) name) index) _ a.1 in
    let c = neither (index_refusal (counted_units (document_of r) name) (index + len)) _ b.1 in
    is_removed client r name index len quiet c.1
