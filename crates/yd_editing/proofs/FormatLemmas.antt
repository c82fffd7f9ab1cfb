-- A format: the units between its two marks have its value, and other units, keys and lists stay.
use Rattle.std.proofs.Common.{◌≡◌, ◌≢◌, ◌+◌, ℕ, Bool, true, false, not, ◌&&◌, List, [], ◌∷◌, ◌++◌, length, Option, Some, None, inl, inr, refl, sym, ap, ap₂, ◌∙◌, subst, true≢false}
use Rattle.std.proofs.lemmas.Bool.{cases_Bool, false_from_ne_true}
use Rattle.std.proofs.lemmas.List.Elements.{filter-append}
use Rattle.std.specs.Prelude.{filter, if◌then◌else◌}
use Rattle.yd_words.specs.Member.{IsIn}
use Rattle.yd_words.proofs.TestLemmas.{both_hold}
use Rattle.yd_words.proofs.FilterLemmas.{filter_alike, kept_one, one_kept}
use Rattle.yd_words.proofs.MemberLemmas.{in_left_part, in_right_part}
use Rattle.yd_ids.specs.declared.id.Client.{Client}
use Rattle.yd_ids.specs.declared.id.Id.{Id}
use Rattle.yd_ids.specs.Set.{HasId, union_of}
use Rattle.yd_ids.proofs.UnionLemmas.{union_ids}
use Rattle.yd_any.specs.Tree.{AnyTree, null}
use Rattle.yd_ops.specs.declared.lists.List.{List as DocList}
use Rattle.yd_ops.specs.Value.{format, RunValue}
use Rattle.yd_ops.specs.Operation.{mark, Operation}
use Rattle.yd_ops.specs.Received.{has_operation, Received}
use Rattle.yd_meaning.specs.ListNames.{same_list_decides}
use Rattle.yd_meaning.specs.Held.{held_set, held_clock, standing, is_named}
use Rattle.yd_meaning.specs.Order.{order_of}
use Rattle.yd_meaning.specs.Document.{document_of}
use Rattle.yd_meaning.specs.Text.{live_units}
use Rattle.yd_shown.specs.Shown.{is_counted}
use Rattle.yd_editing.specs.Step.{Step}
use Rattle.yd_editing.specs.Basis.{basis_of}
use Rattle.yd_editing.specs.Made.{units_up_to, units_behind, put_behind, lists_with, run_of_step}
use Rattle.yd_editing.specs.Refused.{refusal_of}
use Rattle.yd_editing.specs.TextEdit.{ids_of_units, stands_before, value_in_force, is_mark_of, marks_between, format_between}
use Rattle.yd_editing.specs.Law.{after_edit, evolved_by, EditIsTaken}
use Rattle.yd_editing.specs.TextLaw.{IsQuietText, valued, IsFormatted, with_values}
use Rattle.yd_editing.proofs.NamedLemmas.{has_named, named_has}
use Rattle.yd_editing.proofs.IndexLemmas.{AreApart, units_have, has_units}
use Rattle.yd_editing.proofs.DeleteLemmas.{apart_parts, apart_back}
use Rattle.yd_editing.proofs.EditedListLemmas.{as_list}
use Rattle.yd_editing.proofs.OthersLemmas.{other_lists}
use Rattle.yd_editing.proofs.OwnListLemmas.{is_shown_by, taken, is_held, live_evolved, live_named, new_not_named, units_apart, unit_in_order, unit_received, filter_filter}
use Rattle.yd_editing.proofs.ValueLemmas.{values_between, length-one_more, without_marks, counted_no_mark, others_valued, length-valued}
use Rattle.yd_editing.proofs.PartedLemmas.{three_parts, apart_three, kept_parts, kept_up_to, kept_behind, put_around}
use Rattle.yd_editing.proofs.AroundLemmas.{apart_one}

module _ (client : Client) (r : Received) (name : DocList) (key : List ℕ) (value : AnyTree) (quiet : IsQuietText r name)
    (front between behind : List Operation) (first last : Operation) (rest : List Operation)
    (parts : (document_of r).units name ≡ front ++ (between ++ last ∷ behind)) (starts : between ++ last ∷ [] ≡ first ∷ rest)
    (first_shown : is_shown_by (is_named r.deletes) first ≡ true) (last_shown : is_shown_by (is_named r.deletes) last ≡ true) where
  abbrev units : List Operation
  units = (document_of r).units name

  -- the units that the format is of, with what lies between them
  abbrev middle : List Operation
  middle = between ++ last ∷ []

  abbrev steps : List Step
  steps = format_between (document_of r) name key value (Some first.id) (Some last.id)

  module _ (done : refusal_of (basis_of client r) (format_between (document_of r) name key value (Some first.id) (Some last.id)) ≡ None) where
    abbrev place : Option Id
    place = stands_before first.id None units

    abbrev force : AnyTree
    force = value_in_force key (units_up_to (Some last.id) (live_units (document_of r) name)) null

    abbrev run_one : RunValue
    run_one = run_of_step client (held_clock (held_set r.operations) client.0) (document_of r).units name place (format key value)

    abbrev one : Operation
    one = record { id = run_one.id; left_origin = run_one.left; right_origin = run_one.right; list = run_one.list; content = mark key value }

    abbrev lists_one : DocList → List Operation
    lists_one = lists_with (document_of r).units name place (one ∷ [])

    abbrev run_two : RunValue
    run_two = run_of_step client (held_clock (held_set r.operations) client.0 + 1) lists_one name (Some last.id) (format key force)

    abbrev two : Operation
    two = record { id = run_two.id; left_origin = run_two.left; right_origin = run_two.right; list = run_two.list; content = mark key force }

    evolved_are : evolved_by client r steps name ≡ put_behind (Some last.id) (two ∷ []) (put_behind place (one ∷ []) units)
    evolved_are = ap (λ t. if t then put_behind (Some last.id) (two ∷ []) (lists_one name) else lists_one name) ((same_list_decides name name).1 refl)
        ∙ ap (λ os. put_behind (Some last.id) (two ∷ []) os) (ap (λ t. if t then put_behind place (one ∷ []) units else units) ((same_list_decides name name).1 refl))

    -- ---- the units, apart

    apart : AreApart (front ++ (middle ++ behind))
    apart = apart_three front between behind last units parts (units_apart r name quiet)

    in_units : (o : Operation) → IsIn o (front ++ (middle ++ behind)) → IsIn o units
    in_units o i = subst (λ os. IsIn o os) (sym (three_parts front between behind last units parts (units_apart r name quiet))) i

    -- ---- what is live

    abbrev is_live : Operation → Bool
    is_live o = not (is_named r.deletes o.id)

    shown_live : (o : Operation) → is_shown_by (is_named r.deletes) o ≡ true → (is_live o ≡ true) × (is_counted o.content ≡ true)
    shown_live o e = both_hold (is_live o) (is_counted o.content) e

    abbrev live_front : List Operation
    live_front = filter is_live front

    abbrev live_middle : List Operation
    live_middle = filter is_live middle

    abbrev live_behind : List Operation
    live_behind = filter is_live behind

    live_is : live_units (document_of r) name ≡ live_front ++ (live_middle ++ live_behind)
    live_is = live_named r name quiet ∙ kept_parts front between behind last units parts (units_apart r name quiet) is_live

    -- up to the last unit
    up_to_last : units_up_to (Some last.id) (live_units (document_of r) name) ≡ live_front ++ live_middle
    up_to_last = ap (units_up_to (Some last.id)) (live_named r name quiet)
        ∙ kept_up_to front between behind last units parts (units_apart r name quiet) is_live (shown_live last last_shown).0

    -- the marks that are removed
    abbrev marks : List Operation
    marks = marks_between (document_of r) name key first.id last.id

    marks_are : marks ≡ filter (λ o. is_mark_of key o.content) (filter is_live rest)
    marks_are = ap (λ os. filter (λ o. is_mark_of key o.content) (units_behind (Some first.id) (units_up_to (Some last.id) os))) (live_named r name quiet)
        ∙ ap (filter (λ o. is_mark_of key o.content)) (kept_behind front between behind last units parts (units_apart r name quiet) is_live (shown_live last last_shown).0
        first rest starts (shown_live first first_shown).0)

    mark_is : (o : Operation) → IsIn o marks → (is_mark_of key o.content ≡ true) × IsIn o (filter is_live rest)
    mark_is o i = kept_one (λ p. is_mark_of key p.content) (filter is_live rest) o (subst (λ os. IsIn o os) marks_are i)

    mark_in_middle : (o : Operation) → IsIn o marks → IsIn o middle
    mark_in_middle o i = subst (λ os. IsIn o os) (sym starts) (inr (kept_one is_live rest o (mark_is o i).1).1)

    in_removed : (x : Id) → HasId (union_of (ids_of_units marks) []) x → (o : Operation) × IsIn o marks × (o.id ≡ x)
    in_removed x h = elim ((union_ids (ids_of_units marks) [] x).0 h) [ inl i ↦ has_units marks x i | inr i ↦ absurd i ]

    removed : (x : Id) → HasId (union_of (ids_of_units marks) []) x → IsIn x (order_of (standing (held_set r.operations)) name)
    removed x h = let (o, i, e) = in_removed x h in
        subst (λ y. IsIn y (order_of (standing (held_set r.operations)) name)) e (unit_in_order r name quiet o
        (in_units o (in_right_part o front (middle ++ behind) (in_left_part o middle behind (mark_in_middle o i)))))

    -- ---- what is named now

    abbrev now : Id → Bool
    now = is_named (after_edit client r (format_between (document_of r) name key value (Some first.id) (Some last.id))).deletes

    edit_taken : EditIsTaken client r steps
    edit_taken = taken client r name quiet steps (tt, (tt, (tt, tt))) (refl, (refl, tt)) removed done

    named_stays : (x : Id) → is_named r.deletes x ≡ true → now x ≡ true
    named_stays x e = has_named (after_edit client r steps).deletes x ((edit_taken.deletes x).1 (inl (named_has r.deletes x e)))

    -- what is no removed mark is named now where it was
    named_as_before : (x : Id) → ((o : Operation) → IsIn o marks → o.id ≢ x) → now x ≡ is_named r.deletes x
    named_as_before x none = elim (cases_Bool (is_named r.deletes x)) [
      | inl e ↦ named_stays x e ∙ sym e
      | inr e ↦ false_from_ne_true (now x) (λ f. elim ((edit_taken.deletes x).0 (named_has (after_edit client r steps).deletes x f)) [
        | inl h ↦ true≢false (sym (has_named r.deletes x h) ∙ e)
        | inr h ↦ let (o, i, g) = in_removed x h in none o i g
      ]) ∙ sym e
    ]

    mark_named : (o : Operation) → IsIn o marks → now o.id ≡ true
    mark_named o i = has_named (after_edit client r steps).deletes o.id ((edit_taken.deletes o.id).1
        (inr ((union_ids (ids_of_units marks) [] o.id).1 (inl (units_have marks o i)))))

    new_live : (o : Operation) → IsIn o (one ∷ two ∷ []) → now o.id ≡ false
    new_live o i = named_as_before o.id none ∙ new_not_named client r name quiet steps (tt, (tt, (tt, tt))) (refl, (refl, tt)) removed done o i
      where
        none : (p : Operation) → IsIn p marks → p.id ≢ o.id
        none p j e = true≢false (sym (subst (λ x. has_operation r.operations x ≡ true) e (unit_received r name quiet p
            (in_units p (in_right_part p front (middle ++ behind) (in_left_part p middle behind (mark_in_middle p j))))))
            ∙ edit_taken.new o i)

    -- ---- the parts now

    now_front : filter (λ o. not (now o.id)) front ≡ live_front
    now_front = filter_alike (λ o. not (now o.id)) is_live front (λ o i. ap not (named_as_before o.id (λ p j e.
        apart_parts front (middle ++ behind) apart o p i (in_left_part p middle behind (mark_in_middle p j)) (sym e))))

    now_behind : filter (λ o. not (now o.id)) behind ≡ live_behind
    now_behind = filter_alike (λ o. not (now o.id)) is_live behind (λ o i. ap not (named_as_before o.id (λ p j e.
        apart_parts middle behind (apart_back front (middle ++ behind) apart) p o (mark_in_middle p j) i e)))

    now_middle : filter (λ o. not (now o.id)) middle ≡ without_marks key live_middle
    now_middle = filter_alike (λ o. not (now o.id)) (λ o. is_live o && not (is_mark_of key o.content)) middle same
        ∙ sym (filter_filter is_live (λ o. not (is_mark_of key o.content)) middle)
      where
        same : (o : Operation) → IsIn o middle → not (now o.id) ≡ (is_live o && not (is_mark_of key o.content))
        same o i = elim (cases_Bool (is_named r.deletes o.id)) [
          | inl e ↦ rw (named_stays o.id e, e) refl
          | inr e ↦ elim (cases_Bool (is_mark_of key o.content)) [
            | inl m ↦ rw (mark_named o (is_there e m (subst (λ os. IsIn o os) starts i)), e, m) refl
            | inr m ↦ rw (
              named_as_before o.id (λ p j g. true≢false (sym (subst (λ (q : Operation). is_mark_of key q.content ≡ true)
                  (apart_one units (units_apart r name quiet) p o (in_units p (in_right_part p front (middle ++ behind) (in_left_part p middle behind (mark_in_middle p j))))
                  (in_units o (in_right_part o front (middle ++ behind) (in_left_part o middle behind i))) g) (mark_is p j).0) ∙ m)),
              e,
              m,
            ) refl
          ]
        ]
          where
            is_there : is_named r.deletes o.id ≡ false → is_mark_of key o.content ≡ true → IsIn o (first ∷ rest) → IsIn o marks
            is_there e m (inl f) = absurd (true≢false (sym m ∙ counted_no_mark key o.content
                (subst (λ (q : Operation). is_counted q.content ≡ true) (sym f) (shown_live first first_shown).1)))
            is_there e m (inr j) = subst (λ os. IsIn o os) (sym marks_are) (one_kept (λ p. is_mark_of key p.content) (filter is_live rest) o m (one_kept is_live rest o (ap not e) j))

    -- ---- the list now

    one_is_new : one.id ≢ last.id
    one_is_new e = true≢false (sym (subst (λ x. has_operation r.operations x ≡ true) (sym e) last_received)
        ∙ edit_taken.new one (inl refl))
      where
        last_received : has_operation r.operations last.id ≡ true
        last_received = unit_received r name quiet last (subst (λ os. IsIn last os) (sym parts)
            (in_right_part last front (between ++ last ∷ behind) (in_right_part last between (last ∷ behind) (inl refl))))

    put_both : put_behind (Some last.id) (two ∷ []) (put_behind place (one ∷ []) units) ≡ front ++ (one ∷ (middle ++ (two ∷ behind)))
    put_both = put_around front between behind last units parts (units_apart r name quiet) first rest starts one two one_is_new

    abbrev not_now : Operation → Bool
    not_now o = not (is_named (after_edit client r (format_between (document_of r) name key value (Some first.id) (Some last.id))).deletes o.id)

    keep_one : (o : Operation) (os : List Operation) → now o.id ≡ false → filter not_now (o ∷ os) ≡ o ∷ filter not_now os
    keep_one o os e = ap (λ t. if not t then o ∷ filter not_now os else filter not_now os) e

    shape_after : live_units (document_of (after_edit client r steps)) name ≡ live_front ++ (one ∷ (without_marks key live_middle ++ (two ∷ live_behind)))
    shape_after = live_evolved client r name quiet steps (tt, (tt, (tt, tt))) (refl, (refl, tt)) removed done
        ∙ ap (filter not_now) (evolved_are ∙ put_both)
        ∙ filter-append not_now front (one ∷ (middle ++ (two ∷ behind)))
        ∙ ap₂ (λ xs ys. xs ++ ys) now_front (keep_one one (middle ++ (two ∷ behind)) (new_live one (inl refl))
        ∙ ap (λ os. one ∷ os) (filter-append not_now middle (two ∷ behind) ∙ ap₂ (λ xs ys. xs ++ ys) now_middle
        (keep_one two behind (new_live two (inr (inl refl))) ∙ ap (λ os. two ∷ os) now_behind)))

    two_mark : mark key force ≡ mark key (value_in_force key (live_front ++ live_middle) null)
    two_mark = ap (λ os. mark key (value_in_force key os null)) up_to_last

    counted_middle : length (valued key (value_in_force key live_front null) live_middle) ≡ length (filter (is_shown_by (is_named r.deletes)) between) + 1
    counted_middle = length-valued key live_middle (value_in_force key live_front null) ∙ ap length (filter_filter is_live (λ o. is_counted o.content) middle)
        ∙ ap length (filter-append (is_shown_by (is_named r.deletes)) between (last ∷ [])
        ∙ ap (λ t. filter (is_shown_by (is_named r.deletes)) between ++ (if t then last ∷ [] else [])) last_shown)
        ∙ length-one_more (filter (is_shown_by (is_named r.deletes)) between) last

    pub is_formatted : (index len : ℕ) → length (filter (is_shown_by (is_named r.deletes)) front) ≡ index →
        length (filter (is_shown_by (is_named r.deletes)) between) + 1 ≡ len → IsFormatted client r name index len key value steps
    is_formatted index len e f = record {
      held = is_held client r name quiet steps (tt, (tt, (tt, tt))) (refl, (refl, tt)) removed done;
      own = ap (valued key null) shape_after
          ∙ values_between key value live_front live_middle live_behind one two refl two_mark index len
          (length-valued key live_front null ∙ ap length (filter_filter is_live (λ o. is_counted o.content) front) ∙ e) (counted_middle ∙ f)
          ∙ ap (λ os. with_values value index len (valued key null os)) (sym live_is);
      keys = λ other differ. ap (valued other null) shape_after ∙ others_valued key value live_front live_middle live_behind one two refl two_mark other differ
          ∙ ap (valued other null) (sym live_is);
      others = other_lists client r name (as_list r name quiet) steps (tt, (tt, (tt, tt))) (refl, (refl, tt)) removed done;
    }
