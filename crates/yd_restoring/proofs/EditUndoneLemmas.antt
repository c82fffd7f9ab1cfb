-- What is shown of a text after an edit and its undo, where both may be of several lists.
use Rattle.std.proofs.Common.{◌≡◌, ◌⊎◌, ℕ, ◌+◌, ◌<◌, nat_le, ◌&&◌, ◌||◌, not, Bool, true, false, List, [], ◌∷◌, ◌++◌, Option, Some, None, inl, inr, refl, sym, ap, ◌∙◌, subst, arith, tests, true≢false}
use Rattle.std.proofs.lemmas.Bool.{cases_Bool, false_from_ne_true}
use Rattle.std.proofs.lemmas.List.Elements.{filter-append}
use Rattle.std.specs.Prelude.{filter, IfSome, if◌then◌else◌}
use Rattle.yd_words.specs.Each.{Each}
use Rattle.yd_words.specs.Member.{IsIn}
use Rattle.yd_words.specs.Test.{is_some_and}
use Rattle.yd_words.proofs.FilterLemmas.{filter_alike}
use Rattle.yd_words.proofs.MemberLemmas.{in_left_part, in_right_part, in_parts}
use Rattle.yd_ids.specs.declared.id.Client.{Client}
use Rattle.yd_ids.specs.declared.id.Id.{Id}
use Rattle.yd_ids.specs.declared.id.Span.{Span}
use Rattle.yd_ids.specs.Ids.{is_same}
use Rattle.yd_ids.specs.Set.{HasId}
use Rattle.yd_ids.proofs.SetOfLemmas.{maximal_spans}
use Rattle.yd_ids.proofs.UnionLemmas.{union_ids}
use Rattle.yd_ops.specs.declared.lists.List.{List as DocList}
use Rattle.yd_ops.specs.Operation.{Operation, operations_of_run}
use Rattle.yd_ops.specs.Valid.{IsValidUpdate}
use Rattle.yd_ops.specs.Value.{UpdateValue, len_of}
use Rattle.yd_ops.specs.Received.{has_operation, Received}
use Rattle.yd_ops.proofs.OneOfLemmas.{operation_with, id_there}
use Rattle.yd_ops.proofs.ReceivedLemmas.{after_is_received}
use Rattle.yd_meaning.specs.Deleted.{is_deleted}
use Rattle.yd_meaning.specs.Document.{document_of}
use Rattle.yd_meaning.specs.Held.{held_set, held_clock, is_named}
use Rattle.yd_meaning.specs.Names.{item_of_list, same_list}
use Rattle.yd_meaning.specs.Text.{live_units}
use Rattle.yd_meaning.proofs.VectorLemmas.{held_below}
use Rattle.yd_editing.proofs.NamedLemmas.{has_named, named_has}
use Rattle.yd_subsets.proofs.PartLemmas.{part_maximal}
use Rattle.yd_copying.specs.Content.{can_be_made}
use Rattle.yd_editing.specs.Basis.{Basis, basis_of}
use Rattle.yd_editing.specs.Law.{IsHonestHeld, after_edit, MakesContent, made_by, EditIsTaken, EditIsHeld}
use Rattle.yd_editing.specs.Made.{units_up_to, units_behind, put_behind, lists_with, run_of_step, runs_of, operations_of_runs, lists_after, removed_by, update_of_edit}
use Rattle.yd_editing.specs.Refused.{refusal_of, first_of_steps, place_refusal, removal_refusal, pair_refusal, waiting_refusal, clock_refusal, span_refusal, spans_refusal}
use Rattle.yd_editing.specs.Step.{Step, make, remove, Refusal, first_or}
use Rattle.yd_editing.specs.TextLaw.{IsQuietText}
use Rattle.yd_editing.proofs.EditedListLemmas.{as_list, live_before}
use Rattle.yd_editing.proofs.LiveLemmas.{own_live}
use Rattle.yd_editing.proofs.OwnListLemmas.{unit_received}
use Rattle.yd_editing.proofs.RefusalLemmas.{neither, no_step, not_some}
use Rattle.yd_editing.proofs.TakenLemmas.{honest_held, edit_is_taken, edit_is_held}
use Rattle.yd_undo.specs.declared.entry.Entry.{Entry}
use Rattle.yd_undo.specs.Entry.{undo_entry}
use Rattle.yd_undo.specs.Law.{IsOfUpdate}
use Rattle.yd_undo.proofs.InsertedLemmas.{entries_of}
use Rattle.yd_restoring.specs.Again.{contents}
use Rattle.yd_restoring.specs.Each.{IsEntryOf, IsLive}
use Rattle.yd_restoring.specs.Law.{shows_again}

-- ---- a list with more put in

parts_again : (after : Option Id) (us : List Operation) → units_up_to after us ++ units_behind after us ≡ us
parts_again None us = refl
parts_again (Some p) [] = refl
parts_again (Some p) (o ∷ os) = go (is_same o.id p) (parts_again (Some p) os)
  where
    go : (t : Bool) → units_up_to (Some p) os ++ units_behind (Some p) os ≡ os →
        (o ∷ (if t then [] else units_up_to (Some p) os)) ++ (if t then os else units_behind (Some p) os) ≡ o ∷ os
    go true e = refl
    go false e = ap (λ ps. o ∷ ps) e

in_put : (after : Option Id) (news us : List Operation) (o : Operation) → IsIn o us → IsIn o (put_behind after news us)
in_put after news us o i = elim (in_parts o (units_up_to after us) (units_behind after us) (subst (λ os. IsIn o os) (sym (parts_again after us)) i)) [
  | inl a ↦ in_left_part o (units_up_to after us) (news ++ units_behind after us) a
  | inr b ↦ in_right_part o (units_up_to after us) (news ++ units_behind after us) (in_right_part o news (units_behind after us) b)
]

pub none_kept : (test : Operation → Bool) (os : List Operation) → ((o : Operation) → IsIn o os → test o ≡ false) → filter test os ≡ []
none_kept test [] f = refl
none_kept test (o ∷ os) f = rw (f o (inl refl)) (none_kept test os (λ p i. f p (inr i)))

put_kept : (test : Operation → Bool) (after : Option Id) (news us : List Operation) → ((o : Operation) → IsIn o news → test o ≡ false) →
    filter test (put_behind after news us) ≡ filter test us
put_kept test after news us none = filter-append test (units_up_to after us) (news ++ units_behind after us)
    ∙ ap (λ ps. filter test (units_up_to after us) ++ ps)
    (filter-append test news (units_behind after us) ∙ ap (λ ps. ps ++ filter test (units_behind after us)) (none_kept test news none))
    ∙ sym (filter-append test (units_up_to after us) (units_behind after us))
    ∙ ap (filter test) (parts_again after us)

-- ---- a list as steps evolve it

-- what was there stays
pub evolved_has : (name : DocList) (o : Operation) (steps : List Step) (client : Client) (clock : ℕ) (lists : DocList → List Operation) → IsIn o (lists name) →
    IsIn o (lists_after client clock lists steps name)
evolved_has name o [] client clock lists i = i
evolved_has name o (make other after content ∷ steps) client clock lists i = evolved_has name o steps client (clock + len_of content) (lists_with lists other after news)
    (go (same_list name other))
  where
    news : List Operation
    news = operations_of_run (run_of_step client clock lists other after content)

    go : (t : Bool) → IsIn o (if t then put_behind after news (lists name) else lists name)
    go true = in_put after news (lists name) o i
    go false = i
evolved_has name o (remove spans ∷ steps) client clock lists i = evolved_has name o steps client clock lists i

-- a test that nothing that is made passes
pub evolved_kept : (name : DocList) (test : Operation → Bool) (steps : List Step) (client : Client) (clock : ℕ) (lists : DocList → List Operation) →
    ((o : Operation) → IsIn o (operations_of_runs (runs_of client clock lists steps)) → test o ≡ false) →
    filter test (lists_after client clock lists steps name) ≡ filter test (lists name)
evolved_kept name test [] client clock lists none = refl
evolved_kept name test (make other after content ∷ steps) client clock lists none =
    evolved_kept name test steps client (clock + len_of content) (lists_with lists other after news)
    (λ o i. none o (in_right_part o news (operations_of_runs (runs_of client (clock + len_of content) (lists_with lists other after news) steps)) i))
    ∙ go (same_list name other)
  where
    news : List Operation
    news = operations_of_run (run_of_step client clock lists other after content)

    go : (t : Bool) → filter test (if t then put_behind after news (lists name) else lists name) ≡ filter test (lists name)
    go true = put_kept test after news (lists name) (λ o i. none o (in_left_part o news
        (operations_of_runs (runs_of client (clock + len_of content) (lists_with lists other after news) steps)) i))
    go false = refl
evolved_kept name test (remove spans ∷ steps) client clock lists none = evolved_kept name test steps client clock lists none

-- ---- what is removed is held

spans_below : (vector : ℕ → ℕ) (spans : List Span) → spans_refusal vector spans ≡ None → (x : Id) → HasId spans x → x.clock < vector x.client.0
spans_below vector [] e x i = absurd i
spans_below vector (span ∷ spans) e x i = let b = neither (span_refusal vector span) (spans_refusal vector spans) e in elim i [
  | inl j ↦ subst (λ c. x.clock < vector c) j.0 (below (all_held (nat_le (span.clock + span.len) (vector span.client.0)) _ b.0) j.2)
  | inr j ↦ spans_below vector spans b.1 x j
]
  where
    all_held : (t : Bool) (refusal : Refusal) → ◌≡◌ {A = Option Refusal} (if t then None else Some refusal) None → t ≡ true
    all_held true refusal f = refl
    all_held false refusal f = absurd (not_some refusal f)

    below : nat_le (span.clock + span.len) (vector span.client.0) ≡ true → x.clock < span.clock + span.len → x.clock < vector span.client.0
    below f lt = grind (arith, tests)

removed_below : (basis : Basis) (steps : List Step) → Each (λ step. removal_refusal basis step ≡ None) steps → (x : Id) → HasId (removed_by steps) x →
    x.clock < basis.vector x.client.0
removed_below basis [] each x h = absurd h
removed_below basis (make name after content ∷ steps) each x h = removed_below basis steps each.1 x h
removed_below basis (remove spans ∷ steps) each x h = elim ((union_ids spans (removed_by steps) x).0 h) [
  | inl i ↦ spans_below basis.vector spans each.0 x i
  | inr i ↦ removed_below basis steps each.1 x i
]

pub removed_held : (basis : Basis) (steps : List Step) → refusal_of basis steps ≡ None → (x : Id) → HasId (removed_by steps) x → x.clock < basis.vector x.client.0
removed_held basis steps e = removed_below basis steps (no_step (removal_refusal basis) steps
    (neither (first_of_steps (removal_refusal basis) steps)
    (first_or (first_of_steps (pair_refusal basis) steps) (first_or (first_of_steps (waiting_refusal basis) steps) (clock_refusal (basis.vector basis.client.0) steps)))
    (neither (first_of_steps (place_refusal basis) steps) (first_or (first_of_steps (removal_refusal basis) steps)
    (first_or (first_of_steps (pair_refusal basis) steps) (first_or (first_of_steps (waiting_refusal basis) steps) (clock_refusal (basis.vector basis.client.0) steps)))) e).1).0)

-- the parent of a live list is not deleted
pub not_deleted : (r : Received) (name : DocList) → IsLive r name → is_some_and (is_deleted (held_set r.operations) (is_named r.deletes)) (item_of_list name) ≡ false
not_deleted r name live = go (item_of_list name) live
  where
    go : (z : Option Id) → IfSome z (λ y. (has_operation (held_set r.operations) y ≡ true) × (is_deleted (held_set r.operations) (is_named r.deletes) y ≡ false)) →
        is_some_and (is_deleted (held_set r.operations) (is_named r.deletes)) z ≡ false
    go None f = refl
    go (Some y) f = f.1

-- ---- an edit, and the entry of its update

module _ (client : Client) (r : Received) (name : DocList) (quiet : IsQuietText r name) (steps : List Step) (makes : Each MakesContent steps)
    (done : refusal_of (basis_of client r) steps ≡ None) (valid : IsValidUpdate (update_of_edit (basis_of client r) steps)) (noted : List Span)
    (live : IsLive (after_edit client r steps) name) where
  abbrev update : UpdateValue
  update = update_of_edit (basis_of client r) steps

  abbrev r_after : Received
  r_after = after_edit client r steps

  abbrev e : Entry
  e = undo_entry noted (update_of_edit (basis_of client r) steps)

  abbrev held : List Operation
  held = held_set r.operations

  abbrev held_then : List Operation
  held_then = held_set (after_edit client r steps).operations

  abbrev units : List Operation
  units = (document_of r).units name

  abbrev units_then : List Operation
  units_then = (document_of (after_edit client r steps)).units name

  pub is : IsHonestHeld held
  is = honest_held r.operations quiet.received.written quiet.honest

  pub edit : EditIsTaken client r steps
  edit = edit_is_taken client r steps quiet.received makes done

  pub stands : EditIsHeld client r steps
  stands = edit_is_held client r steps quiet.received makes done quiet.whole quiet.honest

  pub then_is : IsHonestHeld held_then
  then_is = subst (λ os. IsHonestHeld os) (sym stands.all_held.whole) stands.all_held

  pub entry_is : IsOfUpdate noted update
  entry_is = entries_of noted update valid

  pub removed_received : (x : Id) → HasId (removed_by steps) x → has_operation r.operations x ≡ true
  removed_received x h = subst (λ os. has_operation os x ≡ true) quiet.whole
      ((held_below r.operations quiet.received.written x.client x.clock).1 (removed_held (basis_of client r) steps done x h))

  pub quiet_then : IsQuietText r_after name
  quiet_then = record {
    received = after_is_received r update quiet.received valid;
    whole = stands.all_held.whole;
    deletes = λ x h. there x (elim ((edit.deletes x).0 h) [ inl k ↦ quiet.deletes x k | inr k ↦ removed_received x k ]);
    honest = then_is.honest;
    no_key = quiet.no_key;
    live = live;
  }
    where
      there : (x : Id) → has_operation r.operations x ≡ true → has_operation r_after.operations x ≡ true
      there x f = let (o, i, g) = operation_with r.operations x f in id_there r_after.operations o x ((edit.members o).1 (inr i)) g

  pub of_then : IsEntryOf r_after e
  of_then = record {
    dead = λ x h. (edit.deletes x).1 (inr ((entry_is.deleted x).0 h).0);
    maximal = part_maximal (λ y. not (is_named noted y)) update.deletes (maximal_spans update.deletes valid.deletes);
  }

  -- what is made is inserted, and not deleted
  pub made_inserted : (o : Operation) → IsIn o (made_by client r steps) → is_named e.inserted o.id ≡ true
  made_inserted o i = has_named e.inserted o.id ((entry_is.inserted o.id).1 (o, subst (λ os. IsIn o os) (sym edit.made) i, refl))

  pub made_kept : (o : Operation) → IsIn o (made_by client r steps) → is_named e.deleted o.id ≡ false
  made_kept o i = false_from_ne_true (is_named e.deleted o.id) (λ f.
      true≢false (sym (removed_received o.id ((entry_is.deleted o.id).0 (named_has e.deleted o.id f)).0) ∙ edit.new o i))

  -- what was received is not inserted
  pub old_kept : (x : Id) → has_operation r.operations x ≡ true → is_named e.inserted x ≡ false
  old_kept x there = false_from_ne_true (is_named e.inserted x) (λ f. let (p, j, g) = (entry_is.inserted x).0 (named_has e.inserted x f) in
      true≢false (sym there ∙ ap (has_operation r.operations) (sym g) ∙ edit.new p (subst (λ os. IsIn p os) edit.made j)))

-- ---- what its undo would show

module _ (client : Client) (r : Received) (name : DocList) (quiet : IsQuietText r name) (steps : List Step) (makes : Each MakesContent steps)
    (done : refusal_of (basis_of client r) steps ≡ None) (valid : IsValidUpdate (update_of_edit (basis_of client r) steps)) (noted : List Span)
    (live : IsLive (after_edit client r steps) name) (dead : (x : Id) → HasId noted x → HasId r.deletes x)
    (removes_live : (o : Operation) → IsIn o ((document_of r).units name) → HasId (removed_by steps) o.id → ((document_of r).deleted o.id ≡ false) × (can_be_made o.content ≡ true)) where
  abbrev r_then : Received
  r_then = after_edit client r steps

  abbrev entry : Entry
  entry = undo_entry noted (update_of_edit (basis_of client r) steps)

  abbrev units_old : List Operation
  units_old = (document_of r).units name

  taken : EditIsTaken client r steps
  taken = edit client r name quiet steps makes done valid noted live

  held_after : EditIsHeld client r steps
  held_after = stands client r name quiet steps makes done valid noted live

  of_update : IsOfUpdate noted (update_of_edit (basis_of client r) steps)
  of_update = entry_is client r name quiet steps makes done valid noted live

  abbrev test : Operation → Bool
  test o = shows_again (document_of (after_edit client r steps)) (undo_entry noted (update_of_edit (basis_of client r) steps)) o

  -- what is made does not show
  made_hidden : (o : Operation) → IsIn o (made_by client r steps) → test o ≡ false
  made_hidden o i = hidden ((document_of r_then).deleted o.id) (can_be_made o.content) (made_inserted client r name quiet steps makes done valid noted live o i)
      (made_kept client r name quiet steps makes done valid noted live o i)
    where
      hidden : (d c : Bool) → is_named entry.inserted o.id ≡ true → is_named entry.deleted o.id ≡ false →
          (not d && not (is_named entry.inserted o.id)) || (is_named entry.deleted o.id && c) ≡ false
      hidden d c f g = rw (f, g) (no_more d)
        where
          no_more : (t : Bool) → (not t && false) || false ≡ false
          no_more true = refl
          no_more false = refl

  -- and what was there shows where it was live
  same_shown : (o : Operation) → IsIn o units_old → test o ≡ not ((document_of r).deleted o.id)
  same_shown o i = ap (λ t. (not t && not (is_named entry.inserted o.id)) || (is_named entry.deleted o.id && can_be_made o.content)) deleted_then
      ∙ ap (λ t. (not (is_named r_then.deletes o.id) && not t) || (is_named entry.deleted o.id && can_be_made o.content)) not_inserted
      ∙ cases (cases_Bool (is_named r.deletes o.id)) (cases_Bool (is_named (removed_by steps) o.id))
      ∙ ap not (sym named_before)
    where
      named_before : (document_of r).deleted o.id ≡ is_named r.deletes o.id
      named_before = own_live (held_set r.operations) (is client r name quiet steps makes done valid noted live) (is_named r.deletes) name o i quiet.no_key
          (live_before r name (as_list r name quiet))

      in_then : IsIn o ((document_of r_then).units name)
      in_then = subst (λ os. IsIn o os) (sym (held_after.lists name)) (evolved_has name o steps client (held_clock (held_set r.operations) client.0) (document_of r).units i)

      deleted_then : (document_of r_then).deleted o.id ≡ is_named r_then.deletes o.id
      deleted_then = own_live (held_set r_then.operations) (then_is client r name quiet steps makes done valid noted live) (is_named r_then.deletes) name o in_then quiet.no_key
          (not_deleted r_then name live)

      not_inserted : is_named entry.inserted o.id ≡ false
      not_inserted = old_kept client r name quiet steps makes done valid noted live o.id (unit_received r name quiet o i)

      -- what it removed was live
      is_removed : is_named entry.deleted o.id ≡ true → HasId (removed_by steps) o.id
      is_removed f = ((of_update.deleted o.id).0 (named_has entry.deleted o.id f)).0

      or_true : (t : Bool) → t || true ≡ true
      or_true true = refl
      or_true false = refl

      cases : (is_named r.deletes o.id ≡ true) ⊎ (is_named r.deletes o.id ≡ false) → (is_named (removed_by steps) o.id ≡ true) ⊎ (is_named (removed_by steps) o.id ≡ false) →
          (not (is_named r_then.deletes o.id) && true) || (is_named entry.deleted o.id && can_be_made o.content) ≡ not (is_named r.deletes o.id)
      cases (inl a) b = rw (named_then, kept, a) refl
        where
          named_then : is_named r_then.deletes o.id ≡ true
          named_then = has_named r_then.deletes o.id ((taken.deletes o.id).1 (inl (named_has r.deletes o.id a)))

          kept : is_named entry.deleted o.id ≡ false
          kept = false_from_ne_true (is_named entry.deleted o.id) (λ f. true≢false (sym (named_before ∙ a) ∙ (removes_live o i (is_removed f)).0))
      cases (inr a) (inl b) = rw (again, (removes_live o i (named_has (removed_by steps) o.id b)).1, a) (or_true (not (is_named r_then.deletes o.id) && true))
        where
          again : is_named entry.deleted o.id ≡ true
          again = has_named entry.deleted o.id ((of_update.deleted o.id).1 (
            named_has (removed_by steps) o.id b,
            λ h. true≢false (sym (has_named r.deletes o.id (dead o.id h)) ∙ a),
          ))
      cases (inr a) (inr b) = rw (named_then, a) refl
        where
          named_then : is_named r_then.deletes o.id ≡ false
          named_then = false_from_ne_true (is_named r_then.deletes o.id) (λ f. elim ((taken.deletes o.id).0 (named_has r_then.deletes o.id f)) [
            | inl k ↦ true≢false (sym (has_named r.deletes o.id k) ∙ a)
            | inr k ↦ true≢false (sym (has_named (removed_by steps) o.id k) ∙ b)
          ])

  -- ---- lemmas for callers

  pub same_contents : contents (filter test ((document_of r_then).units name)) ≡ contents (live_units (document_of r) name)
  same_contents = ap contents (ap (filter test) (held_after.lists name)
      ∙ evolved_kept name test steps client (held_clock (held_set r.operations) client.0) (document_of r).units made_hidden
      ∙ filter_alike test (λ o. not ((document_of r).deleted o.id)) units_old same_shown)
