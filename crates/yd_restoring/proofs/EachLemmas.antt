-- What an undo shows of each text, where the entry may be of several lists.
use Rattle.std.proofs.Common.{◌≡◌, ◌≢◌, ◌↔◌, ℕ, ◌<◌, ◌≤◌, ◌&&◌, ◌||◌, not, Bool, true, false, List, [], ◌∷◌, nat_lt, Option, Some, None, inl, inr, refl, sym, ap, ◌∙◌, subst, arith, tests, true≢false}
use Rattle.std.proofs.lemmas.Bool.{cases_Bool, false_from_ne_true}
use Rattle.std.specs.Prelude.{filter, IfSome, if◌then◌else◌}
use Rattle.yd_words.specs.Each.{Each}
use Rattle.yd_words.specs.Member.{IsIn}
use Rattle.yd_words.specs.Test.{is_some_and}
use Rattle.yd_words.proofs.FilterLemmas.{filter_alike}
use Rattle.yd_words.proofs.TestLemmas.{both_hold}
use Rattle.yd_ids.specs.declared.id.Client.{Client}
use Rattle.yd_ids.specs.declared.id.Id.{Id}
use Rattle.yd_ids.specs.declared.id.Span.{Span}
use Rattle.yd_ids.specs.Set.{HasId}
use Rattle.yd_ops.specs.declared.lists.List.{List as DocList}
use Rattle.yd_ops.specs.Operation.{Operation}
use Rattle.yd_ops.specs.Received.{has_operation, Received}
use Rattle.yd_meaning.specs.Deleted.{is_deleted}
use Rattle.yd_meaning.specs.Document.{document_of}
use Rattle.yd_meaning.specs.Held.{held_set, held_clock, standing, is_named}
use Rattle.yd_meaning.specs.ListNames.{same_list_decides}
use Rattle.yd_meaning.specs.Names.{item_of_list, has_key, same_list}
use Rattle.yd_meaning.specs.Order.{list_of}
use Rattle.yd_meaning.specs.Text.{live_units}
use Rattle.yd_meaning.proofs.VectorLemmas.{held_below}
use Rattle.yd_state.specs.Lent.{Lent, last_unit}
use Rattle.yd_editing.proofs.NamedLemmas.{has_named, named_has}
use Rattle.yd_copying.specs.Content.{can_be_made}
use Rattle.yd_editing.specs.Basis.{basis_of, has_type_item}
use Rattle.yd_editing.specs.Law.{IsHonestHeld, after_edit, MakesContent, evolved_by, EditIsTaken, EditIsHeld, units_of}
use Rattle.yd_editing.specs.Made.{removed_by}
use Rattle.yd_editing.specs.Refused.{refusal_of}
use Rattle.yd_editing.specs.Step.{Step}
use Rattle.yd_editing.specs.TextLaw.{IsQuietText}
use Rattle.yd_editing.proofs.EditedListLemmas.{as_list, live_before}
use Rattle.yd_editing.proofs.LiveLemmas.{own_live}
use Rattle.yd_editing.proofs.OwnListLemmas.{units_apart, unit_received}
use Rattle.yd_editing.proofs.RefusalLemmas.{id_in_map}
use Rattle.yd_editing.proofs.TakenLemmas.{honest_held, edit_is_taken, edit_is_held}
use Rattle.yd_editing.proofs.UnitLemmas.{in_list, unit_ids}
use Rattle.yd_remaking.specs.Group.{units_from, group_from}
use Rattle.yd_undo.specs.declared.entry.Entry.{Entry}
use Rattle.yd_undo.specs.Remade.{Seen, units_in, is_place, is_made_in, step_at_end, step_of_key, steps_of_groups, steps_of_keys}
use Rattle.yd_undo.specs.Steps.{is_live, undo_steps}
use Rattle.yd_undo.proofs.EachLemmas.{keys_each}
use Rattle.yd_undo.proofs.LawLemmas.{undo_removes}
use Rattle.yd_restoring.specs.Again.{contents, AreAgain}
use Rattle.yd_restoring.specs.Each.{IsEntryOf, HasPlace}
use Rattle.yd_restoring.specs.Law.{shows_again}
use Rattle.yd_restoring.proofs.ApartLemmas.{lists_apart}
use Rattle.yd_restoring.specs.Keyed.{MakesElse}
use Rattle.yd_restoring.proofs.ElseLemmas.{else_stays}
use Rattle.yd_restoring.proofs.LoopLemmas.{IsEither, Goes, spans_go}
use Rattle.yd_restoring.proofs.PutLemmas.{counts, counted, grown_first}
use Rattle.yd_restoring.proofs.ShowsLemmas.{seen_in}

-- ---- what an undo of any entry does

module _ (client : Client) (r : Received) (name : DocList) (quiet : IsQuietText r name) (e : Entry) (of : IsEntryOf r e) (has_place : HasPlace r name)
    (makes : Each MakesContent (undo_steps (seen_in client r) e)) (done : refusal_of (basis_of client r) (undo_steps (seen_in client r) e) ≡ None)
    (live_then : is_some_and (is_deleted (held_set (after_edit client r (undo_steps (seen_in client r) e)).operations)
    (is_named (after_edit client r (undo_steps (seen_in client r) e)).deletes)) (item_of_list name) ≡ false) where
  abbrev seen : Seen
  seen = seen_in client r

  abbrev steps : List Step
  steps = undo_steps (seen_in client r) e

  abbrev held : List Operation
  held = held_set r.operations

  abbrev units : List Operation
  units = (document_of r).units name

  abbrev start : ℕ
  start = held_clock (held_set r.operations) client.0

  abbrev r_after : Received
  r_after = after_edit client r (undo_steps (seen_in client r) e)

  abbrev live : Id → Bool
  live x = not (is_named (after_edit client r (undo_steps (seen_in client r) e)).deletes x)

  is : IsHonestHeld held
  is = honest_held r.operations quiet.received.written quiet.honest

  pub is_below : (x : Id) → has_operation r.operations x ≡ true ↔ x.clock < held_clock held x.client.0
  is_below x = subst (λ os. has_operation os x ≡ true ↔ x.clock < held_clock held x.client.0) quiet.whole (held_below r.operations quiet.received.written x.client x.clock)

  edit : EditIsTaken client r steps
  edit = edit_is_taken client r steps quiet.received makes done

  stands : EditIsHeld client r steps
  stands = edit_is_held client r steps quiet.received makes done quiet.whole quiet.honest

  -- what is removed: what the entry inserted and is live
  removes : (x : Id) → HasId (removed_by steps) x ↔ (HasId e.inserted x × (is_live seen x ≡ true))
  removes x = undo_removes seen e x

  live_received : (x : Id) → is_live seen x ≡ true → has_operation r.operations x ≡ true
  live_received x l = (is_below x).1 (below (both_hold (nat_lt x.clock (held_clock held x.client.0)) (not ((document_of r).deleted x)) l).0)
    where
      below : nat_lt x.clock (held_clock held x.client.0) ≡ true → x.clock < held_clock held x.client.0
      below f = grind (arith, tests)

  named_before : (o : Operation) → IsIn o units → (document_of r).deleted o.id ≡ is_named r.deletes o.id
  named_before o i = own_live held is (is_named r.deletes) name o i quiet.no_key (live_before r name (as_list r name quiet))

  place : is_place seen name ≡ true
  place = go (item_of_list name) has_place
    where
      go : (z : Option Id) → IfSome z (λ y. has_type_item (standing (held_set r.operations)) y ≡ true) → elim z [ None ↦ true | Some y ↦ seen.basis.has_type y ] ≡ true
      go None f = refl
      go (Some y) f = f

  older : (o : Operation) → IsIn o units → o.id.client ≡ client → o.id.clock < start
  older o i c = subst (λ (k : Client). o.id.clock < held_clock held k.0) c ((is_below o.id).0 (unit_received r name quiet o i))

  -- what a deletion names then is received
  named_received : (x : Id) → HasId r_after.deletes x → has_operation r.operations x ≡ true
  named_received x h = elim ((edit.deletes x).0 h) [ inl a ↦ quiet.deletes x a | inr b ↦ live_received x ((removes x).0 b).1 ]

  fresh : (x : Id) → x.client ≡ client → start ≤ x.clock → live x ≡ true
  fresh x c le = ap not (false_from_ne_true (is_named r_after.deletes x) (λ f. never ((is_below x).0 (named_received x (named_has r_after.deletes x f)))))
    where
      never : x.clock < held_clock held x.client.0 → ⊥
      never lt = absurd (less (subst (λ (k : Client). x.clock < held_clock held k.0) c lt))
        where
          less : x.clock < start → ⊥
          less l = absurd (omega (arith, l, le))

  -- ---- which of its deleted ids are of the list

  -- an id of the list is that of a unit of it
  of_unit : (o : Operation) → IsIn o units → (has_operation (standing held) o.id ≡ true) × (list_of (standing held) o.id ≡ name)
  of_unit o i = (in_list held is name o.id).0 (subst (λ ids. IsIn o.id ids) (unit_ids held is name) (id_in_map units o i))

  abbrev either_of : Id → Type 0
  either_of = IsEither seen client start live fresh name quiet.no_key place (units_apart r name quiet) older

  either : (x : Id) → is_named e.deleted x ≡ true → either_of x
  either x f = go (has_operation (standing held) x) refl
    where
      go : (t : Bool) → has_operation (standing held) x ≡ t → either_of x
      go false g = inr (record {
        apart_from = λ o i same. true≢false (sym (of_unit o i).0 ∙ ap (has_operation (standing held)) same ∙ g);
        elsewhere = λ other k. absurd (none_of other (sym (ap (λ t. if t then Some (list_of (standing held) x) else None) g) ∙ k));
      })
        where
          none_of : (other : DocList) → None ≡ Some other → ⊥
          none_of other k = absurd cc
      go true g = elim (cases_Bool (same_list (list_of (standing held) x) name)) [
        | inl a ↦ let here : list_of (standing held) x ≡ name = (same_list_decides (list_of (standing held) x) name).0 a in inl (record {
          list = ap (λ t. if t then Some (list_of (standing held) x) else None) g ∙ ap (λ l. Some l) here;
          there = subst (λ ids. IsIn x ids) (sym (unit_ids held is name)) ((in_list held is name x).1 (g, here));
          dead = ap not (has_named r_after.deletes x ((edit.deletes x).1 (inl (of.dead x (named_has e.deleted x f)))));
        })
        | inr a ↦ inr (record {
          apart_from = λ o i same. true≢false (sym ((same_list_decides (list_of (standing held) x) name).1 (ap (list_of (standing held)) (sym same) ∙ (of_unit o i).1)) ∙ a);
          elsewhere = λ other k same. true≢false (sym ((same_list_decides (list_of (standing held) x) name).1
              (the_list other (sym (ap (λ t. if t then Some (list_of (standing held) x) else None) g) ∙ k) ∙ same)) ∙ a);
        })
      ]
        where
          the_list : (other : DocList) → Some (list_of (standing held) x) ≡ Some other → list_of (standing held) x ≡ other
          the_list other k = cc

  loop : Goes seen client start live fresh name quiet.no_key place (units_apart r name quiet) older (document_of r).units (is_named e.deleted) (λ y. false) start
      (steps_of_groups seen e.deleted)
  loop = spans_go seen client start live fresh name quiet.no_key place (units_apart r name quiet) older (λ other differ o p i j. lists_apart held is name other differ o p i j)
      e.deleted of.maximal (λ x f. (either x f, (is_below x).0 (quiet.deletes x (of.dead x (named_has e.deleted x f))))) (document_of r).units start (omega arith)
      (grown_first client start (is_named e.deleted) units)

  -- ---- what is made in lists with a key

  end_else : (other : DocList) → other ≢ name → (end : Option Id) (us : List Lent) → Each (MakesElse name) (step_at_end other end us)
  end_else other differ end [] = tt
  end_else other differ end (u ∷ us) = (differ, tt)

  key_else : (deleted : List Span) (other : DocList) (x : Id) → Each (MakesElse name) (step_of_key seen deleted (Some other) x)
  key_else deleted other x = go (has_key other) refl (is_made_in seen deleted other x) refl
    where
      go : (k : Bool) → has_key other ≡ k → (t : Bool) → is_made_in seen deleted other x ≡ t →
          Each (MakesElse name) (if t then step_at_end other (last_unit seen.basis.document other) (group_from 1 (units_from x (units_in seen other))) else [])
      go k f false g = tt
      go true f true g = end_else other (λ same. true≢false (sym f ∙ ap has_key same ∙ quiet.no_key)) (last_unit seen.basis.document other)
          (group_from 1 (units_from x (units_in seen other)))
      go false f true g = absurd (true≢false (sym g ∙ has_none))
        where
          has_none : is_made_in seen deleted other x ≡ false
          has_none = rw f refl

  evolved_is : evolved_by client r steps name ≡ loop.lists_then name
  evolved_is = ap (λ (lists : DocList → List Operation). lists name) (loop.goes (steps_of_keys seen e.deleted e.deleted))
      ∙ else_stays name client (steps_of_keys seen e.deleted e.deleted) (keys_each (MakesElse name) seen key_else e.deleted e.deleted) loop.lists_then loop.clock_then

  -- ---- what counts

  abbrev held_then : List Operation
  held_then = held_set (after_edit client r (undo_steps (seen_in client r) e)).operations

  then_is : IsHonestHeld held_then
  then_is = subst (λ os. IsHonestHeld os) (sym stands.all_held.whole) stands.all_held

  shown_after : contents (live_units (document_of r_after) name) ≡ counted live (λ y. false) (loop.lists_then name)
  shown_after = ap contents (
      filter_alike (λ o. not ((document_of r_after).deleted o.id)) (λ o. live o.id || (false && can_be_made o.content)) (units_of held_then name)
      (λ o i. ap not (own_live held_then then_is (is_named r_after.deletes) name o i quiet.no_key live_then) ∙ sym (or_none (live o.id)))
      ∙ ap (filter (λ o. live o.id || (false && can_be_made o.content))) (stands.lists name ∙ evolved_is))
    where
      or_none : (t : Bool) → t || false ≡ t
      or_none true = refl
      or_none false = refl

  -- what no deletion names is live
  is_alive : (o : Operation) → IsIn o units → is_named r.deletes o.id ≡ false → is_live seen o.id ≡ true
  is_alive o i a = (λ j. below j && not ((named_before o i ∙ a) j))
    where
      below : nat_lt o.id.clock (held_clock held o.id.client.0) ≡ true
      below = let lt = (is_below o.id).0 (unit_received r name quiet o i) in grind (arith, tests)

  named_after : (o : Operation) → IsIn o units → is_named r_after.deletes o.id ≡ (is_named r.deletes o.id || is_named e.inserted o.id)
  named_after o i = elim (cases_Bool (is_named r.deletes o.id)) [
    | inl a ↦ has_named r_after.deletes o.id ((edit.deletes o.id).1 (inl (named_has r.deletes o.id a))) ∙ ap (λ t. t || is_named e.inserted o.id) (sym a)
    | inr a ↦ elim (cases_Bool (is_named e.inserted o.id)) [
      | inl b ↦ has_named r_after.deletes o.id ((edit.deletes o.id).1 (inr ((removes o.id).1 (named_has e.inserted o.id b, is_alive o i a)))) ∙ rw (a, b) refl
      | inr b ↦ false_from_ne_true (is_named r_after.deletes o.id) (λ h. elim ((edit.deletes o.id).0 (named_has r_after.deletes o.id h)) [
        | inl k ↦ true≢false (sym (has_named r.deletes o.id k) ∙ a)
        | inr k ↦ true≢false (sym (has_named e.inserted o.id ((removes o.id).0 k).0) ∙ b)
      ]) ∙ rw (a, b) refl
    ]
  ]

  shown_before : counted live (is_named e.deleted) units ≡ contents (filter (shows_again (document_of r) e) units)
  shown_before = ap contents (filter_alike (counts live (is_named e.deleted)) (shows_again (document_of r) e) units (λ o i.
      ap (λ t. not t || (is_named e.deleted o.id && can_be_made o.content)) (named_after o i)
      ∙ ap (λ t. t || (is_named e.deleted o.id && can_be_made o.content)) (neither_is (is_named r.deletes o.id) (is_named e.inserted o.id))
      ∙ ap (λ t. (not t && not (is_named e.inserted o.id)) || (is_named e.deleted o.id && can_be_made o.content)) (sym (named_before o i))))
    where
      neither_is : (s t : Bool) → not (s || t) ≡ not s && not t
      neither_is true t = refl
      neither_is false t = refl

  -- ---- lemmas for callers

  pub each_shows : AreAgain (contents (live_units (document_of r_after) name)) (contents (filter (shows_again (document_of r) e) units))
  each_shows = subst (λ us. AreAgain us (contents (filter (shows_again (document_of r) e) units))) (sym shown_after)
      (subst (λ us. AreAgain (counted live (λ y. false) (loop.lists_then name)) us) shown_before loop.again)
