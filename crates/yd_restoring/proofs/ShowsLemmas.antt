-- What an undo shows of a text.
use Rattle.std.proofs.Common.{◌≡◌, ◌↔◌, ℕ, ◌<◌, ◌≤◌, ◌&&◌, ◌||◌, not, Bool, true, false, List, [], nat_lt, Option, Some, None, inl, inr, refl, sym, ap, ◌∙◌, subst, arith, tests, true≢false}
use Rattle.std.proofs.lemmas.Bool.{cases_Bool, false_from_ne_true}
use Rattle.std.specs.Prelude.{filter, IfSome, if◌then◌else◌}
use Rattle.yd_words.specs.Each.{Each}
use Rattle.yd_words.specs.Member.{IsIn}
use Rattle.yd_words.proofs.FilterLemmas.{filter_alike}
use Rattle.yd_words.proofs.TestLemmas.{both_hold}
use Rattle.yd_ids.specs.declared.id.Client.{Client}
use Rattle.yd_ids.specs.declared.id.Id.{Id}
use Rattle.yd_ids.specs.Set.{HasId}
use Rattle.yd_ops.specs.declared.lists.List.{List as DocList}
use Rattle.yd_ops.specs.Operation.{Operation}
use Rattle.yd_ops.specs.Received.{has_operation, Received}
use Rattle.yd_meaning.specs.Document.{document_of}
use Rattle.yd_meaning.specs.Held.{held_set, held_clock, standing, is_named}
use Rattle.yd_meaning.specs.Names.{item_of_list}
use Rattle.yd_meaning.specs.Order.{list_of, order_of}
use Rattle.yd_meaning.specs.Text.{live_units}
use Rattle.yd_meaning.proofs.VectorLemmas.{held_below}
use Rattle.yd_copying.specs.Content.{can_be_made}
use Rattle.yd_editing.specs.Basis.{basis_of, has_type_item}
use Rattle.yd_editing.specs.Law.{IsHonestHeld, after_edit, MakesContent, evolved_by, EditIsTaken, EditIsHeld}
use Rattle.yd_editing.specs.Made.{lists_after, removed_by}
use Rattle.yd_editing.specs.Refused.{refusal_of}
use Rattle.yd_editing.specs.Step.{Step}
use Rattle.yd_editing.specs.TextLaw.{IsQuietText, MakesIn}
use Rattle.yd_editing.proofs.EditedListLemmas.{as_list, live_before}
use Rattle.yd_editing.proofs.LiveLemmas.{own_live}
use Rattle.yd_editing.proofs.NamedLemmas.{has_named, named_has}
use Rattle.yd_editing.proofs.OwnListLemmas.{taken, is_held, live_evolved, units_apart, unit_received}
use Rattle.yd_editing.proofs.TakenLemmas.{honest_held}
use Rattle.yd_editing.proofs.UnitLemmas.{in_list, unit_ids, held_id}
use Rattle.yd_making.specs.Standing.{stands_in, list_where}
use Rattle.yd_undo.specs.declared.entry.Entry.{Entry}
use Rattle.yd_undo.specs.Remade.{Seen, is_place, steps_of_groups, steps_of_keys}
use Rattle.yd_undo.specs.Steps.{is_live, undo_steps}
use Rattle.yd_undo.proofs.LawLemmas.{undo_removes}
use Rattle.yd_restoring.specs.Again.{contents, AreAgain}
use Rattle.yd_restoring.specs.Law.{IsOfText, shows_again}
use Rattle.yd_restoring.proofs.ApartLemmas.{lists_apart}
use Rattle.yd_restoring.proofs.LoopLemmas.{IsEither, Goes, spans_go}
use Rattle.yd_restoring.proofs.OwnLemmas.{keys_none, remade_own}
use Rattle.yd_restoring.proofs.PutLemmas.{counts, counted, grown_first}

-- what an undo of a client reads of what is received
abbrev pub seen_in : Client → Received → Seen
seen_in client r = record { basis = basis_of client r; list_of = list_where (stands_in r) }

module _ (client : Client) (r : Received) (name : DocList) (quiet : IsQuietText r name) (e : Entry) (of : IsOfText r name e)
    (makes : Each MakesContent (undo_steps (seen_in client r) e)) (done : refusal_of (basis_of client r) (undo_steps (seen_in client r) e) ≡ None) where
  abbrev seen : Seen
  seen = seen_in client r

  abbrev steps : List Step
  steps = undo_steps (seen_in client r) e

  abbrev held : List Operation
  held = held_set r.operations

  abbrev units : List Operation
  units = (document_of r).units name

  abbrev start : ℕ
  start = held_clock (held_set r.operations) client.0

  abbrev r_after : Received
  r_after = after_edit client r (undo_steps (seen_in client r) e)

  abbrev live : Id → Bool
  live x = not (is_named (after_edit client r (undo_steps (seen_in client r) e)).deletes x)

  is : IsHonestHeld held
  is = honest_held r.operations quiet.received.written quiet.honest

  pub is_below : (x : Id) → has_operation r.operations x ≡ true ↔ x.clock < held_clock held x.client.0
  is_below x = subst (λ os. has_operation os x ≡ true ↔ x.clock < held_clock held x.client.0) quiet.whole (held_below r.operations quiet.received.written x.client x.clock)

  -- what is of the list is received
  pub of_list : (x : Id) → IsIn x (order_of (standing held) name) → has_operation r.operations x ≡ true
  of_list x i = subst (λ os. has_operation os x ≡ true) quiet.whole (held_id held is x ((in_list held is name x).0 i).0)

  -- what is removed: what the entry inserted and is live
  pub removes : (x : Id) → HasId (removed_by steps) x ↔ (HasId e.inserted x × (is_live seen x ≡ true))
  removes x = undo_removes seen e x

  -- what is live is held
  live_held : (x : Id) → is_live seen x ≡ true → has_operation held x ≡ true
  live_held x l = subst (λ os. has_operation os x ≡ true) (sym quiet.whole) ((is_below x).1 (below (both_hold (nat_lt x.clock (held_clock held x.client.0)) (not ((document_of r).deleted x)) l).0))
    where
      below : nat_lt x.clock (held_clock held x.client.0) ≡ true → x.clock < held_clock held x.client.0
      below f = grind (arith, tests)

  pub removed : (x : Id) → HasId (removed_by steps) x → IsIn x (order_of (standing (held_set r.operations)) name)
  removed x h = of.inserted x ((removes x).0 h).0 (live_held x ((removes x).0 h).1)

  pub named_before : (o : Operation) → IsIn o units → (document_of r).deleted o.id ≡ is_named r.deletes o.id
  named_before o i = own_live held is (is_named r.deletes) name o i quiet.no_key (live_before r name (as_list r name quiet))

  pub place : is_place seen name ≡ true
  place = go (item_of_list name) of.parent
    where
      go : (z : Option Id) → IfSome z (λ y. has_type_item (standing (held_set r.operations)) y ≡ true) → elim z [ None ↦ true | Some y ↦ seen.basis.has_type y ] ≡ true
      go None f = refl
      go (Some y) f = f

  pub older : (o : Operation) → IsIn o units → o.id.client ≡ client → o.id.clock < start
  older o i c = subst (λ (k : Client). o.id.clock < held_clock held k.0) c ((is_below o.id).0 (unit_received r name quiet o i))

  -- ---- what is made

  list_is : (x : Id) → is_named e.deleted x ≡ true → seen.list_of x ≡ Some name
  list_is x f = let (a, b) = (in_list held is name x).0 (of.deleted x (named_has e.deleted x f)) in
      ap (λ t. if t then Some (list_of (standing held) x) else None) a ∙ ap (λ l. Some l) b

  pub own : MakesIn name steps
  own = remade_own seen name quiet.no_key e.deleted list_is

  pub edit : EditIsTaken client r steps
  edit = taken client r name quiet steps makes own removed done

  pub held_after : EditIsHeld client r steps
  held_after = is_held client r name quiet steps makes own removed done

  -- what a deletion names then is received
  named_received : (x : Id) → HasId r_after.deletes x → has_operation r.operations x ≡ true
  named_received x h = elim ((edit.deletes x).0 h) [ inl a ↦ quiet.deletes x a | inr b ↦ of_list x (removed x b) ]

  pub fresh : (x : Id) → x.client ≡ client → start ≤ x.clock → live x ≡ true
  fresh x c le = ap not (false_from_ne_true (is_named r_after.deletes x) (λ f. never ((is_below x).0 (named_received x (named_has r_after.deletes x f)))))
    where
      never : x.clock < held_clock held x.client.0 → ⊥
      never lt = absurd (less (subst (λ (k : Client). x.clock < held_clock held k.0) c lt))
        where
          less : x.clock < start → ⊥
          less l = absurd (omega (arith, l, le))

  own_dead : (x : Id) → is_named e.deleted x ≡ true → IsEither seen client start live fresh name quiet.no_key place (units_apart r name quiet) older x × (x.clock < seen.basis.vector x.client.0)
  own_dead x f = let i = of.deleted x (named_has e.deleted x f) in (
    inl (record {
      list = list_is x f;
      there = subst (λ ids. IsIn x ids) (sym (unit_ids held is name)) i;
      dead = ap not (has_named r_after.deletes x ((edit.deletes x).1 (inl (of.dead x (named_has e.deleted x f)))));
    }),
    (is_below x).0 (of_list x i),
  )

  pub loop : Goes seen client start live fresh name quiet.no_key place (units_apart r name quiet) older (document_of r).units (is_named e.deleted) (λ y. false) start
      (steps_of_groups seen e.deleted)
  loop = spans_go seen client start live fresh name quiet.no_key place (units_apart r name quiet) older (λ other differ o p i j. lists_apart held is name other differ o p i j)
      e.deleted of.maximal own_dead (document_of r).units start (omega arith)
      (grown_first client start (is_named e.deleted) units)

  no_keys : steps_of_keys seen e.deleted e.deleted ≡ []
  no_keys = keys_none seen name quiet.no_key e.deleted e.deleted list_is

  pub evolved_is : evolved_by client r steps name ≡ loop.lists_then name
  evolved_is = ap (λ (lists : DocList → List Operation). lists name) (loop.goes (steps_of_keys seen e.deleted e.deleted)
      ∙ ap (lists_after client loop.clock_then loop.lists_then) no_keys)

  -- ---- what counts

  shown_after : contents (live_units (document_of r_after) name) ≡ counted live (λ y. false) (loop.lists_then name)
  shown_after = ap contents (live_evolved client r name quiet steps makes own removed done ∙ ap (filter (λ o. not (is_named r_after.deletes o.id))) evolved_is
      ∙ filter_alike (λ o. not (is_named r_after.deletes o.id)) (counts live (λ y. false)) (loop.lists_then name) (λ o i. sym (or_none (live o.id))))
    where
      or_none : (t : Bool) → t || false ≡ t
      or_none true = refl
      or_none false = refl

  -- what no deletion names is live, and what is live is not deleted
  pub is_alive : (o : Operation) → IsIn o units → is_named r.deletes o.id ≡ false → is_live seen o.id ≡ true
  is_alive o i a = (λ j. below j && not ((named_before o i ∙ a) j))
    where
      below : nat_lt o.id.clock (held_clock held o.id.client.0) ≡ true
      below = let lt = (is_below o.id).0 (unit_received r name quiet o i) in grind (arith, tests)

  pub live_not_deleted : (x : Id) → is_live seen x ≡ true → (document_of r).deleted x ≡ false
  live_not_deleted x l = go ((document_of r).deleted x) (both_hold (nat_lt x.clock (held_clock held x.client.0)) (not ((document_of r).deleted x)) l).1
    where
      go : (t : Bool) → not t ≡ true → t ≡ false
      go true f = sym f
      go false f = refl

  pub named_after : (o : Operation) → IsIn o units → is_named r_after.deletes o.id ≡ (is_named r.deletes o.id || is_named e.inserted o.id)
  named_after o i = elim (cases_Bool (is_named r.deletes o.id)) [
    | inl a ↦ has_named r_after.deletes o.id ((edit.deletes o.id).1 (inl (named_has r.deletes o.id a))) ∙ ap (λ t. t || is_named e.inserted o.id) (sym a)
    | inr a ↦ elim (cases_Bool (is_named e.inserted o.id)) [
      | inl b ↦ has_named r_after.deletes o.id ((edit.deletes o.id).1 (inr ((removes o.id).1 (named_has e.inserted o.id b, is_alive o i a)))) ∙ rw (a, b) refl
      | inr b ↦ false_from_ne_true (is_named r_after.deletes o.id) (λ h. elim ((edit.deletes o.id).0 (named_has r_after.deletes o.id h)) [
        | inl k ↦ true≢false (sym (has_named r.deletes o.id k) ∙ a)
        | inr k ↦ true≢false (sym (has_named e.inserted o.id ((removes o.id).0 k).0) ∙ b)
      ]) ∙ rw (a, b) refl
    ]
  ]

  shown_before : counted live (is_named e.deleted) units ≡ contents (filter (shows_again (document_of r) e) units)
  shown_before = ap contents (filter_alike (counts live (is_named e.deleted)) (shows_again (document_of r) e) units (λ o i.
      ap (λ t. not t || (is_named e.deleted o.id && can_be_made o.content)) (named_after o i)
      ∙ ap (λ t. t || (is_named e.deleted o.id && can_be_made o.content)) (neither_is (is_named r.deletes o.id) (is_named e.inserted o.id))
      ∙ ap (λ t. (not t && not (is_named e.inserted o.id)) || (is_named e.deleted o.id && can_be_made o.content)) (sym (named_before o i))))
    where
      neither_is : (s t : Bool) → not (s || t) ≡ not s && not t
      neither_is true t = refl
      neither_is false t = refl

  pub undo_shows : AreAgain (contents (live_units (document_of r_after) name)) (contents (filter (shows_again (document_of r) e) units))
  undo_shows = subst (λ us. AreAgain us (contents (filter (shows_again (document_of r) e) units))) (sym shown_after)
      (subst (λ us. AreAgain (counted live (λ y. false) (loop.lists_then name)) us) shown_before loop.again)
