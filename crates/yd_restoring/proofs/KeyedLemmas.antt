-- What an undo shows under a key of a map, where the entry may be of several lists.
use Rattle.std.proofs.Common.{◌≡◌, ◌↔◌, ◌⊎◌, ℕ, ◌<◌, ◌≤◌, ◌&&◌, ◌||◌, not, Bool, true, false, List, [], ◌∷◌, ◌++◌, map, nat_lt, Option, Some, None, inl, inr, refl, sym, ap, ◌∙◌, subst, arith, tests, true≢false}
use Rattle.std.proofs.lemmas.Bool.{cases_Bool, false_from_ne_true}
use Rattle.std.specs.Prelude.{IfSome, if◌then◌else◌}
use Rattle.yd_words.specs.Each.{Each}
use Rattle.yd_words.specs.Member.{IsIn, AreDistinct}
use Rattle.yd_words.specs.Test.{is_some_and}
use Rattle.yd_words.proofs.EachLemmas.{each_append}
use Rattle.yd_words.proofs.MemberLemmas.{in_right_part}
use Rattle.yd_words.proofs.TestLemmas.{both_hold}
use Rattle.yd_ids.specs.declared.id.Client.{Client}
use Rattle.yd_ids.specs.declared.id.Id.{Id}
use Rattle.yd_ids.specs.Ids.{is_same_neighbour}
use Rattle.yd_ids.specs.Set.{HasId}
use Rattle.yd_ids.proofs.IdLemmas.{same_itself}
use Rattle.yd_ops.specs.declared.lists.List.{List as DocList}
use Rattle.yd_ops.specs.declared.lists.Parent.{Parent}
use Rattle.yd_ops.specs.Operation.{UnitContent, text_unit, any_unit, json_unit, bytes, embedded, mark, nested_type, deleted_unit, gone_unit, Operation, units_of_content, operations_from}
use Rattle.yd_ops.specs.Value.{ContentValue}
use Rattle.yd_ops.specs.Received.{has_operation, Received}
use Rattle.yd_meaning.specs.Deleted.{is_deleted}
use Rattle.yd_meaning.specs.Document.{document_of, document_with}
use Rattle.yd_meaning.specs.Held.{held_set, held_clock, standing, is_named}
use Rattle.yd_meaning.specs.Names.{item_of_list}
use Rattle.yd_meaning.specs.Order.{list_of}
use Rattle.yd_meaning.proofs.DocumentLemmas.{order_distinct}
use Rattle.yd_meaning.proofs.VectorLemmas.{held_below}
use Rattle.yd_origins.specs.Deleted.{last_of}
use Rattle.yd_shown.specs.Shown.{is_counted, own_list, key_list, last_unit, if_shown, unit_under}
use Rattle.yd_state.specs.Lent.{Lent, lent}
use Rattle.yd_state.specs.Lent as lents
use Rattle.yd_editing.proofs.NamedLemmas.{has_named, named_has}
use Rattle.yd_copying.specs.Content.{can_be_made, content_of}
use Rattle.yd_editing.specs.Basis.{basis_of, has_type_item}
use Rattle.yd_editing.specs.Law.{IsHonestHeld, after_edit, MakesContent, EditIsTaken, EditIsHeld, units_of}
use Rattle.yd_editing.specs.Made.{removed_by, put_behind, made_run}
use Rattle.yd_editing.specs.Refused.{refusal_of}
use Rattle.yd_editing.specs.Step.{Step, make}
use Rattle.yd_editing.specs.TextLaw.{IsQuietText}
use Rattle.yd_editing.proofs.AroundLemmas.{HasNot, SplitAt, split_at, apart_one, last_view}
use Rattle.yd_editing.proofs.DeleteLemmas.{apart_parts}
use Rattle.yd_editing.proofs.EditedListLemmas.{live_before}
use Rattle.yd_editing.proofs.IndexLemmas.{AreApart}
use Rattle.yd_editing.proofs.LiveLemmas.{last_live}
use Rattle.yd_editing.proofs.RefusalLemmas.{id_in_map}
use Rattle.yd_editing.proofs.TakenLemmas.{honest_held, edit_is_taken, edit_is_held}
use Rattle.yd_editing.proofs.UnitLemmas.{in_list, unit_ids, held_id, standing_is_table}
use Rattle.yd_remaking.specs.Group.{units_from, group_from}
use Rattle.yd_remaking.specs.Last.{last_made}
use Rattle.yd_undo.specs.declared.entry.Entry.{Entry}
use Rattle.yd_undo.specs.Remade.{Seen, units_in, is_place, is_made_in, step_at_end, step_of_key, steps_of_groups, steps_of_keys}
use Rattle.yd_undo.specs.Steps.{is_live, undo_steps}
use Rattle.yd_undo.proofs.LawLemmas.{undo_removes}
use Rattle.yd_restoring.specs.Again.{plain, IsAgain}
use Rattle.yd_restoring.specs.Each.{IsEntryOf, HasPlace}
use Rattle.yd_restoring.specs.Keyed.{MakesElse, last_again, under_then, under_again, IsUnitAgain}
use Rattle.yd_restoring.proofs.AgainLemmas.{content_again}
use Rattle.yd_restoring.proofs.ElseLemmas.{else_stays, then_once, Once, once_evolves}
use Rattle.yd_restoring.proofs.KeyStepLemmas.{groups_else, keys_none, spans_once}
use Rattle.yd_restoring.proofs.LastLemmas.{last_is, last_id_is, last_there, put_last, id_or, last_made_is, last_passes, one_again}
use Rattle.yd_restoring.proofs.RowLemmas.{from_unit}
use Rattle.yd_restoring.proofs.ShowsLemmas.{seen_in}

-- ---- one unit or none

pub unit_same : (u : Option Operation) → IsUnitAgain u u
unit_same None = tt
unit_same (Some o) = inl refl

counted_plain : (c : UnitContent) → is_counted (plain c) ≡ is_counted c
counted_plain (text_unit unit) = refl
counted_plain (any_unit value) = refl
counted_plain (json_unit value) = refl
counted_plain (bytes blob) = refl
counted_plain (embedded value) = refl
counted_plain (mark key value) = refl
counted_plain (nested_type kind) = refl
counted_plain deleted_unit = refl
counted_plain gone_unit = refl

counted_same : (d c : UnitContent) → IsAgain d c → is_counted d ≡ is_counted c
counted_same d c (inl e) = ap is_counted e
counted_same d c (inr e) = ap is_counted e ∙ counted_plain c

-- the last unit is shown alike by two tests that are alike of it
pub shown_alike : (f g : Id → Bool) (os : List Operation) → ((front : List Operation) (l : Operation) → os ≡ front ++ l ∷ [] → f l.id ≡ g l.id) →
    if_shown f (last_unit os) ≡ if_shown g (last_unit os)
shown_alike f g os alike = elim (last_view os) [
  | inl e ↦ subst (λ ps. if_shown f (last_unit ps) ≡ if_shown g (last_unit ps)) (sym e) refl
  | inr (front, l, e) ↦ subst (λ u. if_shown f u ≡ if_shown g u) (sym (ap last_unit e ∙ last_is front l))
      (ap (λ t. if not t && is_counted l.content then Some l else None) (alike front l e))
]

-- ---- what stands last in a list of a live parent

module _ (held : List Operation) (is : IsHonestHeld held) (named : Id → Bool) (name : DocList) (live : is_some_and (is_deleted held named) (item_of_list name) ≡ false) where
  pub last_named : (front : List Operation) (l : Operation) → units_of held name ≡ front ++ l ∷ [] → (document_with held named).deleted l.id ≡ named l.id
  last_named front l e = last_live held is named name l (subst (λ os. IsIn l os) (sym e) (last_there front l))
      (ap last_of (sym (unit_ids held is name)) ∙ ap (λ os. last_of (map (λ (o : Operation). o.id) os)) e ∙ last_id_is front l) live

-- ---- an undo

module _ (client : Client) (r : Received) (parent : Parent) (key : List ℕ) (quiet : IsQuietText r (own_list parent)) (e : Entry) (of : IsEntryOf r e)
    (has_place : HasPlace r (own_list parent)) (makes : Each MakesContent (undo_steps (seen_in client r) e))
    (done : refusal_of (basis_of client r) (undo_steps (seen_in client r) e) ≡ None)
    (live_then : is_some_and (is_deleted (held_set (after_edit client r (undo_steps (seen_in client r) e)).operations)
    (is_named (after_edit client r (undo_steps (seen_in client r) e)).deletes)) (item_of_list (key_list parent key)) ≡ false) where
  abbrev name : DocList
  name = key_list parent key

  abbrev seen : Seen
  seen = seen_in client r

  abbrev steps : List Step
  steps = undo_steps (seen_in client r) e

  abbrev held : List Operation
  held = held_set r.operations

  abbrev units : List Operation
  units = (document_of r).units (key_list parent key)

  abbrev start : ℕ
  start = held_clock (held_set r.operations) client.0

  abbrev r_after : Received
  r_after = after_edit client r (undo_steps (seen_in client r) e)

  abbrev now : Id → Bool
  now = is_named (after_edit client r (undo_steps (seen_in client r) e)).deletes

  abbrev end : Option Id
  end = lents.last_unit (document_of r) (key_list parent key)

  is : IsHonestHeld held
  is = honest_held r.operations quiet.received.written quiet.honest

  edit : EditIsTaken client r steps
  edit = edit_is_taken client r steps quiet.received makes done

  stands : EditIsHeld client r steps
  stands = edit_is_held client r steps quiet.received makes done quiet.whole quiet.honest

  abbrev held_then : List Operation
  held_then = held_set (after_edit client r (undo_steps (seen_in client r) e)).operations

  then_is : IsHonestHeld held_then
  then_is = subst (λ os. IsHonestHeld os) (sym stands.all_held.whole) stands.all_held

  live_now : is_some_and (is_deleted held (is_named r.deletes)) (item_of_list name) ≡ false
  live_now = live_before r name (record { received = quiet.received; whole = quiet.whole; deletes = quiet.deletes; honest = quiet.honest; live = quiet.live })

  apart : AreApart units
  apart = subst (λ ids. AreDistinct ids) (sym (unit_ids held is name)) (order_distinct (standing held) (standing_is_table held is) name)

  is_below : (x : Id) → has_operation r.operations x ≡ true ↔ x.clock < held_clock held x.client.0
  is_below x = subst (λ os. has_operation os x ≡ true ↔ x.clock < held_clock held x.client.0) quiet.whole (held_below r.operations quiet.received.written x.client x.clock)

  of_unit : (o : Operation) → IsIn o units → (has_operation (standing held) o.id ≡ true) × (list_of (standing held) o.id ≡ name)
  of_unit o i = (in_list held is name o.id).0 (subst (λ ids. IsIn o.id ids) (unit_ids held is name) (id_in_map units o i))

  removes : (x : Id) → HasId (removed_by steps) x ↔ (HasId e.inserted x × (is_live seen x ≡ true))
  removes x = undo_removes seen e x

  live_received : (x : Id) → is_live seen x ≡ true → has_operation r.operations x ≡ true
  live_received x l = (is_below x).1 (below (both_hold (nat_lt x.clock (held_clock held x.client.0)) (not ((document_of r).deleted x)) l).0)
    where
      below : nat_lt x.clock (held_clock held x.client.0) ≡ true → x.clock < held_clock held x.client.0
      below f = grind (arith, tests)

  -- what is made is not named
  fresh : (x : Id) → x.client ≡ client → start ≤ x.clock → now x ≡ false
  fresh x c le = false_from_ne_true (now x) (λ f. never ((is_below x).0 (elim ((edit.deletes x).0 (named_has r_after.deletes x f)) [
    | inl a ↦ quiet.deletes x a
    | inr b ↦ live_received x ((removes x).0 b).1
  ])))
    where
      never : x.clock < held_clock held x.client.0 → ⊥
      never lt = absurd (less (subst (λ (k : Client). x.clock < held_clock held k.0) c lt))
        where
          less : x.clock < start → ⊥
          less l = absurd (omega (arith, l, le))

  place : is_place seen name ≡ true
  place = go (item_of_list name) has_place
    where
      go : (z : Option Id) → IfSome z (λ y. has_type_item (standing (held_set r.operations)) y ≡ true) → elim z [ None ↦ true | Some y ↦ seen.basis.has_type y ] ≡ true
      go None f = refl
      go (Some y) f = f

  last_is_made : last_made e.deleted None (units_in seen name) ≡ id_or None (last_again e units)
  last_is_made = last_made_is e.deleted (document_of r).deleted None units

  -- ---- where nothing is made again

  module _ (none : last_again e units ≡ None) where
    units_same : units_of held_then name ≡ units
    units_same = stands.lists name ∙ else_stays name client (steps_of_groups seen e.deleted ++ steps_of_keys seen e.deleted e.deleted)
        (each_append (MakesElse name) (steps_of_groups seen e.deleted) (steps_of_keys seen e.deleted e.deleted) (groups_else seen e.deleted name refl e.deleted)
        (keys_none seen e.deleted name refl (λ x. ap (is_same_neighbour (Some x)) (last_is_made ∙ ap (id_or None) none)) e.deleted)) (document_of r).units start

    alike : (front : List Operation) (l : Operation) → units ≡ front ++ l ∷ [] → (document_of r_after).deleted l.id ≡ ((document_of r).deleted l.id || is_named e.inserted l.id)
    alike front l f = last_named held_then then_is now name live_then front l (units_same ∙ f)
        ∙ cases (cases_Bool (is_named r.deletes l.id)) (cases_Bool (is_named e.inserted l.id))
        ∙ ap (λ t. t || is_named e.inserted l.id) (sym before)
      where
        before : (document_of r).deleted l.id ≡ is_named r.deletes l.id
        before = last_named held is (is_named r.deletes) name live_now front l f

        received : has_operation r.operations l.id ≡ true
        received = subst (λ os. has_operation os l.id ≡ true) quiet.whole (held_id held is l.id (of_unit l (subst (λ os. IsIn l os) (sym f) (last_there front l))).0)

        is_alive : is_named r.deletes l.id ≡ false → is_live seen l.id ≡ true
        is_alive a = (λ j. below j && not ((before ∙ a) j))
          where
            below : nat_lt l.id.clock (held_clock held l.id.client.0) ≡ true
            below = let lt = (is_below l.id).0 received in grind (arith, tests)

        cases : (is_named r.deletes l.id ≡ true) ⊎ (is_named r.deletes l.id ≡ false) → (is_named e.inserted l.id ≡ true) ⊎ (is_named e.inserted l.id ≡ false) →
            now l.id ≡ (is_named r.deletes l.id || is_named e.inserted l.id)
        cases (inl a) b = has_named r_after.deletes l.id ((edit.deletes l.id).1 (inl (named_has r.deletes l.id a))) ∙ ap (λ t. t || is_named e.inserted l.id) (sym a)
        cases (inr a) (inl b) = has_named r_after.deletes l.id ((edit.deletes l.id).1 (inr ((removes l.id).1 (named_has e.inserted l.id b, is_alive a)))) ∙ rw (a, b) refl
        cases (inr a) (inr b) = false_from_ne_true (now l.id) (λ h. elim ((edit.deletes l.id).0 (named_has r_after.deletes l.id h)) [
          | inl k ↦ true≢false (sym (has_named r.deletes l.id k) ∙ a)
          | inr k ↦ true≢false (sym (has_named e.inserted l.id ((removes l.id).0 k).0) ∙ b)
        ]) ∙ rw (a, b) refl

    under_none : unit_under (document_of r_after) parent key ≡ under_then (document_of r) e units None
    under_none = ap (λ os. if_shown (document_of r_after).deleted (last_unit os)) units_same
        ∙ shown_alike (document_of r_after).deleted (λ x. (document_of r).deleted x || is_named e.inserted x) units alike

  -- ---- where a unit is made again

  module _ (o : Operation) (some : last_again e units ≡ Some o) where
    passes : IsIn o units × (is_named e.deleted o.id ≡ true) × (can_be_made o.content ≡ true)
    passes = last_passes e.deleted units o some

    abbrev content : ContentValue
    content = content_of (o.content ∷ [])

    is_last : last_made e.deleted None (units_in seen name) ≡ Some o.id
    is_last = last_is_made ∙ ap (id_or None) some

    at : SplitAt units o.id
    at = split_at units o.id (id_in_map units o passes.0)

    at_is : at.unit ≡ o
    at_is = apart_one units apart at.unit o (subst (λ os. IsIn at.unit os) (sym at.parts) (in_right_part at.unit at.front (at.unit ∷ at.back) (inl refl))) passes.0 at.is

    has_not : HasNot o.id at.front
    has_not p i f = apart_parts at.front (at.unit ∷ at.back) (subst (λ os. AreApart os) at.parts apart) p at.unit i (inl refl) (f ∙ sym at.is)

    group_is : group_from 1 (units_from o.id (units_in seen name)) ≡ lent (document_of r).deleted o ∷ []
    group_is = ap (λ os. group_from 1 (units_from o.id (map (lent (document_of r).deleted) os))) at.parts
        ∙ ap (group_from 1) (from_unit (document_of r).deleted o.id at.front at.unit at.back has_not at.is)
        ∙ ap (λ (p : Operation). group_from 1 (map (lent (document_of r).deleted) (p ∷ at.back))) at_is
        ∙ ap (λ t. if t then lent (document_of r).deleted o ∷ [] else []) passes.2

    there : step_of_key seen e.deleted (seen.list_of o.id) o.id ≡ make name end content ∷ []
    there = ap (λ l. step_of_key seen e.deleted l o.id) (ap (λ t. if t then Some (list_of (standing held) o.id) else None) (of_unit o passes.0).0
        ∙ ap (λ l. Some l) (of_unit o passes.0).1)
        ∙ ap (λ t. if t then step_at_end name end (group_from 1 (units_from o.id (units_in seen name))) else []) is_made
        ∙ ap (step_at_end name end) group_is
      where
        is_made : is_made_in seen e.deleted name o.id ≡ true
        is_made = ap (λ t. t && is_same_neighbour (Some o.id) (last_made e.deleted None (units_in seen name))) place
            ∙ ap (is_same_neighbour (Some o.id)) is_last ∙ same_itself o.id

    once : Once name client end content (steps_of_groups seen e.deleted ++ steps_of_keys seen e.deleted e.deleted) (document_of r).units start
    once = once_evolves name client end content (steps_of_groups seen e.deleted ++ steps_of_keys seen e.deleted e.deleted)
        (then_once name end content (steps_of_groups seen e.deleted) (steps_of_keys seen e.deleted e.deleted) (groups_else seen e.deleted name refl e.deleted)
        (spans_once seen e.deleted name refl o.id is_last content there e.deleted of.maximal (named_has e.deleted o.id passes.1)
        (λ y f. (is_below y).0 (quiet.deletes y (of.dead y (named_has e.deleted y f)))))) (document_of r).units start

    again : (d : UnitContent) × (units_of_content content ≡ d ∷ []) × IsAgain d o.content
    again = one_again (units_of_content content) o.content (content_again o.content [] passes.2 tt)

    abbrev unit_made : UnitContent → Operation
    unit_made d = record {
      id = record { client = client; clock = once.at };
      left_origin = end;
      right_origin = (made_run client once.at units name end content).right;
      list = (made_run client once.at units name end content).list;
      content = d;
    }

    module _ (d : UnitContent) (one : units_of_content content ≡ d ∷ []) (alike : IsAgain d o.content) where
      abbrev made : Operation
      made = unit_made d

      units_more : units_of held_then name ≡ units ++ made ∷ []
      units_more = stands.lists name ∙ once.evolved
          ∙ ap (λ us. put_behind end (operations_from (record { client = client; clock = once.at }) end (made_run client once.at units name end content).right
          (made_run client once.at units name end content).list us) units) one
          ∙ put_last units made apart

      not_deleted : (document_of r_after).deleted made.id ≡ false
      not_deleted = last_named held_then then_is now name live_then units made units_more ∙ fresh made.id refl once.on

      under_more : unit_under (document_of r_after) parent key ≡ (if is_counted d then Some made else None)
      under_more = ap (λ os. if_shown (document_of r_after).deleted (last_unit os)) units_more ∙ ap (if_shown (document_of r_after).deleted) (last_is units made)
          ∙ ap (λ t. if not t && is_counted d then Some made else None) not_deleted

      under_some : IsUnitAgain (unit_under (document_of r_after) parent key) (under_then (document_of r) e units (Some o))
      under_some = subst (λ u. IsUnitAgain u (under_then (document_of r) e units (Some o))) (sym under_more) (go (is_counted d) (is_counted o.content) (counted_same d o.content alike))
        where
          go : (s t : Bool) → s ≡ t → IsUnitAgain (if s then Some made else None) (if t then Some o else None)
          go true true f = alike
          go false false f = tt
          go true false f = absurd (true≢false f)
          go false true f = absurd (true≢false (sym f))

  -- ---- lemmas for callers

  pub key_shows : IsUnitAgain (unit_under (document_of r_after) parent key) (under_again (document_of r) e parent key)
  key_shows = go (last_again e units) refl
    where
      go : (u : Option Operation) → last_again e units ≡ u → IsUnitAgain (unit_under (document_of r_after) parent key) (under_then (document_of r) e units u)
      go None f = subst (λ u. IsUnitAgain u (under_then (document_of r) e units None)) (sym (under_none f)) (unit_same (under_then (document_of r) e units None))
      go (Some o) f = let (d, one, alike) = again o f in under_some o f d one alike
