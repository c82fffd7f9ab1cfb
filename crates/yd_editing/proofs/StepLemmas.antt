-- The steps of an edit: each made run keeps all honest, and the lists are those that the steps evolve.
use Rattle.std.proofs.Common.{◌≡◌, ◌≢◌, ◌↔◌, ◌⊎◌, ◌<◌, ◌≤◌, ◌+◌, ℕ, zero, suc, Bool, true, false, List, [], ◌∷◌, ◌++◌, map, length, Option, Some, None, inl, inr, refl, sym, ap, ◌∙◌, subst, arith, true≢false}
use Rattle.std.specs.Prelude.{if◌then◌else◌}
use Rattle.yd_words.specs.Each.{Each}
use Rattle.yd_words.specs.Member.{IsIn}
use Rattle.yd_words.proofs.OptionLemmas.{if_some_map}
use Rattle.yd_words.proofs.MemberLemmas.{in_left_part, in_right_part, in_parts}
use Rattle.yd_ids.specs.declared.id.Client.{Client}
use Rattle.yd_ids.specs.declared.id.Id.{Id}
use Rattle.yd_origins.specs.Parts.{behind, up_to}
use Rattle.yd_ops.specs.declared.lists.List.{List as DocList}
use Rattle.yd_ops.specs.Value.{ContentValue, len_of, RunValue}
use Rattle.yd_ops.specs.Operation.{UnitContent, Operation, units_of_content, later_id, operations_from, operations_of_run}
use Rattle.yd_ops.proofs.OperationLemmas.{length-units_of_content}
use Rattle.yd_ops.specs.Received.{has_operation, all_taken}
use Rattle.yd_ops.proofs.OneOfLemmas.{operation_with, id_there, ids_stay}
use Rattle.yd_meaning.specs.ListNames.{same_list_decides}
use Rattle.yd_meaning.specs.Held.{held_clock, standing}
use Rattle.yd_meaning.specs.Names.{same_list, item_of_list}
use Rattle.yd_meaning.specs.Order.{list_of, order_of}
use Rattle.yd_editing.specs.Law.{IsHonestHeld, units_of, IsPlace, IsNextClock, StandAllBehind, CanStep, StandAfter}
use Rattle.yd_editing.specs.Step.{Step, make, remove}
use Rattle.yd_editing.specs.Made.{units_up_to, units_behind, put_behind, run_of_step, lists_with, runs_of, lists_after, operations_of_runs}
use Rattle.yd_editing.proofs.OrderLemmas.{map_put, same_units, up_to_in, behind_in}
use Rattle.yd_editing.proofs.UnitLemmas.{clocks_below, standing_is_table, in_list, unit_ids, units_stand}
use Rattle.yd_editing.proofs.RunLemmas.{run_stands}

-- ---- operations that come after others

pub taken_append : (news more held : List Operation) → all_taken (news ++ more) held ≡ all_taken more (all_taken news held)
taken_append [] more held = refl
taken_append (o ∷ os) more held = taken_append os more _

-- ---- the clocks of a run

pub from_within : (units : List UnitContent) (id : Id) (left right : Option Id) (list : Option DocList) (o : Operation) → IsIn o (operations_from id left right list units) →
    (o.id.client ≡ id.client) × (id.clock ≤ o.id.clock) × (o.id.clock < id.clock + length units)
from_within [] id left right list o i = absurd i
from_within (unit ∷ units) id left right list o (inl e) =
    (ap (λ (p : Operation). p.id.client) e, omega (arith, ap (λ (p : Operation). p.id.clock) e), omega (arith, ap (λ (p : Operation). p.id.clock) e))
from_within (unit ∷ units) id left right list o (inr i) = let (c, low, high) = from_within units (later_id id 1) (Some id) right None o i in
    (c, omega (arith, low), omega (arith, high))

from_each : (units : List UnitContent) (id : Id) (left right : Option Id) (list : Option DocList) (k : ℕ) → id.clock ≤ k → k < id.clock + length units →
    (o : Operation) × IsIn o (operations_from id left right list units) × (o.id ≡ record { client = id.client; clock = k })
from_each [] id left right list k low high = absurd (omega (arith, low, high))
from_each (unit ∷ units) id left right list k low high = elim (first_or_later id.clock k low) [
  | inl e ↦ (record { id = id; left_origin = left; right_origin = right; list = list; content = unit }, inl refl, λ i. record { client = id.client; clock = e i })
  | inr lt ↦ let (o, i, e) = from_each units (later_id id 1) (Some id) right None k (omega (arith, lt)) (omega (arith, high)) in (o, inr i, e)
]
  where
    first_or_later : (a b : ℕ) → a ≤ b → (a ≡ b) ⊎ (a < b)
    first_or_later zero zero m = inl refl
    first_or_later zero (suc b) m = inr (omega arith)
    first_or_later (suc a) zero m = absurd (omega (arith, m))
    first_or_later (suc a) (suc b) m = elim (first_or_later a b (omega (arith, m))) [ inl e ↦ inl (ap suc e) | inr n ↦ inr (omega (arith, n)) ]

-- ---- places, as more is made

place_stays : (held news : List Operation) (name : DocList) (after : Option Id) → IsHonestHeld held → StandAllBehind held news name after →
    (other : DocList) (behind_one : Option Id) → IsPlace held other behind_one → IsPlace (all_taken news held) other behind_one
place_stays held news name after is s other behind_one place = record {
  parent = if_some_map (λ y. has_operation (standing held) y ≡ true) (λ y. has_operation (standing (all_taken news held)) y ≡ true) (item_of_list other) up place.parent;
  of_list = if_some_map (λ y. IsIn y (order_of (standing held) other)) (λ y. IsIn y (order_of (standing (all_taken news held)) other)) behind_one
      (λ y i. let b = (in_list held is other y).0 i in (in_list (all_taken news held) s.all_held other y).1 (up y b.0, sym (s.same_list y b.0) ∙ b.1)) place.of_list;
}
  where
    up : (y : Id) → has_operation (standing held) y ≡ true → has_operation (standing (all_taken news held)) y ≡ true
    up y e = ids_stay (standing held) (standing (all_taken news held)) y s.stay_standing e

steps_stay : (held news : List Operation) (name : DocList) (after : Option Id) → IsHonestHeld held → StandAllBehind held news name after →
    (steps : List Step) → Each (CanStep held) steps → Each (CanStep (all_taken news held)) steps
steps_stay held news name after is s [] can = tt
steps_stay held news name after is s (make other behind_one content ∷ steps) can =
    (place_stays held news name after is s other behind_one can.0, steps_stay held news name after is s steps can.1)
steps_stay held news name after is s (remove spans ∷ steps) can = (tt, steps_stay held news name after is s steps can.1)

-- ---- a made run

module _ (held : List Operation) (is : IsHonestHeld held) (client : Client) (clock : ℕ) (next : IsNextClock held client clock) (lists : DocList → List Operation)
    (same : (list : DocList) → units_of held list ≡ lists list) (name : DocList) (after : Option Id) (content : ContentValue) (place : IsPlace held name after) where
  abbrev run : RunValue
  run = run_of_step client clock lists name after content

  abbrev news : List Operation
  news = operations_of_run run

  abbrev new : List Operation
  new = all_taken news held

  ids : map (λ (o : Operation). o.id) (lists name) ≡ order_of (standing held) name
  ids = ap (map (λ (o : Operation). o.id)) (sym (same name)) ∙ unit_ids held is name

  pub run_s : StandAllBehind held news name after
  run_s = run_stands held is client clock next (lists name) name ids after content place

  pub run_next : IsNextClock new client (clock + len_of content)
  run_next k = subst (λ n. has_operation new (record { client = client; clock = k }) ≡ true ↔ k < clock + n) (length-units_of_content content) (there, back)
    where
      there : has_operation new (record { client = client; clock = k }) ≡ true → k < clock + length (units_of_content content)
      there e = let (o, i, f) = operation_with new (record { client = client; clock = k }) e in elim (run_s.no_other o i) [
        | inl j ↦ let (c, low, high) = from_within (units_of_content content) run.id run.left run.right run.list o j in omega (arith, high, ap (λ (x : Id). x.clock) f)
        | inr j ↦ omega (arith, (next k).0 (id_there held o (record { client = client; clock = k }) j f))
      ]

      below_or : (a b : ℕ) → (a < b) ⊎ (b ≤ a)
      below_or zero zero = inr (omega arith)
      below_or zero (suc b) = inl (omega arith)
      below_or (suc a) zero = inr (omega arith)
      below_or (suc a) (suc b) = elim (below_or a b) [ inl l ↦ inl (omega (arith, l)) | inr l ↦ inr (omega (arith, l)) ]

      back : k < clock + length (units_of_content content) → has_operation new (record { client = client; clock = k }) ≡ true
      back lt = elim (below_or k clock) [
        | inl less ↦ ids_stay held new (record { client = client; clock = k }) run_s.all_stay ((next k).1 less)
        | inr more ↦ let (o, i, e) = from_each (units_of_content content) run.id run.left run.right run.list k more lt in
            id_there new o (record { client = client; clock = k }) (run_s.are_there o i) e
      ]

  -- the units of the lists
  in_held : (list : DocList) (o : Operation) → IsIn o (lists list) → IsIn o (standing held)
  in_held list o i = units_stand held is list o (subst (λ os. IsIn o os) (sym (same list)) i)

  own_units : units_of new name ≡ put_behind after news (lists name)
  own_units = same_units (standing new) (standing_is_table new run_s.all_held).distinct (units_of new name) (put_behind after news (lists name))
      (units_stand new run_s.all_held name)
      (λ o i. elim (in_parts o (units_up_to after (lists name)) (news ++ units_behind after (lists name)) i) [
        | inl j ↦ run_s.stay_standing o (in_held name o (up_to_in after (lists name) o j))
        | inr j ↦ elim (in_parts o news (units_behind after (lists name)) j) [
          | inl k ↦ run_s.stand o k
          | inr k ↦ run_s.stay_standing o (in_held name o (behind_in after (lists name) o k))
        ]
      ])
      (unit_ids new run_s.all_held name ∙ run_s.place ∙ sym (map_put after news (lists name)
      ∙ ap (λ xs. up_to after xs ++ (map (λ (o : Operation). o.id) news ++ behind after xs)) ids))

  other_units : (other : DocList) → other ≢ name → units_of new other ≡ lists other
  other_units other differ = same_units (standing new) (standing_is_table new run_s.all_held).distinct (units_of new other) (units_of held other)
      (units_stand new run_s.all_held other) (λ o i. run_s.stay_standing o (units_stand held is other o i))
      (unit_ids new run_s.all_held other ∙ run_s.others other differ ∙ sym (unit_ids held is other)) ∙ same other

  pub run_lists : (other : DocList) → units_of new other ≡ lists_with lists name after news other
  run_lists other = go (same_list other name) (λ e. (same_list_decides other name).0 e) (λ e. (same_list_decides other name).1 e)
    where
      go : (t : Bool) → (t ≡ true → other ≡ name) → (other ≡ name → t ≡ true) → units_of new other ≡ (if t then put_behind after news (lists other) else lists other)
      go true is_it f = subst (λ l. units_of new l ≡ put_behind after news (lists l)) (sym (is_it refl)) own_units
      go false f is_not = other_units other (λ e. true≢false (sym (is_not e)))

-- ---- all steps

none_after : (held : List Operation) → IsHonestHeld held → (lists : DocList → List Operation) → ((list : DocList) → units_of held list ≡ lists list) → StandAfter held [] lists
none_after held is lists same = record {
  all_held = is;
  lists = same;
  are_there = λ o i. absurd i;
  all_stay = λ o i. i;
  no_other = λ o i. inr i;
  stand = λ o i. absurd i;
  stay_standing = λ o i. i;
  no_other_stands = λ o i. inr i;
  same_list = λ y e. refl;
}

both_after : (held news more : List Operation) (name : DocList) (after : Option Id) (evolved : DocList → List Operation) → StandAllBehind held news name after →
    StandAfter (all_taken news held) more evolved → StandAfter held (news ++ more) evolved
both_after held news more name after evolved s t = both (sym (taken_append news more held))
  where
    both : all_taken more (all_taken news held) ≡ all_taken (news ++ more) held → StandAfter held (news ++ more) evolved
    both e = record {
      all_held = subst (λ all. IsHonestHeld all) e t.all_held;
      lists = λ list. subst (λ all. units_of all list ≡ evolved list) e (t.lists list);
      are_there = λ o i. subst (λ all. IsIn o all) e (elim (in_parts o news more i) [ inl j ↦ t.all_stay o (s.are_there o j) | inr j ↦ t.are_there o j ]);
      all_stay = λ o i. subst (λ all. IsIn o all) e (t.all_stay o (s.all_stay o i));
      no_other = λ o i. elim (t.no_other o (subst (λ all. IsIn o all) (sym e) i)) [
        | inl j ↦ inl (in_right_part o news more j)
        | inr j ↦ elim (s.no_other o j) [ inl k ↦ inl (in_left_part o news more k) | inr k ↦ inr k ]
      ];
      stand = λ o i. subst (λ all. IsIn o (standing all)) e (elim (in_parts o news more i) [ inl j ↦ t.stay_standing o (s.stand o j) | inr j ↦ t.stand o j ]);
      stay_standing = λ o i. subst (λ all. IsIn o (standing all)) e (t.stay_standing o (s.stay_standing o i));
      no_other_stands = λ o i. elim (t.no_other_stands o (subst (λ all. IsIn o (standing all)) (sym e) i)) [
        | inl j ↦ inl (in_right_part o news more j)
        | inr j ↦ elim (s.no_other_stands o j) [ inl k ↦ inl (in_left_part o news more k) | inr k ↦ inr k ]
      ];
      same_list = λ y f. subst (λ all. list_of (standing held) y ≡ list_of (standing all) y) e
          (s.same_list y f ∙ t.same_list y (ids_stay (standing held) (standing (all_taken news held)) y s.stay_standing f));
    }

pub steps_stand_from : (steps : List Step) (held : List Operation) → IsHonestHeld held → (client : Client) (clock : ℕ) → IsNextClock held client clock →
    (lists : DocList → List Operation) →
    ((list : DocList) → units_of held list ≡ lists list) → Each (CanStep held) steps →
    StandAfter held (operations_of_runs (runs_of client clock lists steps)) (lists_after client clock lists steps)
steps_stand_from [] held is client clock next lists same can = none_after held is lists same
steps_stand_from (make name after content ∷ steps) held is client clock next lists same can =
    both_after held (news held is client clock next lists same name after content can.0) (operations_of_runs (runs_of client (clock + len_of content)
    (lists_with lists name after (news held is client clock next lists same name after content can.0)) steps)) name after
    (lists_after client (clock + len_of content) (lists_with lists name after (news held is client clock next lists same name after content can.0)) steps)
    (run_s held is client clock next lists same name after content can.0)
    (steps_stand_from steps (new held is client clock next lists same name after content can.0)
    (run_s held is client clock next lists same name after content can.0).all_held client (clock + len_of content)
    (run_next held is client clock next lists same name after content can.0) (lists_with lists name after (news held is client clock next lists same name after content can.0))
    (run_lists held is client clock next lists same name after content can.0)
    (steps_stay held (news held is client clock next lists same name after content can.0) name after is
    (run_s held is client clock next lists same name after content can.0) steps can.1))
steps_stand_from (remove spans ∷ steps) held is client clock next lists same can = steps_stand_from steps held is client clock next lists same can.1

-- ---- lemmas for callers

pub steps_stand : (held : List Operation) → IsHonestHeld held → (client : Client) (steps : List Step) → Each (CanStep held) steps →
    StandAfter held (operations_of_runs (runs_of client (held_clock held client.0) (units_of held) steps)) (lists_after client (held_clock held client.0) (units_of held) steps)
steps_stand held is client steps can = steps_stand_from steps held is client (held_clock held client.0) (λ k. clocks_below held is client k) (units_of held) (λ list. refl) can
