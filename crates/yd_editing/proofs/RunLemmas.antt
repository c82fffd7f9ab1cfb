-- A made run: its units stand one behind another, directly behind the unit behind which it is made.
use Rattle.std.proofs.Common.{append_assoc, ◌≡◌, ◌<◌, ◌+◌, ℕ, zero, suc, true, false, List, [], ◌∷◌, ◌++◌, map, Option, Some, None, ◌⊎◌, inl, inr, refl, sym, ap, ap₂, ◌∙◌, subst, arith, true≢false}
use Rattle.std.proofs.lemmas.Bool.{false_from_ne_true}
use Rattle.std.specs.Prelude.{IfSome}
use Rattle.yd_words.specs.Each.{Each}
use Rattle.yd_words.specs.Member.{IsIn}
use Rattle.yd_words.proofs.MemberLemmas.{in_right_part}
use Rattle.yd_ids.specs.declared.id.Client.{Client}
use Rattle.yd_ids.specs.declared.id.Id.{Id}
use Rattle.yd_origins.specs.Parts.{behind, first_of, up_to}
use Rattle.yd_any.specs.Tree.{AnyTree, AnyTrees, no_trees, tree}
use Rattle.yd_ops.specs.declared.lists.List.{List as DocList}
use Rattle.yd_ops.specs.Value.{ContentValue, json, binary, string, embed, format, nested, any, deleted}
use Rattle.yd_ops.specs.Operation.{UnitContent, json_unit, text_unit, Operation, level_of, units_of_content, units_of_trees, deleted_units, later_id, operations_from, operations_of_run}
use Rattle.yd_origins.proofs.MemberLemmas.{in_up_to, parts_of}
use Rattle.yd_ops.specs.Received.{has_operation, taken_in, all_taken}
use Rattle.yd_ops.proofs.OneOfLemmas.{operation_with, id_is_there, id_there, ids_stay}
use Rattle.yd_meaning.specs.Held.{item_carried, held_clock, standing}
use Rattle.yd_meaning.specs.Names.{item_of_list}
use Rattle.yd_meaning.specs.Order.{list_or_root, list_of, order_of}
use Rattle.yd_meaning.specs.Law.{IsMade}
use Rattle.yd_editing.specs.Law.{IsHonestHeld, StandsBehind, units_of, IsPlace, IsNextClock, StandAllBehind}
use Rattle.yd_editing.specs.Made.{units_behind, id_of_first, list_where_alone, made_run}
use Rattle.yd_editing.proofs.OrderLemmas.{behind_parts, up_to_parts, first_is, map_behind}
use Rattle.yd_editing.proofs.UnitLemmas.{clocks_below, in_list, unit_ids, held_id}
use Rattle.yd_editing.proofs.PlaceLemmas.{stands_behind}

-- ---- no unit of a content is gone

pub not_gone : (content : ContentValue) → Each (λ unit. 0 < level_of unit) (units_of_content content)
not_gone (json values) = go values
  where
    go : (vs : List (Option AnyTree)) → Each (λ unit. 0 < level_of unit) (map json_unit vs)
    go [] = tt
    go (v ∷ vs) = (omega arith, go vs)
not_gone (binary blob) = (omega arith, tt)
not_gone (string units) = go units
  where
    go : (vs : List ℕ) → Each (λ unit. 0 < level_of unit) (map text_unit vs)
    go [] = tt
    go (v ∷ vs) = (omega arith, go vs)
not_gone (embed t) = (omega arith, tt)
not_gone (format key t) = (omega arith, tt)
not_gone (nested kind) = (omega arith, tt)
not_gone (any ts) = go ts
  where
    go : (vs : AnyTrees) → Each (λ unit. 0 < level_of unit) (units_of_trees vs)
    go no_trees = tt
    go (tree v vs) = (omega arith, go vs)
not_gone (deleted count) = go count
  where
    go : (n : ℕ) → Each (λ unit. 0 < level_of unit) (deleted_units n)
    go zero = tt
    go (suc n) = (omega arith, go n)

-- ---- one unit after another

-- a client's next clock, once it was taken
next_clock : (held : List Operation) (made : Operation) (name : DocList) → StandsBehind held made name → IsNextClock held made.id.client made.id.clock →
    IsNextClock (taken_in made held) made.id.client (suc made.id.clock)
next_clock held made name s next k = (there, back)
  where
    there : has_operation (taken_in made held) (record { client = made.id.client; clock = k }) ≡ true → k < suc made.id.clock
    there e = let (o, i, f) = operation_with (taken_in made held) (record { client = made.id.client; clock = k }) e in elim (s.no_other o i) [
      | inl g ↦ omega (arith, ap (λ (p : Operation). p.id.clock) g, ap (λ (x : Id). x.clock) f)
      | inr j ↦ omega (arith, (next k).0 (id_there held o (record { client = made.id.client; clock = k }) j f))
    ]

    back : k < suc made.id.clock → has_operation (taken_in made held) (record { client = made.id.client; clock = k }) ≡ true
    back lt = go k made.id.clock lt refl
      where
        old : k < made.id.clock → has_operation (taken_in made held) (record { client = made.id.client; clock = k }) ≡ true
        old less = ids_stay held (taken_in made held) (record { client = made.id.client; clock = k }) s.all_stay ((next k).1 less)

        last : k ≡ made.id.clock → has_operation (taken_in made held) (record { client = made.id.client; clock = k }) ≡ true
        last e = id_there (taken_in made held) made (record { client = made.id.client; clock = k }) s.is_there (λ i. record { client = made.id.client; clock = sym e i })

        go : (a b : ℕ) → a < suc b → made.id.clock ≡ b → has_operation (taken_in made held) (record { client = made.id.client; clock = k }) ≡ true
        go a b l e = elim (cases k made.id.clock lt) [ inl m ↦ old m | inr m ↦ last m ]
          where
            cases : (c d : ℕ) → c < suc d → (c < d) ⊎ (c ≡ d)
            cases zero zero m = inr refl
            cases zero (suc d) m = inl (omega arith)
            cases (suc c) zero m = absurd (omega (arith, m))
            cases (suc c) (suc d) m = elim (cases c d (omega (arith, m))) [ inl n ↦ inl (omega (arith, n)) | inr n ↦ inr (ap suc n) ]

none_stand : (held : List Operation) → IsHonestHeld held → (name : DocList) (left : Option Id) → StandAllBehind held [] name left
none_stand held is name left = record {
  all_held = is;
  place = sym (parts_of left (order_of (standing held) name));
  others = λ other differ. refl;
  are_there = λ o i. absurd i;
  all_stay = λ o i. i;
  no_other = λ o i. inr i;
  stand = λ o i. absurd i;
  stay_standing = λ o i. i;
  no_other_stands = λ o i. inr i;
  of_list = λ o i. absurd i;
  same_list = λ y e. refl;
}

-- what stands behind a first unit and then behind that one
module _ (held : List Operation) (made : Operation) (rest : List Operation) (name : DocList) (s : StandsBehind held made name)
    (out : IsIn made.id (up_to made.left_origin (order_of (standing held) name)) → ⊥) (t : StandAllBehind (taken_in made held) rest name (Some made.id)) where
  abbrev front : List Id
  front = up_to made.left_origin (order_of (standing held) name)

  abbrev back : List Id
  back = behind made.left_origin (order_of (standing held) name)

  abbrev rest_ids : List Id
  rest_ids = map (λ (o : Operation). o.id) rest

  both_place : order_of (standing (all_taken rest (taken_in made held))) name ≡ front ++ (made.id ∷ rest_ids ++ back)
  both_place = t.place ∙ ap (λ list. up_to (Some made.id) list ++ (rest_ids ++ behind (Some made.id) list)) s.place
      ∙ ap₂ (λ xs ys. xs ++ (rest_ids ++ ys)) (up_to_parts made.id front back out) (behind_parts made.id front back out)
      ∙ append_assoc front (made.id ∷ []) (rest_ids ++ back)

  both_stand : StandAllBehind held (made ∷ rest) name made.left_origin
  both_stand = record {
    all_held = t.all_held;
    place = both_place;
    others = λ other differ. t.others other differ ∙ s.others other differ;
    are_there = λ o i. elim i [ inl e ↦ subst (λ p. IsIn p (all_taken rest (taken_in made held))) (sym e) (t.all_stay made s.is_there) | inr j ↦ t.are_there o j ];
    all_stay = λ o i. t.all_stay o (s.all_stay o i);
    no_other = λ o i. elim (t.no_other o i) [ inl j ↦ inl (inr j) | inr j ↦ elim (s.no_other o j) [ inl e ↦ inl (inl e) | inr k ↦ inr k ] ];
    stand = λ o i. elim i [ inl e ↦ subst (λ p. IsIn p (standing (all_taken rest (taken_in made held)))) (sym e) (t.stay_standing made s.stands) | inr j ↦ t.stand o j ];
    stay_standing = λ o i. t.stay_standing o (s.stay_standing o i);
    no_other_stands = λ o i. elim (t.no_other_stands o i) [ inl j ↦ inl (inr j) | inr j ↦ elim (s.no_other_stands o j) [ inl e ↦ inl (inl e) | inr k ↦ inr k ] ];
    of_list = λ o i. elim i [
      | inl e ↦ ap (λ (p : Operation). list_of (standing (all_taken rest (taken_in made held))) p.id) e
          ∙ sym (t.same_list made.id (id_is_there (standing (taken_in made held)) made s.stands)) ∙ s.of_list
      | inr j ↦ t.of_list o j
    ];
    same_list = λ y e. s.same_list y e ∙ t.same_list y (ids_stay (standing held) (standing (taken_in made held)) y s.stay_standing e);
  }

-- one unit at a client's next clock, behind a unit of the list
module _ (name : DocList) (right : Option Id) (unit : UnitContent) (full : 0 < level_of unit) (held : List Operation) (is : IsHonestHeld held) (id : Id) (left : Option Id)
    (list : Option DocList)
    (next : IsNextClock held id.client id.clock) (there : IfSome left (λ y. IsIn y (order_of (standing held) name)))
    (nearest : right ≡ first_of (behind left (order_of (standing held) name)))
    (carries : left ≡ None → right ≡ None → list_or_root list ≡ name) (item : IfSome (item_carried list) (λ y. has_operation (standing held) y ≡ true)) where
  abbrev made : Operation
  made = record { id = id; left_origin = left; right_origin = right; list = list; content = unit }

  is_new : has_operation held id ≡ false
  is_new = false_from_ne_true (has_operation held id) (λ e. absurd (never id.clock ((next id.clock).0 e)))
    where
      never : (n : ℕ) → n < n → ⊥
      never n lt = absurd (omega (arith, lt))

  is_made : IsMade held made name
  is_made = record {
    not_gone = full;
    is_new = is_new;
    clock = λ k e. (next k).1 (omega (arith, e));
    left_of_list = there;
    right_is_next = nearest;
    list = carries;
    item = item;
  }

  made_s : StandsBehind held made name
  made_s = stands_behind held is made name is_made

  made_out : IsIn id (up_to left (order_of (standing held) name)) → ⊥
  made_out i = true≢false (sym (held_id held is id ((in_list held is name id).0 (in_up_to left (order_of (standing held) name) id i)).0) ∙ is_new)

  made_next : IsNextClock (taken_in made held) id.client (id.clock + 1)
  made_next = subst (λ n. IsNextClock (taken_in made held) id.client n) (one_more id.clock) (next_clock held made name made_s next)
    where
      one_more : (n : ℕ) → suc n ≡ n + 1
      one_more n = omega arith

  made_in : IsIn id (order_of (standing (taken_in made held)) name)
  made_in = subst (λ ids. IsIn id ids) (sym made_s.place) (in_right_part id (up_to left (order_of (standing held) name)) (id ∷ behind left (order_of (standing held) name))
      (inl refl))

  made_nearest : right ≡ first_of (behind (Some id) (order_of (standing (taken_in made held)) name))
  made_nearest = nearest ∙ sym (ap first_of (ap (behind (Some id)) made_s.place ∙ behind_parts id (up_to left (order_of (standing held) name))
      (behind left (order_of (standing held) name)) made_out))

  one_and_rest : (rest : List Operation) → StandAllBehind (taken_in made held) rest name (Some id) → StandAllBehind held (made ∷ rest) name left
  one_and_rest rest t = both_stand held made rest name made_s made_out t

some_none : (x : Id) → ◌≡◌ {A = Option Id} (Some x) None → ⊥
some_none x e = absurd cc

-- units from a client's next clock on, behind a unit of the list
module _ (name : DocList) (right : Option Id) where
  pub units_behind_stand : (units : List UnitContent) → Each (λ unit. 0 < level_of unit) units → (held : List Operation) → IsHonestHeld held →
      (id : Id) (left : Option Id) (list : Option DocList) →
      IsNextClock held id.client id.clock → IfSome left (λ y. IsIn y (order_of (standing held) name)) → right ≡ first_of (behind left (order_of (standing held) name)) →
      (left ≡ None → right ≡ None → list_or_root list ≡ name) → IfSome (item_carried list) (λ y. has_operation (standing held) y ≡ true) →
      StandAllBehind held (operations_from id left right list units) name left
  units_behind_stand [] full held is id left list next there nearest carries item = none_stand held is name left
  units_behind_stand (unit ∷ units) full held is id left list next there nearest carries item =
      one_and_rest name right unit full.0 held is id left list next there nearest carries item (operations_from (later_id id 1) (Some id) right None units)
      (units_behind_stand units full.1 (taken_in (made name right unit full.0 held is id left list next there nearest carries item) held)
      (made_s name right unit full.0 held is id left list next there nearest carries item).all_held (later_id id 1) (Some id) None
      (made_next name right unit full.0 held is id left list next there nearest carries item) (made_in name right unit full.0 held is id left list next there nearest carries item)
      (made_nearest name right unit full.0 held is id left list next there nearest carries item) (λ e f. absurd (some_none id e)) tt)

-- ---- the run of a client

carried_alone : (left right : Option Id) (name : DocList) → left ≡ None → right ≡ None → list_or_root (list_where_alone left right name) ≡ name
carried_alone None None name e f = refl
carried_alone None (Some r) name e f = absurd (some_none r f)
carried_alone (Some p) right name e f = absurd (some_none p e)

item_alone : (left right : Option Id) (name : DocList) (P : Id → Type 0) → IfSome (item_of_list name) P → IfSome (item_carried (list_where_alone left right name)) P
item_alone None None name P e = e
item_alone None (Some r) name P e = tt
item_alone (Some p) right name P e = tt

module _ (held : List Operation) (is : IsHonestHeld held) (client : Client) (clock : ℕ) (next : IsNextClock held client clock) (units : List Operation) (name : DocList)
    (ids : map (λ (o : Operation). o.id) units ≡ order_of (standing held) name) (after : Option Id) (content : ContentValue) (place : IsPlace held name after) where
  nearest_is : id_of_first (units_behind after units) ≡ first_of (behind after (order_of (standing held) name))
  nearest_is = first_is (units_behind after units) ∙ ap first_of (map_behind after units ∙ ap (behind after) ids)

  -- at whatever clock is the next one, with whatever units the list has
  pub run_stands : StandAllBehind held (operations_of_run (made_run client clock units name after content)) name after
  run_stands = units_behind_stand name (id_of_first (units_behind after units)) (units_of_content content) (not_gone content) held is
      (record { client = client; clock = clock }) after
      (list_where_alone after (id_of_first (units_behind after units)) name) next place.of_list nearest_is (carried_alone after (id_of_first (units_behind after units)) name)
      (item_alone after (id_of_first (units_behind after units)) name (λ y. has_operation (standing held) y ≡ true) place.parent)

-- ---- lemmas for callers

pub made_run_stands : (held : List Operation) → IsHonestHeld held → (client : Client) (name : DocList) (after : Option Id) (content : ContentValue) → IsPlace held name after →
    StandAllBehind held (operations_of_run (made_run client (held_clock held client.0) (units_of held name) name after content)) name after
made_run_stands held is client name after content place =
    run_stands held is client (held_clock held client.0) (λ k. clocks_below held is client k) (units_of held name) name (unit_ids held is name) after content place
