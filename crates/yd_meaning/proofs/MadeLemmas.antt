-- A made operation keeps an honest set honest: it needs what is held, so the rest is a closed part of the new set, and nothing stands between its neighbours.
use Rattle.std.proofs.Common.{◌≡◌, ◌<◌, ℕ, zero, suc, Bool, true, false, List, nat_eq, Option, Some, None, ◌⊎◌, inl, inr, refl, sym, ap, ◌∙◌, subst, arith, tests, true≢false}
use Rattle.std.proofs.lemmas.Bool.{false_from_ne_true}
use Rattle.std.specs.Prelude.{IfSome}
use Rattle.yd_words.specs.Member.{IsIn}
use Rattle.yd_words.proofs.OptionLemmas.{if_some_map}
use Rattle.yd_words.proofs.MemberLemmas.{in_parts}
use Rattle.yd_words.proofs.FilterLemmas.{filter-all}
use Rattle.yd_ids.specs.declared.id.Id.{Id}
use Rattle.yd_ops.specs.declared.lists.List.{List as DocList}
use Rattle.yd_ops.specs.Operation.{Operation, level_of}
use Rattle.yd_origins.specs.Table.{OriginTable, ids_of, IsTable}
use Rattle.yd_origins.specs.Before.{is_before, IsLeftFirst, IsBetween, Fits}
use Rattle.yd_origins.specs.Operations.{list_by_origins, table_of_all, table_of_list}
use Rattle.yd_origins.proofs.SharingLemmas.{between_alike, left_first_alike}
use Rattle.yd_origins.proofs.NextLemmas.{none_between, neighbours_in_order, next_there}
use Rattle.yd_origins.proofs.ListTableLemmas.{own_is_table, own_order, own_member, own_list, in_own}
use Rattle.yd_origins.proofs.SortedLemmas.{origin_order_in}
use Rattle.yd_origins.proofs.HonestLemmas.{own_fits}
use Rattle.yd_ops.specs.Received.{has_operation, IsWritten, taken_in}
use Rattle.yd_ops.proofs.OneOfLemmas.{operation_with, id_is_there, id_there, id_not_there, ids_stay}
use Rattle.yd_ops.proofs.WritingLemmas.{taken_is, taken_new, taken_stays, taken_written}
use Rattle.yd_meaning.specs.Held.{id_before, item_carried, sources, needs, has_all, held_set, is_gone, standing}
use Rattle.yd_meaning.specs.Order.{rows_of, list_or_root, operation_set, list_of, order_of, IsPast, of_need, of_past, MeetsRules, AreHonest}
use Rattle.yd_meaning.specs.Law.{StaysAsItIs, IsMade, StaysHonestWith}
use Rattle.yd_meaning.proofs.HasAllLemmas.{has_each}
use Rattle.yd_meaning.proofs.NeedLemmas.{source_is}
use Rattle.yd_meaning.proofs.RowLemmas.{has_row, row_has, one_row, left_of-row, right_of-row}
use Rattle.yd_meaning.proofs.HeldLemmas.{next_round-held, held_needs, held_grows, held_set-part}
use Rattle.yd_meaning.proofs.HeldListLemmas.{list_of-one, in_order_of}
use Rattle.yd_meaning.proofs.VectorLemmas.{held_written}
use Rattle.yd_meaning.proofs.StandingLemmas.{standing_in, sources_stand}
use Rattle.yd_meaning.proofs.StandingTableLemmas.{standing_table}
use Rattle.yd_meaning.proofs.LostLemmas.{stands}
use Rattle.yd_meaning.proofs.HonestLemmas.{some_of, honest_set}
use Rattle.yd_meaning.proofs.PartLemmas.{part_stays}

module _ (os : List Operation) (w : IsWritten os) (honest : AreHonest (held_set os)) (made : Operation) (name : DocList) (m : IsMade (held_set os) made name) where
  abbrev held : List Operation
  held = held_set os

  abbrev new : List Operation
  new = taken_in made held

  held_w : IsWritten held
  held_w = held_written os w

  new_w : IsWritten new
  new_w = taken_written made held held_w

  -- ---- what is there

  new_is : (q : Operation) → IsIn q new → (q ≡ made) ⊎ IsIn q held
  new_is q i = elim (taken_is made held held_w q i) [
    | inl b ↦ inl b.0
    | inr c ↦ elim c [ inl b ↦ inr b.0 | inr (p, j, id, e) ↦ absurd (id_not_there held made.id m.is_new p j id) ]
  ]

  made_there : IsIn made new
  made_there = taken_new made held m.is_new

  held_there : (q : Operation) → IsIn q held → IsIn q new
  held_there q i = taken_stays made held q i (id_not_there held made.id m.is_new q i)

  table : IsTable (rows_of (standing held))
  table = standing_table held held_w

  new_table : IsTable (rows_of (standing new))
  new_table = standing_table new new_w

  -- ---- what the made operation needs

  abbrev Stands : Id → Type 0
  Stands y = has_operation (standing held) y ≡ true

  of_order : (y : Id) → IsIn y (order_of (standing held) name) → Stands y × (list_of (standing held) y ≡ name)
  of_order y i = (in_order_of (standing held) table name y).0 i

  left_stands : (y : Id) → made.left_origin ≡ Some y → Stands y × (list_of (standing held) y ≡ name)
  left_stands y e = of_order y (some_of (λ v. IsIn v (order_of (standing held) name)) made.left_origin y e m.left_of_list)

  abbrev own : OriginTable
  own = table_of_list (operation_set (standing held)) name

  own_t : IsTable own
  own_t = own_is_table (operation_set (standing held)) table name

  own_f : Fits own
  own_f = own_fits (operation_set (standing held)) table (honest_set os w honest) name

  right_in : IfSome made.right_origin (λ y. IsIn y (ids_of own))
  right_in = subst (λ z. IfSome z (λ y. IsIn y (ids_of own))) (sym m.right_is_next) (next_there own own_t own_f made.left_origin)

  left_in : IfSome made.left_origin (λ y. IsIn y (ids_of own))
  left_in = if_some_map (λ y. IsIn y (order_of (standing held) name)) (λ y. IsIn y (ids_of own)) made.left_origin (λ y i. origin_order_in own y i) m.left_of_list

  own_stands : (y : Id) → IsIn y (ids_of own) → Stands y × (list_of (standing held) y ≡ name)
  own_stands y i = (row_has (standing held) y (own_member (operation_set (standing held)) table name y i), own_list (operation_set (standing held)) table name y i)

  right_stands : (y : Id) → made.right_origin ≡ Some y → Stands y × (list_of (standing held) y ≡ name)
  right_stands y e = own_stands y (some_of (λ v. IsIn v (ids_of own)) made.right_origin y e right_in)

  own_sources : (y : Id) → IsIn y (sources made) → Stands y
  own_sources y i = elim (source_is made y i) [
    | inl e ↦ (left_stands y e).0
    | inr c ↦ elim c [ inl e ↦ (right_stands y e).0 | inr e ↦ some_of Stands (item_carried made.list) y e m.item ]
  ]

  stands_held : (y : Id) → Stands y → has_operation held y ≡ true
  stands_held y e = ids_stay (standing held) held y (λ o i. (standing_in held held_w o i).0) e

  made_needs : (y : Id) → IsIn y (needs made) → has_operation held y ≡ true
  made_needs y i = elim (in_parts y (id_before made.id.client made.id.clock) (sources made) i) [
    | inl j ↦ before made.id.clock refl j
    | inr j ↦ stands_held y (own_sources y j)
  ]
    where
      before : (k : ℕ) → made.id.clock ≡ k → IsIn y (id_before made.id.client k) → has_operation held y ≡ true
      before zero e j = absurd j
      before (suc k) e (inl f) = subst (λ x. has_operation held x ≡ true) (sym f) (m.clock k e)
      before (suc k) e (inr j) = absurd j

  -- ---- so all is held, and what was held is a closed part

  held_again : held_set held ≡ held
  held_again = held_set-part os held w (λ o i. i) (held_needs os)

  still_held : (y : Id) → has_operation held y ≡ true → has_operation (held_set new) y ≡ true
  still_held y e = ids_stay (held_set held) (held_set new) y (λ o i. held_grows held new held_there o i) (subst (λ ps. has_operation ps y ≡ true) (sym held_again) e)

  new_needs : (o : Operation) → IsIn o new → (y : Id) → IsIn y (needs o) → has_operation held y ≡ true
  new_needs o i y j = elim (new_is o i) [
    | inl e ↦ made_needs y (subst (λ (p : Operation). IsIn y (needs p)) e j)
    | inr k ↦ held_needs os o k y j
  ]

  all_held : held_set new ≡ new
  all_held = sym (next_round-held new) ∙ filter-all (λ o. has_all (held_set new) (needs o)) new
      (λ o i. has_each (held_set new) (needs o) (λ y j. still_held y (new_needs o i y j)))

  stay : StaysAsItIs held new
  stay = subst (λ ps. StaysAsItIs held ps) all_held (part_stays new new_w held record {
    written = held_w;
    within = λ o i. subst (λ ps. IsIn o ps) (sym all_held) (held_there o i);
    closed = held_needs os;
  })

  -- ---- what stands

  stands_up : (o : Operation) → IsIn o (standing held) → IsIn o (standing new)
  stands_up o i = let b = (stands held held_w o).0 i in (stands new new_w o).1 (held_there o b.0, sym (stay.lost o.id (id_is_there held o b.0)) ∙ b.1)

  up : (y : Id) → Stands y → has_operation (standing new) y ≡ true
  up y e = ids_stay (standing held) (standing new) y stands_up e

  stands_down : (o : Operation) → IsIn o (standing new) → (o ≡ made) ⊎ IsIn o (standing held)
  stands_down o i = let b = (stands new new_w o).0 i in elim (new_is o b.0) [
    | inl e ↦ inl e
    | inr j ↦ inr ((stands held held_w o).1 (j, stay.lost o.id (id_is_there held o j) ∙ b.1))
  ]

  -- what stands and was held stood
  down : (y : Id) → has_operation (standing new) y ≡ true → has_operation held y ≡ true → Stands y
  down y e f = let (o, i, g) = operation_with (standing new) y e in elim (stands_down o i) [
    | inl h ↦ absurd (true≢false (sym f ∙ subst (λ x. has_operation held x ≡ false) (ap (λ (p : Operation). p.id) (sym h) ∙ g) m.is_new))
    | inr j ↦ id_there (standing held) o y j g
  ]

  made_stands : IsIn made (standing new)
  made_stands = sources_stand new new_w made made_there (false_from_ne_true (is_gone made) (never (level_of made.content) m.not_gone)) (λ y i. up y (own_sources y i))
    where
      never : (n : ℕ) → 0 < n → nat_eq n 0 ≡ true → ⊥
      never n lt e = absurd (grind (arith, tests))

  -- ---- pasts

  past_held : {x y : Id} → IsPast new x y → has_operation held y ≡ true
  past_held (of_need {y = y} o i e j) = new_needs o i y j
  past_held (of_past p q) = past_held q

  past_old : {x y : Id} → IsPast new x y → has_operation held x ≡ true → IsPast held x y
  past_old (of_need {x = x} o i e j) f = elim (new_is o i) [
    | inl h ↦ absurd (true≢false (sym f ∙ subst (λ z. has_operation held z ≡ false) (ap (λ (p : Operation). p.id) (sym h) ∙ e) m.is_new))
    | inr k ↦ of_need o k e j
  ]
  past_old (of_past p q) f = of_past (past_old p f) (past_old q (past_held p))

  -- ---- the edit rules

  abbrev before_held : Id → Id → Bool
  before_held = is_before (table_of_all (operation_set (standing held)))

  abbrev before_new : Id → Id → Bool
  before_new = is_before (table_of_all (operation_set (standing new)))

  origins_stand : (o : Operation) → IsIn o (standing held) → IfSome o.left_origin Stands × IfSome o.right_origin Stands
  origins_stand o i = (
    if_some_map (λ y. IsIn y (ids_of (rows_of (standing held)))) Stands o.left_origin (λ y j. row_has (standing held) y j)
        (subst (λ z. IfSome z (λ y. IsIn y (ids_of (rows_of (standing held))))) (left_of-row (standing held) table.distinct o i) (table.has_left o.id (one_row (standing held) o i))),
    if_some_map (λ y. IsIn y (ids_of (rows_of (standing held)))) Stands o.right_origin (λ y j. row_has (standing held) y j)
        (subst (λ z. IfSome z (λ y. IsIn y (ids_of (rows_of (standing held))))) (right_of-row (standing held) table.distinct o i) (table.has_right o.id (one_row (standing held) o i))),
  )

  old_meets : (o : Operation) → IsIn o (standing held) → MeetsRules new o
  old_meets o i = let meets = honest o i in let (left, right) = origins_stand o i in let there = id_is_there (standing held) o i in record {
    one_list = λ p r e f. sym (stay.same_list p (some_of Stands o.left_origin p e left)) ∙ meets.one_list p r e f ∙ stay.same_list r (some_of Stands o.right_origin r f right);
    left_first = left_first_alike before_held before_new Stands stay.same_order o.left_origin o.right_origin left right meets.left_first;
    past_outside = λ y e past same between.
        let own_past = past_old past (stands_held o.id there) in
        let stood : Stands y = down y e (past_held past) in
        meets.past_outside y stood own_past (stay.same_list y stood ∙ same ∙ sym (stay.same_list o.id there))
        (between_alike before_new before_held Stands (λ a b j k. sym (stay.same_order a b j k)) o.left_origin o.right_origin left right y stood between);
  }

  new_list : list_of (standing new) made.id ≡ name
  new_list = list_of-one (standing new) new_table made made_stands ∙ go made.left_origin made.right_origin refl refl
    where
      go : (left right : Option Id) → made.left_origin ≡ left → made.right_origin ≡ right → list_by_origins left right (list_or_root made.list) (list_of (standing new)) ≡ name
      go (Some p) right e f = let b = left_stands p e in sym (stay.same_list p b.0) ∙ b.1
      go None (Some r) e f = let b = right_stands r f in sym (stay.same_list r b.0) ∙ b.1
      go None None e f = m.list e f

  own_order_new : (a b : Id) → IsIn a (ids_of own) → IsIn b (ids_of own) → is_before own a b ≡ before_new a b
  own_order_new a b i j = own_order (operation_set (standing held)) table name a b i j ∙ stay.same_order a b (own_stands a i).0 (own_stands b j).0

  made_meets : MeetsRules new made
  made_meets = record {
    one_list = λ p r e f. let b = left_stands p e in let c = right_stands r f in sym (stay.same_list p b.0) ∙ b.1 ∙ sym c.1 ∙ stay.same_list r c.0;
    left_first = left_first_alike (is_before own) before_new (λ y. IsIn y (ids_of own)) own_order_new made.left_origin made.right_origin left_in right_in
        (subst (λ z. IsLeftFirst (is_before own) made.left_origin z) (sym m.right_is_next) (neighbours_in_order own own_t own_f made.left_origin left_in));
    past_outside = λ y e past same between.
        let stood : Stands y = down y e (past_held past) in
        let i : IsIn y (ids_of own) = in_own (operation_set (standing held)) table name y (has_row (standing held) y stood) (stay.same_list y stood ∙ same ∙ new_list) in
        none_between own own_t own_f made.left_origin left_in y i (subst (λ z. IsBetween (is_before own) made.left_origin z y) m.right_is_next
        (between_alike before_new (is_before own) (λ x. IsIn x (ids_of own)) (λ a b j k. sym (own_order_new a b j k)) made.left_origin made.right_origin left_in right_in y i between));
  }

  -- ---- lemmas for callers

  pub stays_honest_with : StaysHonestWith held made name
  stays_honest_with = record {
    all_held = all_held;
    of_list = new_list;
    others = stay.lost;
    honest = λ o i. elim (stands_down o i) [ inl e ↦ subst (λ p. MeetsRules new p) (sym e) made_meets | inr j ↦ old_meets o j ];
  }
