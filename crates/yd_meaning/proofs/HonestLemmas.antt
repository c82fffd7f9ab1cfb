-- Honest held sets: what the laws of the order call the past of an operation that stands is of its past, so they apply.
use Rattle.std.proofs.Common.{◌≡◌, ◌<◌, ℕ, zero, suc, ◌+◌, true, List, Option, Some, None, inl, inr, length, refl, sym, ap, ◌∙◌, subst, arith}
use Rattle.std.specs.Prelude.{IfSome}
use Rattle.yd_words.specs.Member.{IsIn}
use Rattle.yd_words.proofs.OptionLemmas.{if_some_map, if_some_each}
use Rattle.yd_words.proofs.TestLemmas.{split}
use Rattle.yd_ids.specs.declared.id.Client.{Client}
use Rattle.yd_ids.specs.declared.id.Id.{Id}
use Rattle.yd_ids.specs.Ids.{HasSmallerClock}
use Rattle.yd_ids.proofs.IdLemmas.{same_numbers}
use Rattle.yd_ops.specs.declared.lists.List.{List as DocList}
use Rattle.yd_ops.specs.Operation.{Operation}
use Rattle.yd_origins.specs.Table.{OriginTable, ids_of, left_of, right_of, IsTable}
use Rattle.yd_origins.specs.Before.{is_before, IsBetween}
use Rattle.yd_origins.specs.Operations.{OperationSet, list_by_origins, list_within, past_of, of_left, of_right, of_parent, of_clock, table_of_all, IsHonest, MeetsRules as SetMeetsRules}
use Rattle.yd_origins.specs.Operations.past_of.{of_past as then_past}
use Rattle.yd_ops.specs.Received.{has_operation, IsWritten}
use Rattle.yd_ops.proofs.OneOfLemmas.{operation_with, id_is_there}
use Rattle.yd_meaning.specs.ListNames.{list_names}
use Rattle.yd_meaning.specs.Names.{item_of_list}
use Rattle.yd_meaning.specs.Held.{item_carried, needs, held_set, standing}
use Rattle.yd_meaning.specs.Order.{rows_of, list_or_root, list_carried, operation_set, list_of, IsPast, of_need, of_past, MeetsRules, AreHonest}
use Rattle.yd_meaning.proofs.RowLemmas.{row_one, one_row, has_row, row_has, left_of-row, right_of-row, list_carried-one}
use Rattle.yd_meaning.proofs.NeedLemmas.{left_needed, right_needed, item_needed, before_needed}
use Rattle.yd_meaning.proofs.NestingLemmas.{standing_item}
use Rattle.yd_meaning.proofs.VectorLemmas.{held_written, clock_before}
use Rattle.yd_meaning.proofs.StandingLemmas.{standing_in}
use Rattle.yd_meaning.proofs.StandingTableLemmas.{standing_table}

-- what is true of what may be is true of all that is there
pub some_of : (P : Id → Type 0) (z : Option Id) (y : Id) → z ≡ Some y → IfSome z P → P y
some_of P z y e p = subst (λ v. IfSome v P) e p

module _ (os : List Operation) (w : IsWritten os) where
  abbrev held : List Operation
  held = held_set os

  abbrev rows : OriginTable
  rows = rows_of (standing held)

  abbrev set : OperationSet list_names
  set = operation_set (standing held)

  table : IsTable rows
  table = standing_table held (held_written os w)

  in_held : (o : Operation) → IsIn o (standing held) → IsIn o held
  in_held o i = (standing_in held (held_written os w) o i).0

  -- ---- the past

  left_past : (x y : Id) → IsIn x (ids_of rows) → left_of rows x ≡ Some y → IsPast held x y
  left_past x y i e = let (o, j, f) = row_one (standing held) x i in
      of_need o (in_held o j) f (left_needed o y (sym (left_of-row (standing held) table.distinct o j) ∙ ap (left_of rows) f ∙ e))

  right_past : (x y : Id) → IsIn x (ids_of rows) → right_of rows x ≡ Some y → IsPast held x y
  right_past x y i e = let (o, j, f) = row_one (standing held) x i in
      of_need o (in_held o j) f (right_needed o y (sym (right_of-row (standing held) table.distinct o j) ∙ ap (right_of rows) f ∙ e))

  carried_past : (x : Id) → IsIn x (ids_of rows) → IfSome (item_of_list (list_carried (standing held) x)) (IsPast held x)
  carried_past x i = let (o, j, e) = row_one (standing held) x i in subst (λ z. IfSome (item_of_list (list_carried (standing held) z)) (IsPast held z)) e
      (rw (list_carried-one (standing held) table.distinct o j) (go o j o.list (λ y g. of_need o (in_held o j) refl (item_needed o y g))))
    where
      go : (o : Operation) → IsIn o (standing held) → (z : Option DocList) → ((y : Id) → item_carried z ≡ Some y → IsPast held o.id y) →
          IfSome (item_of_list (list_or_root z)) (IsPast held o.id)
      go o j None f = tt
      go o j (Some list) f = if_some_each (IsPast held o.id) (item_of_list list) f

  item_past_within : (n : ℕ) (x : Id) → IsIn x (ids_of rows) → IfSome (item_of_list (list_within set n x)) (IsPast held x)
  item_past_within zero x i = carried_past x i
  item_past_within (suc n) x i = go (left_of rows x) (right_of rows x) (λ p e. (left_past x p i e, some_of (λ y. IsIn y (ids_of rows)) (left_of rows x) p e (table.has_left x i)))
      (λ r e. (right_past x r i e, some_of (λ y. IsIn y (ids_of rows)) (right_of rows x) r e (table.has_right x i))) (λ y j. item_past_within n y j)
    where
      go : (left right : Option Id) → ((p : Id) → left ≡ Some p → IsPast held x p × IsIn p (ids_of rows)) → ((r : Id) → right ≡ Some r → IsPast held x r × IsIn r (ids_of rows)) →
          ((y : Id) → IsIn y (ids_of rows) → IfSome (item_of_list (list_within set n y)) (IsPast held y)) →
          IfSome (item_of_list (list_by_origins left right (list_carried (standing held) x) (list_within set n))) (IsPast held x)
      go (Some p) right a b f = let (past, row) = a p refl in
          if_some_map (IsPast held p) (IsPast held x) (item_of_list (list_within set n p)) (λ y c. of_past past c) (f p row)
      go None (Some r) a b f = let (past, row) = b r refl in
          if_some_map (IsPast held r) (IsPast held x) (item_of_list (list_within set n r)) (λ y c. of_past past c) (f r row)
      go None None a b f = carried_past x i

  -- the smaller clocks of a held operation's client
  clock_past : (n : ℕ) (x y : Id) → has_operation held x ≡ true → HasSmallerClock y x → x.clock < y.clock + n → IsPast held x y
  clock_past zero x y e smaller lt = absurd (omega (arith, smaller.1, lt))
  clock_past (suc n) x y e smaller lt = let (o, i, f) = operation_with held x e in before x.clock refl o i f (λ z g s l. clock_past n z y g s l)
    where
      before : (k : ℕ) → x.clock ≡ k → (o : Operation) → IsIn o held → o.id ≡ x →
          ((z : Id) → has_operation held z ≡ true → HasSmallerClock y z → z.clock < y.clock + n → IsPast held z y) → IsPast held x y
      before zero c o i f again = absurd (omega (arith, smaller.1, c))
      before (suc k) c o i f again = elim (split k y.clock) [
        | inl le ↦ subst (λ z. IsPast held x z) (same_numbers (record { client = x.client; clock = k }) y (ap (λ (d : Client). d.0) (sym smaller.0)) (omega (arith, le, smaller.1, c))) first
        | inr less ↦ of_past first (again (record { client = x.client; clock = k }) (clock_before os x k e c) (smaller.0, less) (omega (arith, lt, c)))
      ]
        where
          first : IsPast held x (record { client = x.client; clock = k })
          first = of_need o i f (subst (λ (z : Id). IsIn (record { client = z.client; clock = k }) (needs o)) f
              (before_needed o k (ap (λ (z : Id). z.clock) f ∙ c)))

  -- what the laws of the order call the past of an operation that stands is of its past, and stands
  past_is : {x y : Id} → past_of set x y → IsIn x (ids_of rows) → IsPast held x y × IsIn y (ids_of rows)
  past_is (of_left {x = x} {y = y} e) i = (left_past x y i e, some_of (λ z. IsIn z (ids_of rows)) (left_of rows x) y e (table.has_left x i))
  past_is (of_right {x = x} {y = y} e) i = (right_past x y i e, some_of (λ z. IsIn z (ids_of rows)) (right_of rows x) y e (table.has_right x i))
  past_is (of_parent {x = x} {y = y} e) i = (
    some_of (IsPast held x) (item_of_list (list_of (standing held) x)) y e (item_past_within (suc (length (ids_of rows))) x i),
    has_row (standing held) y (standing_item held (held_written os w) x y (row_has (standing held) x i) e),
  )
  past_is (of_clock {x = x} {y = y} j smaller) i = (
    clock_past (suc x.clock) x y (let (o, k, e) = row_one (standing held) x i in subst (λ z. has_operation held z ≡ true) e (id_is_there held o (in_held o k))) smaller (omega arith),
    j,
  )
  past_is (then_past p q) i = let (a, j) = past_is p i in let (b, k) = past_is q j in (of_past a b, k)

  -- ---- lemmas for callers

  -- the operations of an honest set that are not lost are an honest set of the laws of the order
  pub honest_set : AreHonest held → IsHonest set
  honest_set honest x i = let (o, j, e) = row_one (standing held) x i in subst (λ z. SetMeetsRules set z) e (one o j (honest o j))
    where
      one : (o : Operation) → IsIn o (standing held) → MeetsRules held o → SetMeetsRules set o.id
      one o j meets = record {
        one_list = λ p r e f. meets.one_list p r (sym (left_of-row (standing held) table.distinct o j) ∙ e) (sym (right_of-row (standing held) table.distinct o j) ∙ f);
        left_first = rw (left_of-row (standing held) table.distinct o j, right_of-row (standing held) table.distinct o j) meets.left_first;
        past_outside = λ y k past same between. meets.past_outside y (row_has (standing held) y k) (past_is past (one_row (standing held) o j)).0 same
            (subst (λ z. IsBetween (is_before (table_of_all set)) z o.right_origin y) (left_of-row (standing held) table.distinct o j)
            (subst (λ z. IsBetween (is_before (table_of_all set)) (left_of rows o.id) z y) (right_of-row (standing held) table.distinct o j) between));
      }
