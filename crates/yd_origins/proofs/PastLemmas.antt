-- A closed part of an honest set is honest with the same order, and two operations with their pasts decide their order.
use Rattle.std.proofs.Common.{◌≡◌, inl, inr, Some, None, Option, refl, sym, ap, ◌∙◌, subst}
use Rattle.std.specs.Prelude.{IfSome}
use Rattle.yd_words.specs.Member.{IsIn}
use Rattle.yd_ids.specs.declared.id.Id.{Id}
use Rattle.yd_origins.specs.Table.{ids_of, left_of, right_of, IsTable}
use Rattle.yd_origins.specs.Before.{is_before, IsLeftFirst, IsBetween}
use Rattle.yd_origins.specs.Operations.{ListNames, OperationSet, list_of_operation, table_of_all, past_of, of_left, of_right, of_parent, of_clock, of_past, MeetsRules, IsHonest, IsClosedPart, AgreeOnPasts, IsOfPasts}
use Rattle.yd_origins.proofs.SharingLemmas.{between_alike, left_first_alike}
use Rattle.yd_origins.proofs.PartLemmas.{part_is_table, part_member, part_left, part_right, part_shares}
use Rattle.yd_origins.proofs.SharedSetLemmas.{ShareOperations, list_same, all_order}

-- ---- closed parts

module _ {Name : Type 0} {names : ListNames Name} (part set : OperationSet names) (t : IsTable set.origins) (closed : IsClosedPart part set) where
  abbrev P : Id → Type 0
  P x = IsIn x (ids_of part.origins)

  pub closed_is_table : IsTable part.origins
  closed_is_table = part_is_table part.origins set.origins t closed.rows

  in_set : (x : Id) → P x → IsIn x (ids_of set.origins)
  in_set = part_member part.origins set.origins t closed.rows

  shares : ShareOperations part set P
  shares = record { origins = part_shares part.origins set.origins t closed.rows; carried_same = closed.same_carried }

  pub closed_list : (x : Id) → P x → list_of_operation part x ≡ list_of_operation set x
  closed_list = list_same part set closed_is_table t P shares

  pub closed_order : (a b : Id) → P a → P b → is_before (table_of_all part) a b ≡ is_before (table_of_all set) a b
  closed_order = all_order part set closed_is_table t P shares

  left_same : (x : Id) → P x → left_of part.origins x ≡ left_of set.origins x
  left_same = part_left part.origins set.origins t closed.rows

  right_same : (x : Id) → P x → right_of part.origins x ≡ right_of set.origins x
  right_same = part_right part.origins set.origins t closed.rows

  -- the past of an operation of the part is in the part, and is its past in the set
  past_in : {x y : Id} → past_of part x y → P x → past_of set x y × P y
  past_in (of_left {x = x} e) i = (of_left (sym (left_same x i) ∙ e), rw e at (closed.rows.has_left x i))
  past_in (of_right {x = x} e) i = (of_right (sym (right_same x i) ∙ e), rw e at (closed.rows.has_right x i))
  past_in (of_parent {x = x} e) i = (of_parent (sym (ap names.item_of (closed_list x i)) ∙ e), rw e at (closed.has_parent x i))
  past_in (of_clock {y = y} j c) i = (of_clock (in_set y j) c, j)
  past_in (of_past r s) i = let (u, j) = past_in r i in let (v, k) = past_in s j in (of_past u v, k)

  between_in_set : (x y : Id) → P x → P y → IsBetween (is_before (table_of_all part)) (left_of part.origins x) (right_of part.origins x) y →
      IsBetween (is_before (table_of_all set)) (left_of set.origins x) (right_of set.origins x) y
  between_in_set x y i j between = subst (λ z. IsBetween (is_before (table_of_all set)) z (right_of set.origins x) y) (left_same x i)
      (subst (λ w. IsBetween (is_before (table_of_all set)) (left_of part.origins x) w y) (right_same x i)
      (between_alike (is_before (table_of_all part)) (is_before (table_of_all set)) P closed_order (left_of part.origins x) (right_of part.origins x)
      (closed.rows.has_left x i) (closed.rows.has_right x i) y j between))

  closed_meets : (x : Id) → P x → MeetsRules set x → MeetsRules part x
  closed_meets x i rules = record {
    one_list = λ p r e g. closed_list p (rw e at (closed.rows.has_left x i))
        ∙ rules.one_list p r (sym (left_same x i) ∙ e) (sym (right_same x i) ∙ g) ∙ sym (closed_list r (rw g at (closed.rows.has_right x i)));
    left_first = left_first_alike (is_before (table_of_all set)) (is_before (table_of_all part)) P (λ a b j k. sym (closed_order a b j k)) (left_of part.origins x)
        (right_of part.origins x)
        (closed.rows.has_left x i) (closed.rows.has_right x i)
        (subst (λ z. IsLeftFirst (is_before (table_of_all set)) z (right_of part.origins x)) (sym (left_same x i))
        (subst (λ w. IsLeftFirst (is_before (table_of_all set)) (left_of set.origins x) w) (sym (right_same x i)) rules.left_first));
    past_outside = λ y j past e between. rules.past_outside y (in_set y j) (past_in past i).0 (sym (closed_list y j) ∙ e ∙ closed_list x i)
        (between_in_set x y i j between);
  }

  -- a closed part of an honest set is honest
  pub closed_honest : IsHonest set → IsHonest part
  closed_honest honest x i = closed_meets x i (honest x (in_set x i))

-- ---- two operations and their pasts

module _ {Name : Type 0} {names : ListNames Name} (one other : OperationSet names) (a b : Id) (t : IsTable one.origins) (u : IsTable other.origins)
    (in_a : IsIn a (ids_of one.origins)) (in_b : IsIn b (ids_of one.origins)) (agree : AgreeOnPasts one other a b) where
  abbrev Q : Id → Type 0
  Q x = IsIn x (ids_of one.origins) × IsOfPasts one a b x

  -- what is of the past of one of the two, or of what is so, is again
  further : (x y : Id) → IsOfPasts one a b x → past_of one x y → IsOfPasts one a b y
  further x y (inl e) past = inr (inr (inl (subst (λ v. past_of one v y) e past)))
  further x y (inr (inl e)) past = inr (inr (inr (subst (λ v. past_of one v y) e past)))
  further x y (inr (inr (inl r))) past = inr (inr (inl (of_past r past)))
  further x y (inr (inr (inr r))) past = inr (inr (inr (of_past r past)))

  neighbours : (x : Id) → Q x → (z : Option Id) → IfSome z (λ y. IsIn y (ids_of one.origins)) → ((y : Id) → z ≡ Some y → past_of one x y) → IfSome z Q
  neighbours x q None there past = tt
  neighbours x q (Some y) there past = (there, further x y q.1 (past y refl))

  shares_pasts : ShareOperations one other Q
  shares_pasts = record {
    origins = record {
      in_one = λ x q. q.0;
      in_other = λ x q. agree.has_both x q.0 q.1;
      has_left = λ x q. neighbours x q (left_of one.origins x) (t.has_left x q.0) (λ y e. of_left e);
      has_right = λ x q. neighbours x q (right_of one.origins x) (t.has_right x q.0) (λ y e. of_right e);
      left_same = λ x q. agree.same_left x q.0 q.1;
      right_same = λ x q. agree.same_right x q.0 q.1;
    };
    carried_same = λ x q. agree.same_carried x q.0 q.1;
  }

  pub pasts_order : is_before (table_of_all one) a b ≡ is_before (table_of_all other) a b
  pasts_order = all_order one other t u Q shares_pasts a b (in_a, inl refl) (in_b, inr (inl refl))

  pub first_list : list_of_operation one a ≡ list_of_operation other a
  first_list = list_same one other t u Q shares_pasts a (in_a, inl refl)

  pub second_list : list_of_operation one b ≡ list_of_operation other b
  second_list = list_same one other t u Q shares_pasts b (in_b, inr (inl refl))
