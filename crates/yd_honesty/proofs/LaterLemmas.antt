-- An operation that follows another in a run keeps the edit rules, where the order of their list holds one way and the other one keeps them.
use Rattle.std.proofs.Common.{◌≡◌, ◌≢◌, ℕ, zero, suc, ◌⊎◌, Bool, true, false, List, Option, Some, None, inl, inr, refl, sym, ap, ◌∙◌, subst, arith, true≢false}
use Rattle.std.specs.Prelude.{IfSome}
use Rattle.yd_words.specs.Member.{IsIn}
use Rattle.yd_words.proofs.MemberLemmas.{in_parts}
use Rattle.yd_words.proofs.OptionLemmas.{some_is}
use Rattle.yd_ids.specs.declared.id.Id.{Id}
use Rattle.yd_ids.proofs.IdLemmas.{same_numbers}
use Rattle.yd_ops.specs.Operation.{Operation}
use Rattle.yd_ops.specs.declared.lists.List.{List as DocList}
use Rattle.yd_origins.specs.Before.{is_before, IsLeftFirst, IsBetween}
use Rattle.yd_origins.specs.Operations.{OperationSet, table_of_all, table_of_list, kept_right}
use Rattle.yd_origins.specs.Table.{OriginTable, ids_of, left_of, right_of, IsTable}
use Rattle.yd_origins.proofs.ListLemmas.{list_of_left, list_of_right, kept_same}
use Rattle.yd_origins.proofs.ListTableLemmas.{in_own, own_left, own_right, own_is_table, own_order}
use Rattle.yd_origins.proofs.TableLemmas.{not_itself}
use Rattle.yd_ops.specs.Received.{has_operation, IsWritten}
use Rattle.yd_meaning.specs.ListNames.{list_names}
use Rattle.yd_meaning.specs.Held.{held_set, standing, id_before, sources, needs, item_carried}
use Rattle.yd_meaning.specs.Order.{rows_of, operation_set, list_of, IsPast, of_need, of_past, MeetsRules}
use Rattle.yd_meaning.proofs.HonestLemmas.{some_of}
use Rattle.yd_meaning.proofs.NeedLemmas.{source_is, right_needed}
use Rattle.yd_meaning.proofs.RowLemmas.{one_row, has_row, left_of-row, right_of-row, one_operation, written_distinct}
use Rattle.yd_meaning.proofs.StandingLemmas.{standing_in}
use Rattle.yd_meaning.proofs.StandingTableLemmas.{standing_table}
use Rattle.yd_meaning.proofs.VectorLemmas.{held_written}
use Rattle.yd_honesty.specs.Law.{FollowsInRun}
use Rattle.yd_honesty.proofs.PastLemmas.{first_need}
use Rattle.yd_honesty.proofs.ThroughLemmas.{left_before, before_own_right}

module _ (os : List Operation) (w : IsWritten os) (o p : Operation) (i : IsIn o (standing (held_set os))) (j : IsIn p (standing (held_set os)))
    (follows : FollowsInRun o p) (way : (a b : Id) → IsIn a (ids_of (table_of_list (operation_set (standing (held_set os))) (list_of (standing (held_set os)) o.id))) →
    IsIn b (ids_of (table_of_list (operation_set (standing (held_set os))) (list_of (standing (held_set os)) o.id))) →
    is_before (table_of_list (operation_set (standing (held_set os))) (list_of (standing (held_set os)) o.id)) a b ≡ true →
    is_before (table_of_list (operation_set (standing (held_set os))) (list_of (standing (held_set os)) o.id)) b a ≡ false)
    (meets : MeetsRules (held_set os) o) where
  abbrev held : List Operation
  held = held_set os

  abbrev stands : List Operation
  stands = standing held

  abbrev set : OperationSet list_names
  set = operation_set stands

  abbrev name : DocList
  name = list_of stands o.id

  abbrev own : OriginTable
  own = table_of_list set name

  abbrev before : Id → Id → Bool
  before = is_before (table_of_all set)

  table : IsTable (rows_of stands)
  table = standing_table held (held_written os w)

  o_in : IsIn o.id (ids_of own)
  o_in = in_own set table name o.id (one_row stands o i) refl

  p_list : list_of stands p.id ≡ name
  p_list = sym (list_of_left set table p.id o.id (one_row stands p j) (left_of-row stands table.distinct p j ∙ follows.behind))

  -- ---- the left origin

  left_own : (q : Id) → o.left_origin ≡ Some q → IsIn q (ids_of own)
  left_own q e = in_own set table name q (some_of (λ y. IsIn y (ids_of (rows_of stands))) (left_of (rows_of stands) o.id) q
      (left_of-row stands table.distinct o i ∙ e) (table.has_left o.id (one_row stands o i)))
      (list_of_left set table o.id q (one_row stands o i) (left_of-row stands table.distinct o i ∙ e))

  -- ---- the right origin

  right_list : (r : Id) → o.right_origin ≡ Some r → list_of stands r ≡ name
  right_list r e = go o.left_origin refl
    where
      go : (z : Option Id) → o.left_origin ≡ z → list_of stands r ≡ name
      go (Some q) f = sym (meets.one_list q r f e) ∙ list_of_left set table o.id q (one_row stands o i) (left_of-row stands table.distinct o i ∙ f)
      go None f = list_of_right set table o.id r (one_row stands o i) (left_of-row stands table.distinct o i ∙ f) (right_of-row stands table.distinct o i ∙ e)

  right_own : (r : Id) → o.right_origin ≡ Some r → IsIn r (ids_of own)
  right_own r e = in_own set table name r (some_of (λ y. IsIn y (ids_of (rows_of stands))) (right_of (rows_of stands) o.id) r
      (right_of-row stands table.distinct o i ∙ e) (table.has_right o.id (one_row stands o i))) (right_list r e)

  right_is : (r : Id) → o.right_origin ≡ Some r → right_of own o.id ≡ Some r
  right_is r e = own_right set table name o.id o_in ∙ ap (λ z. kept_right set o.id z) (right_of-row stands table.distinct o i ∙ e) ∙ kept_same set table o.id r (right_list r e)

  own_t : IsTable own
  own_t = own_is_table set table name

  own_left_is : left_of own o.id ≡ o.left_origin
  own_left_is = own_left set table name o.id o_in ∙ left_of-row stands table.distinct o i

  before_right : (r : Id) → o.right_origin ≡ Some r → before o.id r ≡ true
  before_right r e = sym (own_order set table name o.id r o_in (right_own r e)) ∙ before_own_right own own_t o.id r o_in (right_is r e) (λ q f. apart q (sym own_left_is ∙ f))
    where
      apart : (q : Id) → o.left_origin ≡ Some q → (r ≢ q) × (is_before own r q ≡ false)
      apart q f = let first : (q ≢ r) × (before q r ≡ true) = subst (λ z. IsLeftFirst before z (Some r)) f (subst (λ z. IsLeftFirst before o.left_origin z) e meets.left_first) in (
        (λ one. first.0 (sym one)),
        way q r (left_own q f) (right_own r e) (own_order set table name q r (left_own q f) (right_own r e) ∙ first.1),
      )

  -- what is behind the first is behind its left origin
  behind_left : (y : Id) → IsIn y (ids_of own) → before o.id y ≡ true → IfSome o.left_origin (λ q. (q ≢ y) × (before q y ≡ true))
  behind_left y k e = go o.left_origin refl
    where
      o_first : is_before own o.id y ≡ true
      o_first = own_order set table name o.id y o_in k ∙ e

      go : (z : Option Id) → o.left_origin ≡ z → IfSome z (λ q. (q ≢ y) × (before q y ≡ true))
      go None f = tt
      go (Some q) f = let behind = left_before own own_t o.id y q o_in k (own_left_is ∙ f) o_first in
          (behind.0, sym (own_order set table name q y (left_own q f) k) ∙ behind.1)

  -- ---- the past

  -- what the second needs is the first, or the right origin
  need_is : (z : Id) → IsIn z (needs p) → (z ≡ o.id) ⊎ (o.right_origin ≡ Some z)
  need_is z n = elim (in_parts z (id_before p.id.client p.id.clock) (sources p) n) [
    | inl b ↦ inl (clock p.id.clock refl b)
    | inr s ↦ elim (source_is p z s) [
      | inl e ↦ inl (some_is z o.id (sym e ∙ follows.behind))
      | inr (inl e) ↦ inr (sym follows.same_right ∙ e)
      | inr (inr e) ↦ absurd (none (subst (λ l. item_carried l ≡ Some z) follows.no_list e))
    ]
  ]
    where
      none : None ≡ Some z → ⊥
      none e = cc

      clock : (k : ℕ) → p.id.clock ≡ k → IsIn z (id_before p.id.client k) → z ≡ o.id
      clock zero e b = absurd b
      clock (suc k) e (inr b) = absurd b
      clock (suc k) e (inl is) = same_numbers z o.id
          (ap (λ (x : Id). x.client.0) is ∙ ap (λ (x : Id). x.client.0) follows.next_clock)
          (omega (arith, ap (λ (x : Id). x.clock) is, e, ap (λ (x : Id). x.clock) follows.next_clock))

  outside : (y : Id) → has_operation stands y ≡ true → IsPast held p.id y → list_of stands y ≡ list_of stands p.id →
      IsBetween before (Some o.id) o.right_origin y → ⊥
  outside y there past same between =
      let (q, k, e, found) = first_need past in
      let (z, l, way) = found in
      let one : q ≡ p = one_operation held (written_distinct held (held_written os w)) q p k (standing_in held (held_written os w) p j).0 e in
      by_need z (need_is z (subst (λ s. IsIn z (needs s)) one l)) way
    where
      of_first : IsPast held o.id y → ⊥
      of_first past = meets.past_outside y there past (same ∙ p_list)
          (behind_left y (in_own set table name y (has_row stands y there) (same ∙ p_list)) between.0.1, between.1)

      apart : (r : Id) → o.right_origin ≡ Some r → r ≢ y
      apart r e is = (some_of (λ r. (y ≢ r) × (before y r ≡ true)) o.right_origin r e between.1).0 (sym is)

      by_need : (z : Id) → (z ≡ o.id) ⊎ (o.right_origin ≡ Some z) → (z ≡ y) ⊎ IsPast held z y → ⊥
      by_need z (inl is) (inl last) = between.0.0 (sym is ∙ last)
      by_need z (inl is) (inr more) = of_first (subst (λ v. IsPast held v y) is more)
      by_need z (inr e) (inl last) = apart z e last
      by_need z (inr e) (inr more) = of_first (of_past (of_need o (standing_in held (held_written os w) o i).0 refl (right_needed o z e)) more)

  -- ---- lemmas for callers

  pub later_meets : MeetsRules held p
  later_meets = record {
    one_list = λ a r e f. ap (list_of stands) (sym (some_is o.id a (sym follows.behind ∙ e))) ∙ sym (right_list r (sym follows.same_right ∙ f));
    left_first = rw (follows.behind, follows.same_right) (first o.right_origin refl);
    past_outside = λ y there past same between. outside y there past same (subst (λ z. IsBetween before z o.right_origin y) follows.behind
        (subst (λ z. IsBetween before p.left_origin z y) follows.same_right between));
  }
    where
      first : (z : Option Id) → o.right_origin ≡ z → IsLeftFirst before (Some o.id) z
      first None e = tt
      first (Some r) e = (
        (λ one. true≢false (sym (before_right r e) ∙ subst (λ v. before o.id v ≡ false) one (not_itself (table_of_all set) o.id))),
        before_right r e,
      )
