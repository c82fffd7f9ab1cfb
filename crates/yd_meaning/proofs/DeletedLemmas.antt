-- What is deleted: whether an operation is, is a matter of its own list and of the item of that list.
use Rattle.std.proofs.Common.{◌≡◌, ◌≢◌, ℕ, zero, suc, ◌<◌, ◌≤◌, Bool, true, false, ◌||◌, List, Option, Some, None, ◌⊎◌, inl, inr, length, refl, sym, ap, ◌∙◌, arith, true≢false}
use Rattle.std.specs.Prelude.{not}
use Rattle.yd_words.specs.Test.{is_some_and}
use Rattle.yd_words.specs.Member.{IsIn}
use Rattle.yd_words.proofs.OptionLemmas.{if_some_map, test_alike}
use Rattle.yd_words.proofs.TestLemmas.{both_hold, hold_both}
use Rattle.yd_ids.specs.declared.id.Id.{Id}
use Rattle.yd_ids.specs.Ids.{is_same_neighbour}
use Rattle.yd_ids.proofs.IdLemmas.{same_itself, other_id}
use Rattle.yd_ops.specs.Operation.{Operation}
use Rattle.yd_origins.specs.Table.{ids_of}
use Rattle.yd_origins.specs.Deleted.{last_of, IsOverwritten, IsDeleted, by_name, by_key, by_item}
use Rattle.yd_ops.specs.Received.{has_operation, IsWritten}
use Rattle.yd_meaning.specs.Names.{has_key, item_of_list}
use Rattle.yd_meaning.specs.Held.{standing}
use Rattle.yd_meaning.specs.Order.{rows_of, operation_set, list_of, order_of}
use Rattle.yd_meaning.specs.Deleted.{is_overwritten, is_deleted_within, is_deleted_among}
use Rattle.yd_meaning.proofs.RowLemmas.{has_row}
use Rattle.yd_meaning.proofs.NestingLemmas.{nesting, nesting_small, nesting_falls, standing_item}

-- ---- what is overwritten

not_same_is : (z : Option Id) (x : Id) → not (is_same_neighbour z (Some x)) ≡ true → z ≢ Some x
not_same_is None x e one = absurd cc
not_same_is (Some y) x e one = let same : y ≡ x = cc in true≢false (sym e ∙ rw (same, same_itself x) refl)

not_same : (z : Option Id) (x : Id) → z ≢ Some x → not (is_same_neighbour z (Some x)) ≡ true
not_same None x differ = refl
not_same (Some y) x differ = rw (other_id y x (λ one. differ (ap (λ (v : Id). Some v) one))) refl

module _ (held : List Operation) (x : Id) where
  abbrev last : Option Id
  last = last_of (order_of held (list_of held x))

  pub overwritten_is : is_overwritten held (list_of held x) x ≡ true → IsOverwritten (operation_set held) x
  overwritten_is e = let b = both_hold (has_key (list_of held x)) (not (is_same_neighbour last (Some x))) e in record {
    keyed = b.0;
    not_last = not_same_is last x b.1;
  }

  pub is_overwritten-true : IsOverwritten (operation_set held) x → is_overwritten held (list_of held x) x ≡ true
  is_overwritten-true over = hold_both (has_key (list_of held x)) (not (is_same_neighbour last (Some x))) over.keyed (not_same last x over.not_last)

-- ---- what is deleted, as the laws of the order call it

one_of_three : (s t u : Bool) → s || (t || u) ≡ true → (s ≡ true) ⊎ ((t ≡ true) ⊎ (u ≡ true))
one_of_three true t u e = inl e
one_of_three false true u e = inr (inl e)
one_of_three false false u e = inr (inr e)

first_holds : (s t u : Bool) → s ≡ true → s || (t || u) ≡ true
first_holds true t u e = e
first_holds false t u e = absurd (true≢false (sym e))

second_holds : (s t u : Bool) → t ≡ true → s || (t || u) ≡ true
second_holds true t u e = refl
second_holds false true u e = e
second_holds false false u e = absurd (true≢false (sym e))

third_holds : (s t u : Bool) → u ≡ true → s || (t || u) ≡ true
third_holds true t u e = refl
third_holds false true u e = refl
third_holds false false u e = e

some_holds : (test : Id → Bool) (z : Option Id) → is_some_and test z ≡ true → (y : Id) × (z ≡ Some y) × (test y ≡ true)
some_holds test None e = absurd (true≢false (sym e))
some_holds test (Some y) e = (y, refl, e)

deleted_within_is : (held : List Operation) (named : Id → Bool) (n : ℕ) (x : Id) → is_deleted_within held named n x ≡ true →
    IsDeleted (operation_set held) named x
deleted_within_is held named zero x e = absurd (true≢false (sym e))
deleted_within_is held named (suc n) x e = elim (one_of_three (named x) (is_overwritten held (list_of held x) x)
    (is_some_and (is_deleted_within held named n) (item_of_list (list_of held x))) e) [
      | inl by ↦ by_name by
      | inr (inl by) ↦ by_key (overwritten_is held x by)
      | inr (inr by) ↦ let (y, there, deleted) = some_holds (is_deleted_within held named n) (item_of_list (list_of held x)) by in
          by_item there (deleted_within_is held named n y deleted)
    ]

module _ (held : List Operation) (w : IsWritten held) (named : Id → Bool) where
  -- the held operations that stand
  abbrev stands : List Operation
  stands = standing held

  abbrev item : Id → Option Id
  item x = item_of_list (list_of stands x)

  -- more items than an operation lies in change nothing
  more_items : (n m : ℕ) (x : Id) → IsIn x (ids_of (rows_of stands)) → nesting held w x < n → n ≤ m →
      is_deleted_within stands named m x ≡ is_deleted_within stands named n x
  more_items zero m x i lt le = absurd (omega arith)
  more_items (suc n) zero x i lt le = absurd (omega arith)
  more_items (suc n) (suc m) x i lt le = ap (λ t. named x || (is_overwritten stands (list_of stands x) x || t))
      (test_alike (is_deleted_within stands named m) (is_deleted_within stands named n) (item x)
      (if_some_map (λ y. IsIn y (ids_of (rows_of stands)) × (nesting held w y < nesting held w x))
      (λ y. is_deleted_within stands named m y ≡ is_deleted_within stands named n y) (item x)
      (λ y c. more_items n m y c.0 (omega (arith, c.1)) (omega arith)) (nesting_falls held w x i)))

  -- ---- lemmas for callers

  -- an operation is deleted where a deletion names it, where it is overwritten, and where the item of its list is deleted
  pub deleted_among-one : (x : Id) → has_operation stands x ≡ true →
      is_deleted_among stands named x ≡ (named x || (is_overwritten stands (list_of stands x) x || is_some_and (is_deleted_among stands named) (item x)))
  deleted_among-one x e = sym (more_items (suc (length stands)) (suc (suc (length stands))) x (has_row stands x e)
      (omega (arith, nesting_small held w x (has_row stands x e))) (omega arith))

  -- the test tells what the laws of the order call deleted
  pub deleted_among_is : (x : Id) → is_deleted_among stands named x ≡ true → IsDeleted (operation_set stands) named x
  deleted_among_is x e = deleted_within_is stands named (suc (length stands)) x e

  pub deleted_among-true : {x : Id} → has_operation stands x ≡ true → IsDeleted (operation_set stands) named x → is_deleted_among stands named x ≡ true
  deleted_among-true e (by_name {x = x} by) = deleted_among-one x e
      ∙ first_holds (named x) (is_overwritten stands (list_of stands x) x) (is_some_and (is_deleted_among stands named) (item x)) by
  deleted_among-true e (by_key {x = x} by) = deleted_among-one x e
      ∙ second_holds (named x) (is_overwritten stands (list_of stands x) x) (is_some_and (is_deleted_among stands named) (item x)) (is_overwritten-true stands x by)
  deleted_among-true e (by_item {x = x} {y = y} there by) = deleted_among-one x e
      ∙ third_holds (named x) (is_overwritten stands (list_of stands x) x) (is_some_and (is_deleted_among stands named) (item x))
      (ap (λ z. is_some_and (is_deleted_among stands named) z) there ∙ deleted_among-true (standing_item held w x y e there) by)
