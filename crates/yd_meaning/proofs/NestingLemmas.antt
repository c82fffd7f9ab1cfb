-- How deep lists lie in items: the item of an operation's list came earlier, so nesting ends.
use Rattle.std.proofs.Common.{◌≡◌, true, ℕ, zero, suc, ◌<◌, List, Option, Some, None, length, subst, arith}
use Rattle.std.specs.Prelude.{IfSome}
use Rattle.yd_words.specs.Member.{IsIn}
use Rattle.yd_words.proofs.OptionLemmas.{if_some_map, if_some_each}
use Rattle.yd_ids.specs.declared.id.Id.{Id}
use Rattle.yd_ops.specs.declared.lists.List.{List as DocList}
use Rattle.yd_ops.specs.Operation.{Operation}
use Rattle.yd_origins.specs.Table.{OriginTable, ids_of, left_of, right_of}
use Rattle.yd_origins.specs.Operations.{list_by_origins, list_within}
use Rattle.yd_origins.proofs.ListingLemmas.{arranged, arranged_in, in_arranged, arranged_falling, arranged_distinct, arranged_length, listed, rank, rank_below, rank_left}
use Rattle.yd_origins.proofs.PlacedLemmas.{IsListed}
use Rattle.yd_ops.specs.Received.{has_operation, IsWritten}
use Rattle.yd_meaning.specs.Names.{item_of_list}
use Rattle.yd_meaning.specs.Held.{item_carried, standing}
use Rattle.yd_meaning.specs.Order.{rows_of, list_or_root, list_carried, operation_set, list_of}
use Rattle.yd_meaning.proofs.RowLemmas.{row_one, has_row, row_has, length-rows, list_carried-one}
use Rattle.yd_meaning.proofs.NeedLemmas.{item_source}
use Rattle.yd_meaning.proofs.StandingTableLemmas.{arrival, IsEarlier, standing_distinct, source_earlier, left_earlier, right_earlier}

module _ (held : List Operation) (w : IsWritten held) where
  -- the held operations that stand
  abbrev stands : List Operation
  stands = standing held

  abbrev rows : OriginTable
  rows = rows_of stands

  -- ---- the item of a list

  carried_earlier : (x : Id) → IsIn x (ids_of rows) → IfSome (item_of_list (list_carried stands x)) (IsEarlier held w x)
  carried_earlier x i = let (o, j, e) = row_one stands x i in subst (λ z. IfSome (item_of_list (list_carried stands z)) (IsEarlier held w z)) e
      (rw (list_carried-one stands (standing_distinct held w) o j) (go o j o.list (λ y g. source_earlier held w o j y (item_source o y g))))
    where
      go : (o : Operation) → IsIn o stands → (z : Option DocList) → ((y : Id) → item_carried z ≡ Some y → IsEarlier held w o.id y) →
          IfSome (item_of_list (list_or_root z)) (IsEarlier held w o.id)
      go o j None f = tt
      go o j (Some list) f = if_some_each (IsEarlier held w o.id) (item_of_list list) f

  item_earlier_within : (n : ℕ) (x : Id) → IsIn x (ids_of rows) → IfSome (item_of_list (list_within (operation_set stands) n x)) (IsEarlier held w x)
  item_earlier_within zero x i = carried_earlier x i
  item_earlier_within (suc n) x i = go (left_of rows x) (right_of rows x) (left_earlier held w x i) (right_earlier held w x i)
      (λ y j. item_earlier_within n y j)
    where
      go : (left right : Option Id) → IfSome left (IsEarlier held w x) → IfSome right (IsEarlier held w x) →
          ((y : Id) → IsIn y (ids_of rows) → IfSome (item_of_list (list_within (operation_set stands) n y)) (IsEarlier held w y)) →
          IfSome (item_of_list (list_by_origins left right (list_carried stands x) (list_within (operation_set stands) n))) (IsEarlier held w x)
      go (Some p) right a b f = if_some_map (IsEarlier held w p) (IsEarlier held w x) (item_of_list (list_within (operation_set stands) n p))
          (λ y c. (c.0, omega (arith, c.1, a.1))) (f p a.0)
      go None (Some r) a b f = if_some_map (IsEarlier held w r) (IsEarlier held w x) (item_of_list (list_within (operation_set stands) n r))
          (λ y c. (c.0, omega (arith, c.1, b.1))) (f r b.0)
      go None None a b f = carried_earlier x i

  -- the item of an operation's list stands, and came earlier
  pub item_earlier : (x : Id) → IsIn x (ids_of rows) → IfSome (item_of_list (list_of stands x)) (IsEarlier held w x)
  item_earlier = item_earlier_within (suc (length (ids_of rows)))

  -- ---- nesting

  -- the ids that stand, each in front of those that came earlier
  listing : List Id
  listing = arranged (arrival held w) (ids_of rows)

  is_listed : IsListed (λ x. item_of_list (list_of stands x)) (λ x. None) listing
  unfolding listing
  is_listed = listed (arrival held w) (λ x. item_of_list (list_of stands x)) (λ x. None) listing
      (arranged_falling (arrival held w) (ids_of rows))
      (arranged_distinct (arrival held w) (ids_of rows) (standing_distinct held w))
      (λ x i. if_some_map (IsEarlier held w x) (λ y. IsIn y listing × (arrival held w y < arrival held w x)) (item_of_list (list_of stands x))
      (λ y c. (in_arranged (arrival held w) (ids_of rows) y c.0, c.1))
      (item_earlier x (arranged_in (arrival held w) (ids_of rows) x i)))
      (λ x i. tt)

  -- in no more items than this an operation lies
  pub nesting : Id → ℕ
  nesting = rank listing

  pub nesting_small : (x : Id) → IsIn x (ids_of rows) → nesting x < length stands
  unfolding nesting listing
  nesting_small x i = rw (← length-rows stands, ← arranged_length (arrival held w) (ids_of rows))
      (rank_below listing x (in_arranged (arrival held w) (ids_of rows) x i))

  -- it falls from an operation to the item of its list
  pub nesting_falls : (x : Id) → IsIn x (ids_of rows) → IfSome (item_of_list (list_of stands x)) (λ y. IsIn y (ids_of rows) × (nesting y < nesting x))
  unfolding nesting listing
  nesting_falls x i = if_some_map (λ y. IsIn y listing × (nesting y < nesting x)) (λ y. IsIn y (ids_of rows) × (nesting y < nesting x))
      (item_of_list (list_of stands x)) (λ y c. (arranged_in (arrival held w) (ids_of rows) y c.0, c.1))
      (rank_left (λ z. item_of_list (list_of stands z)) (λ z. None) listing is_listed x (in_arranged (arrival held w) (ids_of rows) x i))

  -- ---- lemmas for callers

  -- the item of a list with operations that stand stands
  pub standing_item : (x y : Id) → has_operation stands x ≡ true → item_of_list (list_of stands x) ≡ Some y → has_operation stands y ≡ true
  standing_item x y e f = row_has stands y (rw f at (item_earlier x (has_row stands x e))).0
