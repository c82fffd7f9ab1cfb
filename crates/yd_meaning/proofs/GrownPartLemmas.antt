-- The table of a list in a closed part of a set has first rows of the list's table in the set.
use Rattle.std.proofs.Common.{◌≡◌, Some, None, Option, refl, sym, ap, ◌∙◌}
use Rattle.std.specs.Prelude.{IfSome}
use Rattle.yd_words.specs.Member.{IsIn}
use Rattle.yd_ids.specs.declared.id.Id.{Id}
use Rattle.yd_ids.specs.Ids.{HasSmallerClock}
use Rattle.yd_origins.specs.Table.{OriginTable, ids_of, left_of, right_of, IsTable}
use Rattle.yd_origins.specs.Operations.{ListNames, OperationSet, list_of_operation, kept_right, table_of_list, IsClosedPart}
use Rattle.yd_origins.proofs.ListTableLemmas.{own_member, own_list, in_own, own_left, own_right}
use Rattle.yd_origins.proofs.PartLemmas.{part_member, part_left, part_right}
use Rattle.yd_origins.proofs.PastLemmas.{closed_is_table, closed_list}
use Rattle.yd_meaning.proofs.AlikeLemmas.{IsSameAt}
use Rattle.yd_meaning.proofs.GrowthLemmas.{IsFrontOf}

module _ {Name : Type 0} {names : ListNames Name} (part set : OperationSet names) (t : IsTable set.origins) (closed : IsClosedPart part set) (name : Name) where
  part_t : IsTable part.origins
  part_t = closed_is_table part set t closed

  abbrev small : OriginTable
  small = table_of_list part name

  abbrev large : OriginTable
  large = table_of_list set name

  listed : (x : Id) → IsIn x (ids_of part.origins) → list_of_operation part x ≡ list_of_operation set x
  listed = closed_list part set t closed

  in_set : (x : Id) → IsIn x (ids_of part.origins) → IsIn x (ids_of set.origins)
  in_set = part_member part.origins set.origins t closed.rows

  in_large : (x : Id) → IsIn x (ids_of small) → IsIn x (ids_of large)
  in_large x i = let j = own_member part part_t name x i in in_own set t name x (in_set x j) (sym (listed x j) ∙ own_list part part_t name x i)

  kept_alike : (x : Id) → IsIn x (ids_of part.origins) → (z : Option Id) → IfSome z (λ r. IsIn r (ids_of part.origins)) → kept_right set x z ≡ kept_right part x z
  kept_alike x i None there = refl
  kept_alike x i (Some r) there = rw (sym (listed r there), sym (listed x i)) refl

  same : (x : Id) → IsIn x (ids_of small) → IsSameAt (left_of large) (right_of large) (left_of small) (right_of small) x
  same x i = let j = own_member part part_t name x i in (
    own_left set t name x (in_large x i) ∙ sym (part_left part.origins set.origins t closed.rows x j) ∙ sym (own_left part part_t name x i),
    own_right set t name x (in_large x i)
        ∙ ap (kept_right set x) (sym (part_right part.origins set.origins t closed.rows x j))
        ∙ kept_alike x j (right_of part.origins x) (closed.rows.has_right x j)
        ∙ sym (own_right part part_t name x i),
  )

  smaller_in : (x y : Id) → IsIn x (ids_of small) → IsIn y (ids_of large) → HasSmallerClock y x → IsIn y (ids_of small)
  smaller_in x y i j c =
      let k : IsIn y (ids_of part.origins) = closed.has_clocks x y (own_member part part_t name x i) (own_member set t name y j) c in
      in_own part part_t name y k (listed y k ∙ own_list set t name y j)

  -- ---- lemmas for callers

  pub list_front : IsFrontOf small large
  list_front = record { within = in_large; same = same; clocks = smaller_in }
