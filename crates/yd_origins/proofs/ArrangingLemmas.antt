-- The origin order is one for all arrangements of the rows, and the scan of a part's order is the order of the part with the new row.
use Rattle.std.proofs.Common.{◌≡◌, ◌↔◌, refl, List, ◌∷◌, inl, inr, ◌<◌, Option, sym, subst}
use Rattle.std.specs.Prelude.{IfSome}
use Rattle.yd_words.specs.Member.{IsIn}
use Rattle.yd_words.proofs.OptionLemmas.{if_some_map}
use Rattle.yd_ids.specs.declared.id.Id.{Id}
use Rattle.yd_origins.specs.Table.{Row, OriginTable, ids_of, left_of, right_of, IsTable, IsPart}
use Rattle.yd_origins.specs.Before.{is_before, IsInOrder, Fits}
use Rattle.yd_origins.specs.Sorted.{origin_order}
use Rattle.yd_origins.proofs.LineLemmas.{in_order_alike}
use Rattle.yd_origins.specs.Scan.{after_scan}
use Rattle.yd_origins.proofs.PartLemmas.{part_fits, part_member, part_order, part_is_table, part_left, part_right, found_left, found_right, row_id_in, table_is_part}
use Rattle.yd_origins.proofs.PlacementLemmas.{scan_law}
use Rattle.yd_origins.proofs.GrowingLemmas.{in_scan, scan_has}
use Rattle.yd_origins.proofs.SortedLemmas.{in_origin_order, origin_order_in, order_in_order, in_order_is_origin_order}

module _ (table other : OriginTable) (t : IsTable table) (f : Fits table) (u : IsTable other) (same : (row : Row) → IsIn row table ↔ IsIn row other) where
  other_is_part : IsPart other table
  other_is_part = table_is_part other table u (λ row. (same row).1)

  whole_is_part : IsPart table other
  whole_is_part = table_is_part table other t (λ row. (same row).0)

  pub any_arrangement : origin_order other ≡ origin_order table
  any_arrangement = in_order_is_origin_order table t f (origin_order other)
      (in_order_alike (is_before other) (is_before table) (λ x. IsIn x (ids_of other)) (part_order other table t other_is_part) (origin_order other)
      (origin_order_in other)
      (order_in_order other u (part_fits other table t other_is_part f)))
      (λ x i. part_member other table t other_is_part x (origin_order_in other x i))
      (λ x p. in_origin_order other x (part_member table other u whole_is_part x p))

-- ---- the scan of a part in order

module _ (part table : OriginTable) (new : Row) (t : IsTable table) (f : Fits table) (p : IsPart part table) (q : IsPart (new ∷ part) table)
    (left_there : IfSome new.left (λ y. IsIn y (ids_of part))) (right_there : IfSome new.right (λ y. IsIn y (ids_of part)))
    (own : (x : Id) → IsIn x (ids_of part) → x.client ≡ new.id.client → x.clock < new.id.clock) where
  abbrev list : List Id
  list = origin_order part

  abbrev scanned : List Id
  scanned = after_scan (left_of table) (right_of table) list new.id

  -- the neighbours of rows of the part, in the table, stand in the list
  neighbour_in_list : (z w : Option Id) → z ≡ w → IfSome z (λ y. IsIn y (ids_of part)) → IfSome w (λ y. IsIn y list)
  neighbour_in_list z w e there = subst (λ v. IfSome v (λ y. IsIn y list)) e (if_some_map (λ y. IsIn y (ids_of part)) (λ y. IsIn y list) z (in_origin_order part) there)

  new_left_is : new.left ≡ left_of table new.id
  new_left_is = sym (found_left new table t.distinct (q.within new (inl refl)))

  new_right_is : new.right ≡ right_of table new.id
  new_right_is = sym (found_right new table t.distinct (q.within new (inl refl)))

  scanned_in : (x : Id) → IsIn x scanned → IsIn x (ids_of (new ∷ part))
  scanned_in x i = elim (scan_has (left_of table) (right_of table) list new.id x i) [ inl e ↦ inl e | inr j ↦ inr (origin_order_in part x j) ]

  in_scanned : (x : Id) → IsIn x (ids_of (new ∷ part)) → IsIn x scanned
  in_scanned x i = in_scan (left_of table) (right_of table) list new.id x (elim i [ inl e ↦ inl e | inr j ↦ inr (in_origin_order part x j) ])

  scanned_in_order : IsInOrder (is_before table) scanned
  scanned_in_order = scan_law table t f list new.id (row_id_in new table (q.within new (inl refl))) (λ i. q.distinct.0 (origin_order_in part new.id i))
      (λ x i. part_member part table t p x (origin_order_in part x i))
      (λ x i. neighbour_in_list (left_of part x) (left_of table x) (part_left part table t p x (origin_order_in part x i)) (p.has_left x (origin_order_in part x i)))
      (λ x i. neighbour_in_list (right_of part x) (right_of table x) (part_right part table t p x (origin_order_in part x i)) (p.has_right x (origin_order_in part x i)))
      (neighbour_in_list new.left (left_of table new.id) new_left_is left_there)
      (neighbour_in_list new.right (right_of table new.id) new_right_is right_there)
      (λ x i. own x (origin_order_in part x i))
      (in_order_alike (is_before part) (is_before table) (λ x. IsIn x (ids_of part)) (part_order part table t p) list (origin_order_in part)
      (order_in_order part (part_is_table part table t p) (part_fits part table t p f)))

  pub scan_sorts : scanned ≡ origin_order (new ∷ part)
  scan_sorts = in_order_is_origin_order (new ∷ part) (part_is_table (new ∷ part) table t q) (part_fits (new ∷ part) table t q f) scanned
      (in_order_alike (is_before table) (is_before (new ∷ part)) (λ x. IsIn x (ids_of (new ∷ part)))
      (λ a b i j. sym (part_order (new ∷ part) table t q a b i j)) scanned scanned_in scanned_in_order)
      scanned_in in_scanned
