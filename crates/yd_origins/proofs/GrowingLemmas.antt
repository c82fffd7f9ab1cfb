-- Scans in turn keep a closed list closed and in order, so they give the origin order in the end.
use Rattle.std.proofs.Common.{◌≡◌, ◌<◌, List, [], ◌∷◌, inl, inr, Option, sym, ap, subst, arith}
use Rattle.std.specs.Prelude.{IfSome}
use Rattle.yd_words.specs.Member.{IsIn}
use Rattle.yd_words.proofs.TestLemmas.{split}
use Rattle.yd_words.proofs.OptionLemmas.{if_some_map}
use Rattle.yd_words.proofs.MemberLemmas.{in_left_part, in_right_part, in_parts}
use Rattle.yd_ids.specs.declared.id.Id.{Id}
use Rattle.yd_ids.specs.Ids.{HasSmallerClock}
use Rattle.yd_ids.proofs.IdLemmas.{same_numbers}
use Rattle.yd_origins.specs.Table.{OriginTable, ids_of, left_of, right_of, IsTable}
use Rattle.yd_origins.specs.Before.{is_before, IsInOrder, Fits}
use Rattle.yd_origins.specs.Sorted.{sorted, origin_order}
use Rattle.yd_origins.specs.Scan.{scan_place, after_scan, after_scans}
use Rattle.yd_origins.specs.Growing.{IsArrangement, GrowsByScan, IsClosed}
use Rattle.yd_origins.proofs.SortedLemmas.{in_order_is_origin_order}
use Rattle.yd_origins.proofs.PlacementLemmas.{scan_moves_none, scan_law}

-- ---- the members after a scan

pub in_scan : (left right : Id → Option Id) (l : List Id) (o z : Id) → IsIn z (o ∷ l) → IsIn z (after_scan left right l o)
in_scan left right l o z (inl e) = in_right_part z (scan_place left right l o).0 (o ∷ (scan_place left right l o).1) (inl e)
in_scan left right l o z (inr i) = elim (in_parts z (scan_place left right l o).0 (scan_place left right l o).1
    (subst (λ zs. IsIn z zs) (sym (scan_moves_none left right l o)) i)) [
      | inl j ↦ in_left_part z (scan_place left right l o).0 (o ∷ (scan_place left right l o).1) j
      | inr j ↦ in_right_part z (scan_place left right l o).0 (o ∷ (scan_place left right l o).1) (inr j)
    ]

pub scan_has : (left right : Id → Option Id) (l : List Id) (o z : Id) → IsIn z (after_scan left right l o) → IsIn z (o ∷ l)
scan_has left right l o z i = elim (in_parts z (scan_place left right l o).0 (o ∷ (scan_place left right l o).1) i) [
  | inl j ↦ inr (subst (λ zs. IsIn z zs) (scan_moves_none left right l o) (in_left_part z (scan_place left right l o).0 (scan_place left right l o).1 j))
  | inr (inl e) ↦ inl e
  | inr (inr j) ↦ inr (subst (λ zs. IsIn z zs) (scan_moves_none left right l o) (in_right_part z (scan_place left right l o).0 (scan_place left right l o).1 j))
]

module _ (table : OriginTable) (t : IsTable table) (f : Fits table) where
  abbrev left : Id → Option Id
  left = left_of table

  abbrev right : Id → Option Id
  right = right_of table

  -- ---- one scan keeps a list closed

  -- in a closed list the clocks of a new row's client are smaller
  own_smaller : (l : List Id) (o : Id) → IsClosed table l → IsIn o (ids_of table) → (IsIn o l → ⊥) → (x : Id) → IsIn x l → x.client ≡ o.client →
      x.clock < o.clock
  own_smaller l o closed p new x i e = elim (split o.clock x.clock) [
    | inl le ↦ absurd (elim (split x.clock o.clock) [
      | inl ge ↦ new (subst (λ v. IsIn v l) (same_numbers x o (ap (λ c. c.0) e) (omega arith)) i)
      | inr lt ↦ new (closed.has_clocks x o i p (sym e, lt))
    ])
    | inr lt ↦ lt
  ]

  closed_more : (l : List Id) (o : Id) → IsClosed table l → IsIn o (ids_of table) → IfSome (left o) (λ y. IsIn y l) → IfSome (right o) (λ y. IsIn y l) →
      ((y : Id) → IsIn y (ids_of table) → HasSmallerClock y o → IsIn y l) → IsClosed table (after_scan left right l o)
  closed_more l o closed p o_left o_right o_clocks = record {
    within = λ x i. elim (scan_has left right l o x i) [ inl e ↦ subst (λ v. IsIn v (ids_of table)) (sym e) p | inr j ↦ closed.within x j ];
    has_left = λ x i. if_some_map (λ y. IsIn y l) (λ y. IsIn y (after_scan left right l o)) (left x) (λ y j. in_scan left right l o y (inr j))
        (elim (scan_has left right l o x i) [ inl e ↦ subst (λ v. IfSome (left v) (λ y. IsIn y l)) (sym e) o_left | inr j ↦ closed.has_left x j ]);
    has_right = λ x i. if_some_map (λ y. IsIn y l) (λ y. IsIn y (after_scan left right l o)) (right x) (λ y j. in_scan left right l o y (inr j))
        (elim (scan_has left right l o x i) [ inl e ↦ subst (λ v. IfSome (right v) (λ y. IsIn y l)) (sym e) o_right | inr j ↦ closed.has_right x j ]);
    has_clocks = λ x y i q c. in_scan left right l o y (inr (elim (scan_has left right l o x i) [
      | inl e ↦ o_clocks y q (subst (λ v. HasSmallerClock y v) e c)
      | inr j ↦ closed.has_clocks x y j q c
    ]));
  }

  -- an arrangement speaks of the members alone
  arrangement_same : (l m : List Id) (os : List Id) → ((z : Id) → IsIn z l → IsIn z m) → ((z : Id) → IsIn z m → IsIn z l) → IsArrangement table l os →
      IsArrangement table m os
  arrangement_same l m [] to from a = tt
  arrangement_same l m (o ∷ os) to from a = (
    (λ i. a.0 (from o i)),
    a.1,
    if_some_map (λ y. IsIn y l) (λ y. IsIn y m) (left o) to a.2,
    if_some_map (λ y. IsIn y l) (λ y. IsIn y m) (right o) to a.3,
    (λ y q c. to y (a.4 y q c)),
    arrangement_same (o ∷ l) (o ∷ m) os (λ z i. elim i [ inl e ↦ inl e | inr j ↦ inr (to z j) ]) (λ z i. elim i [ inl e ↦ inl e | inr j ↦ inr (from z j) ]) a.5,
  )

  -- ---- scans in turn

  pub scans_keep : (os l : List Id) → IsClosed table l → IsInOrder (is_before table) l → IsArrangement table l os →
      IsClosed table (after_scans left right l os) × IsInOrder (is_before table) (after_scans left right l os)
  scans_keep [] l closed sorted a = (closed, sorted)
  scans_keep (o ∷ os) l closed sorted a = scans_keep os (after_scan left right l o)
      (closed_more l o closed a.1 a.2 a.3 a.4)
      (scan_law table t f l o a.1 a.0 closed.within closed.has_left closed.has_right a.2 a.3 (own_smaller l o closed a.1 a.0) sorted)
      (arrangement_same (o ∷ l) (after_scan left right l o) os (in_scan left right l o) (scan_has left right l o) a.5)

  pub growth_keeps : (old new : List Id) → IsClosed table old → IsInOrder (is_before table) old → GrowsByScan table old new →
      IsClosed table new × IsInOrder (is_before table) new
  growth_keeps old new closed sorted grows = subst (λ l. IsClosed table l × IsInOrder (is_before table) l) grows.grown
      (scans_keep grows.news old closed sorted grows.arranged)

  pub growth_gives_order : (old new : List Id) → IsClosed table old → IsInOrder (is_before table) old → GrowsByScan table old new →
      ((x : Id) → IsIn x (ids_of table) → IsIn x new) → new ≡ origin_order table
  growth_gives_order old new closed sorted grows all = let (closed_new, sorted_new) = growth_keeps old new closed sorted grows in
      in_order_is_origin_order table t f new sorted_new closed_new.within all
