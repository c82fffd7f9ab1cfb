-- Growing in two steps, and what grew has the lefts, the rights and the smaller clocks of its rows.
use Rattle.std.proofs.Common.{◌≡◌, List, [], ◌∷◌, ◌++◌, ◌⊎◌, inl, inr, Option, refl, sym, ap, ◌∙◌, subst}
use Rattle.std.specs.Prelude.{IfSome}
use Rattle.yd_words.specs.Member.{IsIn, AreDistinct}
use Rattle.yd_words.proofs.MemberLemmas.{in_left_part, in_right_part, in_parts}
use Rattle.yd_words.proofs.OptionLemmas.{if_some_map}
use Rattle.yd_ids.specs.declared.id.Id.{Id}
use Rattle.yd_ids.specs.Ids.{HasSmallerClock}
use Rattle.yd_origins.specs.Table.{OriginTable, ids_of, left_of, right_of}
use Rattle.yd_origins.specs.Scan.{scan_place, after_scan, after_scans}
use Rattle.yd_origins.specs.Growing.{IsArrangement, GrowsByScan, IsClosed}
use Rattle.yd_origins.proofs.GrowingLemmas.{in_scan, scan_has}
use Rattle.yd_origins.proofs.PlacementLemmas.{scan_moves_none}
use Rattle.yd_meaning.proofs.AlikeLemmas.{IsSameAt, scans_alike}

-- ---- scans in turn

distinct_in_middle : (xs ys : List Id) (n : Id) → AreDistinct (xs ++ ys) → (IsIn n (xs ++ ys) → ⊥) → AreDistinct (xs ++ n ∷ ys)
distinct_in_middle [] ys n d new = (new, d)
distinct_in_middle (x ∷ xs) ys n d new = (
  (λ i. elim (in_parts x xs (n ∷ ys) i) [
    | inl j ↦ d.0 (in_left_part x xs ys j)
    | inr (inl e) ↦ new (inl (sym e))
    | inr (inr j) ↦ d.0 (in_right_part x xs ys j)
  ]),
  distinct_in_middle xs ys n d.1 (λ i. new (inr i)),
)

module _ (left right : Id → Option Id) where
  pub scan_distinct : (list : List Id) (n : Id) → AreDistinct list → (IsIn n list → ⊥) → AreDistinct (after_scan left right list n)
  scan_distinct list n d new =
      let place = scan_place left right list n in
      let same : place.0 ++ place.1 ≡ list = scan_moves_none left right list n in
      distinct_in_middle place.0 place.1 n (subst AreDistinct (sym same) d) (λ i. new (subst (IsIn n) same i))

  pub in_scans : (news list : List Id) (x : Id) → IsIn x news ⊎ IsIn x list → IsIn x (after_scans left right list news)
  in_scans [] list x (inl i) = absurd i
  in_scans [] list x (inr i) = i
  in_scans (n ∷ ns) list x (inl (inl e)) = in_scans ns (after_scan left right list n) x (inr (in_scan left right list n x (inl e)))
  in_scans (n ∷ ns) list x (inl (inr i)) = in_scans ns (after_scan left right list n) x (inl i)
  in_scans (n ∷ ns) list x (inr i) = in_scans ns (after_scan left right list n) x (inr (in_scan left right list n x (inr i)))

  pub scans_have : (news list : List Id) (x : Id) → IsIn x (after_scans left right list news) → IsIn x news ⊎ IsIn x list
  scans_have [] list x i = inr i
  scans_have (n ∷ ns) list x i = elim (scans_have ns (after_scan left right list n) x i) [
    | inl j ↦ inl (inr j)
    | inr j ↦ elim (scan_has left right list n x j) [ inl e ↦ inl (inl e) | inr k ↦ inr k ]
  ]

  scans-append : (news more list : List Id) → after_scans left right list (news ++ more) ≡ after_scans left right (after_scans left right list news) more
  scans-append [] more list = refl
  scans-append (n ∷ ns) more list = scans-append ns more (after_scan left right list n)

module _ (table : OriginTable) where
  abbrev left : Id → Option Id
  left = left_of table

  abbrev right : Id → Option Id
  right = right_of table

  -- ---- arrangements

  -- an arrangement speaks of the members alone
  arrangement_same : (l m news : List Id) → ((z : Id) → IsIn z l → IsIn z m) → ((z : Id) → IsIn z m → IsIn z l) → IsArrangement table l news →
      IsArrangement table m news
  arrangement_same l m [] to from a = tt
  arrangement_same l m (n ∷ ns) to from a = (
    (λ i. a.0 (from n i)),
    a.1,
    if_some_map (λ y. IsIn y l) (λ y. IsIn y m) (left n) to a.2,
    if_some_map (λ y. IsIn y l) (λ y. IsIn y m) (right n) to a.3,
    (λ y q c. to y (a.4 y q c)),
    arrangement_same (n ∷ l) (n ∷ m) ns (λ z i. elim i [ inl e ↦ inl e | inr j ↦ inr (to z j) ]) (λ z i. elim i [ inl e ↦ inl e | inr j ↦ inr (from z j) ]) a.5,
  )

  arrangement_on : (news l m more : List Id) → ((z : Id) → IsIn z m → IsIn z news ⊎ IsIn z l) → ((z : Id) → IsIn z news ⊎ IsIn z l → IsIn z m) →
      IsArrangement table l news → IsArrangement table m more → IsArrangement table l (news ++ more)
  arrangement_on [] l m more from to a b = arrangement_same m l more (λ z i. elim (from z i) [ inl j ↦ absurd j | inr j ↦ j ]) (λ z i. to z (inr i)) b
  arrangement_on (n ∷ ns) l m more from to a b = (
    a.0,
    a.1,
    a.2,
    a.3,
    a.4,
    arrangement_on ns (n ∷ l) m more
        (λ z i. elim (from z i) [ inl (inl e) ↦ inr (inl e) | inl (inr j) ↦ inl j | inr j ↦ inr (inr j) ])
        (λ z i. to z (elim i [ inl j ↦ inl (inr j) | inr (inl e) ↦ inl (inl e) | inr (inr j) ↦ inr j ])) a.5 b,
  )

  pub news_are_rows : (news l : List Id) → IsArrangement table l news → (x : Id) → IsIn x news → IsIn x (ids_of table)
  news_are_rows [] l a x i = absurd i
  news_are_rows (n ∷ ns) l a x (inl e) = subst (λ y. IsIn y (ids_of table)) (sym e) a.1
  news_are_rows (n ∷ ns) l a x (inr i) = news_are_rows ns (n ∷ l) a.5 x i

  -- ---- what is closed

  closed_more : (l : List Id) (n : Id) → IsClosed table l → IsIn n (ids_of table) → IfSome (left n) (λ y. IsIn y l) → IfSome (right n) (λ y. IsIn y l) →
      ((y : Id) → IsIn y (ids_of table) → HasSmallerClock y n → IsIn y l) → IsClosed table (n ∷ l)
  closed_more l n closed p n_left n_right n_clocks = record {
    within = λ x i. elim i [ inl e ↦ subst (λ v. IsIn v (ids_of table)) (sym e) p | inr j ↦ closed.within x j ];
    has_left = λ x i. if_some_map (λ y. IsIn y l) (λ y. IsIn y (n ∷ l)) (left x) (λ y j. inr j)
        (elim i [ inl e ↦ subst (λ v. IfSome (left v) (λ y. IsIn y l)) (sym e) n_left | inr j ↦ closed.has_left x j ]);
    has_right = λ x i. if_some_map (λ y. IsIn y l) (λ y. IsIn y (n ∷ l)) (right x) (λ y j. inr j)
        (elim i [ inl e ↦ subst (λ v. IfSome (right v) (λ y. IsIn y l)) (sym e) n_right | inr j ↦ closed.has_right x j ]);
    has_clocks = λ x y i q c. inr (elim i [
      | inl e ↦ n_clocks y q (subst (λ v. HasSmallerClock y v) e c)
      | inr j ↦ closed.has_clocks x y j q c
    ]);
  }

  pub closed_same : (l m : List Id) → ((z : Id) → IsIn z l → IsIn z m) → ((z : Id) → IsIn z m → IsIn z l) → IsClosed table l → IsClosed table m
  closed_same l m to from closed = record {
    within = λ x i. closed.within x (from x i);
    has_left = λ x i. if_some_map (λ y. IsIn y l) (λ y. IsIn y m) (left x) to (closed.has_left x (from x i));
    has_right = λ x i. if_some_map (λ y. IsIn y l) (λ y. IsIn y m) (right x) to (closed.has_right x (from x i));
    has_clocks = λ x y i q c. to y (closed.has_clocks x y (from x i) q c);
  }

  pub closed_scans : (news l : List Id) → IsClosed table l → IsArrangement table l news → IsClosed table (after_scans left right l news)
  closed_scans [] l closed a = closed
  closed_scans (n ∷ ns) l closed a =
      let to : (z : Id) → IsIn z (n ∷ l) → IsIn z (after_scan left right l n) = in_scan left right l n in
      let from : (z : Id) → IsIn z (after_scan left right l n) → IsIn z (n ∷ l) = scan_has left right l n in
      closed_scans ns (after_scan left right l n) (closed_same (n ∷ l) (after_scan left right l n) to from (closed_more l n closed a.1 a.2 a.3 a.4))
      (arrangement_same (n ∷ l) (after_scan left right l n) ns to from a.5)

  pub nothing_closed : IsClosed table []
  nothing_closed = record { within = λ x i. absurd i; has_left = λ x i. absurd i; has_right = λ x i. absurd i; has_clocks = λ x y i q c. absurd i }

  -- ---- lemmas for callers

  -- what grew and then grew further has grown by the scans of both
  pub grows_on : (old mid new : List Id) → GrowsByScan table old mid → GrowsByScan table mid new → GrowsByScan table old new
  grows_on old mid new a b = record {
    news = a.news ++ b.news;
    arranged = arrangement_on a.news old mid b.news
        (λ z i. scans_have left right a.news old z (subst (λ l. IsIn z l) (sym a.grown) i))
        (λ z i. subst (λ l. IsIn z l) a.grown (in_scans left right a.news old z i)) a.arranged b.arranged;
    grown = scans-append left right a.news b.news old ∙ ap (λ l. after_scans left right l b.news) a.grown ∙ b.grown;
  }

  -- what grew stays closed
  pub grown_closed : (old new : List Id) → IsClosed table old → GrowsByScan table old new → IsClosed table new
  grown_closed old new closed grows = subst (IsClosed table) grows.grown (closed_scans grows.news old closed grows.arranged)

  pub grown_from_nothing : (ids : List Id) → GrowsByScan table [] ids → IsClosed table ids
  grown_from_nothing ids grows = grown_closed [] ids nothing_closed grows

  scans_distinct : (news l : List Id) → AreDistinct l → IsArrangement table l news → AreDistinct (after_scans left right l news)
  scans_distinct [] l d a = d
  scans_distinct (n ∷ ns) l d a = scans_distinct ns (after_scan left right l n) (scan_distinct left right l n d a.0)
      (arrangement_same (n ∷ l) (after_scan left right l n) ns (in_scan left right l n) (scan_has left right l n) a.5)

  -- and has no row twice
  pub grown_distinct : (ids : List Id) → GrowsByScan table [] ids → AreDistinct ids
  grown_distinct ids grows = subst AreDistinct grows.grown (scans_distinct grows.news [] tt grows.arranged)

-- ---- a table with rows more

-- the first rows of another table: with the same lefts and rights, and with all smaller clocks
pub record IsFrontOf (part table : OriginTable) : Type 0 where
  pub within : (x : Id) → IsIn x (ids_of part) → IsIn x (ids_of table)
  pub same : (x : Id) → IsIn x (ids_of part) → IsSameAt (left_of table) (right_of table) (left_of part) (right_of part) x
  pub clocks : (x y : Id) → IsIn x (ids_of part) → IsIn y (ids_of table) → HasSmallerClock y x → IsIn y (ids_of part)

module _ (part table : OriginTable) (front : IsFrontOf part table) where
  arranged_within : (news l : List Id) → IsArrangement part l news → IsArrangement table l news
  arranged_within [] l a = tt
  arranged_within (n ∷ ns) l a = (
    a.0,
    front.within n a.1,
    subst (λ z. IfSome z (λ y. IsIn y l)) (sym (front.same n a.1).0) a.2,
    subst (λ z. IfSome z (λ y. IsIn y l)) (sym (front.same n a.1).1) a.3,
    (λ y i c. a.4 y (front.clocks n y a.1 i c) c),
    arranged_within ns (n ∷ l) a.5,
  )

  -- what grew in the part has grown so in the whole
  pub grown_within : (ids : List Id) → GrowsByScan part [] ids → GrowsByScan table [] ids
  grown_within ids grows = record {
    news = grows.news;
    arranged = arranged_within grows.news [] grows.arranged;
    grown = scans_alike (left_of table) (right_of table) (left_of part) (right_of part) grows.news []
        (λ x i. front.same x (news_are_rows part grows.news [] grows.arranged x i)) (λ x i. absurd i) ∙ grows.grown;
  }
