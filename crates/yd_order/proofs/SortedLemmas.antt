-- Ids that are sorted by how many rows are before each, ties by id, are the origin order.
use Rattle.std.proofs.Common.{◌≡◌, ◌≢◌, ℕ, zero, suc, ◌<◌, ◌↔◌, Bool, true, false, ◌||◌, ◌&&◌, cond, List, [], ◌∷◌, map, length, get_or, nat_lt, nat_eq, is_lt, inl, inr, refl, sym, ap, ap₂, ◌∙◌, subst, true≢false, add-one, arith, tests}
use Rattle.std.specs.Prelude.{if◌then◌else◌}
use Rattle.std.specs.List.{All}
use Rattle.std.specs.List.Sorted.{IsPermutation, IsSorted}
use Rattle.std.specs.Ordering.{nat_cmp, ordering_then}
use Rattle.std.specs.declared.cmp.Ordering.{Ordering}
use Rattle.std.specs.declared.cmp.Ordering.TheVariants.{Less, Equal, Greater}
use Rattle.std.proofs.lemmas.List.{length-map}
use Rattle.std.proofs.lemmas.List.Sorted.{IsPermutation-map, IsPermutation-sym, All-permutation}
use Rattle.yd_words.specs.Member.{IsIn, AreDistinct}
use Rattle.yd_ids.specs.declared.id.Id.{Id}
use Rattle.yd_ids.specs.Ids.{is_same, is_smaller}
use Rattle.yd_ids.proofs.IdLemmas.{other_id}
use Rattle.yd_origins.specs.Table.{OriginTable, ids_of, IsTable}
use Rattle.yd_origins.specs.Before.{IsInOrder}
use Rattle.yd_origins.specs.Sorted.{goes_first, with_id, sorted, origin_order}
use Rattle.yd_origins.proofs.SortedLemmas.{with_id_has, sorted_has, in_origin_order, origin_order_in}
use Rattle.yd_order.specs.declared.counting.Rank.{Rank}
use Rattle.yd_order.specs.declared.linking.LinkedRow.{LinkedRow}
use Rattle.yd_order.specs.Linking.{table_of_linked}
use Rattle.yd_order.specs.Counting.{count_in, rank_in, ranks_of, id_of_rank}
use Rattle.yd_order.proofs.AscendingLemmas.{id_cmp, not_smaller}
use Rattle.yd_order.proofs.PermutedLemmas.{distinct_permuted, member_permuted}

-- ---- lists in order, by a test of which goes first

-- of two ids one goes first and the other does not, and what goes before one goes before all behind it
pub record IsLine (first : Id → Id → Bool) : Type 0 where
  pub one_way : (a b : Id) → first a b ≡ true → first b a ≡ true → ⊥
  pub other_way : (a b : Id) → a ≢ b → first a b ≡ false → first b a ≡ true
  pub through : (a b c : Id) → first a b ≡ true → first b c ≡ true → first a c ≡ true

module _ (first : Id → Id → Bool) (line : IsLine first) where
  with_in_order : (x : Id) (ys : List Id) → (IsIn x ys → ⊥) → IsInOrder first ys → IsInOrder first (with_id first x ys)
  with_in_order x [] n o = ((λ y i. absurd i), tt)
  with_in_order x (y ∷ ys) n o = go (first x y) refl (with_in_order x ys (λ i. n (inr i)) o.1)
    where
      go : (t : Bool) → first x y ≡ t → IsInOrder first (with_id first x ys) → IsInOrder first (if t then x ∷ y ∷ ys else y ∷ with_id first x ys)
      go true e rest = (
        (λ z i. elim i [
          | inl f ↦ ((λ same. n (inl (same ∙ f))), subst (λ (w : Id). first x w ≡ true) (sym f) e)
          | inr j ↦ ((λ same. n (inr (subst (λ (w : Id). IsIn w ys) (sym same) j))), line.through x y z e (o.0 z j).1)
        ]),
        o,
      )
      go false e rest = (
        (λ z i. elim (with_id_has first x ys z i) [
          | inl f ↦ ((λ same. n (inl (sym (same ∙ f)))), subst (λ (w : Id). first y w ≡ true) (sym f) (line.other_way x y (λ same. n (inl same)) e))
          | inr j ↦ o.0 z j
        ]),
        rest,
      )

  -- sorted ids are in order
  pub sorted_in_order : (xs : List Id) → AreDistinct xs → IsInOrder first (sorted first xs)
  sorted_in_order [] d = tt
  sorted_in_order (x ∷ xs) d = with_in_order x (sorted first xs) (λ i. d.0 (sorted_has first xs x i)) (sorted_in_order xs d.1)

  -- a list in order is told by its members
  pub order_unique : (xs ys : List Id) → IsInOrder first xs → IsInOrder first ys → ((z : Id) → IsIn z xs → IsIn z ys) → ((z : Id) → IsIn z ys → IsIn z xs) → xs ≡ ys
  order_unique [] [] r s u v = refl
  order_unique [] (y ∷ ys) r s u v = absurd (v y (inl refl))
  order_unique (x ∷ xs) [] r s u v = absurd (u x (inl refl))
  order_unique (x ∷ xs) (y ∷ ys) r s u v = ap₂ (λ (a : Id) (b : List Id). a ∷ b) heads
      (order_unique xs ys r.1 s.1
      (λ z i. elim (u z (inr i)) [ inl e ↦ absurd ((r.0 z i).0 (heads ∙ sym e)) | inr j ↦ j ])
      (λ z i. elim (v z (inr i)) [ inl e ↦ absurd ((s.0 z i).0 (sym heads ∙ sym e)) | inr j ↦ j ]))
    where
      heads : x ≡ y
      heads = elim (u x (inl refl)) [
        | inl e ↦ e
        | inr i ↦ elim (v y (inl refl)) [
          | inl e ↦ sym e
          | inr j ↦ absurd (line.one_way x y (r.0 y j).1 (s.0 x i).1)
        ]
      ]

-- ---- by counts, ties by id

count_one_way : (m n : ℕ) (a b : Id) → (nat_lt m n || (nat_eq m n && is_smaller a b)) ≡ true → (nat_lt n m || (nat_eq n m && is_smaller b a)) ≡ true → ⊥
count_one_way m n a b e f = grind (arith, tests)

count_other_way : (m n : ℕ) (a b : Id) → is_same a b ≡ false → (nat_lt m n || (nat_eq m n && is_smaller a b)) ≡ false → (nat_lt n m || (nat_eq n m && is_smaller b a)) ≡ true
count_other_way m n a b ne e = grind (arith, tests)

count_through : (m n o : ℕ) (a b c : Id) → (nat_lt m n || (nat_eq m n && is_smaller a b)) ≡ true → (nat_lt n o || (nat_eq n o && is_smaller b c)) ≡ true →
    (nat_lt m o || (nat_eq m o && is_smaller a c)) ≡ true
count_through m n o a b c e f = grind (arith, tests)

pub counts_line : (table : OriginTable) → IsLine (goes_first table)
counts_line table = record {
  one_way = λ a b. count_one_way (count_in table a) (count_in table b) a b;
  other_way = λ a b ne. count_other_way (count_in table a) (count_in table b) a b (other_id a b ne);
  through = λ a b c. count_through (count_in table a) (count_in table b) (count_in table c) a b c;
}

-- a list of all rows in this order is the origin order
pub in_order_is_order : (table : OriginTable) → AreDistinct (ids_of table) → (xs : List Id) → IsInOrder (goes_first table) xs → ((x : Id) → IsIn x xs ↔ IsIn x (ids_of table)) →
    xs ≡ origin_order table
in_order_is_order table d xs o same = order_unique (goes_first table) (counts_line table) xs (origin_order table) o
    (sorted_in_order (goes_first table) (counts_line table) (ids_of table) d)
    (λ z i. in_origin_order table z ((same z).0 i))
    (λ z i. (same z).1 (origin_order_in table z i))

-- ---- from a sort

-- how ranks compare
abbrev pub rank_cmp : Rank → Rank → Ordering
rank_cmp p q = ordering_then (nat_cmp p.count q.count) (id_cmp p.id q.id)

not_first : (m n : ℕ) (a b : Id) → is_lt (ordering_then (nat_cmp m n) (id_cmp a b)) ≡ false → (nat_lt m n || (nat_eq m n && is_smaller a b)) ≡ false
not_first m n a b h = go (nat_lt m n) refl (nat_eq m n) refl h
  where
    go : (p : Bool) → nat_lt m n ≡ p → (q : Bool) → nat_eq m n ≡ q → is_lt (ordering_then (cond p Less (cond q Equal Greater)) (id_cmp a b)) ≡ false →
        (nat_lt m n || (nat_eq m n && is_smaller a b)) ≡ false
    go true x q y e = absurd (true≢false e)
    go false x true y e = rw (x, y) (not_smaller a b e)
    go false x false y e = rw (x, y) refl

-- ids whose ranks are sorted are in order
in_order_from : (table : OriginTable) (xs : List Id) → ((k : ℕ) (d : Rank) → suc k < length xs →
    is_lt (rank_cmp (get_or (map (rank_in table) xs) (suc k) d) (get_or (map (rank_in table) xs) k d)) ≡ false) → AreDistinct xs → IsInOrder (goes_first table) xs
in_order_from table [] h d = tt
in_order_from table (x ∷ []) h d = ((λ y i. absurd i), tt)
in_order_from table (x ∷ y ∷ xs) h d =
    let rest = in_order_from table (y ∷ xs) (λ k z lt. h (suc k) z (omega arith)) d.1 in (
      (λ z i. (
        (λ e. d.0 (subst (λ (w : Id). IsIn w (y ∷ xs)) (sym e) i)),
        elim i [
          | inl e ↦ subst (λ (w : Id). goes_first table x w ≡ true) (sym e) first
          | inr j ↦ (counts_line table).through x y z first (rest.0 z j).1
        ],
      )),
      rest,
    )
  where
    first : goes_first table x y ≡ true
    first = (counts_line table).other_way y x (λ e. d.0 (inl (sym e))) (not_first (count_in table y) (count_in table x) y x (h 0 (rank_in table x) (omega arith)))

ids_stay : (table : OriginTable) (xs : List Id) → map id_of_rank (map (rank_in table) xs) ≡ xs
ids_stay table [] = refl
ids_stay table (x ∷ xs) = ap (λ (ys : List Id). x ∷ ys) (ids_stay table xs)

all_ranks : (table : OriginTable) (xs : List Id) → All (λ (p : Rank). rank_in table p.id ≡ p) (map (rank_in table) xs)
all_ranks table [] k d lt = absurd (omega arith)
all_ranks table (x ∷ xs) zero d lt = refl
all_ranks table (x ∷ xs) (suc k) d lt = all_ranks table xs k d (omega arith)

ranks_stay : (table : OriginTable) (ps : List Rank) → All (λ (p : Rank). rank_in table p.id ≡ p) ps → map (rank_in table) (map id_of_rank ps) ≡ ps
ranks_stay table [] h = refl
ranks_stay table (p ∷ ps) h = ap₂ (λ (q : Rank) (qs : List Rank). q ∷ qs) (h 0 p (omega arith)) (ranks_stay table ps (λ k d lt. h (suc k) d (omega arith)))

module _ (table : OriginTable) (distinct : AreDistinct (ids_of table)) (ranks : List Rank) (moved : IsPermutation (map (rank_in table) (ids_of table)) ranks)
    (in_sort : IsSorted rank_cmp ranks) where
  ids_moved : IsPermutation (ids_of table) (map id_of_rank ranks)
  ids_moved = subst (λ (xs : List Id). IsPermutation xs (map id_of_rank ranks)) (ids_stay table (ids_of table))
      (IsPermutation-map id_of_rank (map (rank_in table) (ids_of table)) ranks moved)

  of_ids : map (rank_in table) (map id_of_rank ranks) ≡ ranks
  of_ids = ranks_stay table ranks (All-permutation (λ (p : Rank). rank_in table p.id ≡ p) (map (rank_in table) (ids_of table)) ranks moved (all_ranks table (ids_of table)))

  ids_in_order : IsInOrder (goes_first table) (map id_of_rank ranks)
  ids_in_order = in_order_from table (map id_of_rank ranks)
      (λ k d lt. subst (λ (ps : List Rank). is_lt (rank_cmp (get_or ps (suc k) d) (get_or ps k d)) ≡ false) (sym of_ids)
      (subst (λ (n : ℕ). is_lt (rank_cmp (get_or ranks n d) (get_or ranks k d)) ≡ false) (add-one k)
      (in_sort k d (omega arith) (omega (arith, length-map ranks id_of_rank)))))
      (distinct_permuted (ids_of table) (map id_of_rank ranks) ids_moved distinct)

  -- the ids of the sorted ranks are the origin order
  pub sorted_ranks : map id_of_rank ranks ≡ origin_order table
  sorted_ranks = in_order_is_order table distinct (map id_of_rank ranks) ids_in_order
      (λ x. (
        member_permuted (map id_of_rank ranks) (ids_of table) (IsPermutation-sym (ids_of table) (map id_of_rank ranks) ids_moved) x,
        member_permuted (ids_of table) (map id_of_rank ranks) ids_moved x,
      ))

-- the same of linked rows
pub sorted_rows : (rows : List LinkedRow) → IsTable (table_of_linked rows) → (before after : List Rank) → before ≡ ranks_of rows → IsPermutation before after →
    IsSorted rank_cmp after → map id_of_rank after ≡ origin_order (table_of_linked rows)
unfolding ranks_of
sorted_rows rows t before after e moved in_sort = sorted_ranks (table_of_linked rows) t.distinct after (subst (λ (ps : List Rank). IsPermutation ps after) e moved) in_sort
