-- The rows of a table in another arrangement.
use Rattle.std.proofs.Common.{◌≡◌, ℕ, zero, suc, ◌<◌, false, List, [], ◌∷◌, map, length, get_or, Option, inl, inr, refl, sym, ap, ◌∙◌, subst, arith}
use Rattle.std.specs.Prelude.{IfSome}
use Rattle.std.specs.List.{IsDistinct, AllByRecursion, Contains}
use Rattle.std.specs.List.Sorted.{IsPermutation}
use Rattle.std.proofs.lemmas.List.Sorted.{IsPermutation-map, IsPermutation-sym, Contains-permutation}
use Rattle.std.proofs.lemmas.Map.Keys.{IsDistinct-IsPermutation}
use Rattle.yd_words.specs.Member.{IsIn, AreDistinct}
use Rattle.yd_words.proofs.OptionLemmas.{if_some_map}
use Rattle.yd_ids.specs.declared.id.Id.{Id}
use Rattle.yd_ids.specs.Ids.{is_same}
use Rattle.yd_ids.proofs.IdLemmas.{same_flip, other_id, differs}
use Rattle.yd_origins.specs.Table.{Row, OriginTable, ids_of, left_of, right_of, IsTable}
use Rattle.yd_origins.proofs.PartLemmas.{found_left, found_right, row_id_in, row_of_id}

-- ---- distinct ids

others_apart : (x : Id) (ys : List Id) → (IsIn x ys → ⊥) → AllByRecursion (λ y. is_same x y ≡ false) ys
others_apart x [] n = tt
others_apart x (y ∷ ys) n = (other_id x y (λ e. n (inl e)), others_apart x ys (λ i. n (inr i)))

apart_others : (x : Id) (ys : List Id) → AllByRecursion (λ y. is_same x y ≡ false) ys → IsIn x ys → ⊥
apart_others x [] a i = i
apart_others x (y ∷ ys) a (inl e) = differs x y a.0 e
apart_others x (y ∷ ys) a (inr i) = apart_others x ys a.1 i

to_tests : (xs : List Id) → AreDistinct xs → IsDistinct is_same xs
unfolding IsDistinct
to_tests [] d = tt
to_tests (x ∷ xs) d = (others_apart x xs d.0, to_tests xs d.1)

from_tests : (xs : List Id) → IsDistinct is_same xs → AreDistinct xs
unfolding IsDistinct
from_tests [] d = tt
from_tests (x ∷ xs) d = (apart_others x xs d.0, from_tests xs d.1)

-- ids in another arrangement stay distinct
pub distinct_permuted : (xs ys : List Id) → IsPermutation xs ys → AreDistinct xs → AreDistinct ys
distinct_permuted xs ys p d = from_tests ys (IsDistinct-IsPermutation is_same same_flip xs ys p (to_tests xs d))

id_contained : (x : Id) (xs : List Id) → IsIn x xs → Contains xs x
id_contained x [] i = absurd i
id_contained x (y ∷ ys) (inl e) = (0, omega arith, sym e)
id_contained x (y ∷ ys) (inr i) = let (k, lt, e) = id_contained x ys i in (suc k, omega arith, e)

contained_id : (x : Id) (xs : List Id) → (k : ℕ) → k < length xs → get_or xs k x ≡ x → IsIn x xs
contained_id x [] k lt e = absurd (omega arith)
contained_id x (y ∷ ys) zero lt e = inl (sym e)
contained_id x (y ∷ ys) (suc k) lt e = inr (contained_id x ys k (omega arith) e)

-- and have the same members
pub member_permuted : (xs ys : List Id) → IsPermutation xs ys → (x : Id) → IsIn x xs → IsIn x ys
member_permuted xs ys p x i = let (k, lt, e) = Contains-permutation xs ys x p (id_contained x xs i) in contained_id x ys k lt e

ids_are : (table : OriginTable) → ids_of table ≡ map (λ (row : Row). row.id) table
ids_are [] = refl
ids_are (row ∷ rows) = ap (λ xs. row.id ∷ xs) (ids_are rows)

pub permuted_distinct : (table other : OriginTable) → IsPermutation table other → AreDistinct (ids_of table) → AreDistinct (ids_of other)
permuted_distinct table other p d = subst AreDistinct (sym (ids_are other))
    (distinct_permuted (map (λ (row : Row). row.id) table) (map (λ (row : Row). row.id) other) (IsPermutation-map (λ (row : Row). row.id) table other p)
    (subst AreDistinct (ids_are table) d))

-- ---- rows

row_contained : (row : Row) (rows : OriginTable) → IsIn row rows → Contains rows row
row_contained row [] i = absurd i
row_contained row (r ∷ rs) (inl e) = (0, omega arith, sym e)
row_contained row (r ∷ rs) (inr i) = let (k, lt, e) = row_contained row rs i in (suc k, omega arith, e)

contained_row : (row : Row) (rows : OriginTable) → (k : ℕ) → k < length rows → get_or rows k row ≡ row → IsIn row rows
contained_row row [] k lt e = absurd (omega arith)
contained_row row (r ∷ rs) zero lt e = inl (sym e)
contained_row row (r ∷ rs) (suc k) lt e = inr (contained_row row rs k (omega arith) e)

pub permuted_row : (table other : OriginTable) → IsPermutation table other → (row : Row) → IsIn row table → IsIn row other
permuted_row table other p row i = let (k, lt, e) = Contains-permutation table other row p (row_contained row table i) in contained_row row other k lt e

-- ---- tables

module _ (table other : OriginTable) (moved : IsPermutation table other) where
  abbrev back : IsPermutation other table
  back = IsPermutation-sym table other moved

  -- the ids of one are the ids of the other
  pub ids_back : (x : Id) → IsIn x (ids_of other) → IsIn x (ids_of table)
  ids_back x i = let (row, j, e) = row_of_id other x i in subst (λ (y : Id). IsIn y (ids_of table)) e (row_id_in row table (permuted_row other table back row j))

  pub ids_there : (x : Id) → IsIn x (ids_of table) → IsIn x (ids_of other)
  ids_there x i = let (row, j, e) = row_of_id table x i in subst (λ (y : Id). IsIn y (ids_of other)) e (row_id_in row other (permuted_row table other moved row j))

module _ (table other : OriginTable) (d : AreDistinct (ids_of table)) (moved : IsPermutation table other) where
  lefts_same : (x : Id) → IsIn x (ids_of other) → left_of other x ≡ left_of table x
  lefts_same x i = let (row, j, e) = row_of_id other x i in
      subst (λ (y : Id). left_of other y ≡ left_of table y) e
      (found_left row other (permuted_distinct table other moved d) j ∙ sym (found_left row table d (permuted_row other table (back table other moved) row j)))

  -- a row has its right in both
  pub rights_same : (x : Id) → IsIn x (ids_of other) → right_of other x ≡ right_of table x
  rights_same x i = let (row, j, e) = row_of_id other x i in
      subst (λ (y : Id). right_of other y ≡ right_of table y) e
      (found_right row other (permuted_distinct table other moved d) j ∙ sym (found_right row table d (permuted_row other table (back table other moved) row j)))

module _ (table other : OriginTable) (t : IsTable table) (moved : IsPermutation table other) where
  neighbours_there : (z w : Option Id) → w ≡ z → IfSome z (λ y. IsIn y (ids_of table)) → IfSome w (λ y. IsIn y (ids_of other))
  neighbours_there z w e there = subst (λ (v : Option Id). IfSome v (λ y. IsIn y (ids_of other))) (sym e)
      (if_some_map (λ y. IsIn y (ids_of table)) (λ y. IsIn y (ids_of other)) z (ids_there table other moved) there)

  -- a table in another arrangement is one
  pub permuted_table : IsTable other
  permuted_table = record {
    distinct = permuted_distinct table other moved t.distinct;
    has_left = λ x i. neighbours_there (left_of table x) (left_of other x) (lefts_same table other t.distinct moved x i) (t.has_left x (ids_back table other moved x i));
    has_right = λ x i. neighbours_there (right_of table x) (right_of other x) (rights_same table other t.distinct moved x i) (t.has_right x (ids_back table other moved x i));
    ends = record {
      height = t.ends.height;
      falls_left = λ x i. subst (λ (z : Option Id). IfSome z (λ y. t.ends.height y < t.ends.height x)) (sym (lefts_same table other t.distinct moved x i))
          (t.ends.falls_left x (ids_back table other moved x i));
      falls_right = λ x i. subst (λ (z : Option Id). IfSome z (λ y. t.ends.height y < t.ends.height x)) (sym (rights_same table other t.distinct moved x i))
          (t.ends.falls_right x (ids_back table other moved x i));
    };
  }
