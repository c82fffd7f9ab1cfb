-- Comparisons of ids: by a strict order, by pairs, and of rows in another arrangement.
use Rattle.std.proofs.Common.{◌≡◌, ◌*◌, ℕ, zero, suc, ◌<◌, Bool, true, false, List, [], ◌∷◌, map, length, Some, nat_lt, inl, inr, refl, sym, ap, ◌∙◌, subst, arith}
use Rattle.std.specs.Prelude.{slice_get, slice_index}
use Rattle.std.specs.List.Sorted.{IsPermutation}
use Rattle.std.proofs.lemmas.List.Sorted.{IsPermutation-sym}
use Rattle.yd_words.specs.Member.{IsIn}
use Rattle.yd_words.proofs.OptionLemmas.{some_is}
use Rattle.yd_ids.specs.declared.id.Id.{Id}
use Rattle.yd_origins.specs.Before.{is_before}
use Rattle.yd_origins.specs.Sorted.{origin_order}
use Rattle.yd_origins.specs.Table.{OriginTable, ids_of, IsTable, IsPart}
use Rattle.yd_origins.proofs.PartLemmas.{part_order}
use Rattle.yd_origins.proofs.SortedLemmas.{in_origin_order, origin_order_in}
use Rattle.yd_order.specs.Comparing.{Compares}
use Rattle.yd_order.specs.Filling.{cell_at, is_before_at, AreFilled}
use Rattle.yd_order.specs.Linking.{id_at, unlinked, table_of_linked, AreLinked}
use Rattle.yd_order.specs.Seating.{StandIn}
use Rattle.yd_order.specs.Stretch.{among_rows}
use Rattle.yd_order.specs.declared.linking.LinkedRow.{LinkedRow}
use Rattle.yd_order.proofs.AmongLemmas.{among_moved, among_table}
use Rattle.yd_order.proofs.LinkingLemmas.{distinct_rows}
use Rattle.yd_order.proofs.PermutedLemmas.{permuted_row, ids_back, ids_there}
use Rattle.yd_order.proofs.SeatedLemmas.{seated_is_order, seated_before}

-- ---- by a strict order

mapped_at : (f : ℕ → Id) (xs : List ℕ) (n : ℕ) (x : Id) → slice_get (map f xs) n ≡ Some x → (n < length xs) × (f (slice_index xs n) ≡ x)
mapped_at f [] n x e = absurd cc
mapped_at f (y ∷ ys) zero x e = (omega arith, some_is (f y) x e)
mapped_at f (y ∷ ys) (suc n) x e = let (lt, is) = mapped_at f ys n x e in (omega (arith, lt), is)

pub compares_strict : (rows : List LinkedRow) → IsTable (table_of_linked rows) → AreLinked rows → (order : List ℕ) → StandIn rows order → (ids : List Id) →
    ids ≡ origin_order (table_of_linked rows) → (cells : List Bool) → Compares (table_of_linked rows) ids true cells
compares_strict rows t linked order stand ids e cells = record {
  size = tt;
  members = λ x. ((λ i. origin_order_in (table_of_linked rows) x (subst (λ xs. IsIn x xs) e i)), (λ i. subst (λ xs. IsIn x xs) (sym e) (in_origin_order (table_of_linked rows) x i)));
  before = λ a b x y f g. before a b x y (subst (λ xs. slice_get xs a ≡ Some x) mapped f) (subst (λ xs. slice_get xs b ≡ Some y) mapped g);
}
  where
    mapped : ids ≡ map (id_at rows) order
    mapped = e ∙ sym (seated_is_order rows t linked order stand.seats stand.seated stand.stand)

    before : (a b : ℕ) (x y : Id) → slice_get (map (id_at rows) order) a ≡ Some x → slice_get (map (id_at rows) order) b ≡ Some y →
        is_before (table_of_linked rows) x y ≡ nat_lt a b
    before a b x y f g =
        let (p, is) = mapped_at (id_at rows) order a x f in
        let (q, other) = mapped_at (id_at rows) order b y g in
        subst (λ (z : Id). is_before (table_of_linked rows) z y ≡ nat_lt a b) is
        (subst (λ (z : Id). is_before (table_of_linked rows) (id_at rows (slice_index order a)) z ≡ nat_lt a b) other
        (seated_before rows t linked order stand.seats stand.seated stand.stand a b p q))

-- ---- by pairs

row_at : (rows : List LinkedRow) (n : ℕ) (x : Id) → slice_get (map (λ (row : LinkedRow). row.id) rows) n ≡ Some x → (n < length rows) × (id_at rows n ≡ x)
row_at [] n x e = absurd cc
row_at (row ∷ rows) zero x e = (omega arith, some_is row.id x e)
row_at (row ∷ rows) (suc n) x e = let (lt, is) = row_at rows n x e in (omega (arith, lt), is)

ids_are : (all rows : List LinkedRow) → map (λ (row : LinkedRow). row.id) rows ≡ ids_of (map (unlinked all) rows)
ids_are all [] = refl
ids_are all (row ∷ rows) = ap (λ (xs : List Id). row.id ∷ xs) (ids_are all rows)

length-ids : (rows : List LinkedRow) → length (map (λ (row : LinkedRow). row.id) rows) ≡ length rows
length-ids [] = refl
length-ids (row ∷ rows) = ap suc (length-ids rows)

pub compares_pairs : (rows : List LinkedRow) (ids : List Id) (cells : List Bool) → ids ≡ map (λ (row : LinkedRow). row.id) rows →
    length cells ≡ length rows * length rows → AreFilled rows cells → Compares (table_of_linked rows) ids false cells
unfolding is_before_at
compares_pairs rows ids cells e size filled = record {
  size = subst (λ n. length cells ≡ n * n) (sym many) size;
  members = λ x. ((λ i. subst (λ xs. IsIn x xs) same i), (λ i. subst (λ xs. IsIn x xs) (sym same) i));
  before = λ a b x y f g. before a b x y (subst (λ xs. slice_get xs a ≡ Some x) e f) (subst (λ xs. slice_get xs b ≡ Some y) e g);
}
  where
    many : length ids ≡ length rows
    many = ap length e ∙ length-ids rows

    same : ids ≡ ids_of (table_of_linked rows)
    same = e ∙ ids_are rows rows

    before : (a b : ℕ) (x y : Id) → slice_get (map (λ (row : LinkedRow). row.id) rows) a ≡ Some x → slice_get (map (λ (row : LinkedRow). row.id) rows) b ≡ Some y →
        is_before (table_of_linked rows) x y ≡ cell_at cells (length ids) a b
    before a b x y f g =
        let (p, is) = row_at rows a x f in
        let (q, other) = row_at rows b y g in
        subst (λ (z : Id). is_before (table_of_linked rows) z y ≡ cell_at cells (length ids) a b) is
        (subst (λ (z : Id). is_before (table_of_linked rows) (id_at rows a) z ≡ cell_at cells (length ids) a b) other
        (subst (λ n. is_before (table_of_linked rows) (id_at rows a) (id_at rows b) ≡ cell_at cells n a b) (sym many) (sym (filled a b p q))))

-- ---- rows in another arrangement

pub compares_moved : (table other : OriginTable) → IsTable (among_rows table) → IsPermutation table other → (ids : List Id) (is_strict : Bool) (cells : List Bool) →
    Compares (among_rows other) ids is_strict cells → Compares (among_rows table) ids is_strict cells
compares_moved table other t moved ids is_strict cells are = record {
  size = are.size;
  members = λ x. ((λ i. back x ((are.members x).0 i)), (λ i. (are.members x).1 (there x i)));
  before = λ a b x y f g. sym (part_order (among_rows other) (among_rows table) t part x y ((are.members x).0 (at ids a x f)) ((are.members y).0 (at ids b y g))) ∙ are.before a b x y f g;
}
  where
    rows : IsPermutation (among_rows table) (among_rows other)
    rows = among_moved table other (distinct_rows table t) moved

    back : (x : Id) → IsIn x (ids_of (among_rows other)) → IsIn x (ids_of (among_rows table))
    back = ids_back (among_rows table) (among_rows other) rows

    there : (x : Id) → IsIn x (ids_of (among_rows table)) → IsIn x (ids_of (among_rows other))
    there = ids_there (among_rows table) (among_rows other) rows

    is_table : IsTable (among_rows other)
    is_table = among_table table other t moved

    at : (xs : List Id) (n : ℕ) (x : Id) → slice_get xs n ≡ Some x → IsIn x xs
    at [] n x e = absurd cc
    at (y ∷ ys) zero x e = inl (sym (some_is y x e))
    at (y ∷ ys) (suc n) x e = inr (at ys n x e)

    part : IsPart (among_rows other) (among_rows table)
    part = record {
      within = λ row i. permuted_row (among_rows other) (among_rows table) (IsPermutation-sym (among_rows table) (among_rows other) rows) row i;
      distinct = is_table.distinct;
      has_left = is_table.has_left;
      has_right = is_table.has_right;
    }
