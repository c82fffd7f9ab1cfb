-- Rows in order of their ids, and the place of an id among them.
use Rattle.std.proofs.Common.{◌≡◌, ℕ, zero, suc, ◌<◌, ◌≤◌, Bool, true, false, cond, List, [], ◌∷◌, ◌⊎◌, length, get_or, Some, None, inl, inr, refl, sym, ap, ◌∙◌, subst, is_lt, nat_lt, nat_eq, true≢false, add-one, arith, tests}
use Rattle.std.specs.Prelude.{option_map}
use Rattle.std.specs.Ordering.{nat_cmp, ordering_then}
use Rattle.std.specs.declared.cmp.Ordering.{Ordering}
use Rattle.std.specs.declared.cmp.Ordering.TheVariants.{Less, Equal, Greater}
use Rattle.std.specs.List.Sorted.{IsSortedByKey, IsPartitionedBy, IsPartitionPoint}
use Rattle.std.proofs.lemmas.List.{get_or_default}
use Rattle.yd_words.specs.Member.{AreDistinct}
use Rattle.yd_words.proofs.EachLemmas.{each_weaker, each_at}
use Rattle.yd_ids.specs.declared.id.Id.{Id}
use Rattle.yd_ids.specs.Ids.{is_same, is_smaller}
use Rattle.yd_ids.proofs.IdLemmas.{other_id, same_is, smaller_total, smaller_through}
use Rattle.yd_origins.specs.Table.{ids_of}
use Rattle.yd_order.specs.declared.rows.OriginRow.{OriginRow}
use Rattle.yd_order.specs.Rows.{table_of, IsBelow, AreAscending, place_of}

-- ---- from a sort

-- how ids compare
abbrev pub id_cmp : Id → Id → Ordering
id_cmp a b = ordering_then (nat_cmp a.client.0 b.client.0) (nat_cmp a.clock b.clock)

-- an id is not smaller than one that does not compare as greater
pub not_smaller : (a b : Id) → is_lt (id_cmp a b) ≡ false → is_smaller a b ≡ false
not_smaller a b h = go (nat_lt a.client.0 b.client.0) refl (nat_eq a.client.0 b.client.0) refl (nat_lt a.clock b.clock) refl h
  where
    go : (p : Bool) → nat_lt a.client.0 b.client.0 ≡ p → (q : Bool) → nat_eq a.client.0 b.client.0 ≡ q → (r : Bool) → nat_lt a.clock b.clock ≡ r →
        is_lt (ordering_then (cond p Less (cond q Equal Greater)) (cond r Less (cond (nat_eq a.clock b.clock) Equal Greater))) ≡ false → is_smaller a b ≡ false
    go true x q y r z e = absurd (true≢false e)
    go false x true y true z e = absurd (true≢false e)
    go false x true y false z e = rw (x, y, z) refl
    go false x false y r z e = rw (x, y) refl

ascending_from : (rows : List OriginRow) → ((k : ℕ) (d : OriginRow) → suc k < length rows → is_smaller (get_or rows (suc k) d).id (get_or rows k d).id ≡ false) →
    AreDistinct (ids_of (table_of rows)) → AreAscending rows
ascending_from [] h d = tt
ascending_from (x ∷ []) h d = (tt, tt)
ascending_from (x ∷ y ∷ rows) h d =
    let first : IsBelow x y = smaller_total y.id x.id (other_id y.id x.id (λ e. d.0 (inl (sym e)))) (h 0 x (omega arith)) in
    let rest = ascending_from (y ∷ rows) (λ k z lt. h (suc k) z (omega arith)) d.1 in
    ((first, each_weaker (IsBelow y) (IsBelow x) (λ z b. smaller_through x.id y.id z.id first b) rows rest.0), rest)

-- rows that are sorted by their ids ascend, if the ids differ
pub sorted_ascending : (rows : List OriginRow) → IsSortedByKey (λ (row : OriginRow). row.id) id_cmp rows → AreDistinct (ids_of (table_of rows)) → AreAscending rows
sorted_ascending rows s d = ascending_from rows
    (λ k z lt. not_smaller (get_or rows (suc k) z).id (get_or rows k z).id
    (subst (λ n. is_lt (id_cmp (get_or rows n z).id (get_or rows k z).id) ≡ false) (add-one k) (s k z (omega arith) (omega arith)))) d

-- ---- the place of an id

pub ascending_at : (rows : List OriginRow) (i j : ℕ) (d : OriginRow) → AreAscending rows → i < j → j < length rows → IsBelow (get_or rows i d) (get_or rows j d)
ascending_at [] i j d a lt in_rows = absurd (omega arith)
ascending_at (row ∷ rows) i zero d a lt in_rows = absurd (omega arith)
ascending_at (row ∷ rows) zero (suc j) d a lt in_rows = each_at (IsBelow row) rows j d a.0 (omega arith)
ascending_at (row ∷ rows) (suc i) (suc j) d a lt in_rows = ascending_at rows i j d a.1 (omega arith) (omega arith)

-- the rows with smaller ids stand in front
pub rows_parted : (rows : List OriginRow) (x : Id) → AreAscending rows → IsPartitionedBy (λ (row : OriginRow). is_smaller row.id x) rows
rows_parted rows x a i j d le lt e = elim (order i j) [
  | inl before ↦ smaller_through (get_or rows i d).id (get_or rows j d).id x (ascending_at rows i j d a before lt) e
  | inr after ↦ subst (λ (n : ℕ). is_smaller (get_or rows n d).id x ≡ true) (same i j le after) e
]
  where
    order : (m n : ℕ) → (m < n) ⊎ (n ≤ m)
    order m n = grind arith

    same : (m n : ℕ) → m ≤ n → n ≤ m → n ≡ m
    same m n p q = omega arith

below_apart : (a b : Id) → is_smaller a b ≡ true → is_same a b ≡ false
below_apart a b e = grind (arith, tests)

above_apart : (a b c : Id) → is_smaller a c ≡ false → is_same a c ≡ false → is_smaller a b ≡ true → is_same b c ≡ false
above_apart a b c e f g = grind (arith, tests)

-- a row with the id tells its place
pub place_found : (rows : List OriginRow) (at : ℕ) (x : Id) (d : OriginRow) → AreAscending rows → at < length rows → is_same (get_or rows at d).id x ≡ true →
    place_of rows x ≡ Some at
place_found [] at x d a lt e = absurd (omega arith)
place_found (row ∷ rows) zero x d a lt e = rw e refl
place_found (row ∷ rows) (suc at) x d a lt e = rw (other) (ap (option_map suc) (place_found rows at x d a.1 (omega arith) e))
  where
    other : is_same row.id x ≡ false
    other = subst (λ (y : Id). is_same row.id y ≡ false) (same_is (get_or rows at d).id x e)
        (below_apart row.id (get_or rows at d).id (each_at (IsBelow row) rows at d a.0 (omega arith)))

place_missing : (rows : List OriginRow) (x : Id) → ((k : ℕ) (d : OriginRow) → k < length rows → is_same (get_or rows k d).id x ≡ false) → place_of rows x ≡ None
place_missing [] x h = refl
place_missing (row ∷ rows) x h = rw (h 0 row (omega arith)) (ap (option_map suc) (place_missing rows x (λ k d lt. h (suc k) d (omega arith))))

-- a row that has another id than it was asked for, at any default
pub other_there : (rows : List OriginRow) (at : ℕ) (x : Id) (d e : OriginRow) (told : Bool) → told ≡ is_same (get_or rows at d).id x → told ≡ false → at < length rows →
    is_same (get_or rows at e).id x ≡ false
other_there rows at x d e told is fails lt = ap (λ (row : OriginRow). is_same row.id x) (get_or_default rows at e d lt) ∙ sym is ∙ fails

-- where the first row whose id is not smaller has another id, no row has it
pub none_found : (rows : List OriginRow) (at : ℕ) (x : Id) → AreAscending rows →
    IsPartitionPoint (λ (row : OriginRow). is_smaller row.id x ≡ true) (λ (row : OriginRow). is_smaller row.id x ≡ false) rows at →
    (at < length rows → (d : OriginRow) → is_same (get_or rows at d).id x ≡ false) → place_of rows x ≡ None
none_found rows at x a point other = place_missing rows x (λ k d lt. elim (order k at) [
  | inl before ↦ below_apart (get_or rows k d).id x (point.0 k d (omega arith) before)
  | inr (inl e) ↦ subst (λ (n : ℕ). is_same (get_or rows n d).id x ≡ false) (sym e) (other (omega arith) d)
  | inr (inr after) ↦ above_apart (get_or rows at d).id (get_or rows k d).id x (point.1 at d (omega arith) (omega arith)) (other (omega arith) d) (ascending_at rows at k d a after lt)
])
  where
    order : (m n : ℕ) → (m < n) ⊎ ((m ≡ n) ⊎ (n < m))
    order m n = grind arith
