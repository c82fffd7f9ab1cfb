-- How many rows are before each, one row after another.
use Rattle.std.proofs.Common.{◌≡◌, ℕ, zero, suc, ◌+◌, ◌<◌, ◌≤◌, List, [], ◌∷◌, ◌++◌, map, length, get_or, drop, refl, sym, ap, ◌∙◌, append_assoc, arith}
use Rattle.std.proofs.lemmas.List.{drop_more, drop_all}
use Rattle.yd_words.specs.Test.{one_if}
use Rattle.yd_ids.specs.declared.id.Id.{Id}
use Rattle.yd_origins.specs.Before.{is_before}
use Rattle.yd_origins.specs.Sorted.{count_before}
use Rattle.yd_origins.specs.Table.{ids_of}
use Rattle.yd_order.specs.declared.counting.Rank.{Rank}
use Rattle.yd_order.specs.declared.linking.LinkedRow.{LinkedRow}
use Rattle.yd_order.specs.Linking.{id_at, unlinked, table_of_linked}
use Rattle.yd_order.specs.Filling.{is_before_at}
use Rattle.yd_order.specs.Counting.{count_at, rank_in, ranks_of}
use Rattle.yd_order.proofs.LinkedLemmas.{id_read, length-ids}

id_in : (all rows : List LinkedRow) (at : ℕ) (d : Id) → at < length rows → get_or (ids_of (map (unlinked all) rows)) at d ≡ id_at rows at
id_in all [] at d lt = absurd (omega arith)
id_in all (row ∷ rows) zero d lt = refl
id_in all (row ∷ rows) (suc at) d lt = id_in all rows at d (omega arith)

-- the ids from a place on begin with the one there
ids_more : (rows : List LinkedRow) (at : ℕ) → at < length rows →
    drop at (ids_of (table_of_linked rows)) ≡ id_at rows at ∷ drop (at + 1) (ids_of (table_of_linked rows))
ids_more rows at lt = drop_more (ids_of (table_of_linked rows)) at (id_at rows at) (omega (arith, length-ids rows))
    ∙ ap (λ (x : Id). x ∷ drop (at + 1) (ids_of (table_of_linked rows))) (id_in rows rows at (id_at rows at) lt)

-- ---- one count

-- how many rows from a place on are before the one at another
unfoldable pub count_from : List LinkedRow → ℕ → ℕ → ℕ
count_from rows at from = count_before (is_before (table_of_linked rows)) (drop from (ids_of (table_of_linked rows))) (id_at rows at)

pub count_from_start : (rows : List LinkedRow) (at : ℕ) → count_from rows at 0 ≡ count_at rows at
unfolding count_from count_at
count_from_start rows at = refl

pub count_more : (rows : List LinkedRow) (at from : ℕ) → from < length rows → count_from rows at from ≡ one_if (is_before_at rows from at) + count_from rows at (from + 1)
unfolding count_from is_before_at
count_more rows at from lt = ap (λ (xs : List Id). count_before (is_before (table_of_linked rows)) xs (id_at rows at)) (ids_more rows from lt)

pub count_done : (rows : List LinkedRow) (at from : ℕ) → length rows ≤ from → count_from rows at from ≡ 0
unfolding count_from
count_done rows at from le = ap (λ (xs : List Id). count_before (is_before (table_of_linked rows)) xs (id_at rows at))
    (drop_all from (ids_of (table_of_linked rows)) (omega (arith, length-ids rows)))

-- ---- all ranks

-- the ranks of the rows from one on
unfoldable pub ranks_from : List LinkedRow → ℕ → List Rank
ranks_from rows from = map (rank_in (table_of_linked rows)) (drop from (ids_of (table_of_linked rows)))

pub ranks_from_start : (rows : List LinkedRow) → ranks_from rows 0 ≡ ranks_of rows
unfolding ranks_from ranks_of
ranks_from_start rows = refl

pub ranks_more : (rows : List LinkedRow) (at : ℕ) → at < length rows → ranks_from rows at ≡ record { count = count_at rows at; id = id_at rows at } ∷ ranks_from rows (at + 1)
unfolding ranks_from count_at
ranks_more rows at lt = ap (map (rank_in (table_of_linked rows))) (ids_more rows at lt)

-- a pushed rank is the next one
pub rank_pushed : (rows : List LinkedRow) (ranks : List Rank) (at count : ℕ) (d : LinkedRow) → at < length rows → count ≡ count_at rows at →
    (ranks ++ record { count = count; id = (get_or rows at d).id } ∷ []) ++ ranks_from rows (at + 1) ≡ ranks ++ ranks_from rows at
rank_pushed rows ranks at count d lt e = append_assoc ranks (record { count = count; id = (get_or rows at d).id } ∷ []) (ranks_from rows (at + 1))
    ∙ ap (λ (rest : List Rank). ranks ++ rest) (rank ∙ sym (ranks_more rows at lt))
  where
    rank : record { count = count; id = (get_or rows at d).id } ∷ ranks_from rows (at + 1) ≡ record { count = count_at rows at; id = id_at rows at } ∷ ranks_from rows (at + 1)
    rank = λ i. record { count = e i; id = id_read rows at d lt i } ∷ ranks_from rows (at + 1)

pub ranks_done : (rows : List LinkedRow) (at : ℕ) → length rows ≤ at → ranks_from rows at ≡ []
unfolding ranks_from
ranks_done rows at le = ap (map (rank_in (table_of_linked rows))) (drop_all at (ids_of (table_of_linked rows)) (omega (arith, length-ids rows)))
