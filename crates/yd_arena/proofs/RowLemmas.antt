-- The rows of runs: which ids they have, and where they stand.
use Rattle.std.proofs.Common.{◌≡◌, ℕ, zero, suc, ◌<◌, List, [], ◌∷◌, ◌++◌, inl, inr, Option, Some, length, refl, sym, ap, ap₂, ◌∙◌, subst}
use Rattle.std.proofs.lemmas.List.{get_or_append_left}
use Rattle.yd_words.specs.Member.{IsIn}
use Rattle.yd_words.proofs.MemberLemmas.{in_left_part, in_right_part, in_parts}
use Rattle.yd_ids.specs.declared.id.Client.{Client}
use Rattle.yd_ids.specs.declared.id.Id.{Id}
use Rattle.yd_origins.specs.Table.{Row, OriginTable, ids_of}
use Rattle.yd_scan.specs.declared.stretch.Stretch.{Stretch}
use Rattle.yd_scan.specs.Stretches.{units_from, stretch_at, units_at, no_stretch}
use Rattle.yd_arena.specs.Rows.{rows_of_units, rows_of_run, rows_at}

-- ---- ids

ids-append : (xs ys : OriginTable) → ids_of (xs ++ ys) ≡ ids_of xs ++ ids_of ys
ids-append [] ys = refl
ids-append (x ∷ xs) ys = ap (λ zs. x.id ∷ zs) (ids-append xs ys)

pub ids-from : (client : Client) (left right : Option Id) (clock n : ℕ) → ids_of (rows_of_units client left right clock n) ≡ units_from client clock n
ids-from client left right clock zero = refl
ids-from client left right clock (suc n) = ap (λ zs. record { client = client; clock = clock } ∷ zs) (ids-from client (Some (record { client = client; clock = clock })) right (suc clock) n)

pub ids-rows : (runs : List Stretch) (places : List ℕ) → ids_of (rows_at runs places) ≡ units_at runs places
ids-rows runs [] = refl
ids-rows runs (p ∷ ps) =
    let run = stretch_at runs p in
    ids-append (rows_of_run run) (rows_at runs ps) ∙ ap₂ (λ xs ys. xs ++ ys) (ids-from run.id.client run.left run.right run.id.clock run.len) (ids-rows runs ps)

-- the id of a row is one
pub row_with : (rows : OriginTable) (x : Id) → IsIn x (ids_of rows) → (row : Row) × IsIn row rows × (row.id ≡ x)
row_with [] x i = absurd i
row_with (r ∷ rs) x (inl e) = (r, inl refl, sym e)
row_with (r ∷ rs) x (inr i) = let (row, j, e) = row_with rs x i in (row, inr j, e)

-- ---- places

pub in_rows : (runs : List Stretch) (places : List ℕ) (row : Row) → IsIn row (rows_at runs places) → (i : ℕ) × IsIn i places × IsIn row (rows_of_run (stretch_at runs i))
in_rows runs [] row h = absurd h
in_rows runs (p ∷ ps) row h = elim (in_parts row (rows_of_run (stretch_at runs p)) (rows_at runs ps) h) [
  | inl k ↦ (p, inl refl, k)
  | inr k ↦ let d = in_rows runs ps row k in (d.0, inr d.1, d.2)
]

pub rows_there : (runs : List Stretch) (places : List ℕ) (row : Row) (i : ℕ) → IsIn i places → IsIn row (rows_of_run (stretch_at runs i)) → IsIn row (rows_at runs places)
rows_there runs [] row i h k = absurd h
rows_there runs (p ∷ ps) row i (inl e) k = in_left_part row (rows_of_run (stretch_at runs p)) (rows_at runs ps) (subst (λ j. IsIn row (rows_of_run (stretch_at runs j))) e k)
rows_there runs (p ∷ ps) row i (inr h) k = in_right_part row (rows_of_run (stretch_at runs p)) (rows_at runs ps) (rows_there runs ps row i h k)

-- a run more changes none of the others
pub rows_same : (runs : List Stretch) (run : Stretch) (places : List ℕ) → ((i : ℕ) → IsIn i places → i < length runs) → rows_at (runs ++ run ∷ []) places ≡ rows_at runs places
rows_same runs run [] within = refl
rows_same runs run (p ∷ ps) within =
    ap₂ (λ xs ys. xs ++ ys) (ap rows_of_run (get_or_append_left runs (run ∷ []) no_stretch p (within p (inl refl)))) (rows_same runs run ps (λ i h. within i (inr h)))
