-- The rows of lists where a run is cut.
use Rattle.std.proofs.Common.{◌≡◌, ℕ, zero, suc, ◌+◌, ◌-◌, ◌<◌, ◌≤◌, inl, inr, List, [], ◌∷◌, ◌++◌, Option, Some, length, get_or, refl, sym, ap, ap₂, ◌∙◌, subst, arith}
use Rattle.std.proofs.lemmas.List.{append_assoc}
use Rattle.yd_words.specs.Member.{IsIn, AreDistinct}
use Rattle.yd_ids.specs.declared.id.Client.{Client}
use Rattle.yd_ids.specs.declared.id.Id.{Id}
use Rattle.yd_chains.specs.Chain.{put_behind}
use Rattle.yd_chains.proofs.ChainLemmas as chain
use Rattle.yd_scan.specs.declared.stretch.Stretch.{Stretch}
use Rattle.yd_scan.specs.Stretches.{stretch_at}
use Rattle.yd_index.specs.Holding.{front_of, rest_of, cut_stretches}
use Rattle.yd_index.proofs.CuttingLemmas.{cut_front, cut_rest, cut_other}
use Rattle.yd_arena.specs.Lists.{AreLists, list_at}
use Rattle.yd_arena.specs.Arena.{Placed, runs_of, count_of, places_in, IsSame, CutsRun}
use Rattle.yd_arena.specs.Rows.{rows_of_units, rows_of_run, rows_at, rows_in}

-- ---- one run

from_split : (client : Client) (right : Option Id) (k m total clock : ℕ) (left : Option Id) → total ≡ suc k + m → rows_of_units client left right clock total
    ≡ rows_of_units client left right clock (suc k) ++ rows_of_units client (Some (record { client = client; clock = clock + k })) right (clock + suc k) m
from_split client right k m zero clock left e = absurd (omega (arith, e))
from_split client right zero m (suc total) clock left e =
    let a : total ≡ m = omega (arith, e) in
    let b : clock ≡ clock + 0 = omega arith in
    let c : suc clock ≡ clock + 1 = omega arith in
    ap (λ rows. record { id = record { client = client; clock = clock }; left = left; right = right } ∷ rows)
    (ap (rows_of_units client (Some (record { client = client; clock = clock })) right (suc clock)) a
    ∙ ap₂ (λ x y. rows_of_units client (Some (record { client = client; clock = x })) right y m) b c)
from_split client right (suc k) m (suc total) clock left e =
    let b : suc clock + k ≡ clock + suc k = omega arith in
    let c : suc clock + suc k ≡ clock + suc (suc k) = omega arith in
    let next : Option Id = Some (record { client = client; clock = clock }) in
    ap (λ rows. record { id = record { client = client; clock = clock }; left = left; right = right } ∷ rows)
    (from_split client right k m total (suc clock) next (omega (arith, e))
    ∙ ap₂ (λ x y. rows_of_units client next right (suc clock) (suc k) ++ rows_of_units client (Some (record { client = client; clock = x })) right y m) b c)

run_split : (run : Stretch) (n : ℕ) → 0 < n → n ≤ run.len → rows_of_run (front_of run n) ++ rows_of_run (rest_of run n) ≡ rows_of_run run
run_split run zero some le = absurd (omega arith)
run_split run (suc k) some le =
    let e : run.id.clock + k ≡ run.id.clock + suc k - 1 = omega arith in
    sym (from_split run.id.client run.right k (run.len - suc k) run.len run.id.clock run.left (omega (arith, le))
    ∙ ap (λ c. rows_of_units run.id.client run.left run.right run.id.clock (suc k) ++ rows_of_units run.id.client (Some (record { client = run.id.client; clock = c })) run.right (run.id.clock + suc k) (run.len - suc k)) e)

-- ---- lists

module _ (runs : List Stretch) (i n : ℕ) (lt : i < length runs) where
  others_kept : (list : List ℕ) → ((j : ℕ) → IsIn j list → j < length runs) → (IsIn i list → ⊥) → rows_at (cut_stretches runs i n) list ≡ rows_at runs list
  others_kept [] within out = refl
  others_kept (x ∷ xs) within out =
      ap₂ (λ us vs. us ++ vs) (ap rows_of_run (cut_other runs i n lt x (within x (inl refl)) (λ e. out (inl (sym e))))) (others_kept xs (λ j h. within j (inr h)) (λ h. out (inr h)))

  rows_kept : 0 < n → n ≤ (stretch_at runs i).len → (list : List ℕ) → ((j : ℕ) → IsIn j list → j < length runs) → AreDistinct list → IsIn i list →
      rows_at (cut_stretches runs i n) (put_behind (Some i) (length runs) list) ≡ rows_at runs list
  rows_kept some le [] within d h = absurd h
  rows_kept some le (x ∷ xs) within d h = elim (chain.same_place x i) [
    | inl t ↦ (let out : IsIn i xs → ⊥ = (λ m. d.0 (subst (λ j. IsIn j xs) (sym t.1) m)) in
        rw t.0 (
        ap₂ (λ us vs. us ++ (vs ++ rows_at (cut_stretches runs i n) xs)) (ap (λ j. rows_of_run (stretch_at (cut_stretches runs i n) j)) t.1 ∙ ap rows_of_run (cut_front runs i n lt)) (ap rows_of_run (cut_rest runs i n lt))
        ∙ sym (append_assoc (rows_of_run (front_of (stretch_at runs i) n)) (rows_of_run (rest_of (stretch_at runs i) n)) (rows_at (cut_stretches runs i n) xs))
        ∙ ap₂ (λ us vs. us ++ vs) (run_split (stretch_at runs i) n some le ∙ ap (λ j. rows_of_run (stretch_at runs j)) (sym t.1)) (others_kept xs (λ j m. within j (inr m)) out)))
    | inr t ↦ rw t.0 (
        ap₂ (λ us vs. us ++ vs) (ap rows_of_run (cut_other runs i n lt x (within x (inl refl)) t.1)) (rows_kept some le xs (λ j m. within j (inr m)) d.1 (elim h [ inl e ↦ absurd (t.1 (sym e)) | inr m ↦ m ])))
  ]

-- ---- lemmas for callers

pub cuts_keep_rows : (old new : Placed) (place n : ℕ) → AreLists old.linked → place < length (runs_of old) → 0 < n → n ≤ (stretch_at (runs_of old) place).len →
    CutsRun old new place n → (k : ℕ) → k < count_of old → rows_in new k ≡ rows_in old k
cuts_keep_rows = λ old new place n lists lt some le cuts k kl. (ap (λ runs. rows_at runs (places_in new k)) cuts.runs
    ∙ elim (chain.has_place place (list_at old.linked k)) [
      | inl h ↦ ap (rows_at (cut_stretches (runs_of old) place n)) (cuts.lists.own k kl h)
          ∙ rows_kept (runs_of old) place n lt some le (list_at old.linked k) (λ j m. lists.within k j kl m) (lists.distinct k kl) h
      | inr h ↦ ap (rows_at (cut_stretches (runs_of old) place n)) (cuts.lists.others k kl h)
          ∙ others_kept (runs_of old) place n lt (list_at old.linked k) (λ j m. lists.within k j kl m) h
    ])

pub same_has_rows : (old new : Placed) → IsSame old new → (k : ℕ) → rows_in new k ≡ rows_in old k
same_has_rows old new same k = ap₂ rows_at same.runs (ap (λ ls. get_or ls k []) same.lists)
