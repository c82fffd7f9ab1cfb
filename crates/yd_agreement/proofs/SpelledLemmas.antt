-- The runs that updates spell: one after another, and what valid updates say of each.
use Rattle.std.proofs.Common.{◌≡◌, ℕ, ◌+◌, ◌<◌, ◌≤◌, Bool, true, false, List, [], ◌∷◌, ◌++◌, inl, inr, length, get_or, drop, Bor, refl, sym, ap, ◌∙◌, subst, append_assoc, append-nil}
use Rattle.std.proofs.lemmas.List.{drop_all, drop_more, map-append}
use Rattle.std.specs.Prelude.{if◌then◌else◌}
use Rattle.yd_words.specs.Each.{Each}
use Rattle.yd_words.specs.Member.{IsIn}
use Rattle.yd_words.proofs.MemberLemmas.{in_parts}
use Rattle.yd_ids.specs.declared.id.Client.{Client}
use Rattle.yd_ids.specs.Id.{IsClock}
use Rattle.yd_ops.specs.Valid.{AreStructsFrom, IsRunAt, IsValidBlock, IsValidContent, IsValidUpdate}
use Rattle.yd_ops.specs.Value.{BlockValue, RunValue, StructValue, UpdateValue, gone, item, len_of, skip}
use Rattle.yd_ops.specs.View.{run_value}
use Rattle.yd_ops.specs.declared.runs.Run.{Run}
use Rattle.yd_agreement.specs.Differing.{HasRange}
use Rattle.yd_agreement.specs.Runs.{full_runs, is_full, lent_runs, runs_of_blocks, runs_of_structs, runs_of_updates}

-- ---- one after another

-- one more is put behind: an update, a block, a struct, a run
pub put_next : {X : Type 0} (f : List X → List RunValue) (front : X → List RunValue) (xs : List X) (i : ℕ) (x : X) (old new : List RunValue) →
    ((rest : List X) → f (x ∷ rest) ≡ front x ++ f rest) → i < length xs → x ≡ get_or xs i x → new ≡ old ++ front x → new ++ f (drop (i + 1) xs) ≡ old ++ f (drop i xs)
put_next {X} f front xs i x old new says lt at e = ap (λ rs. rs ++ f (drop (i + 1) xs)) e ∙ append_assoc old (front x) (f (drop (i + 1) xs))
    ∙ ap (λ rs. old ++ rs) (sym (says (drop (i + 1) xs)))
    ∙ ap (λ us. old ++ f us) (sym (drop_more xs i x lt ∙ ap (λ (u : X). u ∷ drop (i + 1) xs) (sym at)))

-- at the end none is left
pub all_put : {X : Type 0} (f : List X → List RunValue) (xs : List X) (i : ℕ) (new all : List RunValue) → f [] ≡ [] → length xs ≤ i → new ++ f (drop i xs) ≡ all → new ≡ all
all_put f xs i new all none le e = sym (append-nil new) ∙ ap (λ rs. new ++ rs) (sym none) ∙ ap (λ us. new ++ f us) (sym (drop_all i xs le)) ∙ e

pub one_struct : (s : StructValue) (rest : List StructValue) → runs_of_structs (s ∷ rest) ≡ runs_of_structs (s ∷ []) ++ runs_of_structs rest
one_struct (item run) rest = refl
one_struct (skip count) rest = refl
one_struct (gone count) rest = refl

pub lent_with_last : (runs : List (Bor Run)) (run : Bor Run) → lent_runs (runs ++ run ∷ []) ≡ lent_runs runs ++ run_value run.now ∷ []
lent_with_last runs run = map-append (λ (r : Bor Run). run_value r.now) runs (run ∷ [])

-- ---- those that are full

pub full_next : (run : RunValue) (rest : List RunValue) → full_runs (run ∷ rest) ≡ full_runs (run ∷ []) ++ full_runs rest
full_next run rest = go (is_full run.content)
  where
    go : (t : Bool) → (if t then run ∷ full_runs rest else full_runs rest) ≡ (if t then run ∷ [] else []) ++ full_runs rest
    go true = refl
    go false = refl

pub full_one : (run : RunValue) → is_full run.content ≡ true → full_runs (run ∷ []) ≡ run ∷ []
full_one run e = rw e refl

pub full_none : (run : RunValue) → is_full run.content ≡ false → full_runs (run ∷ []) ≡ []
full_none run e = rw e refl

-- ---- of valid updates

-- what is known of the run of a valid update
pub record IsSound (run : RunValue) : Type 0 where
  pub range : HasRange run
  pub content : IsValidContent run.content

run_sound : (client : Client) (clock : ℕ) (run : RunValue) → IsRunAt client clock run → IsClock (clock + len_of run.content) → IsSound run
run_sound client clock run is end = record { range = record { some = is.has_units; end = rw is.begins end }; content = is.content }

structs_sound : (client : Client) (clock : ℕ) (structs : List StructValue) → AreStructsFrom client clock structs → (run : RunValue) → IsIn run (runs_of_structs structs) →
    IsSound run
structs_sound client clock [] valid run i = absurd i
structs_sound client clock (item r ∷ structs) valid run (inl e) = subst IsSound (sym e) (run_sound client clock r valid.0 valid.1)
structs_sound client clock (item r ∷ structs) valid run (inr i) = structs_sound client (clock + len_of r.content) structs valid.2 run i
structs_sound client clock (skip count ∷ structs) valid run i = structs_sound client (clock + count) structs valid.2 run i
structs_sound client clock (gone count ∷ structs) valid run i = structs_sound client (clock + count) structs valid.2 run i

blocks_sound : (blocks : List BlockValue) → Each IsValidBlock blocks → (run : RunValue) → IsIn run (runs_of_blocks blocks) → IsSound run
blocks_sound [] valid run i = absurd i
blocks_sound (block ∷ blocks) valid run i = elim (in_parts run (runs_of_structs block.structs) (runs_of_blocks blocks) i) [
  | inl j ↦ structs_sound block.client block.clock block.structs valid.0.structs run j
  | inr j ↦ blocks_sound blocks valid.1 run j
]

-- ---- lemmas for callers

pub runs_sound : (updates : List UpdateValue) → Each IsValidUpdate updates → (run : RunValue) → IsIn run (runs_of_updates updates) → IsSound run
runs_sound [] valid run i = absurd i
runs_sound (update ∷ updates) valid run i = elim (in_parts run (runs_of_blocks update.blocks) (runs_of_updates updates) i) [
  | inl j ↦ blocks_sound update.blocks valid.0.blocks run j
  | inr j ↦ runs_sound updates valid.1 run j
]
