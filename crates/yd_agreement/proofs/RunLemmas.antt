-- Operations of updates are operations of runs, where they are not gone.
use Rattle.std.proofs.Common.{ℕ, ◌+◌, ◌<◌, List, [], ◌∷◌, ◌++◌, inl, inr, refl, ap, subst, arith}
use Rattle.yd_words.specs.Member.{IsIn}
use Rattle.yd_words.proofs.MemberLemmas.{in_left_part, in_parts, in_right_part}
use Rattle.yd_ids.specs.declared.id.Client.{Client}
use Rattle.yd_ops.specs.Operation.{Operation, gone_from, level_of, operations_of, operations_of_blocks, operations_of_run, operations_of_structs}
use Rattle.yd_ops.specs.Value.{BlockValue, RunValue, StructValue, UpdateValue, gone, item, len_of, skip}
use Rattle.yd_ops.specs.Agreement.{operations_of_all}
use Rattle.yd_entries.proofs.UnitLemmas.{from_gone}
use Rattle.yd_agreement.specs.Runs.{runs_of_blocks, runs_of_structs, runs_of_updates}

-- an operation is one of these runs'
abbrev pub IsOfRun : List RunValue → Operation → Type 0
IsOfRun runs o = (run : RunValue) × IsIn run runs × IsIn o (operations_of_run run)

left_of : (rs ss : List RunValue) (o : Operation) → IsOfRun rs o → IsOfRun (rs ++ ss) o
left_of rs ss o (run, i, j) = (run, in_left_part run rs ss i, j)

right_of : (rs ss : List RunValue) (o : Operation) → IsOfRun ss o → IsOfRun (rs ++ ss) o
right_of rs ss o (run, i, j) = (run, in_right_part run rs ss i, j)

structs_run : (client : Client) (clock : ℕ) (structs : List StructValue) (o : Operation) → IsIn o (operations_of_structs client clock structs) → 0 < level_of o.content →
    IsOfRun (runs_of_structs structs) o
structs_run client clock [] o i some = absurd i
structs_run client clock (item run ∷ structs) o i some = elim (in_parts o (operations_of_run run) (operations_of_structs client (clock + len_of run.content) structs) i) [
  | inl j ↦ (run, inl refl, j)
  | inr j ↦ let (r, k, l) = structs_run client (clock + len_of run.content) structs o j some in (r, inr k, l)
]
structs_run client clock (skip count ∷ structs) o i some = structs_run client (clock + count) structs o i some
structs_run client clock (gone count ∷ structs) o i some =
    elim (in_parts o (gone_from (record { client = client; clock = clock }) count) (operations_of_structs client (clock + count) structs) i) [
      | inl j ↦ let (k, lt, e) = from_gone (record { client = client; clock = clock }) count o j in absurd (omega (arith, some, ap (λ (p : Operation). level_of p.content) e))
      | inr j ↦ structs_run client (clock + count) structs o j some
    ]

run_structs : (client : Client) (clock : ℕ) (structs : List StructValue) (o : Operation) → IsOfRun (runs_of_structs structs) o → IsIn o (operations_of_structs client clock structs)
run_structs client clock [] o (run, i, j) = absurd i
run_structs client clock (item r ∷ structs) o (run, inl e, j) =
    in_left_part o (operations_of_run r) (operations_of_structs client (clock + len_of r.content) structs) (subst (λ s. IsIn o (operations_of_run s)) e j)
run_structs client clock (item r ∷ structs) o (run, inr i, j) =
    in_right_part o (operations_of_run r) (operations_of_structs client (clock + len_of r.content) structs) (run_structs client (clock + len_of r.content) structs o (run, i, j))
run_structs client clock (skip count ∷ structs) o (run, i, j) = run_structs client (clock + count) structs o (run, i, j)
run_structs client clock (gone count ∷ structs) o (run, i, j) =
    in_right_part o (gone_from (record { client = client; clock = clock }) count) (operations_of_structs client (clock + count) structs)
    (run_structs client (clock + count) structs o (run, i, j))

pub blocks_run : (blocks : List BlockValue) (o : Operation) → IsIn o (operations_of_blocks blocks) → 0 < level_of o.content → IsOfRun (runs_of_blocks blocks) o
blocks_run [] o i some = absurd i
blocks_run (block ∷ blocks) o i some = elim (in_parts o (operations_of_structs block.client block.clock block.structs) (operations_of_blocks blocks) i) [
  | inl j ↦ left_of (runs_of_structs block.structs) (runs_of_blocks blocks) o (structs_run block.client block.clock block.structs o j some)
  | inr j ↦ right_of (runs_of_structs block.structs) (runs_of_blocks blocks) o (blocks_run blocks o j some)
]

pub run_blocks : (blocks : List BlockValue) (o : Operation) → IsOfRun (runs_of_blocks blocks) o → IsIn o (operations_of_blocks blocks)
run_blocks [] o (run, i, j) = absurd i
run_blocks (block ∷ blocks) o (run, i, j) = elim (in_parts run (runs_of_structs block.structs) (runs_of_blocks blocks) i) [
  | inl k ↦ in_left_part o (operations_of_structs block.client block.clock block.structs) (operations_of_blocks blocks)
      (run_structs block.client block.clock block.structs o (run, k, j))
  | inr k ↦ in_right_part o (operations_of_structs block.client block.clock block.structs) (operations_of_blocks blocks) (run_blocks blocks o (run, k, j))
]

pub updates_run : (updates : List UpdateValue) (o : Operation) → IsIn o (operations_of_all updates) → 0 < level_of o.content → IsOfRun (runs_of_updates updates) o
updates_run [] o i some = absurd i
updates_run (update ∷ updates) o i some = elim (in_parts o (operations_of update) (operations_of_all updates) i) [
  | inl j ↦ left_of (runs_of_blocks update.blocks) (runs_of_updates updates) o (blocks_run update.blocks o j some)
  | inr j ↦ right_of (runs_of_blocks update.blocks) (runs_of_updates updates) o (updates_run updates o j some)
]

-- a run of updates is one of them's
pub update_of : (updates : List UpdateValue) (run : RunValue) → IsIn run (runs_of_updates updates) → (update : UpdateValue) × IsIn update updates ×
    IsIn run (runs_of_blocks update.blocks)
update_of [] run i = absurd i
update_of (update ∷ updates) run i = elim (in_parts run (runs_of_blocks update.blocks) (runs_of_updates updates) i) [
  | inl j ↦ (update, inl refl, j)
  | inr j ↦ let (u, k, l) = update_of updates run j in (u, inr k, l)
]

pub of_update : (updates : List UpdateValue) (update : UpdateValue) (run : RunValue) → IsIn update updates → IsIn run (runs_of_blocks update.blocks) →
    IsIn run (runs_of_updates updates)
of_update [] update run i j = absurd i
of_update (u ∷ us) update run (inl e) j = in_left_part run (runs_of_blocks u.blocks) (runs_of_updates us) (subst (λ (v : UpdateValue). IsIn run (runs_of_blocks v.blocks)) e j)
of_update (u ∷ us) update run (inr i) j = in_right_part run (runs_of_blocks u.blocks) (runs_of_updates us) (of_update us update run i j)

pub run_updates : (updates : List UpdateValue) (o : Operation) → IsOfRun (runs_of_updates updates) o → IsIn o (operations_of_all updates)
run_updates [] o (run, i, j) = absurd i
run_updates (update ∷ updates) o (run, i, j) = elim (in_parts run (runs_of_blocks update.blocks) (runs_of_updates updates) i) [
  | inl k ↦ in_left_part o (operations_of update) (operations_of_all updates) (run_blocks update.blocks o (run, k, j))
  | inr k ↦ in_right_part o (operations_of update) (operations_of_all updates) (run_updates updates o (run, k, j))
]
