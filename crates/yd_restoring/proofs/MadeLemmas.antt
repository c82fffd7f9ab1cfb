-- What the update of an edit inserts: the ids of the operations that it makes, from the client's next clock on.
use Rattle.std.proofs.Common.{append-nil, ◌≡◌, ℕ, ◌+◌, ◌≤◌, List, [], ◌∷◌, map, inl, inr, refl, sym, ap, arith}
use Rattle.yd_words.specs.Member.{IsIn}
use Rattle.yd_words.proofs.MemberLemmas.{in_parts}
use Rattle.yd_ids.specs.declared.id.Client.{Client}
use Rattle.yd_ids.specs.declared.id.Id.{Id}
use Rattle.yd_ids.specs.Set.{HasId}
use Rattle.yd_ops.specs.declared.lists.List.{List as DocList}
use Rattle.yd_ops.specs.Operation.{Operation, operations_of_run}
use Rattle.yd_ops.specs.Value.{StructValue, item, skip, gone, len_of, RunValue}
use Rattle.yd_editing.specs.Made.{run_of_step, lists_with, runs_of, operations_of_runs, block_of_runs}
use Rattle.yd_editing.specs.Step.{Step, make, remove}
use Rattle.yd_editing.proofs.TakenLemmas.{run_within}
use Rattle.yd_undo.specs.Entry.{structs_ids, blocks_ids}

-- the structs of runs
abbrev pub items : List RunValue → List StructValue
items runs = map (λ (r : RunValue). item r) runs

-- ids of structs are of their client, from their clock on
pub structs_within : (client : Client) (clock : ℕ) (structs : List StructValue) (x : Id) → HasId (structs_ids client clock structs) x →
    (client.0 ≡ x.client.0) × (clock ≤ x.clock)
structs_within client clock [] x h = absurd h
structs_within client clock (item run ∷ structs) x (inl i) = (i.0, i.1)
structs_within client clock (item run ∷ structs) x (inr h) = let (c, low) = structs_within client (clock + len_of run.content) structs x h in (c, omega (arith, low))
structs_within client clock (skip count ∷ structs) x h = let (c, low) = structs_within client (clock + count) structs x h in (c, omega (arith, low))
structs_within client clock (gone count ∷ structs) x (inl i) = (i.0, i.1)
structs_within client clock (gone count ∷ structs) x (inr h) = let (c, low) = structs_within client (clock + count) structs x h in (c, omega (arith, low))

-- each operation that steps make has one of the ids
pub runs_have : (steps : List Step) (client : Client) (clock : ℕ) (lists : DocList → List Operation) (o : Operation) →
    IsIn o (operations_of_runs (runs_of client clock lists steps)) → HasId (structs_ids client clock (items (runs_of client clock lists steps))) o.id
runs_have [] client clock lists o i = absurd i
runs_have (make name after content ∷ steps) client clock lists o i = elim (in_parts o (operations_of_run (run_of_step client clock lists name after content))
    (operations_of_runs (runs_of client (clock + len_of content) (lists_with lists name after (operations_of_run (run_of_step client clock lists name after content))) steps)) i) [
      | inl j ↦ let (c, low, high) = run_within (run_of_step client clock lists name after content) o j in inl (ap (λ (k : Client). k.0) (sym c), low, high)
      | inr j ↦ inr (runs_have steps client (clock + len_of content) (lists_with lists name after (operations_of_run (run_of_step client clock lists name after content))) o j)
    ]
runs_have (remove spans ∷ steps) client clock lists o i = runs_have steps client clock lists o i

-- the block of what steps make begins at the clock
pub blocks_are : (steps : List Step) (client : Client) (clock : ℕ) (lists : DocList → List Operation) →
    blocks_ids (block_of_runs (runs_of client clock lists steps)) ≡ structs_ids client clock (items (runs_of client clock lists steps))
blocks_are [] client clock lists = refl
blocks_are (make name after content ∷ steps) client clock lists = append-nil (structs_ids client clock (items (runs_of client clock lists (make name after content ∷ steps))))
blocks_are (remove spans ∷ steps) client clock lists = blocks_are steps client clock lists
