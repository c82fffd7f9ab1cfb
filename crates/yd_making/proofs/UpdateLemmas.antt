-- The update that is made of the parts is that of the edit, and it is valid.
use Rattle.std.proofs.Common.{◌≡◌, ℕ, true, Bool, false, List, [], ◌∷◌, map, Option, Some, None, refl, ap, ap₂, ◌∙◌}
use Rattle.std.specs.Prelude.{IfSome, if◌then◌else◌}
use Rattle.yd_words.specs.Each.{Each}
use Rattle.yd_ids.specs.declared.id.Client.{Client}
use Rattle.yd_ids.specs.declared.id.Id.{Id}
use Rattle.yd_ids.specs.declared.id.Span.{Span}
use Rattle.yd_ids.specs.Id.{IsClient}
use Rattle.yd_ids.specs.Set.{AreMaximal}
use Rattle.yd_ops.specs.declared.lists.List.{List as DocList}
use Rattle.yd_ops.specs.Operation.{Operation}
use Rattle.yd_ops.specs.Value.{ContentValue, item, StructValue, BlockValue, UpdateValue}
use Rattle.yd_ops.specs.Valid.{IsValidBlock, IsValidUpdate}
use Rattle.yd_ops.specs.Received.{has_operation}
use Rattle.yd_meaning.specs.Names.{item_of_list}
use Rattle.yd_editing.specs.Step.{Step, make, remove, Refusal, no_place, first_or}
use Rattle.yd_editing.specs.Basis.{Basis}
use Rattle.yd_editing.specs.Made.{runs_of, block_of_runs, runs_on, removed_by, update_of_edit}
use Rattle.yd_editing.specs.Refused.{first_of_steps, parent_refusal, after_refusal, place_refusal, removal_refusal, pair_refusal, waiting_refusal, clock_refusal, refusal_of}
use Rattle.yd_editing.proofs.RefusalLemmas.{neither, no_step, not_some}
use Rattle.yd_editing.proofs.ValidLemmas.{MakesInRange, own_valid_blocks}
use Rattle.yd_state.specs.State.{StateValue, received_in, document_in, IsSound}
use Rattle.yd_state.proofs.LentLemmas.{document_replica}
use Rattle.yd_making.specs.Given.{basis_in}
use Rattle.yd_making.specs.Steps.{IsProper}
use Rattle.yd_making.specs.Rights.{rights_from, runs_with}
use Rattle.yd_making.specs.Blocks.{block_from}
use Rattle.yd_making.proofs.RightsLemmas.{IsAt, runs_are}
use Rattle.yd_making.proofs.GivenLemmas.{ids_in_range, units_below}

-- ---- what is known of an edit that is not refused

-- each kind in turn
pub record IsAccepted (basis : Basis) (steps : List Step) : Type 0 where
  pub places : Each (λ step. place_refusal basis step ≡ None) steps
  pub clocks : clock_refusal (basis.vector basis.client.0) steps ≡ None

pub accepted_parts : (basis : Basis) (steps : List Step) → refusal_of basis steps ≡ None → IsAccepted basis steps
accepted_parts basis steps e =
    let a = neither (first_of_steps (place_refusal basis) steps) (first_or (first_of_steps (removal_refusal basis) steps) (first_or (first_of_steps (pair_refusal basis) steps)
    (first_or (first_of_steps (waiting_refusal basis) steps) (clock_refusal (basis.vector basis.client.0) steps)))) e in
    let b = neither (first_of_steps (removal_refusal basis) steps) (first_or (first_of_steps (pair_refusal basis) steps)
    (first_or (first_of_steps (waiting_refusal basis) steps) (clock_refusal (basis.vector basis.client.0) steps))) a.1 in
    let c = neither (first_of_steps (pair_refusal basis) steps) (first_or (first_of_steps (waiting_refusal basis) steps) (clock_refusal (basis.vector basis.client.0) steps)) b.1 in
    let d = neither (first_of_steps (waiting_refusal basis) steps) (clock_refusal (basis.vector basis.client.0) steps) c.1 in
    record { places = no_step (place_refusal basis) steps a.0; clocks = d.1 }

held_or : (t : Bool) (refusal : Refusal) → ◌≡◌ {A = Option Refusal} (if t then None else Some refusal) None → t ≡ true
held_or true refusal e = refl
held_or false refusal e = absurd (not_some refusal e)

after_there : (units : List Operation) (after : Option Id) → after_refusal units after ≡ None → IfSome after (λ y. has_operation units y ≡ true)
after_there units None e = tt
after_there units (Some y) e = held_or (has_operation units y) (no_place y) e

-- each step that makes something is at its place
all_at : (basis : Basis) (steps : List Step) → Each IsProper steps → Each (λ step. place_refusal basis step ≡ None) steps → Each (IsAt basis.document.units) steps
all_at basis [] proper places = tt
all_at basis (make name after content ∷ steps) proper places = (
  (
    after_there (basis.document.units name) after (neither (parent_refusal basis (item_of_list name)) (after_refusal (basis.document.units name) after) places.0).1,
    proper.0.1,
  ),
  all_at basis steps proper.1 places.1,
)
all_at basis (remove spans ∷ steps) proper places = (tt, all_at basis steps proper.1 places.1)

in_range : (steps : List Step) → Each IsProper steps → Each MakesInRange steps
in_range [] proper = tt
in_range (make name after content ∷ steps) proper = ((proper.0.0, proper.0.1, proper.0.3), in_range steps proper.1)
in_range (remove spans ∷ steps) proper = (tt, in_range steps proper.1)

-- ---- the block

block_runs : (steps : List Step) (client : Client) (clock : ℕ) (lists : DocList → List Operation) →
    block_from client clock (map (λ r. item r) (runs_of client clock lists steps)) ≡ block_of_runs (runs_of client clock lists steps)
block_runs [] client clock lists = refl
block_runs (make name after content ∷ steps) client clock lists = refl
block_runs (remove spans ∷ steps) client clock lists = block_runs steps client clock lists

-- ---- lemmas for callers

module _ (client : Client) (s : StateValue) (sound : IsSound s) (steps : List Step) (proper : Each IsProper steps) (accepted : refusal_of (basis_in client s) steps ≡ None) where
  abbrev basis : Basis
  basis = basis_in client s

  pub made_update : (clock : ℕ) (rights : List (Option Id)) (structs : List StructValue) (blocks : List BlockValue) (deletes : List Span) → clock ≡ basis.vector client.0 →
      rights ≡ rights_from client clock basis.document.units [] steps → structs ≡ map (λ r. item r) (runs_with client clock rights steps) → blocks ≡ block_from client clock structs →
      deletes ≡ removed_by steps → ◌≡◌ {A = UpdateValue} (record { blocks = blocks; deletes = deletes }) (update_of_edit basis steps)
  made_update clock rights structs blocks deletes at found are one gone = λ i. record { blocks = same i; deletes = gone i }
    where
      runs_same : runs_with client clock rights steps ≡ runs_on basis steps
      runs_same = ap₂ (λ k (rs : List (Option Id)). runs_with client k rs steps) at (found ∙ ap (λ k. rights_from client k basis.document.units [] steps) at)
          ∙ runs_are client (basis.vector client.0) basis.document.units (units_below client s sound) steps (all_at basis steps proper (accepted_parts basis steps accepted).places)

      same : blocks ≡ block_of_runs (runs_on basis steps)
      same = one ∙ ap₂ (block_from client) at (are ∙ ap (map (λ r. item r)) runs_same) ∙ block_runs steps client (basis.vector client.0) basis.document.units

  pub made_valid : IsClient client → AreMaximal (removed_by steps) → IsValidUpdate (update_of_edit basis steps)
  made_valid is maximal = record {
    blocks = own_valid_blocks client (document_in s) (received_in s) steps sound.received (document_replica s sound) (ids_in_range client s sound) accepted
        (in_range steps proper) is;
    deletes = maximal;
  }
