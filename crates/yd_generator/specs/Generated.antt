-- What three replicas have received behind the steps of the generator: edits by draws, and replies (own).
use Rattle.std.specs.Prelude.{ℕ, zero, suc, ◌+◌, ◌%◌, Bool, ◌||◌, not, List, [], ◌∷◌, filter, length, None, nat_eq, if◌then◌else◌}
use Rattle.yd_ids.specs.declared.id.Client.{Client}
use Rattle.yd_ids.specs.declared.id.Span.{Span}
use Rattle.yd_ops.specs.declared.lists.List.{List as DocList}
use Rattle.yd_ops.specs.declared.lists.Parent.TheVariants.{Root}
use Rattle.yd_ops.specs.Value.{ContentValue, string}
use Rattle.yd_ops.specs.Received.{Received, nothing_received, received_after}
use Rattle.yd_meaning.specs.Held.{held_set, held_clock}
use Rattle.yd_meaning.specs.Deleted.{is_in_delete_set}
use Rattle.yd_meaning.specs.Document.{Document, document_of}
use Rattle.yd_grouping.specs.Merged.{reply_of}
use Rattle.yd_editing.specs.Law.{after_edit}
use Rattle.yd_editing.specs.Step.{Step}
use Rattle.yd_editing.specs.TextEdit.{counted_units, insert_steps, delete_steps, ids_of_units}
use Rattle.yd_generator.specs.Draws.{draws_from}
use Rattle.yd_generator.specs.declared.draws.Draws.{Draws}

-- ---- edits

-- the text of the root `g`
abbrev pub text_list : DocList
text_list = record { parent = Root (0x67 ∷ []); key = None }

-- the letter with a number, from `a` to `z`
abbrev pub letter : ℕ → ContentValue
letter z = string ((0x61 + z % 26) ∷ [])

-- whether an edit inserts: there is nothing to delete, or the first draw says so
abbrev pub inserts : ℕ → ℕ → Bool
inserts len x = nat_eq len 0 || not (nat_eq (x % 4) 3)

-- the steps of an edit of a text with so many units: a letter is inserted, or one unit is deleted
abbrev pub steps_at : Document → ℕ → Draws → List Step
steps_at document len d =
    if inserts len d.x then insert_steps document text_list (d.y % (len + 1)) (letter d.z)
    else delete_steps document text_list (d.y % len) 1

-- those of the document's text
abbrev pub steps_drawn : Draws → Document → List Step
steps_drawn d document = steps_at document (length (counted_units document text_list)) d

-- what a client has received behind its edit
abbrev pub edited : Client → Draws → Received → Received
edited client d r = after_edit client r (steps_drawn d (document_of r))

-- ---- replies

-- the delete set of what is received, as maximal spans
abbrev pub delete_set_of : Received → List Span
delete_set_of r = ids_of_units (filter (λ o. is_in_delete_set r o.id) r.operations)

-- what is received with the reply of another
abbrev pub passed : Received → Received → Received
passed from to = received_after to (reply_of from (delete_set_of from) (held_clock (held_set to.operations)))

-- each tenth step passes a reply on
abbrev pub passed_at : ℕ → Received → Received → Received
passed_at step from to = if nat_eq (step % 10) 0 then passed from to else to

-- ---- steps

-- what three replicas have received
pub record Three : Type 0 where
  pub first : Received
  pub second : Received
  pub third : Received

-- a step at which the replica with a number, from 0, edits by draws, and may pass its reply to the next one
abbrev pub turned : ℕ → ℕ → Draws → Three → Three
turned zero step d g = record {
  first = edited (record { 0 = 1 }) d g.first;
  second = passed_at step (edited (record { 0 = 1 }) d g.first) g.second;
  third = g.third;
}
turned (suc zero) step d g = record {
  first = g.first;
  second = edited (record { 0 = 2 }) d g.second;
  third = passed_at step (edited (record { 0 = 2 }) d g.second) g.third;
}
turned (suc (suc number)) step d g = record {
  first = passed_at step (edited (record { 0 = 3 }) d g.third) g.first;
  second = g.second;
  third = edited (record { 0 = 3 }) d g.third;
}

-- the state of the draws, and what three replicas have received
pub record Generation : Type 0 where
  pub state : ℕ
  pub three : Three

-- one more step
abbrev pub stepped : ℕ → Generation → Generation
stepped step g = record { state = (draws_from g.state).state; three = turned (step % 3) step (draws_from g.state) g.three }

-- before the first step
abbrev pub first_generation : Generation
first_generation = record { state = 1; three = record { first = nothing_received; second = nothing_received; third = nothing_received } }

-- behind so many steps
abbrev pub generation : ℕ → Generation
generation zero = first_generation
generation (suc n) = stepped (suc n) (generation n)

-- ---- the end

-- a round of replies: from the first to the second, from there to the third, and back to the first
abbrev pub round_from : Received → Received → Received → Three
round_from first second third = record { first = passed third first; second = second; third = third }

abbrev pub second_round : Received → Received → Received → Three
second_round first second third = round_from first second (passed second third)

abbrev pub rounded : Three → Three
rounded g = second_round g.first (passed g.first g.second) g.third

-- behind the steps and two rounds
abbrev pub ended : ℕ → Three
ended n = rounded (rounded (generation n).three)
