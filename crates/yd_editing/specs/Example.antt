-- Small edits, and what is computed of them (own; the bytes of the first three are those of Yjs 13's formats).
use Rattle.std.specs.Prelude.{◌≡◌, ℕ, true, List, [], ◌∷◌, Option, Some, None, map}
use Rattle.yd_ids.specs.declared.id.Client.{Client}
use Rattle.yd_ids.specs.declared.id.Id.{Id}
use Rattle.yd_ids.specs.declared.id.Span.{Span}
use Rattle.yd_any.specs.Tree.{null, flag}
use Rattle.yd_ops.specs.declared.lists.List.{List as DocList}
use Rattle.yd_ops.specs.declared.lists.Parent.TheVariants.{Root, Item}
use Rattle.yd_ops.specs.Operation.{Operation}
use Rattle.yd_ops.specs.Value.{ContentValue, string, format, StructValue, item, UpdateValue}
use Rattle.yd_ops.specs.Received.{Received, received_set, received_after}
use Rattle.yd_meaning.specs.Held.{held_set}
use Rattle.yd_meaning.specs.Order.{order_of}
use Rattle.yd_meaning.specs.Document.{document_of}
use Rattle.yd_meaning.specs.Text.{shown_text}
use Rattle.yd_meaning.specs.Collected.{unit_id}
use Rattle.yd_meaning.specs.Example.{first_update, first_id, in_root}
use Rattle.yd_editing.specs.Step.{Step, make, remove, no_place, not_held, inside_pair, own_waiting, past_end}
use Rattle.yd_editing.specs.Basis.{basis_of}
use Rattle.yd_editing.specs.Made.{update_of_edit, lists_after}
use Rattle.yd_editing.specs.Refused.{refusal_of}
use Rattle.yd_editing.specs.TextLaw.{Valued, valued_units}
use Rattle.yd_editing.specs.TextEdit.{insert_steps, delete_steps, format_steps, insert_refusal, delete_refusal}

-- ---- words

abbrev pub client_of : ℕ → Client
client_of client = record { 0 = client }

abbrev pub run_at : Id → Option Id → Option Id → Option DocList → ContentValue → StructValue
run_at id left right list content = item (record { id = id; left = left; right = right; list = list; content = content })

-- the update of one client with structs from a clock on, and deletions
abbrev pub update_from : ℕ → ℕ → List StructValue → List Span → UpdateValue
update_from client clock structs deletes = record { blocks = record { client = client_of client; clock = clock; structs = structs } ∷ []; deletes = deletes }

-- the key "bold"
abbrev pub bold : List ℕ
bold = 98 ∷ 111 ∷ 108 ∷ 100 ∷ []

-- ---- an insertion, a format and a deletion

-- clients 1 and 2 put "a" and "b" into the text "t"
abbrev pub start : Received
start = received_set (first_update 1 None (Some in_root) (string (97 ∷ [])) ∷ first_update 2 None (Some in_root) (string (98 ∷ [])) ∷ [])

-- client 3 inserts "XY" at 1
abbrev pub inserted : UpdateValue
inserted = update_of_edit (basis_of (client_of 3) start) (insert_steps (document_of start) in_root 1 (string (88 ∷ 89 ∷ [])))

abbrev pub with_inserted : Received
with_inserted = received_after start inserted

-- makes the first two units bold
abbrev pub formatted : UpdateValue
formatted = update_of_edit (basis_of (client_of 3) with_inserted) (format_steps (document_of with_inserted) in_root 0 2 bold (flag true))

abbrev pub with_formatted : Received
with_formatted = received_after with_inserted formatted

-- and deletes the fourth
abbrev pub shortened : UpdateValue
shortened = update_of_edit (basis_of (client_of 3) with_formatted) (delete_steps (document_of with_formatted) in_root 3 1)

-- what each of the three edits answers, and the text in the end
pub record ThreeEdits : Type 0 where
  pub insertion : inserted ≡ update_from 3 0 (run_at (unit_id 3 0) (Some (unit_id 1 0)) (Some (unit_id 2 0)) None (string (88 ∷ 89 ∷ [])) ∷ []) []
  pub format : formatted ≡ update_from 3 2 (
      run_at (unit_id 3 2) None (Some (unit_id 1 0)) None (format bold (flag true))
      ∷ run_at (unit_id 3 3) (Some (unit_id 3 0)) (Some (unit_id 3 1)) None (format bold null)
      ∷ []
      ) []
  pub deletion : shortened ≡ record { blocks = []; deletes = record { client = client_of 2; clock = 0; len = 1 } ∷ [] }
  pub refused : insert_refusal (basis_of (client_of 3) start) in_root 9 (string (122 ∷ [])) ≡ Some (past_end 2)
  pub nothing_refused : insert_refusal (basis_of (client_of 3) start) in_root 9 (string []) ≡ Some (past_end 2)
  pub done : insert_refusal (basis_of (client_of 3) start) in_root 1 (string (88 ∷ 89 ∷ [])) ≡ None
  pub shown : shown_text (document_of (received_after with_formatted shortened)) in_root ≡ 97 ∷ 88 ∷ 89 ∷ []
  pub bold_ones : map (λ (u : Valued). u.value) (valued_units bold (received_after with_formatted shortened) in_root) ≡ flag true ∷ flag true ∷ null ∷ []

-- ---- a pair, and what waits

-- client 1 put one character of two units into the text "t"
abbrev pub pair_put : Received
pair_put = received_set (first_update 1 None (Some in_root) (string (0xD83D ∷ 0xDE00 ∷ [])) ∷ [])

-- units of client 1 from clock 1 on came without the first
abbrev pub gap_there : Received
gap_there = received_set (update_from 1 1 (run_at (unit_id 1 1) (Some (unit_id 1 0)) None None (string (98 ∷ 99 ∷ [])) ∷ []) [] ∷ [])

-- the text "u", and a list under an item that is not there
abbrev pub in_other : DocList
in_other = record { parent = Root (117 ∷ []); key = None }

abbrev pub in_missing : DocList
in_missing = record { parent = Item (unit_id 7 5); key = None }

-- a pair is not parted, an own client that waits makes nothing but may remove, and all steps are asked for one kind first
pub record SomeRefusals : Type 0 where
  pub index : insert_refusal (basis_of (client_of 3) pair_put) in_root 1 (string (122 ∷ [])) ≡ Some (inside_pair 1)
  pub removal : delete_refusal (basis_of (client_of 3) pair_put) in_root 0 1 ≡ Some (inside_pair 1)
  pub place : refusal_of (basis_of (client_of 3) pair_put) (make in_root (Some (unit_id 1 0)) (string (122 ∷ [])) ∷ []) ≡ Some (inside_pair 0)
  pub waits : insert_refusal (basis_of (client_of 1) gap_there) in_other 0 (string (122 ∷ [])) ≡ Some (own_waiting 1)
  pub nothing_made : insert_refusal (basis_of (client_of 1) gap_there) in_other 0 (string []) ≡ None
  pub parent : refusal_of (basis_of (client_of 3) pair_put) (make in_missing None (string (122 ∷ [])) ∷ []) ≡ Some (no_place (unit_id 7 5))
  pub kinds : refusal_of (basis_of (client_of 3) pair_put)
      (make in_root (Some (unit_id 1 0)) (string (122 ∷ [])) ∷ remove (record { client = client_of 1; clock = 1; len = 3 } ∷ []) ∷ make in_root (Some (unit_id 9 9))
      (string (122 ∷ [])) ∷ [])
      ≡ Some (no_place (unit_id 9 9))
  pub held : refusal_of (basis_of (client_of 3) pair_put)
      (make in_root (Some (unit_id 1 0)) (string (122 ∷ [])) ∷ remove (record { client = client_of 1; clock = 1; len = 3 } ∷ []) ∷ []) ≡ Some (not_held (unit_id 1 2))

-- ---- two steps with one place

-- client 3 puts "xy" behind client 1's unit, and then "z" behind the same unit
abbrev pub at_one_place : List Step
at_one_place = make in_root (Some (first_id 1)) (string (120 ∷ 121 ∷ [])) ∷ make in_root (Some (first_id 1)) (string (122 ∷ [])) ∷ []

abbrev pub twice_there : UpdateValue
twice_there = update_of_edit (basis_of (client_of 3) start) at_one_place

-- the second run's right origin is the first unit of the run before it, so it stands between this and the place
pub record TwoAtOnePlace : Type 0 where
  pub update : twice_there ≡ update_from 3 0 (
      run_at (unit_id 3 0) (Some (unit_id 1 0)) (Some (unit_id 2 0)) None (string (120 ∷ 121 ∷ []))
      ∷ run_at (unit_id 3 2) (Some (unit_id 1 0)) (Some (unit_id 3 0)) None (string (122 ∷ []))
      ∷ []
      ) []
  pub order : order_of (held_set (received_after start twice_there).operations) in_root ≡ unit_id 1 0 ∷ unit_id 3 2 ∷ unit_id 3 0 ∷ unit_id 3 1 ∷ unit_id 2 0 ∷ []
  pub evolved : map (λ (o : Operation). o.id) (lists_after (client_of 3) 0 (document_of start).units at_one_place in_root)
      ≡ order_of (held_set (received_after start twice_there).operations) in_root
  pub shown : shown_text (document_of (received_after start twice_there)) in_root ≡ 97 ∷ 122 ∷ 120 ∷ 121 ∷ 98 ∷ []
