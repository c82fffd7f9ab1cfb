-- Small documents of which something was deleted or collected, and what is computed of them (own; which runs Yjs 13 deletes and collects is its own).
use Rattle.std.specs.Prelude.{◌≡◌, ℕ, pos, List, [], ◌∷◌, Some, None, map, filter, length}
use Rattle.yd_any.specs.Tree.{whole, no_trees, tree}
use Rattle.yd_ids.specs.declared.id.Id.{Id}
use Rattle.yd_ids.specs.declared.id.Span.{Span}
use Rattle.yd_ops.specs.declared.kinds.Kind.TheVariants.{Array}
use Rattle.yd_ops.specs.declared.lists.Parent.TheVariants.{Item}
use Rattle.yd_ops.specs.Value.{string, nested, any, deleted, item, gone, UpdateValue}
use Rattle.yd_ops.specs.Valid.{IsValidUpdate}
use Rattle.yd_ops.specs.Operation.{Operation, operations_of}
use Rattle.yd_ops.specs.Received.{Received, received_set}
use Rattle.yd_meaning.specs.Held.{held_set, held_clock, standing, waiting_counts}
use Rattle.yd_meaning.specs.Order.{list_of, order_of, AreHonest}
use Rattle.yd_meaning.specs.Deleted.{is_in_delete_set}
use Rattle.yd_meaning.specs.Document.{document_of}
use Rattle.yd_meaning.specs.Text.{live_units, shown_text}
use Rattle.yd_meaning.specs.Example.{first_id, first_update, in_root, in_array}

-- ---- what is counted

-- a client's unit with a clock
abbrev pub unit_id : ℕ → ℕ → Id
unit_id client clock = record { client = record { 0 = client }; clock = clock }

-- a client's units in a row
abbrev pub span_of : ℕ → ℕ → ℕ → Span
span_of client clock len = record { client = record { 0 = client }; clock = clock; len = len }

-- how many operations are held
abbrev pub held_count : Received → ℕ
held_count r = length (held_set r.operations)

-- how many of them are deleted
abbrev pub deleted_count : Received → ℕ
deleted_count r = length (filter (λ (o : Operation). is_in_delete_set r o.id) (held_set r.operations))

-- which of them stand
abbrev pub standing_ids : Received → List Id
standing_ids r = map (λ (o : Operation). o.id) (standing (held_set r.operations))

-- ---- a text that was deleted

-- client 1 put "abc" into the text "t"
abbrev pub abc_put : UpdateValue
abc_put = first_update 1 None (Some in_root) (string (97 ∷ 98 ∷ 99 ∷ []))

-- and an update spells the three units deleted
abbrev pub abc_deleted : UpdateValue
abc_deleted = first_update 1 None (Some in_root) (deleted 3)

-- in both orders the three units are deleted ones, which stand in their list
pub record AllDeleted : Type 0 where
  pub valid : IsValidUpdate abc_put × IsValidUpdate abc_deleted
  pub lowers : received_set (abc_put ∷ abc_deleted ∷ []) ≡ received_set (abc_deleted ∷ [])
  pub stays : received_set (abc_deleted ∷ abc_put ∷ []) ≡ received_set (abc_deleted ∷ [])
  pub operations : (received_set (abc_deleted ∷ [])).operations ≡ operations_of abc_deleted
  pub deletes : (received_set (abc_deleted ∷ [])).deletes ≡ span_of 1 0 3 ∷ []
  pub held : held_count (received_set (abc_deleted ∷ [])) ≡ 3
  pub all_deleted : deleted_count (received_set (abc_deleted ∷ [])) ≡ 3
  pub list : order_of (standing (held_set (received_set (abc_deleted ∷ [])).operations)) in_root ≡ unit_id 1 0 ∷ unit_id 1 1 ∷ unit_id 1 2 ∷ []
  pub honest : AreHonest (held_set (received_set (abc_deleted ∷ [])).operations)

-- ---- a text of which the middle was deleted

-- client 1's unit 1 is deleted, and the others are full
abbrev pub middle_deleted : UpdateValue
middle_deleted = record {
  blocks = record {
    client = record { 0 = 1 };
    clock = 0;
    structs = item (record { id = unit_id 1 0; left = None; right = None; list = Some in_root; content = string (97 ∷ []) })
        ∷ item (record { id = unit_id 1 1; left = Some (unit_id 1 0); right = None; list = None; content = deleted 1 })
        ∷ item (record { id = unit_id 1 2; left = Some (unit_id 1 1); right = None; list = None; content = string (99 ∷ []) }) ∷ [];
  } ∷ [];
  deletes = span_of 1 1 1 ∷ [];
}

-- it shows "ac", and so it does beside the text as it was
pub record MiddleDeleted : Type 0 where
  pub valid : IsValidUpdate middle_deleted
  pub shown : shown_text (document_of (received_set (middle_deleted ∷ []))) in_root ≡ 97 ∷ 99 ∷ []
  pub lowers : received_set (abc_put ∷ middle_deleted ∷ []) ≡ received_set (middle_deleted ∷ [])
  pub stays : received_set (middle_deleted ∷ abc_put ∷ []) ≡ received_set (middle_deleted ∷ [])

-- ---- a list that was deleted, with its unit gone

-- client 1 put an array into the array "r"
abbrev pub array_made : UpdateValue
array_made = first_update 1 None (Some in_array) (nested Array)

-- client 2 put 5 into that
abbrev pub five_put : UpdateValue
five_put = first_update 2 None (Some (record { parent = Item (first_id 1); key = None })) (any (tree (whole (pos 5)) no_trees))

-- client 3 put 6 behind it
abbrev pub six_put : UpdateValue
six_put = first_update 3 (Some (first_id 2)) None (any (tree (whole (pos 6)) no_trees))

-- a client's first unit is gone
abbrev pub gone_update : ℕ → List Span → UpdateValue
gone_update client deletes = record { blocks = record { client = record { 0 = client }; clock = 0; structs = gone 1 ∷ [] } ∷ []; deletes = deletes }

-- the array was deleted, and client 2's unit in it is gone
abbrev pub five_gone : UpdateValue
five_gone = gone_update 2 (span_of 1 0 1 ∷ [])

-- what is received of the array and of the gone unit
abbrev pub list_gone : Received
list_gone = received_set (array_made ∷ five_gone ∷ [])

-- in all orders the unit is gone; it is held and lost, the array is deleted, and nothing is shown
pub record ListGone : Type 0 where
  pub valid : IsValidUpdate array_made × IsValidUpdate five_put × IsValidUpdate five_gone
  pub full_first : received_set (array_made ∷ five_put ∷ five_gone ∷ []) ≡ list_gone
  pub gone_between : received_set (array_made ∷ five_gone ∷ five_put ∷ []) ≡ list_gone
  pub full_then_array : received_set (five_put ∷ array_made ∷ five_gone ∷ []) ≡ list_gone
  pub array_last : received_set (five_put ∷ five_gone ∷ array_made ∷ []) ≡ list_gone
  pub gone_first : received_set (five_gone ∷ array_made ∷ five_put ∷ []) ≡ list_gone
  pub gone_then_full : received_set (five_gone ∷ five_put ∷ array_made ∷ []) ≡ list_gone
  pub held : held_count list_gone ≡ 2
  pub all_deleted : deleted_count list_gone ≡ 2
  pub one_list : standing_ids list_gone ≡ first_id 1 ∷ []
  pub list : list_of (standing (held_set list_gone.operations)) (first_id 1) ≡ in_array
  pub live : live_units (document_of list_gone) in_array ≡ []
  pub honest : AreHonest (held_set list_gone.operations)
  pub vector : (held_clock (held_set list_gone.operations) 1 ≡ 1) × (held_clock (held_set list_gone.operations) 2 ≡ 1)

-- ---- a unit whose left origin is gone

-- what is received of the array, of the gone unit, and of the one behind it
abbrev pub origin_gone : Received
origin_gone = received_set (array_made ∷ five_gone ∷ six_put ∷ [])

-- the unit is held and lost, whatever comes first; and where it is gone too, no more is lost
pub record OriginGone : Type 0 where
  pub valid : IsValidUpdate six_put × IsValidUpdate (gone_update 3 [])
  pub six_first : received_set (six_put ∷ five_gone ∷ array_made ∷ []) ≡ origin_gone
  pub gone_first : received_set (five_gone ∷ six_put ∷ array_made ∷ []) ≡ origin_gone
  pub full_first : received_set (five_put ∷ six_put ∷ array_made ∷ five_gone ∷ []) ≡ origin_gone
  pub full_last : received_set (array_made ∷ five_gone ∷ six_put ∷ five_put ∷ []) ≡ origin_gone
  pub held : held_count origin_gone ≡ 3
  pub waiting : waiting_counts origin_gone ≡ record { structs = 0; deletes = 0 }
  pub all_deleted : deleted_count origin_gone ≡ 3
  pub one_list : standing_ids origin_gone ≡ first_id 1 ∷ []
  pub honest : AreHonest (held_set origin_gone.operations)
  pub held_still : held_count (received_set (array_made ∷ five_gone ∷ six_put ∷ gone_update 3 [] ∷ [])) ≡ 3
  pub deleted_still : deleted_count (received_set (array_made ∷ five_gone ∷ six_put ∷ gone_update 3 [] ∷ [])) ≡ 3
  pub one_list_still : standing_ids (received_set (array_made ∷ five_gone ∷ six_put ∷ gone_update 3 [] ∷ [])) ≡ first_id 1 ∷ []
