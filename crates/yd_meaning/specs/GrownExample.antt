-- Small lists that grew by scans, computed (own; where the scan puts a unit is Yjs 13).
use Rattle.std.specs.Prelude.{◌≡◌, List, [], ◌∷◌}
use Rattle.yd_ids.specs.declared.id.Id.{Id}
use Rattle.yd_ops.specs.Operation.{Operation}
use Rattle.yd_ops.specs.Received.{received_set}
use Rattle.yd_meaning.specs.Held.{held_set, standing}
use Rattle.yd_meaning.specs.Order.{order_of}
use Rattle.yd_meaning.specs.Example.{first_id, in_root, origin_put, follower_put, both_first}
use Rattle.yd_meaning.specs.Grown.{IsGrown}

-- what stands where client 2 put "b" behind the "a" of client 1
abbrev pub followed : List Operation
followed = standing (held_set (received_set (origin_put ∷ follower_put ∷ [])).operations)

-- what stands where client 1 put "a", and then "b" as if the text were empty still, which breaks the edit rules
abbrev pub both_at_front : List Operation
both_at_front = standing (held_set (received_set (both_first ∷ [])).operations)

-- client 1's second unit
abbrev pub second_id : Id
second_id = record { client = record { 0 = 1 }; clock = 1 }

-- a list that keeps the edit rules grew into the origin order; one that breaks them grew, too, and into another order
pub record GrownLists : Type 0 where
  pub kept : IsGrown followed in_root (first_id 1 ∷ first_id 2 ∷ [])
  pub kept_order : order_of followed in_root ≡ first_id 1 ∷ first_id 2 ∷ []
  pub broken : IsGrown both_at_front in_root (second_id ∷ first_id 1 ∷ [])
  pub broken_order : order_of both_at_front in_root ≡ first_id 1 ∷ second_id ∷ []
