-- The reach of an update: of each client the smallest clock that none of its operations has (Yjs 13, encodeStateVectorFromUpdate).
use Rattle.std.specs.Prelude.{ℕ, zero, suc, ◌+◌, max, List, [], ◌∷◌, map, nat_eq, if◌then◌else◌}
use Rattle.yd_ids.specs.Vector.{vector_of_entries}
use Rattle.yd_ids.specs.declared.id.Client.{Client}
use Rattle.yd_ops.specs.Operation.{Operation, operations_of}
use Rattle.yd_ops.specs.Value.{UpdateValue}
use Rattle.yd_ops.specs.Received.{has_operation}

-- the clock behind all operations of a client
abbrev pub clock_behind : List Operation → ℕ → ℕ
clock_behind [] client = 0
clock_behind (o ∷ os) client = if nat_eq o.id.client.0 client then max (o.id.clock + 1) (clock_behind os client) else clock_behind os client

-- the first clock that no operation of the client has, from a clock on; the search ends after so many steps
abbrev pub first_missing : List Operation → ℕ → ℕ → ℕ → ℕ
first_missing os client clock zero = clock
first_missing os client clock (suc n) = if has_operation os (record { client = record { 0 = client }; clock = clock }) then first_missing os client (suc clock) n else clock

-- the clock that a client reaches from 0 without a gap
abbrev pub reach : List Operation → ℕ → ℕ
reach os client = first_missing os client 0 (clock_behind os client)

-- the reach of an update, as a vector; a client that reaches 0 is left out
abbrev pub reach_of : UpdateValue → List (Client × ℕ)
reach_of update = vector_of_entries (map (λ (o : Operation). (o.id.client, reach (operations_of update) o.id.client.0)) (operations_of update))
