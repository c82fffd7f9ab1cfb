-- What a sink in memory is: the bytes that it took, its limit, and its plan (own).
use Rattle.std.specs.Prelude.{◌≡◌, ℕ, ◌-◌, min, Bool, false, ◌||◌, nat_le, List, [], length, Option, Some, None}
use Rattle.yd_world.specs.Plan.{PlanState, no_calls, is_due}

-- the bytes that it took, how many it takes in all where there is a limit, and the plan
pub record SinkState : Type 0 where
  pub bytes : List ℕ
  pub limit : Option ℕ
  pub plan : PlanState

-- it took nothing, and no call is to fail
abbrev pub no_bytes : SinkState
no_bytes = record { bytes = []; limit = None; plan = no_calls }

-- the limit is reached by so many bytes
abbrev pub is_full : Option ℕ → ℕ → Bool
is_full None taken = false
is_full (Some limit) taken = nat_le limit taken

-- how many of a piece's bytes fit under the limit, beside those that are taken
abbrev pub room_for : Option ℕ → ℕ → ℕ → ℕ
room_for None taken count = count
room_for (Some limit) taken count = min count (limit - taken)

-- the call is to fail, or the limit is reached
abbrev pub fails_to_write : SinkState → Bool
fails_to_write sink = is_due sink.plan || is_full sink.limit (length sink.bytes)

-- no call is to fail, and there is no limit
abbrev pub IsCalm : SinkState → Type 0
IsCalm sink = (sink.plan.failures ≡ []) × (sink.limit ≡ None)
