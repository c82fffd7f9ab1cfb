-- How far updates reach, by the spans of their units (own).
use Rattle.std.specs.Prelude.{◌≡◌, ℕ, ◌<◌, List, [], ◌∷◌, true, false, nat_eq, if◌then◌else◌}
use Rattle.yd_ids.specs.Vector.{clock_of, with_clock}
use Rattle.yd_ids.specs.declared.id.Client.{Client}
use Rattle.yd_ids.specs.declared.id.Id.{Id}
use Rattle.yd_ids.specs.declared.id.Span.{Span}
use Rattle.yd_ops.specs.Operation.{Operation}
use Rattle.yd_ops.specs.Received.{has_operation}
use Rattle.yd_grouping.specs.Groups.{Group, size_of, start_of}

-- the ids of a group
abbrev pub span_of : Group → Span
span_of group = record { client = (start_of group).client; clock = (start_of group).clock; len = size_of group }

-- those of some groups
abbrev pub spans_of : List Group → List Span
spans_of [] = []
spans_of (group ∷ groups) = span_of group ∷ spans_of groups

-- the vector with one more span: where that begins at 0, its client's clock is raised to its end
abbrev pub started_by : Span → List (Client × ℕ) → List (Client × ℕ)
started_by span vector = if nat_eq span.clock 0 then with_clock (span.client, span.len) vector else vector

-- the vector with more spans, one after another
abbrev pub all_started : List Span → List (Client × ℕ) → List (Client × ℕ)
all_started [] vector = vector
all_started (span ∷ spans) vector = all_started spans (started_by span vector)

-- the id of a client's number and a clock
abbrev pub id_at : ℕ → ℕ → Id
id_at client clock = record { client = record { 0 = client }; clock = clock }

-- operations have the client's clocks up to this one, and not this one
pub record IsReach (os : List Operation) (client clock : ℕ) : Type 0 where
  pub missing : has_operation os (id_at client clock) ≡ false
  pub there : (below : ℕ) → below < clock → has_operation os (id_at client below) ≡ true

-- the vector has of each client the clock that operations reach
abbrev pub Reaches : List Operation → List (Client × ℕ) → Type 0
Reaches os vector = (client : ℕ) → IsReach os client (clock_of vector client)
