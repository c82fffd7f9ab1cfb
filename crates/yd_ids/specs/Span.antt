-- Spans: their ids, and how two of them stand to each other.
use Rattle.std.specs.Prelude.{◌≡◌, ℕ, ◌+◌, ◌-◌, min, max, ◌<◌, ◌≤◌, ◌⊎◌, Bool, ◌&&◌, ◌||◌, not, nat_eq, nat_lt}
use Rattle.yd_ids.specs.declared.id.Id.{Id}
use Rattle.yd_ids.specs.declared.id.Span.{Span}

-- the id is one of the span's
abbrev pub InSpan : Span → Id → Type 0
InSpan span id = (span.client.0 ≡ id.client.0) × (span.clock ≤ id.clock) × (id.clock < span.clock + span.len)

-- the span ends below a clock of a client without touching it, where the ids of lesser clients stand below
abbrev pub EndsBelow : Span → ℕ → ℕ → Type 0
EndsBelow span client clock = (span.client.0 < client) ⊎ ((span.client.0 ≡ client) × (span.clock + span.len < clock))

-- the span ends there or above
abbrev pub Reaches : Span → ℕ → ℕ → Type 0
Reaches span client clock = (client < span.client.0) ⊎ ((span.client.0 ≡ client) × (clock ≤ span.clock + span.len))

-- one span ends where the other begins, or above
abbrev pub ReachesInto : Span → Span → Type 0
ReachesInto span next = Reaches span next.client.0 next.clock

-- whether the span ends below
abbrev pub ends_below : Span → ℕ → ℕ → Bool
ends_below span client clock = nat_lt span.client.0 client || (nat_eq span.client.0 client && nat_lt (span.clock + span.len) clock)

-- whether one span ends where the other begins, or above
abbrev pub reaches_into : Span → Span → Bool
reaches_into span next = not (ends_below span next.client.0 next.clock)

-- one span ends below the other's first id, and they do not touch
abbrev pub EndsBefore : Span → Span → Type 0
EndsBefore span next = EndsBelow span next.client.0 next.clock

-- one span begins where the other does, or before
abbrev pub BeginsBy : Span → Span → Type 0
BeginsBy span next = (span.client.0 < next.client.0) ⊎ ((span.client.0 ≡ next.client.0) × (span.clock ≤ next.clock))

-- the span without ids that stands at an id
abbrev pub start_of : Id → Span
start_of id = record { client = id.client; clock = id.clock; len = 0 }

-- from the first id of two spans of a client to their last
abbrev pub joined : Span → Span → Span
joined span next = record {
  client = span.client;
  clock = min span.clock next.clock;
  len = max (span.clock + span.len) (next.clock + next.len) - min span.clock next.clock;
}
