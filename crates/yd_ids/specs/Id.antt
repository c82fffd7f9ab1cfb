-- Which clients, clocks, ids and spans there are: their numbers are at most 2^53 - 1 (lib0, the integers that are safe).
use Rattle.std.specs.Prelude.{ℕ, ◌+◌, ◌^◌, ◌<◌}
use Rattle.yd_ids.specs.declared.id.Client.{Client}
use Rattle.yd_ids.specs.declared.id.Id.{Id}
use Rattle.yd_ids.specs.declared.id.Span.{Span}

-- a client's number is below 2^53
abbrev pub IsClient : Client → Type 0
IsClient client = client.0 < 2 ^ 53

-- a clock is below 2^53
abbrev pub IsClock : ℕ → Type 0
IsClock clock = clock < 2 ^ 53

-- an id's client and clock are below 2^53
pub record IsId (id : Id) : Type 0 where
  pub client : IsClient id.client
  pub clock : IsClock id.clock

-- a span's client is below 2^53, and so is the clock behind its last
pub record IsSpan (span : Span) : Type 0 where
  pub client : IsClient span.client
  pub end : IsClock (span.clock + span.len)
