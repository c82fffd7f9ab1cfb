-- A span that another one is cut out of: what stands below it, and what behind it (own).
use Rattle.std.specs.Prelude.{ℕ, ◌+◌, ◌-◌, min, max, ◌&&◌, List, [], ◌∷◌, ◌++◌, nat_eq, nat_lt, if◌then◌else◌}
use Rattle.yd_ids.specs.declared.id.Span.{Span}

-- the part of a span below another one of its client; of another client there is none
abbrev pub below_cut : Span → Span → Span
below_cut span cut = record {
  client = span.client;
  clock = span.clock;
  len = if nat_eq span.client.0 cut.client.0 && nat_lt span.clock cut.clock then min span.len (cut.clock - span.clock) else 0;
}

-- the clock at which the part behind another one begins
abbrev pub clock_behind : Span → Span → ℕ
clock_behind span cut = min (span.clock + span.len) (max span.clock (cut.clock + cut.len))

-- the part of a span behind another one of its client; beside one of another client it is whole
abbrev pub behind_cut : Span → Span → Span
behind_cut span cut =
    if nat_eq span.client.0 cut.client.0 then record { client = span.client; clock = clock_behind span cut; len = span.clock + span.len - clock_behind span cut }
    else span

-- spans with one more, if it has an id
abbrev pub with_some : List Span → Span → List Span
with_some spans span = if nat_lt 0 span.len then spans ++ span ∷ [] else spans
