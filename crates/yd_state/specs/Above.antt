-- Spans from the clocks of a state vector on (own).
use Rattle.std.specs.Prelude.{ℕ, ◌+◌, ◌-◌, min, max, List, map}
use Rattle.yd_ids.specs.declared.id.Span.{Span}

-- the clock from which a span is not below another one: its own, or that, and no more than its end
abbrev pub clock_above : Span → ℕ → ℕ
clock_above span clock = min (span.clock + span.len) (max span.clock clock)

-- the part of a span from its client's clock on
abbrev pub span_above : (ℕ → ℕ) → Span → Span
span_above clocks span = record {
  client = span.client;
  clock = clock_above span (clocks span.client.0);
  len = span.clock + span.len - clock_above span (clocks span.client.0);
}

-- those of spans
abbrev pub spans_above : (ℕ → ℕ) → List Span → List Span
spans_above clocks spans = map (span_above clocks) spans
