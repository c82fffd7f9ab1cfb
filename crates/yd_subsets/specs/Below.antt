-- Spans below the clocks of a state vector (own).
use Rattle.std.specs.Prelude.{ℕ, ◌-◌, min, List, map, nat_lt, if◌then◌else◌}
use Rattle.yd_ids.specs.declared.id.Span.{Span}

-- the part of a span below its client's clock
abbrev pub span_below : (ℕ → ℕ) → Span → Span
span_below clocks span = record {
  client = span.client;
  clock = span.clock;
  len = if nat_lt span.clock (clocks span.client.0) then min span.len (clocks span.client.0 - span.clock) else 0;
}

-- those of spans
abbrev pub spans_below : (ℕ → ℕ) → List Span → List Span
spans_below clocks spans = map (span_below clocks) spans
