-- Which part of a span is held (own).
use Rattle.std.specs.Prelude.{ℕ, ◌-◌, min}
use Rattle.yd_ids.specs.declared.id.Span.{Span}

-- the span's ids below a clock
abbrev pub span_below : Span → ℕ → Span
span_below span clock = record { client = span.client; clock = span.clock; len = min span.len (clock - span.clock) }
