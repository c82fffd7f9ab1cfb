-- The draws of the generator: numbers that follow one another from a first state, the same at each run (own; the numbers are those of ISO C's example of rand).
use Rattle.std.specs.Prelude.{ℕ, ◌+◌, ◌*◌, ◌/◌, ◌%◌, ◌^◌}
use Rattle.yd_generator.specs.declared.draws.Draws.{Draws}

-- the state after one more draw
abbrev pub next_state : ℕ → ℕ
next_state s = (1103515245 * s + 12345) % 2 ^ 31

-- what a draw gives, by the state that it leads to
abbrev pub drawn : ℕ → ℕ
drawn s = s / 65536

-- the three draws that follow a state, and the state behind them
abbrev pub draws_from : ℕ → Draws
draws_from s = record {
  x = drawn (next_state s);
  y = drawn (next_state (next_state s));
  z = drawn (next_state (next_state (next_state s)));
  state = next_state (next_state (next_state s));
}
