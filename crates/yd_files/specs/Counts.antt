-- How a count of faults stood before, and stands after (own).
use Rattle.std.specs.Prelude.{ℕ}
use Rattle.yd_world.specs.Faults.{Rose}

-- how a count of faults stood before, and stands after
pub record Count : Type 0 where
  pub before : ℕ
  pub now : ℕ

-- the count that was so, and is so
abbrev pub count_of : ℕ → ℕ → Count
count_of before now = record { before = before; now = now }

-- the count rose
abbrev pub RoseIn : Count → Type 0
RoseIn count = Rose count.before count.now
