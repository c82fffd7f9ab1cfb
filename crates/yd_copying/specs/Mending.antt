-- A pair at a place of a text.
use Rattle.std.specs.Prelude.{ℕ, zero, suc, Bool, false, ◌&&◌, List, [], ◌∷◌}
use Rattle.yd_ops.specs.Pairs.{is_high, is_low}

-- whether the unit at a place is a first half, and the next one a second half
abbrev pub is_pair_at : List ℕ → ℕ → Bool
is_pair_at [] at = false
is_pair_at (u ∷ []) zero = false
is_pair_at (u ∷ v ∷ us) zero = is_high u && is_low v
is_pair_at (u ∷ us) (suc at) = is_pair_at us at
