-- When two vectors have the same clocks of the three clients.
use Rattle.std.specs.Prelude.{◌≡◌, ℕ, List}
use Rattle.yd_ids.specs.declared.id.Client.{Client}
use Rattle.yd_ids.specs.Vector.{clock_of}

-- those of the clients 1, 2 and 3
pub record HaveSameClocks (one other : List (Client × ℕ)) : Type 0 where
  pub first : clock_of one 1 ≡ clock_of other 1
  pub second : clock_of one 2 ≡ clock_of other 2
  pub third : clock_of one 3 ≡ clock_of other 3
