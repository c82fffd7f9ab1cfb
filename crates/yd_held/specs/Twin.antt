-- The clocks of clients kept twice (own).
use Rattle.std.specs.Prelude.{◌≡◌, ℕ, List, Option, IfSome}
use Rattle.yd_ids.specs.declared.id.Client.{Client}

-- the twin has the same clocks; where there is none, nothing is asked
abbrev pub IsTwinOf : List (Client × ℕ) → Option (List (Client × ℕ)) → Type 0
IsTwinOf vector twin = IfSome twin (λ t. t ≡ vector)
