-- What stands for the keys that are known.
use Rattle.std.specs.Prelude.{◌≡◌, ℕ, List, map, Option, Some, None}
use Rattle.std.specs.Borrow.{Bor}
use Rattle.yd_v2.specs.Plan.{key_of_number}

-- the texts of the keys
abbrev pub keys_of : List (Bor (List ℕ)) → List (List ℕ)
keys_of known = map (λ key. key.now) known

-- the key that is lent is that of the number, or none is known
abbrev pub IsKeyOf : List (List ℕ) → ℕ → Option (Bor (List ℕ)) → Type 0
IsKeyOf known number (Some key) = key_of_number known number ≡ Some key.now
IsKeyOf known number None = key_of_number known number ≡ None
