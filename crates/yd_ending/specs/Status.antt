-- The statuses by name (own).
use Rattle.std.specs.Prelude.{◌≡◌, ◌⊎◌, ℕ, List, [], ◌∷◌}

-- what was asked for was done
abbrev pub done : ℕ
done = 0

-- an input is refused
abbrev pub refused : ℕ
refused = 1

-- the words are of no form
abbrev pub wrong_use : ℕ
wrong_use = 2

-- the library failed
abbrev pub read_fault : ℕ
read_fault = 3

-- out failed
abbrev pub write_fault : ℕ
write_fault = 4

-- memory is wanted
abbrev pub no_memory : ℕ
no_memory = 5

-- the network failed
abbrev pub link_fault : ℕ
link_fault = 6

-- a file has too many bytes
abbrev pub too_large : ℕ
too_large = 7

-- no step 2 came
abbrev pub no_step_2 : ℕ
no_step_2 = 8

-- the number is one of these
abbrev pub IsOneOf : ℕ → List ℕ → Type 0
IsOneOf n [] = ⊥
IsOneOf n (m ∷ others) = (n ≡ m) ⊎ IsOneOf n others
