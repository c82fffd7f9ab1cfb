-- Numbers in a list, and where each of them stands last (own).
use Rattle.std.specs.Prelude.{ℕ, suc, List, [], ◌∷◌, Option, Some, None, nat_eq, if◌then◌else◌}

-- the place, counted behind one more
abbrev pub one_later : Option ℕ → Option ℕ
one_later None = None
one_later (Some n) = Some (suc n)

-- the first of two places, where there is one, or else the second
abbrev pub place_or : Option ℕ → Option ℕ → Option ℕ
place_or None other = other
place_or (Some n) other = Some n

-- the last place of a code in a list
abbrev pub last_place : ℕ → List ℕ → Option ℕ
last_place code [] = None
last_place code (c ∷ cs) = place_or (one_later (last_place code cs)) (if nat_eq c code then Some 0 else None)
