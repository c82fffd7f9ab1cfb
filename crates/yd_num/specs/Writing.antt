-- How fields are written: each number in the fewest bytes (lib0, encoding).
use Rattle.std.specs.Prelude.{ℕ, zero, suc, ◌+◌, ◌/◌, ◌%◌, List, [], ◌∷◌, ◌++◌, length, nat_lt, if◌then◌else◌}
use Rattle.yd_num.specs.declared.signed.Signed.{Signed}

-- the number in groups of seven bits, as few as it needs and at most so many; each but the last says that more follow
unfoldable pub shortest_groups : ℕ → ℕ → List ℕ
shortest_groups zero v = []
shortest_groups (suc most) v = if nat_lt v 128 then v ∷ [] else (v % 128 + 128) ∷ shortest_groups most (v / 128)

-- an unsigned number
unfoldable pub shortest : ℕ → List ℕ
shortest v = shortest_groups 8 v

-- a signed number's sign, and its low six bits
abbrev pub first_bits : Signed → ℕ
first_bits s = s.size % 64 + (if s.negative then 64 else 0)

-- a signed number: these, and then the rest as an unsigned number, where there is a rest
unfoldable pub shortest_signed : Signed → List ℕ
shortest_signed s = if nat_lt s.size 64 then first_bits s ∷ [] else (first_bits s + 128) ∷ shortest (s.size / 64)

-- a byte string, or a text by its bytes: how many they are, and then they
abbrev pub shortest_blob : List ℕ → List ℕ
shortest_blob blob = shortest (length blob) ++ blob
