-- The code of a list's name: a number that a bisection finds (own).
use Rattle.std.specs.Prelude.{ℕ, ◌+◌, ◌*◌, ◌%◌, List, [], ◌∷◌, Option, Some, None}
use Rattle.yd_ops.specs.declared.lists.List.{List as DocList}
use Rattle.yd_ops.specs.declared.lists.Parent.{Parent}
use Rattle.yd_ops.specs.declared.lists.Parent.TheVariants.{Root, Item}

-- codes are below this prime number
abbrev pub bound : ℕ
bound = 4294967291

-- the code with a byte more
abbrev pub code_with : ℕ → ℕ → ℕ
code_with code byte = (code * 31 + byte) % bound

-- and with bytes more
abbrev pub code_of_bytes : ℕ → List ℕ → ℕ
code_of_bytes code [] = code
code_of_bytes code (byte ∷ bytes) = code_of_bytes (code_with code byte) bytes

-- the code of a parent: of the name of a root, or of the id of an item
abbrev pub code_of_parent : Parent → ℕ
code_of_parent (Root name) = code_of_bytes 7 name
code_of_parent (Item id) = code_with (id.client.0 % bound) (id.clock % bound)

-- the code with that of a key, where there is one
abbrev pub code_with_key : ℕ → Option (List ℕ) → ℕ
code_with_key code None = code
code_with_key code (Some key) = code_of_bytes (code_with code 1) key

-- the code of a list
abbrev pub code_of_list : DocList → ℕ
code_of_list list = code_with_key (code_of_parent list.parent) list.key
