-- Tests: as numbers, and on what may be absent.
use Rattle.std.specs.Prelude.{ℕ, Bool, true, false, Option, Some, None}

-- one where the test holds, and else none
abbrev pub one_if : Bool → ℕ
one_if true = 1
one_if false = 0

-- whether there is something, and it passes the test
abbrev pub is_some_and : {X : Type 0} → (X → Bool) → Option X → Bool
is_some_and test None = false
is_some_and test (Some x) = test x
