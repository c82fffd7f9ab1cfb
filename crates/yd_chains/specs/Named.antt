-- A number or none, kept as one number (own).
use Rattle.std.specs.Prelude.{◌≡◌, ◌==◌, ℕ, Option, Some, None, if◌then◌else◌}
use Rattle.std.proofs.Common.{inl, inr, refl, sym}
use Rattle.std.proofs.lemmas.Bool.{cases_eq, ne_eqb, eq-eqb}

-- the number that is kept for none
abbrev pub nothing : ℕ
nothing = 4294967295

-- what a number that is kept names
abbrev pub named_by : ℕ → Option ℕ
named_by n = if n == nothing then None else Some n

-- the number that is kept for it
abbrev pub kept_for : Option ℕ → ℕ
kept_for None = nothing
kept_for (Some n) = n

-- what a number names is kept as that number
pub kept-named : (n : ℕ) → kept_for (named_by n) ≡ n
kept-named n = elim (cases_eq n nothing) [
  | inl e ↦ rw (eq-eqb n nothing e) (sym e)
  | inr other ↦ rw (ne_eqb n nothing other) refl
]
