-- What the code answers for the groups at the front, in the words of reading them.
use Rattle.std.specs.Prelude.{◌≡◌, ℕ, ◌≤◌, List, length, drop, Result, Ok, Err}
use Rattle.yd_num.specs.declared.groups.Groups.{Groups}
use Rattle.yd_num.specs.declared.groups.Groups.TheVariants.{Number, Short, Long}
use Rattle.yd_num.specs.Reading.{Cause, short_input, number_too_large}

-- the answer is what reading gives, and its length is within the bytes
abbrev pub GivesGroups : List ℕ → Groups → Result (ℕ × List ℕ) Cause → Type 0
GivesGroups bytes (Number value len) reading = (reading ≡ Ok (value, drop len bytes)) × (len ≤ length bytes)
GivesGroups bytes Short reading = reading ≡ Err short_input
GivesGroups bytes Long reading = reading ≡ Err number_too_large
