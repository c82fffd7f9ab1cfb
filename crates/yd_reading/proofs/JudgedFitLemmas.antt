-- Flags and ranges that were judged fit their types.
use Rattle.std.proofs.Common.{◌≡◌, ◌+◌, ◌<◌, ◌^◌, ℕ, Bool, true, false, Ok, Err, nat_lt, if◌then◌else◌, refl, arith}
use Rattle.std.proofs.lemmas.Bool.Decides.{nat_tests}
use Rattle.yd_reading.specs.Judged.{flag_at, range_at}
use Rattle.yd_parts.proofs.GivenLemmas.{GivesOnly}
use Rattle.yd_parts.specs.Plan.{of_made}
use Rattle.yd_parts.specs.declared.fault.Cause.TheVariants.{BadParent, ClockTooLarge}
use Rattle.yd_parts.specs.declared.fault.Spot.{Spot}

-- a flag
pub flag_judged : {T : Type 0} {V : T → Type 0} (FitsIt : (t : T) → V t → Type 0) (spot : Spot) (flag : ℕ) → GivesOnly FitsIt (λ v. v < 2) (of_made (flag_at spot flag))
flag_judged {T} {V} FitsIt spot flag = judged (nat_lt flag 2) refl
  where
    judged : (test : Bool) → nat_lt flag 2 ≡ test → GivesOnly FitsIt (λ v. v < 2) (of_made (if test then Ok flag else Err (record { cause = BadParent; spot = spot })))
    judged true is = grind (arith, nat_tests)
    judged false is = tt

-- the two numbers end at a clock
abbrev pub EndAtClock : ℕ × ℕ → Type 0
EndAtClock r = r.0 + r.1 < 2 ^ 53

-- a range
pub range_judged : {T : Type 0} {V : T → Type 0} (FitsIt : (t : T) → V t → Type 0) (spot : Spot) (clock len : ℕ) → GivesOnly FitsIt EndAtClock (of_made (range_at spot clock len))
range_judged {T} {V} FitsIt spot clock len = judged (nat_lt (clock + len) (2 ^ 53)) refl
  where
    judged : (test : Bool) → nat_lt (clock + len) (2 ^ 53) ≡ test → GivesOnly FitsIt EndAtClock (of_made (if test then Ok (clock, len) else Err (record { cause = ClockTooLarge; spot = spot })))
    judged true is = grind (arith, nat_tests)
    judged false is = tt
