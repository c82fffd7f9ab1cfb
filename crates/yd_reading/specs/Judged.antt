-- Numbers that are judged: flags of parents and ranges before they are a field, and how many clocks a struct takes (the causes are own).
use Rattle.std.specs.Prelude.{ℕ, ◌+◌, ◌^◌, Result, Ok, Err, nat_eq, nat_lt, if◌then◌else◌}
use Rattle.yd_parts.specs.Fault.{Fault}
use Rattle.yd_parts.specs.declared.fault.Cause.TheVariants.{BadParent, ClockTooLarge, EmptyStruct}
use Rattle.yd_parts.specs.declared.fault.Spot.{Spot}

-- a parent's flag, which is 0 or 1, at a spot
abbrev pub flag_at : Spot → ℕ → Result ℕ Fault
flag_at spot flag = if nat_lt flag 2 then Ok flag else Err (record { cause = BadParent; spot = spot })

-- a range, which ends at a clock: its clock at a spot, and its length
abbrev pub range_at : Spot → ℕ → ℕ → Result (ℕ × ℕ) Fault
range_at spot clock len = if nat_lt (clock + len) (2 ^ 53) then Ok (clock, len) else Err (record { cause = ClockTooLarge; spot = spot })

-- how many clocks a struct takes that began at a spot: at least one, up to a clock
abbrev pub clocks_at : Spot → ℕ → ℕ → Result (Unit {0}) Fault
clocks_at begin clock count =
    if nat_eq count 0 then Err (record { cause = EmptyStruct; spot = begin })
    else if nat_lt (clock + count) (2 ^ 53) then Ok tt
    else Err (record { cause = ClockTooLarge; spot = begin })
