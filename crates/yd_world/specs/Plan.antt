-- Which calls of an object are to fail, and how many calls and faults there were (own).
use Rattle.std.specs.Prelude.{◌≡◌, ℕ, ◌+◌, ◌-◌, ◌^◌, Bool, true, false, ◌==◌, nat_lt, if◌then◌else◌, List, [], ◌∷◌, ◌++◌, Result, Ok, Err}
use Rattle.std.specs.List.{list_any}
use Rattle.yd_world.specs.declared.fault.Outage.{Outage}
use Rattle.yd_world.specs.declared.fault.Outage.TheVariants.{NoMemory, Failed}

-- the calls that are to fail, by their numbers from 0 on, and how many calls and faults there were
pub record PlanState : Type 0 where
  pub failures : List ℕ
  pub calls : ℕ
  pub faults : ℕ

-- no call is to fail, and none came yet
abbrev pub no_calls : PlanState
no_calls = record { failures = []; calls = 0; faults = 0 }

-- one more, and at 2^64-1 no more
abbrev pub one_more : ℕ → ℕ
one_more count = if nat_lt count (2 ^ 64 - 1) then count + 1 else count

-- one more where a call failed
abbrev pub counted_fault : ℕ → Bool → ℕ
counted_fault faults failed = if failed then one_more faults else faults

-- one call more is to fail
abbrev pub with_failure : PlanState → ℕ → PlanState
with_failure plan call = record { failures = plan.failures ++ call ∷ []; calls = plan.calls; faults = plan.faults }

-- the call that comes now is to fail
abbrev pub is_due : PlanState → Bool
is_due plan = list_any (λ call. call == plan.calls) plan.failures

-- one call more came, with a fault more where it failed
abbrev pub counted : PlanState → Bool → PlanState
counted plan failed = record { failures = plan.failures; calls = one_more plan.calls; faults = counted_fault plan.faults failed }

-- the call failed exactly where it was due to; want of memory says nothing of it
abbrev pub FailsWhere : {X : Type 0} → Bool → Result X Outage → Type 0
FailsWhere due (Ok x) = due ≡ false
FailsWhere due (Err Failed) = due ≡ true
FailsWhere due (Err NoMemory) = Unit {0}

-- the same of a call that needs no memory
abbrev pub FailsExactlyWhere : {X : Type 0} → Bool → Result X Outage → Type 0
FailsExactlyWhere due (Ok x) = due ≡ false
FailsExactlyWhere due (Err Failed) = due ≡ true
FailsExactlyWhere due (Err NoMemory) = ⊥

-- one call more came, with a fault more where it failed, but want of memory leaves all as it was
abbrev pub counted_outage : {X : Type 0} → PlanState → Result X Outage → PlanState
counted_outage plan (Ok x) = counted plan false
counted_outage plan (Err Failed) = counted plan true
counted_outage plan (Err NoMemory) = plan

-- the same of a call whose faults are counted elsewhere
abbrev pub counted_send : {X : Type 0} → PlanState → Result X Outage → PlanState
counted_send plan (Ok x) = counted plan false
counted_send plan (Err Failed) = counted plan false
counted_send plan (Err NoMemory) = plan
