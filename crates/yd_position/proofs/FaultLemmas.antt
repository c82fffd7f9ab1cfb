-- A plan that wants parts alone fails for the cause of a part, and its fault is the one that is read.
use Rattle.std.proofs.Common.{◌≡◌, ℕ, List, [], ◌∷◌, Bool, true, false, cond, nat_eq, nat_lt, refl, subst, sym}
use Rattle.yd_num.specs.Reading.{Cause as NumCause, short_input, number_too_large, bad_utf8}
use Rattle.yd_parts.specs.Fault.{Fault, of_number}
use Rattle.yd_parts.specs.Part.{PartPlan, PartValue, Unread, here}
use Rattle.yd_parts.specs.PartGrammar.{FailsPart, StandsPart}
use Rattle.yd_parts.specs.Plan.{Found, LeadsTo, PlanFails, StopsAt, give, refuse, want}
use Rattle.yd_parts.specs.declared.fault.Cause.{Cause}
use Rattle.yd_parts.specs.declared.fault.Cause.TheVariants as causes
use Rattle.yd_parts.specs.declared.fault.Spot.{Spot}
use Rattle.yd_position.specs.declared.fault.PositionFault.{PositionFault}
use Rattle.yd_position.specs.declared.fault.PositionFault.TheVariants as faults
use Rattle.yd_position.specs.Grammar.{IsNumberFault, assoc_plan}
use Rattle.yd_position.specs.Reading.{number_fault}
use Rattle.yd_position.specs.Target.{behind_form, id_plan, target_plan}

-- ---- plans of parts

-- the plan refuses nothing
abbrev pub WantsParts : {X : Type 0} → PartPlan X → Type 0
WantsParts (give x) = Unit {0}
WantsParts (refuse cause spot) = ⊥
WantsParts (want t next) = (v : PartValue t) (spot : Spot) → WantsParts (next v spot)

wants_either : {X : Type 0} (test : Bool) (one other : PartPlan X) → WantsParts one → WantsParts other → WantsParts (cond test one other)
wants_either true one other a b = a
wants_either false one other a b = b

wants_id : (form : ℕ) → WantsParts (id_plan form)
wants_id form = λ client spot clock at. tt

wants_behind : (form : ℕ) → WantsParts (behind_form form)
wants_behind form = wants_either (nat_eq form 1) _ _ (λ name spot. tt) (wants_either (nat_lt form 3) _ _ (wants_id form) tt)

pub wants_target : WantsParts target_plan
unfolding target_plan
wants_target = λ form spot. wants_behind form

pub wants_assoc : WantsParts assoc_plan
unfolding assoc_plan
wants_assoc = λ number spot. tt

-- ---- how they fail

wants_rest : {X : Type 0} (plan : PartPlan X) (things : List (Found PartValue)) (rest : PartPlan X) → WantsParts plan → LeadsTo plan things rest → WantsParts rest
wants_rest plan [] rest wants leads = subst WantsParts leads wants
wants_rest (give x) (thing ∷ things) rest wants leads = absurd leads
wants_rest (refuse cause spot) (thing ∷ things) rest wants leads = absurd leads
wants_rest (want t next) (thing ∷ things) rest wants leads = wants_rest (next leads.0 leads.1) things rest (wants leads.0 leads.1) leads.3

number_is : (cause : NumCause) (at : ℕ) → IsNumberFault (of_number cause) at (faults.Number (number_fault (of_number cause) at))
number_is short_input at = refl
number_is number_too_large at = refl
number_is bad_utf8 at = refl

stops_number : {X : Type 0} (rest : PartPlan X) (place : Unread) (fault : Fault) → WantsParts rest → StopsAt FailsPart rest place fault →
    IsNumberFault fault.cause fault.spot.at (faults.Number (number_fault fault.cause fault.spot.at))
stops_number (give x) place fault wants stops = absurd stops
stops_number (refuse cause spot) place fault wants stops = absurd wants
stops_number (want t next) place fault wants stops =
    subst (λ (f : Fault). IsNumberFault f.cause f.spot.at (faults.Number (number_fault f.cause f.spot.at))) (sym stops.fault_is) (number_is stops.cause (here place).at)

-- ---- for callers

-- what fails has the fault of a number or a text
pub plan_fault : {X : Type 0} (plan : PartPlan X) (s : Unread) (fault : Fault) → WantsParts plan → PlanFails StandsPart FailsPart plan s fault →
    IsNumberFault fault.cause fault.spot.at (faults.Number (number_fault fault.cause fault.spot.at))
plan_fault plan s fault wants fails = stops_number fails.rest fails.place fault (wants_rest plan fails.things fails.rest wants fails.leads) fails.stops

-- and it is the one that is read
pub fault_is : (cause : Cause) (at : ℕ) (fault : PositionFault) → IsNumberFault cause at fault → faults.Number (number_fault cause at) ≡ fault
fault_is causes.ShortInput at fault is = sym is
fault_is causes.NumberTooLarge at fault is = sym is
fault_is causes.BadUtf8 at fault is = sym is
fault_is other at fault is = absurd is
