-- The numbers and the byte string in front of a message fail for one of two causes.
use Rattle.std.proofs.Common.{◌≡◌, ℕ, List, [], ◌∷◌, Bool, true, false, cond, nat_eq, refl, subst, sym}
use Rattle.yd_num.specs.Reading.{Cause as NumCause, short_input, number_too_large, bad_utf8}
use Rattle.yd_parts.specs.Fault.{Fault, of_number}
use Rattle.yd_parts.specs.Part.{Part, PartPlan, PartValue, Unread, all_of, byte, unsigned, signed, text, blob, raw, here}
use Rattle.yd_parts.specs.PartGrammar.{FailsPart, LacksPart, StandsPart}
use Rattle.yd_parts.specs.Plan.{Found, LeadsTo, PlanFails, StopsAt, give, refuse, want}
use Rattle.yd_parts.specs.declared.fault.Cause.{Cause}
use Rattle.yd_parts.specs.declared.fault.Cause.TheVariants as causes
use Rattle.yd_parts.specs.declared.fault.Column.TheVariants.{Whole}
use Rattle.yd_parts.specs.declared.fault.Spot.{Spot}
use Rattle.yd_sync.specs.declared.fault.MessageFault.{MessageFault}
use Rattle.yd_sync.specs.declared.kind.Kind.{Kind}
use Rattle.yd_sync.specs.declared.kind.Kind.TheVariants as kinds
use Rattle.yd_sync.specs.Envelope.{behind_outer, body_plan, envelope_plan, outer_kind, sync_kind}
use Rattle.yd_sync.specs.MessageGrammar.{IsFrontFault}
use Rattle.yd_sync.specs.MessageReading.{outer_fault}

-- ---- plans of numbers and byte strings

-- the part is a number or a byte string
abbrev IsOfFront : Part → Type 0
IsOfFront byte = ⊥
IsOfFront unsigned = Unit {0}
IsOfFront signed = ⊥
IsOfFront text = ⊥
IsOfFront blob = Unit {0}
IsOfFront (raw count) = ⊥

-- the plan wants no other part, and refuses nothing
abbrev WantsFront : {X : Type 0} → PartPlan X → Type 0
WantsFront (give x) = Unit {0}
WantsFront (refuse cause spot) = ⊥
WantsFront (want t next) = IsOfFront t × ((v : PartValue t) (spot : Spot) → WantsFront (next v spot))

wants_either : {X : Type 0} (test : Bool) (one other : PartPlan X) → WantsFront one → WantsFront other → WantsFront (cond test one other)
wants_either true one other a b = a
wants_either false one other a b = b

wants_body : (kind : Kind) → WantsFront (body_plan kind)
wants_body kinds.Step1 = (tt, λ v spot. tt)
wants_body kinds.Step2 = (tt, λ v spot. tt)
wants_body kinds.Change = (tt, λ v spot. tt)
wants_body kinds.Aware = (tt, λ v spot. tt)
wants_body kinds.Auth = tt
wants_body kinds.Query = tt
wants_body (kinds.Other number) = tt

wants_behind : (outer : ℕ) → WantsFront (behind_outer outer)
wants_behind outer =
    wants_either (nat_eq outer 0) (want unsigned (λ inner at. body_plan (sync_kind inner))) (body_plan (outer_kind outer)) (tt, λ v spot. wants_body (sync_kind v)) (wants_body (outer_kind outer))

wants_envelope : WantsFront envelope_plan
unfolding envelope_plan
wants_envelope = (tt, λ v spot. wants_behind v)

-- ---- how they fail

-- what is left of such a plan is one too
wants_rest : {X : Type 0} (plan : PartPlan X) (things : List (Found PartValue)) (rest : PartPlan X) → WantsFront plan → LeadsTo plan things rest → WantsFront rest
wants_rest plan [] rest wants leads = subst WantsFront leads wants
wants_rest (give x) (thing ∷ things) rest wants leads = absurd leads
wants_rest (refuse cause spot) (thing ∷ things) rest wants leads = absurd leads
wants_rest (want t next) (thing ∷ things) rest wants leads = wants_rest (next leads.0 leads.1) things rest (wants.1 leads.0 leads.1) leads.3

-- a number or a byte string lacks for one of two causes
lacks_front : (t : Part) (bytes : List ℕ) (cause : NumCause) (at : ℕ) → IsOfFront t → LacksPart t bytes cause → IsFrontFault (of_number cause) at (outer_fault (of_number cause) at)
lacks_front byte bytes cause at is lacks = absurd is
lacks_front unsigned bytes short_input at is lacks = refl
lacks_front unsigned bytes number_too_large at is lacks = refl
lacks_front unsigned bytes bad_utf8 at is lacks = absurd lacks
lacks_front signed bytes cause at is lacks = absurd is
lacks_front text bytes cause at is lacks = absurd is
lacks_front blob bytes short_input at is lacks = refl
lacks_front blob bytes number_too_large at is lacks = refl
lacks_front blob bytes bad_utf8 at is lacks = absurd lacks
lacks_front (raw count) bytes cause at is lacks = absurd is

stops_front : {X : Type 0} (rest : PartPlan X) (place : Unread) (fault : Fault) → WantsFront rest → StopsAt FailsPart rest place fault → IsFrontFault fault.cause fault.spot.at (outer_fault fault.cause fault.spot.at)
stops_front (give x) place fault wants stops = absurd stops
stops_front (refuse cause spot) place fault wants stops = absurd wants
stops_front (want t next) place fault wants stops =
    subst (λ (f : Fault). IsFrontFault f.cause f.spot.at (outer_fault f.cause f.spot.at)) (sym stops.fault_is) (lacks_front t place.bytes stops.cause (here place).at wants.0 stops.lacks)

-- ---- for callers

-- so what fails in front has one of the two faults of a front
pub front_fault : (bytes : List ℕ) (outer : Fault) → PlanFails StandsPart FailsPart envelope_plan (all_of Whole bytes) outer → IsFrontFault outer.cause outer.spot.at (outer_fault outer.cause outer.spot.at)
front_fault bytes outer fails = stops_front fails.rest fails.place outer (wants_rest envelope_plan fails.things fails.rest wants_envelope fails.leads) fails.stops

-- and it is the one that is read
pub front_is : (cause : Cause) (at : ℕ) (fault : MessageFault) → IsFrontFault cause at fault → outer_fault cause at ≡ fault
front_is causes.ShortInput at fault is = sym is
front_is causes.NumberTooLarge at fault is = sym is
front_is other at fault is = absurd is
