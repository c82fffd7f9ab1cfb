-- What a fault says of the first refusal.
use Rattle.std.proofs.Common.{◌≡◌, Option, Some, None, refl, sym, subst}
use Rattle.yd_editing.specs.Step.{Refusal, no_place, not_held, clock_full, inside_pair, own_waiting, past_end, no_key}
use Rattle.yd_making.specs.declared.fault.EditFault.{EditFault}
use Rattle.yd_making.specs.Steps.{fault_of, fault_given, IsCause}

cause_of : (refusal : Refusal) → IsCause (fault_of refusal) (Some refusal)
cause_of (no_place id) = refl
cause_of (not_held id) = refl
cause_of (clock_full clock) = refl
cause_of (inside_pair place) = refl
cause_of (own_waiting clock) = refl
cause_of (past_end length) = refl
cause_of no_key = refl

one_fault : (a b : EditFault) → ◌≡◌ {A = Option EditFault} (Some a) (Some b) → a ≡ b
one_fault a b e = cc

-- ---- lemmas for callers

-- a fault that is given says why
pub cause_given : (fault : EditFault) (first : Option Refusal) → Some fault ≡ fault_given first → IsCause fault first
cause_given fault None e = absurd cc
cause_given fault (Some refusal) e = subst (λ f. IsCause f (Some refusal)) (sym (one_fault fault (fault_of refusal) e)) (cause_of refusal)

-- where none is given, nothing is refused
pub accepted_given : (first : Option Refusal) → ◌≡◌ {A = Option EditFault} None (fault_given first) → first ≡ None
accepted_given None e = refl
accepted_given (Some refusal) e = absurd cc
