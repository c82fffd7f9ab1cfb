-- What an error that is passed on says.
use Rattle.std.proofs.Common.{◌≡◌, Result, Err}
use Rattle.std.specs.Result.{IsErrAnd}
use Rattle.std.proofs.lemmas.Result.{err_from_is_err_and}
use Rattle.yd_parts.specs.Fault.{Fault, Gives, FailsAs, IsFaultOf}
use Rattle.yd_parts.specs.declared.fault.ReadError.{ReadError}
use Rattle.yd_parts.specs.declared.fault.ReadError.TheVariants as errors

-- where the inner reading's fault is the outer one's, an error is of both
pub fault_outwards : {Y Z : Type 0} (inner : Result Y Fault) (outer : Result Z Fault) (e : ReadError) → ((fault : Fault) → inner ≡ Err fault → outer ≡ Err fault) → IsFaultOf inner e → IsFaultOf outer e
fault_outwards inner outer errors.NoMemory through is_inner = tt
fault_outwards inner outer (errors.Fault cause spot) through is_inner = through (record { cause = cause; spot = spot }) is_inner

-- an error that `?` passes on
pub passes_on : {X Y Z S : Type 0} (value : X → Y) (result : Result X ReadError) (new : S) (inner : Result Z Fault) (outer : Result (Y × S) Fault) (e : ReadError) →
    IsErrAnd result (λ f. f ≡ e) → IsFaultOf inner e → ((fault : Fault) → inner ≡ Err fault → outer ≡ Err fault) → Gives value result new outer
passes_on value result new inner outer e passed is_inner through =
    let p = err_from_is_err_and result passed in rw (p.1, p.2) (fault_outwards inner outer e through is_inner)

-- the same, where only the fault is spoken of
pub passes_fault : {X Y Z : Type 0} (result : Result X ReadError) (inner : Result Z Fault) (outer : Result Y Fault) (e : ReadError) →
    IsErrAnd result (λ f. f ≡ e) → IsFaultOf inner e → ((fault : Fault) → inner ≡ Err fault → outer ≡ Err fault) → FailsAs result outer
passes_fault result inner outer e passed is_inner through =
    let p = err_from_is_err_and result passed in rw (p.1, p.2) (fault_outwards inner outer e through is_inner)
