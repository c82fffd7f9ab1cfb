-- What was written of what was made.
use Rattle.std.proofs.Common.{◌≡◌, ℕ, List, Option, Result, Ok, Err, IsErr, IsErrAnd, inl, inr}
use Rattle.std.specs.Global.{Vec}
use Rattle.yd_world.specs.declared.fault.Outage.{Outage}
use Rattle.yd_world.specs.declared.fault.Outage.TheVariants as outages
use Rattle.yd_files.specs.Counts.{count_of}
use Rattle.yd_ending.specs.Ending.{Delivers, stop_of_outage}
use Rattle.yd_ending.specs.Writing.{CountsFault, TakesPart}
use Rattle.yd_ending.specs.declared.stop.Stop.{Stop}

-- writing stopped
pub written_err : (bytes : Vec ℕ) (before now : ℕ) (taken next : Option (List ℕ)) (result : Result (Unit {0}) Stop) (outage : Outage) → IsErr result × IsErrAnd result (λ s. s ≡ stop_of_outage outage)
    → TakesPart taken next bytes.items → CountsFault {X = Unit {0}} before now (Err outage) → Delivers (Ok bytes) (count_of before now) taken next result
written_err bytes before now taken next (Ok done) outage is part cause = absurd is.1
written_err bytes before now taken next (Err stop) outages.NoMemory is part cause = (part, inl is.1)
written_err bytes before now taken next (Err stop) outages.Failed is part cause = (part, inr (is.1, cause))
