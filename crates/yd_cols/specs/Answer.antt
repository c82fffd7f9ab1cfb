-- What a call that reads a value answers.
use Rattle.std.specs.Prelude.{◌≡◌, ℕ, suc, ◌+◌, List, length, Result, Ok, Err, Option, Some, None}
use Rattle.yd_cols.specs.Reading.{RunsLeft}
use Rattle.yd_cols.specs.declared.fault.ColFault.{ColFault}
use Rattle.yd_num.specs.Fault.{cause_of}
use Rattle.yd_num.specs.Reading.{Cause}
use Rattle.yd_num.specs.Remainder.{Remainder}
use Rattle.yd_num.specs.declared.fault.NumFault.{NumFault}

-- Ok has the value that reading gives, and leaves the reader behind it; an error has its fault, and leaves the reader as it was, so that the same fault is answered again
abbrev pub GivesNext : {X Y S : Type 0} → (X → Y) → S → S → Result X ColFault → Result (Y × S) ColFault → Type 0
GivesNext value old new (Ok x) reading = reading ≡ Ok (value x, new)
GivesNext value old new (Err fault) reading = (reading ≡ Err fault) × (new ≡ old)

-- a value in hand is given, and one less is there; or none is, and nothing changes
abbrev pub GivesHand : {V : Type 0} → RunsLeft V → RunsLeft V → Option V → Type 0
GivesHand old new (Some value) = (value ≡ old.value) × (old.more ≡ suc new.more) × (new ≡ record { value = old.value; more = new.more; at = old.at; place = old.place; bytes = old.bytes })
GivesHand old new None = (old.more ≡ 0) × (new ≡ old)

-- Ok has the run that reading gives, and stands behind it; an error has its cause, whatever is left then
abbrev pub ReadsRun : {X : Type 0} → Remainder → Remainder → Result X NumFault → Result (X × List ℕ) Cause → Type 0
ReadsRun old new (Ok run) reading = (reading ≡ Ok (run, new.unread)) × (new.place + length new.unread ≡ old.place + length old.unread)
ReadsRun old new (Err fault) reading = reading ≡ Err (cause_of fault)
