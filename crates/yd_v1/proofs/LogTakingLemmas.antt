-- The updates of a log are handed to a taker while they are read.
use Rattle.std.proofs.Common.{◌≡◌, ◌≢◌, ◌∙◌, ℕ, ◌<◌, ◌+◌, ◌-◌, List, [], ◌∷◌, ◌++◌, length, map, Result, Ok, Err, OnOk, ap, refl, subst, sym, append_assoc, append-nil}
use Rattle.yd_words.proofs.EachLemmas.{each_append}
use Rattle.yd_words.specs.Each.{Each}
use Rattle.yd_ops.specs.Valid.{IsValidUpdate}
use Rattle.yd_ops.specs.Value.{UpdateValue}
use Rattle.yd_ops.specs.View.{update_value}
use Rattle.yd_ops.specs.declared.updates.Update.{Update}
use Rattle.yd_parts.specs.Fault.{FailsAs, Fault, IsFaultOf, Makes}
use Rattle.yd_parts.specs.Part.{Unread, all_of}
use Rattle.yd_parts.specs.declared.fault.Column.TheVariants.{Whole}
use Rattle.yd_parts.specs.declared.fault.ReadError.{ReadError}
use Rattle.yd_parts.specs.declared.fault.ReadError.TheVariants as errors
use Rattle.yd_reading.proofs.AnswerLemmas.{reads_whole}
use Rattle.yd_reading.specs.Answer.{ReadsWhole}
use Rattle.yd_reading.specs.Files.{FilesAreRead}
use Rattle.yd_v1.proofs.LogLemmas.{log_more, logs_read}
use Rattle.yd_v1.specs.Log.{HasFirstFaultLog, IsLog, TakesEntries, TakesEntry, TakesLog, TakesMore, log_from, log_reading}

-- that the log stands for some updates is read, or its first fault
abbrev is_read : Result (List UpdateValue) Fault → Result (Unit {0}) Fault
is_read (Ok us) = Ok tt
is_read (Err fault) = Err fault

-- and it is read exactly
is_log : FilesAreRead (λ bytes. is_read (log_reading bytes)) (λ bytes done. IsLog bytes) HasFirstFaultLog
is_log = record {
  values = λ bytes done. (λ is. there bytes done (log_reading bytes) refl is, λ stands. ap is_read ((logs_read.values bytes stands.0).1 stands.1));
  faults = λ bytes fault. (λ is. (logs_read.faults bytes fault).0 (failed (log_reading bytes) fault is), λ fails. ap is_read ((logs_read.faults bytes fault).1 fails));
}
  where
    there : (bytes : List ℕ) (done : Unit {0}) (read : Result (List UpdateValue) Fault) → log_reading bytes ≡ read → is_read read ≡ Ok done → IsLog bytes
    there bytes done (Ok us) read is = (us, (logs_read.values bytes us).0 read)
    there bytes done (Err fault) read is = absurd cc

    failed : (read : Result (List UpdateValue) Fault) (fault : Fault) → is_read read ≡ Err fault → read ≡ Err fault
    failed (Ok us) fault is = absurd cc
    failed (Err other) fault is = ap Err (cc)

-- ---- lemmas for callers

-- these were read and taken so far, and this is left
pub record TakesSoFar (bytes : List ℕ) (most : ℕ) (left : Unread) (Took TookNow : List UpdateValue → Type 0) : Type 0 where
  pub updates : List UpdateValue
  pub read : log_from most updates left ≡ log_reading bytes
  pub valid : Each IsValidUpdate updates
  pub taken : TakesMore Took TookNow updates

-- nothing was taken yet
pub takes_none : (bytes : List ℕ) (most : ℕ) (left : Unread) (Took : List UpdateValue → Type 0) → most ≡ length bytes → left ≡ all_of Whole bytes → TakesSoFar bytes most left Took Took
takes_none bytes most left Took all whole = record { updates = []; read = rw (all, whole) refl; valid = tt; taken = λ before took. subst Took (sym (append-nil before)) took }

-- an entry more was taken
pub takes_next : (bytes : List ℕ) (most i : ℕ) (old new : Unread) (Took TookOld TookNew : List UpdateValue → Type 0) → i < most → old.bytes ≢ [] → TakesSoFar bytes (most - i) old Took TookOld → TakesEntry old new TookOld TookNew →
    TakesSoFar bytes (most - (i + 1)) new Took TookNew
takes_next bytes most i old new Took TookOld TookNew within some so takes = record {
  updates = so.updates ++ takes.update ∷ [];
  read = sym (log_more most i so.updates old takes.update new within some takes.read) ∙ so.read;
  valid = each_append IsValidUpdate so.updates (takes.update ∷ []) so.valid (takes.valid, tt);
  taken = λ before took. subst TookNew (append_assoc before so.updates (takes.update ∷ [])) (takes.taken (before ++ so.updates) (so.taken before took));
}

-- nothing is left to read
pub takes_all : (bytes : List ℕ) (most : ℕ) (left : Unread) (Took TookNow : List UpdateValue → Type 0) → TakesSoFar bytes most left Took TookNow → ((found : List UpdateValue) → log_from most found left ≡ Ok found) → TakesEntries bytes Took TookNow
takes_all bytes most left Took TookNow so ended = record { updates = so.updates; read = sym so.read ∙ ended so.updates; valid = so.valid; taken = so.taken }

-- the log stands for what was read and taken
pub takes_log : (bytes : List ℕ) (Took TookNow : List UpdateValue → Type 0) (result : Result (Unit {0}) ReadError) → OnOk result (TakesEntries bytes Took TookNow) → OnOk result (TakesLog bytes Took TookNow)
takes_log bytes Took TookNow (Ok done) takes = record { updates = takes.updates; stands = (logs_read.values bytes takes.updates).0 takes.read; valid = takes.valid; taken = takes.taken }
takes_log bytes Took TookNow (Err e) takes = tt

-- and the answer is what the file is
pub log_whole : (bytes : List ℕ) (Took TookNow : List UpdateValue → Type 0) (result : Result (Unit {0}) ReadError) → OnOk result (TakesEntries bytes Took TookNow) → FailsAs result (log_reading bytes) →
    ReadsWhole (λ done. done) (λ done. IsLog bytes) (HasFirstFaultLog bytes) result
log_whole bytes Took TookNow result taken fails = reads_whole (λ done. done) (λ b. is_read (log_reading b)) (λ b done. IsLog b) HasFirstFaultLog is_log bytes result (makes result taken fails)
  where
    fault_of : (e : ReadError) → IsFaultOf (log_reading bytes) e → IsFaultOf (is_read (log_reading bytes)) e
    fault_of errors.NoMemory is = tt
    fault_of (errors.Fault cause spot) is = ap is_read is

    makes : (r : Result (Unit {0}) ReadError) → OnOk r (TakesEntries bytes Took TookNow) → FailsAs r (log_reading bytes) → Makes (λ done. done) r (is_read (log_reading bytes))
    makes (Ok done) taken fails = ap is_read taken.read
    makes (Err e) taken fails = fault_of e fails

-- a list has the updates that were read of a log
pub record IsListed (bytes : List ℕ) (list : List Update) : Type 0 where
  pub made : log_reading bytes ≡ Ok (map update_value list)
  pub valid : Each IsValidUpdate (map update_value list)

-- where it had none, and took them
pub list_made : (bytes : List ℕ) (none list : List Update) → none ≡ [] → TakesEntries bytes (λ taken. taken ≡ map update_value none) (λ taken. taken ≡ map update_value list) → IsListed bytes list
list_made bytes none list empty takes =
    let is : takes.updates ≡ map update_value list = takes.taken [] (sym (ap (map update_value) empty)) in
    record { made = takes.read ∙ ap Ok is; valid = subst (Each IsValidUpdate) is takes.valid }
