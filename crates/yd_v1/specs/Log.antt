-- Log files (own): updates in V1, each in a byte string, up to the end of the file. The grammar first, and then how a log is read.
use Rattle.std.specs.Prelude.{◌≡◌, ◌≢◌, ◌⊎◌, ℕ, zero, suc, ◌+◌, ◌-◌, ◌<◌, ◌^◌, List, [], ◌∷◌, ◌++◌, length, Result, Ok, Err}
use Rattle.yd_words.specs.Each.{Each}
use Rattle.yd_ops.specs.Valid.{IsValidUpdate}
use Rattle.yd_ops.specs.Value.{UpdateValue}
use Rattle.yd_parts.specs.Fault.{Fault}
use Rattle.yd_parts.specs.Part.{Unread, all_of, blob, here, part_at}
use Rattle.yd_parts.specs.PartGrammar.{FailsPart, StandsPart}
use Rattle.yd_parts.specs.Plan.{and_then}
use Rattle.yd_parts.specs.declared.fault.Column.TheVariants.{Whole}
use Rattle.yd_parts.specs.declared.fault.ReadError.{ReadError}
use Rattle.yd_parts.specs.declared.fault.ReadError.TheVariants as errors
use Rattle.yd_v1.specs.Grammar.{HasFirstFaultV1, StandsForV1}
use Rattle.yd_v1.specs.Reading.{v1_reading}

-- ---- the grammar

-- a byte string with this body stands at the front of what is left, and behind it the next
abbrev pub StandsBody : Unread → List ℕ → Unread → Type 0
StandsBody left body next = StandsPart left (record { type = blob; value = body; spot = here left }) next

-- where in the file the body begins: so many bytes before what is left behind it
abbrev pub body_start : List ℕ → Unread → ℕ
body_start body next = next.place - length body

-- a fault in a body that begins at this place of the file, with its spot in the file
abbrev pub in_file : ℕ → Fault → Fault
in_file start fault = record { cause = fault.cause; spot = record { column = fault.spot.column; at = start + fault.spot.at } }

-- an entry stands at the front of what is left: a byte string whose body stands for the update
abbrev pub StandsEntry : Unread → UpdateValue → Unread → Type 0
StandsEntry left u next = (body : List ℕ) × StandsBody left body next × StandsForV1 body u

-- a byte string stands at the front, and the fault is the first in its body
abbrev pub FailsBody : Unread → Fault → Type 0
FailsBody left fault = (body : List ℕ) × (next : Unread) × (inner : Fault) × StandsBody left body next × HasFirstFaultV1 body inner × (fault ≡ in_file (body_start body next) inner)

-- no entry stands at the front: there is no byte string, or its body has a fault
abbrev pub FailsEntry : Unread → Fault → Type 0
FailsEntry left fault = FailsPart blob left fault ⊎ FailsBody left fault

-- what is left is entries of these updates, and nothing else
abbrev pub AreEntries : Unread → List UpdateValue → Type 0
AreEntries left [] = left.bytes ≡ []
AreEntries left (u ∷ us) = (next : Unread) × StandsEntry left u next × AreEntries next us

-- behind entries of these updates something is left that begins with no entry
abbrev pub FailsBehind : Unread → List UpdateValue → Fault → Type 0
FailsBehind left [] fault = (left.bytes ≢ []) × FailsEntry left fault
FailsBehind left (u ∷ us) fault = (next : Unread) × StandsEntry left u next × FailsBehind next us fault

-- the log stands for the updates
abbrev pub StandsForLog : List ℕ → List UpdateValue → Type 0
StandsForLog bytes us = AreEntries (all_of Whole bytes) us

-- the log stands for some updates
abbrev pub IsLog : List ℕ → Type 0
IsLog bytes = (us : List UpdateValue) × StandsForLog bytes us

-- the fault is the first in the log
abbrev pub HasFirstFaultLog : List ℕ → Fault → Type 0
HasFirstFaultLog bytes fault = (us : List UpdateValue) × FailsBehind (all_of Whole bytes) us fault

-- ---- reading

-- what is read of a body that begins at this place of the file
abbrev pub read_in_file : {X : Type 0} → ℕ → Result X Fault → Result X Fault
read_in_file start (Ok x) = Ok x
read_in_file start (Err fault) = Err (in_file start fault)

-- the entry at the front of what is left
unfoldable pub entry_at : Unread → Result (UpdateValue × Unread) Fault
entry_at left = and_then (part_at blob left) (λ read. and_then (read_in_file (body_start read.0 read.1) (v1_reading read.0)) (λ u. Ok (u, read.1)))

-- what was found, where nothing is left
abbrev pub unless_ended : List ℕ → List UpdateValue → Result (List UpdateValue) Fault → Result (List UpdateValue) Fault
unless_ended [] found more = Ok found
unless_ended (b ∷ bytes) found more = more

-- the updates that were found, and behind them those of what is left, at most so many
unfoldable pub log_from : ℕ → List UpdateValue → Unread → Result (List UpdateValue) Fault
log_from zero found left = Ok found
log_from (suc most) found left = unless_ended left.bytes found (and_then (entry_at left) (λ read. log_from most (found ++ read.0 ∷ []) read.1))

-- the updates that a log stands for, or the first fault. Each takes at least a byte
abbrev pub log_reading : List ℕ → Result (List UpdateValue) Fault
log_reading bytes = log_from (length bytes) [] (all_of Whole bytes)

-- ---- taking

-- whatever updates it took before, it has taken these behind them now
abbrev pub TakesMore : (List UpdateValue → Type 0) → (List UpdateValue → Type 0) → List UpdateValue → Type 0
TakesMore Took TookNow more = (before : List UpdateValue) → Took before → TookNow (before ++ more)

-- the bytes stand for an update, which is valid, and was taken
pub record TakesV1 (bytes : List ℕ) (Took TookNow : List UpdateValue → Type 0) : Type 0 where
  pub update : UpdateValue
  pub read : v1_reading bytes ≡ Ok update
  pub valid : IsValidUpdate update
  pub taken : TakesMore Took TookNow (update ∷ [])

-- one entry was read: its update is valid, and was taken
pub record TakesEntry (old new : Unread) (Took TookNow : List UpdateValue → Type 0) : Type 0 where
  pub update : UpdateValue
  pub read : entry_at old ≡ Ok (update, new)
  pub valid : IsValidUpdate update
  pub taken : TakesMore Took TookNow (update ∷ [])

-- the updates that are read of a log are valid, and were taken
pub record TakesEntries (bytes : List ℕ) (Took TookNow : List UpdateValue → Type 0) : Type 0 where
  pub updates : List UpdateValue
  pub read : log_reading bytes ≡ Ok updates
  pub valid : Each IsValidUpdate updates
  pub taken : TakesMore Took TookNow updates

-- the log stands for updates, which are valid, and were taken
pub record TakesLog (bytes : List ℕ) (Took TookNow : List UpdateValue → Type 0) : Type 0 where
  pub updates : List UpdateValue
  pub stands : StandsForLog bytes updates
  pub valid : Each IsValidUpdate updates
  pub taken : TakesMore Took TookNow updates

-- ---- errors

-- the error of a body that begins at this place of the file is at a place of the file that has a number; want of memory has none
abbrev pub HasPlace : ℕ → ReadError → Type 0
HasPlace start errors.NoMemory = Unit {0}
HasPlace start (errors.Fault cause spot) = start + spot.at < 2 ^ 64

-- the error of a body that begins at this place of the file, as it is in the file
abbrev pub IsMoved : ℕ → ReadError → ReadError → Type 0
IsMoved start errors.NoMemory errors.NoMemory = Unit {0}
IsMoved start (errors.Fault why at) errors.NoMemory = ⊥
IsMoved start errors.NoMemory (errors.Fault cause spot) = ⊥
IsMoved start (errors.Fault why at) (errors.Fault cause spot) = in_file start (record { cause = why; spot = at }) ≡ record { cause = cause; spot = spot }
