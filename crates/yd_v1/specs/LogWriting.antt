-- What is written of updates as a log (own), and the law that it is read again.
use Rattle.std.specs.Prelude.{◌≡◌, ℕ, ◌^◌, ◌<◌, List, [], ◌∷◌, ◌++◌, length, map, Result, Ok, Err}
use Rattle.yd_words.specs.Each.{Each}
use Rattle.yd_num.specs.Writing.{shortest_blob}
use Rattle.yd_fields.specs.UpdateFields.{fields_of_update}
use Rattle.yd_ops.specs.Value.{UpdateValue}
use Rattle.yd_v1.specs.Bytes.{v1_bytes_of_all}
use Rattle.yd_v1.specs.Grammar.{StandsForV1}
use Rattle.yd_parts.specs.Fault.{Fault}
use Rattle.yd_v1.specs.Log.{StandsForLog, log_reading}
use Rattle.yd_v1.specs.Reading.{v1_reading}
use Rattle.yd_ops.specs.Valid.{IsValidUpdate}

-- bodies one behind the other, each behind its length
abbrev pub log_of : List (List ℕ) → List ℕ
log_of [] = []
log_of (body ∷ bodies) = shortest_blob body ++ log_of bodies

-- the body of an update: its fields in V1
abbrev pub body_of : UpdateValue → List ℕ
body_of u = v1_bytes_of_all (fields_of_update u)

-- the log of updates
abbrev pub log_bytes : List UpdateValue → List ℕ
log_bytes us = log_of (map body_of us)

-- the body stands for the update, and its length is one that is read
pub record IsBody (body : List ℕ) (u : UpdateValue) : Type 0 where
  pub stands : StandsForV1 body u
  pub fits : length body < 2 ^ 53

-- the bodies are those of the updates
abbrev pub AreBodies : List (List ℕ) → List UpdateValue → Type 0
AreBodies [] [] = Unit {0}
AreBodies [] (u ∷ us) = ⊥
AreBodies (body ∷ bodies) [] = ⊥
AreBodies (body ∷ bodies) (u ∷ us) = IsBody body u × AreBodies bodies us

-- a log of bodies stands for their updates
abbrev pub LogsComeBack : Type 0
LogsComeBack = (bodies : List (List ℕ)) (us : List UpdateValue) → AreBodies bodies us → StandsForLog (log_of bodies) us

-- the entry of the update that the bytes stand for stands behind a log
pub record PassesEntry (bytes log longer : List ℕ) : Type 0 where
  pub update : UpdateValue
  pub read : v1_reading bytes ≡ Ok update
  pub valid : IsValidUpdate update
  pub appended : longer ≡ log ++ shortest_blob (body_of update)
  pub again : IsBody (body_of update) update

-- ---- a log that grows

-- the bytes are those of updates of which each is read again
pub record IsWrittenLog (bytes : List ℕ) : Type 0 where
  pub updates : List UpdateValue
  pub written : bytes ≡ log_bytes updates
  pub again : Each (λ u. IsBody (body_of u) u) updates

-- what was read, and no update where there is a fault
abbrev pub updates_or_none : Result (List UpdateValue) Fault → List UpdateValue
updates_or_none (Ok us) = us
updates_or_none (Err fault) = []

-- the updates that a log stands for
unfoldable pub updates_in_log : List ℕ → List UpdateValue
updates_in_log bytes = updates_or_none (log_reading bytes)
