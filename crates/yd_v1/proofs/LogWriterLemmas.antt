-- A log that grows stands for the updates that were taken.
use Rattle.std.proofs.Common.{◌≡◌, ◌∙◌, ℕ, List, [], ◌∷◌, ◌++◌, map, refl, sym, ap, subst}
use Rattle.std.proofs.lemmas.List.{map-append}
use Rattle.yd_num.specs.Writing.{shortest_blob}
use Rattle.yd_words.proofs.EachLemmas.{each_append}
use Rattle.yd_words.specs.Each.{Each}
use Rattle.yd_ops.specs.Value.{UpdateValue}
use Rattle.yd_v1.proofs.LogLemmas.{logs_read}
use Rattle.yd_v1.proofs.LogWrittenLemmas.{are_bodies, log_more, logs_back}
use Rattle.yd_v1.specs.Log.{StandsForLog, TakesMore}
use Rattle.yd_v1.specs.LogWriting.{IsBody, IsWrittenLog, body_of, log_bytes, log_of, updates_in_log, updates_or_none}

-- what is written of updates stands for them
stands : (us : List UpdateValue) → Each (λ u. IsBody (body_of u) u) us → StandsForLog (log_bytes us) us
stands us again = logs_back (map body_of us) us (are_bodies us again)

-- these are the updates of the log
updates_are : (us : List UpdateValue) → Each (λ u. IsBody (body_of u) u) us → updates_in_log (log_bytes us) ≡ us
unfolding updates_in_log
updates_are us again = ap updates_or_none ((logs_read.values (log_bytes us) us).1 (stands us again))

-- and so of one that was written
written_are : (bytes : List ℕ) (log : IsWrittenLog bytes) → updates_in_log bytes ≡ log.updates
written_are bytes log = ap updates_in_log log.written ∙ updates_are log.updates log.again

-- ---- lemmas for callers

-- the log of no update
pub none_written : IsWrittenLog []
none_written = record { updates = []; written = refl; again = tt }

pub none_taken : updates_in_log [] ≡ []
none_taken = updates_are [] tt

-- one update more was written
pub more_written : (old new : List ℕ) (u : UpdateValue) → IsWrittenLog old → new ≡ old ++ shortest_blob (body_of u) → IsBody (body_of u) u → IsWrittenLog new
more_written old new u log appended body = record {
  updates = log.updates ++ u ∷ [];
  written = appended ∙ ap (λ (l : List ℕ). l ++ shortest_blob (body_of u)) log.written
      ∙ sym (ap log_of (map-append body_of log.updates (u ∷ [])) ∙ log_more (map body_of log.updates) (body_of u));
  again = each_append (λ v. IsBody (body_of v) v) log.updates (u ∷ []) log.again (body, tt);
}

-- and so it was taken
pub more_taken : (old new : List ℕ) (u : UpdateValue) → IsWrittenLog old → new ≡ old ++ shortest_blob (body_of u) → IsBody (body_of u) u → TakesMore (λ taken. taken ≡ updates_in_log old) (λ taken. taken ≡ updates_in_log new) (u ∷ [])
unfolding more_written
more_taken old new u log appended body = λ before is.
    ap (λ (us : List UpdateValue). us ++ u ∷ []) (is ∙ written_are old log) ∙ sym (written_are new (more_written old new u log appended body))

-- the bytes are those of the updates that were taken
pub taken_written : (bytes : List ℕ) → IsWrittenLog bytes → bytes ≡ log_bytes (updates_in_log bytes)
taken_written bytes log = log.written ∙ ap log_bytes (sym (written_are bytes log))

-- and stand for them
pub taken_stand : (bytes : List ℕ) → IsWrittenLog bytes → StandsForLog bytes (updates_in_log bytes)
taken_stand bytes log =
    subst (λ (us : List UpdateValue). StandsForLog bytes us) (sym (written_are bytes log)) (subst (λ (b : List ℕ). StandsForLog b log.updates) (sym log.written) (stands log.updates log.again))
