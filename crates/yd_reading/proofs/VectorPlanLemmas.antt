-- Reading state vectors by their plan, step by step; what is read is entries.
use Rattle.std.proofs.Common.{◌≡◌, [], ℕ, List, Result, Ok}
use Rattle.yd_words.specs.Each.{Each}
use Rattle.yd_ids.specs.Vector.{IsEntry, vector_of_entries}
use Rattle.yd_ids.specs.declared.id.Client.{Client}
use Rattle.yd_parts.specs.Fault.{Fault}
use Rattle.yd_fields.specs.Field.{FieldType, FieldValue, Fits, ReadsFit}
use Rattle.yd_fields.specs.Field as field
use Rattle.yd_parts.specs.Plan.{give, and_then, read_by, repeated}
use Rattle.yd_fields.specs.UpdatePlan.{entries_step, vector_plan}
use Rattle.yd_parts.specs.declared.fault.Spot.{Spot}
use Rattle.yd_reading.proofs.DeletesFitLemmas.{each-last}
use Rattle.yd_parts.proofs.GivenLemmas.{GivesOnly, given, gives_only_repeated}
use Rattle.yd_parts.proofs.PlanLemmas.{read_by_bind, then_same}

-- a state vector: how many clients there are, and these
pub read_vector_plan : {S : Type 0} (at : (t : FieldType) → S → Result (FieldValue t × S) Fault) (spot_of : S → Spot) (s : S) →
    read_by at spot_of vector_plan s ≡ and_then (at field.number s) (λ count. and_then (read_by at spot_of (repeated entries_step count.0 []) count.1) (λ entries. Ok (vector_of_entries entries.0, entries.1)))
unfolding vector_plan read_by
read_vector_plan at spot_of s =
    then_same (at field.number s) _ _ (λ count. read_by_bind at spot_of (repeated entries_step count.0 []) (λ entries. give (vector_of_entries entries)) count.1)

-- one more client with its clock
entries_step_fits : (found : List (Client × ℕ)) → Each IsEntry found → GivesOnly Fits (Each IsEntry) (entries_step found)
unfolding entries_step
entries_step_fits found before = λ client spot is_client clock at is_clock.
    each-last IsEntry found (record { 0 = client }, clock) before (record { client = is_client; clock = is_clock })

-- what was read of so many clients is entries
pub entries_read : {S : Type 0} (at : (t : FieldType) → S → Result (FieldValue t × S) Fault) (spot_of : S → Spot) (IsSound : S → Type 0) (count : ℕ) (s : S) (entries : List (Client × ℕ)) (left : S) →
    ReadsFit at IsSound → IsSound s → read_by at spot_of (repeated entries_step count []) s ≡ Ok (entries, left) → Each IsEntry entries
entries_read at spot_of IsSound count s entries left fits sound read =
    given at spot_of Fits IsSound (Each IsEntry) (repeated entries_step count []) s entries left fits (gives_only_repeated Fits (Each IsEntry) entries_step count [] tt entries_step_fits) sound read
