-- Files of each kind are read exactly.
use Rattle.std.proofs.Common.{◌≡◌, ◌∙◌, ℕ, List, Result, Ok, Err, None, Some, refl, sym, ap}
use Rattle.yd_num.proofs.ReadingLemmas.{ok_value}
use Rattle.yd_reading.specs.Files.{FilesAreRead}
use Rattle.yd_fields.specs.UpdatePlan.{update_plan, vector_plan}
use Rattle.yd_parts.specs.Fault.{Fault}
use Rattle.yd_script.proofs.FileLemmas.{scripts_read}
use Rattle.yd_script.specs.File.{script_reading}
use Rattle.yd_v1.proofs.FileLemmas as v1_files
use Rattle.yd_v1.proofs.LogLemmas.{logs_read}
use Rattle.yd_v1.specs.Log.{log_reading}
use Rattle.yd_v1.specs.Reading.{v1_reading, vector_reading}
use Rattle.yd_v2.proofs.FileLemmas as v2_files
use Rattle.yd_v2.specs.Reading.{most_structs, v2_reading}
use Rattle.yd_files.specs.Verdict.{Content, HasFirstFaultIn, StandsAs, StandsIn, one_update, script, updates, vector}
use Rattle.yd_files.specs.declared.kind.Kind.{Kind}
use Rattle.yd_files.specs.declared.kind.Kind.TheVariants.{V1, V2, Log, Vector, Script}

-- ---- readings

-- what is read, made a content
abbrev made_of : {X : Type 0} → (X → Content) → Result X Fault → Result Content Fault
made_of made (Ok x) = Ok (made x)
made_of made (Err fault) = Err fault

-- what is read of a file of the kind
abbrev pub reading_in : Kind → List ℕ → Result Content Fault
reading_in V1 bytes = made_of one_update (v1_reading bytes)
reading_in V2 bytes = made_of one_update (v2_reading bytes)
reading_in Log bytes = made_of updates (log_reading bytes)
reading_in Vector bytes = made_of vector (vector_reading bytes)
reading_in Script bytes = made_of script (script_reading bytes)

-- what is made of a value that is read exactly is read so too
made_read : {X : Type 0} (made : X → Content) (reading : List ℕ → Result X Fault) (Fills : List ℕ → X → Type 0) (Fails : List ℕ → Fault → Type 0) → FilesAreRead reading Fills Fails
    → FilesAreRead (λ bytes. made_of made (reading bytes)) (λ bytes. StandsAs made (Fills bytes)) Fails
made_read {X} made reading Fills Fails read = record {
  values = λ bytes content. (value bytes content (reading bytes) refl, λ stands. ap (made_of made) ((read.values bytes stands.0).1 stands.2) ∙ ap Ok (sym stands.1));
  faults = λ bytes fault. (fails bytes fault (reading bytes) refl, λ first. ap (made_of made) ((read.faults bytes fault).1 first));
}
  where
    value : (bytes : List ℕ) (content : Content) (result : Result X Fault) → reading bytes ≡ result → made_of made result ≡ Ok content → StandsAs made (Fills bytes) content
    value bytes content (Ok x) is gives = (x, sym (ok_value {E = Fault} (made x) content gives), (read.values bytes x).0 is)
    value bytes content (Err fault) is gives = absurd cc

    fails : (bytes : List ℕ) (fault : Fault) (result : Result X Fault) → reading bytes ≡ result → made_of made result ≡ Err fault → Fails bytes fault
    fails bytes fault (Ok x) is gives = absurd cc
    fails bytes fault (Err other) is gives = let same : other ≡ fault = cc in (read.faults bytes fault).0 (is ∙ ap Err same)

-- ---- lemmas for callers

-- a file of the kind is read as what it stands for, or has the fault that is read
pub read_exactly : (kind : Kind) → FilesAreRead (reading_in kind) (StandsIn kind) (HasFirstFaultIn kind)
read_exactly V1 = made_read one_update v1_reading _ _ (v1_files.files_read (update_plan None))
read_exactly V2 = made_read one_update v2_reading _ _ (v2_files.files_read (update_plan (Some most_structs)))
read_exactly Log = made_read updates log_reading _ _ logs_read
read_exactly Vector = made_read vector vector_reading _ _ (v1_files.files_read vector_plan)
read_exactly Script = made_read script script_reading _ _ scripts_read
