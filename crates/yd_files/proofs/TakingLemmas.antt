-- What a file of each kind stands for is taken in.
use Rattle.std.proofs.Common.{◌≡◌, ◌∙◌, ℕ, List, [], ◌∷◌, ◌++◌, None, Result, Ok, Err, IfErr, IfOk, OnOk, refl, ap, subst, sym, append-nil}
use Rattle.yd_fields.specs.UpdatePlan.{update_plan, vector_plan}
use Rattle.yd_ids.specs.declared.id.Client.{Client}
use Rattle.yd_ops.specs.Valid.{IsValidUpdate}
use Rattle.yd_ops.specs.Value.{UpdateValue}
use Rattle.yd_parts.specs.Fault.{FailsAs, Fault}
use Rattle.yd_parts.specs.declared.fault.ReadError.{ReadError}
use Rattle.yd_parts.specs.declared.fault.ReadError.TheVariants as errors
use Rattle.yd_reading.specs.Answer.{ReadsWhole}
use Rattle.yd_script.specs.File.{StandsForScript}
use Rattle.yd_v1.specs.Grammar.{FillsV1}
use Rattle.yd_v1.specs.Log.{TakesLog, TakesMore, TakesV1}
use Rattle.yd_v1.specs.Reading.{v1_reading}
use Rattle.yd_v1.proofs.FileLemmas.{whole_fails, whole_fills}
use Rattle.yd_files.specs.Reading.{HaveTaken, RefusedBy, TakesFile, TakesRead, with_content}
use Rattle.yd_files.specs.Verdict.{Content, HasFirstFaultIn, Inputs, StandsIn, one_update, script, scripts_of, updates, updates_of, vector, vectors_of}
use Rattle.yd_files.specs.declared.inputs.Others.{Others}
use Rattle.yd_files.specs.declared.kind.Kind.{Kind}
use Rattle.yd_files.specs.declared.kind.Kind.TheVariants.{Log, Script, V1, Vector}
use Rattle.yd_words.specs.Each.{Each}

-- ---- lemmas for callers

-- a value that was read and taken in stands in the bytes
pub taken_in : {X Y : Type 0} (seen : X → Y) (Fills : Y → Type 0) (Fails : Fault → Type 0) (Valid IsTaken : X → Type 0) (read : Result X ReadError) (result : Result (Unit {0}) ReadError) → ReadsWhole seen Fills Fails read → IfOk read Valid → TakesRead IsTaken read result
    → (P : Type 0) → ((x : X) → Fills (seen x) → Valid x → IsTaken x → P) → OnOk result P
taken_in seen Fills Fails Valid IsTaken (Ok x) (Ok done) whole valid is P then = then x whole.rightly valid is
taken_in seen Fills Fails Valid IsTaken (Ok x) (Err errors.NoMemory) whole valid is P then = tt
taken_in seen Fills Fails Valid IsTaken (Ok x) (Err (errors.Fault cause spot)) whole valid is P then = absurd is
taken_in seen Fills Fails Valid IsTaken (Err error) result whole valid is P then = rw is tt

-- a content is taken, where its updates are, and its state vectors and scripts stand behind the others
content_taken : (kind : Kind) (bytes : List ℕ) (content : Content) (old new : Others) (Took TookNow : List UpdateValue → Type 0) → StandsIn kind bytes content → Each IsValidUpdate (updates_of content)
    → new.kinds.items ≡ old.kinds.items ++ kind ∷ [] → new.vectors.items ≡ old.vectors.items ++ vectors_of content → new.scripts.items ≡ old.scripts.items ++ scripts_of content → TakesMore Took TookNow (updates_of content)
    → TakesFile kind bytes (HaveTaken old Took) (HaveTaken new TookNow)
content_taken kind bytes content old new Took TookNow stands valid kinds vectors scripts more = record {
  content = content;
  stands = stands;
  valid = valid;
  taken = λ before took. record {
    inputs_are = ap (λ (i : Inputs). with_content i kind content) took.inputs_are ∙ rw (kinds, vectors, scripts) refl;
    updates = more before.updates took.updates;
  };
}

-- no update more
none_more : (Took : List UpdateValue → Type 0) → TakesMore Took Took []
none_more Took = λ before took. subst Took (sym (append-nil before)) took

-- one update more
pub update_taken : (kind : Kind) (bytes : List ℕ) (old new : Others) (Took TookNow : List UpdateValue → Type 0) (u : UpdateValue) → StandsIn kind bytes (one_update u) → IsValidUpdate u
    → new.kinds.items ≡ old.kinds.items ++ kind ∷ [] → new.vectors ≡ old.vectors → new.scripts ≡ old.scripts → TakesMore Took TookNow (u ∷ []) → TakesFile kind bytes (HaveTaken old Took) (HaveTaken new TookNow)
update_taken kind bytes old new Took TookNow u stands valid kinds vectors scripts more =
    content_taken kind bytes (one_update u) old new Took TookNow stands (valid, tt) kinds (rw vectors (sym (append-nil old.vectors.items))) (rw scripts (sym (append-nil old.scripts.items))) more

-- so it is where it was handed on unread
pub v1_taken : (kind : Kind) (bytes : List ℕ) (old new : Others) (Took TookNow : List UpdateValue → Type 0) (result : Result (Unit {0}) ReadError) → OnOk result (TakesV1 bytes Took TookNow) → kind ≡ V1
    → new.kinds.items ≡ old.kinds.items ++ kind ∷ [] → new.vectors ≡ old.vectors → new.scripts ≡ old.scripts → OnOk result (TakesFile kind bytes (HaveTaken old Took) (HaveTaken new TookNow))
v1_taken kind bytes old new Took TookNow (Ok done) takes is kinds vectors scripts =
    update_taken kind bytes old new Took TookNow takes.update (rw is (takes.update, refl, whole_fills (update_plan None) bytes takes.update takes.read)) takes.valid kinds vectors scripts takes.taken
v1_taken kind bytes old new Took TookNow (Err error) takes is kinds vectors scripts = tt

-- why it was refused is the first fault in it
pub v1_refused : (kind : Kind) (bytes : List ℕ) (result : Result (Unit {0}) ReadError) → FailsAs result (v1_reading bytes) → kind ≡ V1 → IfErr result (RefusedBy (HasFirstFaultIn kind bytes))
v1_refused kind bytes (Ok done) fails is = tt
v1_refused kind bytes (Err errors.NoMemory) fails is = tt
v1_refused kind bytes (Err (errors.Fault cause spot)) fails is = rw is (whole_fails (update_plan None) bytes (record { cause = cause; spot = spot }) fails)

-- the updates of a log more
pub log_taken : (kind : Kind) (bytes : List ℕ) (old new : Others) (Took TookNow : List UpdateValue → Type 0) (result : Result (Unit {0}) ReadError) → OnOk result (TakesLog bytes Took TookNow) → kind ≡ Log
    → new.kinds.items ≡ old.kinds.items ++ kind ∷ [] → new.vectors ≡ old.vectors → new.scripts ≡ old.scripts → OnOk result (TakesFile kind bytes (HaveTaken old Took) (HaveTaken new TookNow))
log_taken kind bytes old new Took TookNow (Ok done) takes is kinds vectors scripts =
    content_taken kind bytes (updates takes.updates) old new Took TookNow (rw is (takes.updates, refl, takes.stands)) takes.valid kinds (rw vectors (sym (append-nil old.vectors.items))) (rw scripts (sym (append-nil old.scripts.items))) takes.taken
log_taken kind bytes old new Took TookNow (Err error) takes is kinds vectors scripts = tt

-- one state vector more
pub vector_taken : (kind : Kind) (bytes : List ℕ) (old new : Others) (Took : List UpdateValue → Type 0) (v : List (Client × ℕ)) → FillsV1 vector_plan bytes v → kind ≡ Vector
    → new.kinds.items ≡ old.kinds.items ++ kind ∷ [] → new.vectors.items ≡ old.vectors.items ++ v ∷ [] → new.scripts ≡ old.scripts → TakesFile kind bytes (HaveTaken old Took) (HaveTaken new Took)
vector_taken kind bytes old new Took v stands is kinds vectors scripts =
    content_taken kind bytes (vector v) old new Took Took (rw is (v, refl, stands)) tt kinds vectors (rw scripts (sym (append-nil old.scripts.items))) (none_more Took)

-- one script more
pub script_taken : (kind : Kind) (bytes : List ℕ) (old new : Others) (Took : List UpdateValue → Type 0) (text : List ℕ) → StandsForScript bytes text → kind ≡ Script
    → new.kinds.items ≡ old.kinds.items ++ kind ∷ [] → new.vectors ≡ old.vectors → new.scripts.items ≡ old.scripts.items ++ text ∷ [] → TakesFile kind bytes (HaveTaken old Took) (HaveTaken new Took)
script_taken kind bytes old new Took text stands is kinds vectors scripts =
    content_taken kind bytes (script text) old new Took Took (rw is (text, refl, stands)) tt kinds (rw vectors (sym (append-nil old.vectors.items))) scripts (none_more Took)

-- nothing is asked of what has no updates
pub nothing_asked : {X : Type 0} (read : Result X ReadError) → IfOk read (λ x. Unit {0})
nothing_asked (Ok x) = tt
nothing_asked (Err error) = tt
