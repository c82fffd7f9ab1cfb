-- A file that is read as fields is read by a plan as what the plan makes of them.
use Rattle.std.proofs.Common.{◌≡◌, ℕ, List, [], ◌∷◌, Ok, refl, ap, subst}
use Rattle.yd_parts.specs.Plan.{Expects, give, read_by, refuse, want}
use Rattle.yd_parts.specs.declared.fault.Spot.{Spot}
use Rattle.yd_fields.specs.Again.{AreRead, AreReadAgain, ComeBack, FileReading, IsReadAs, whole_by}
use Rattle.yd_fields.specs.Field.{Field, FieldPlan, FieldType, FieldValue}
use Rattle.yd_fields.specs.Writes.{with_fields}

-- the plan reads the value, and there the file ends
record ReadsAll {S X : Type 0} (reading : FileReading S) (plan : FieldPlan X) (now : S) (x : X) : Type 0 where
  end : S
  read : read_by reading.field_at reading.spot_of plan now ≡ Ok (x, end)
  ended : reading.end_at end ≡ Ok tt

-- one more field is read first
reads_first : {S X : Type 0} (reading : FileReading S) (t : FieldType) (v : FieldValue t) (next : FieldValue t → Spot → FieldPlan X) (now behind : S) (x : X) → reading.field_at t now ≡ Ok (v, behind) →
    ReadsAll reading (next v (reading.spot_of behind)) behind x → ReadsAll reading (want t next) now x
unfolding read_by
reads_first reading t v next now behind x first later = record { end = later.end; read = rw first later.read; ended = later.ended }

-- a plan reads the fields that it expects
plan_reads : {S X : Type 0} (reading : FileReading S) (fs : List Field) (plan : FieldPlan X) (x : X) (now : S) → Expects plan fs x → AreRead reading fs now → ReadsAll reading plan now x
unfolding read_by
plan_reads reading [] (give y) x now expects are = record { end = now; read = ap (λ v. Ok (v, now)) expects; ended = are }
plan_reads reading [] (refuse cause spot) x now expects are = absurd expects
plan_reads reading [] (want t next) x now expects are = absurd expects
plan_reads reading (f ∷ fs) (give y) x now expects are = absurd expects
plan_reads reading (f ∷ fs) (refuse cause spot) x now expects are = absurd expects
plan_reads reading (f ∷ fs) (want t next) x now expects are =
    reads_first reading t expects.0 next now are.0 x (subst (λ (one : Field). reading.field_at one.0 now ≡ Ok (one.1, are.0)) expects.1 are.1)
    (plan_reads reading fs (next expects.0 (reading.spot_of are.0)) x are.0 (expects.2 (reading.spot_of are.0)) are.2)

-- ---- lemmas for callers

-- the whole file is read by the plan
pub file_read : {S X : Type 0} (reading : FileReading S) (bytes : List ℕ) (fields : List Field) (plan : FieldPlan X) (x : X) → IsReadAs reading bytes fields → Expects plan fields x → whole_by reading plan bytes ≡ Ok x
file_read reading bytes fields plan x is expects =
    let all = plan_reads reading fields plan x is.begin expects is.read in
    rw (is.starts, all.read, all.ended) refl

-- what was written and is read again comes back by every plan
pub come_back : {S W X : Type 0} (reading : FileReading S) (put : Field → W → W) (IsSpelled : Field → Type 0) (IsWhole : W → Type 0) (bytes_of : W → List ℕ) (none : W) →
    AreReadAgain reading put IsSpelled IsWhole bytes_of none → ComeBack {W = W} {X = X} put IsSpelled IsWhole bytes_of none (λ plan bytes x. whole_by reading plan bytes ≡ Ok x)
come_back reading put IsSpelled IsWhole bytes_of none again = λ fields plan x spelled whole expects.
    file_read reading (bytes_of (with_fields put fields none)) fields plan x (again fields spelled whole) expects
