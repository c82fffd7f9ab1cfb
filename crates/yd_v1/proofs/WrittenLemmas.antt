-- What is written is read again: fields from their bytes, one after another.
use Rattle.std.proofs.Common.{◌≡◌, ◌∙◌, ◌++◌, ℕ, List, [], ◌∷◌, Result, Ok, Err, IsOkAnd, append-nil, append_assoc, refl, ap, subst, sym}
use Rattle.yd_words.specs.Each.{Each}
use Rattle.yd_parts.specs.Fault.{Fault}
use Rattle.yd_fields.proofs.AgainLemmas.{come_back}
use Rattle.yd_fields.specs.Again.{AreRead, AreReadAgain}
use Rattle.yd_fields.specs.Field.{Field, FieldValue, FieldPlan}
use Rattle.yd_fields.specs.Writes.{with_fields}
use Rattle.yd_parts.specs.Plan.{Expects, read_by}
use Rattle.yd_v1.specs.Law.{FieldsComeBackV1}
use Rattle.yd_v1.specs.Reading.{V1Left, nothing_left, v1_at, v1_end, v1_files, v1_plan, v1_start, v1_whole}
use Rattle.yd_v1.specs.Bytes.{V1Spells, v1_bytes, v1_bytes_of_all}
use Rattle.yd_v1.specs.Grammar.{FillsV1}
use Rattle.yd_parts.specs.Part.{Unread, here, last_spot, part_at}
use Rattle.yd_v1.proofs.FileLemmas.{whole_fills}

-- the field is read from its bytes, whatever follows
abbrev IsReadBack : Field → Type 0
IsReadBack f = (now : V1Left) (rest : List ℕ) → now.left.bytes ≡ v1_bytes f ++ rest → (next : V1Left) × (v1_at f.0 now ≡ Ok (f.1, next)) × (next.left.bytes ≡ rest)

-- what V1 spells is read back
read_back : (f : Field) → V1Spells f → IsReadBack f
unfolding v1_at
read_back f spells now rest bytes = behind (read_by part_at last_spot (v1_plan f.0) now.left) refl (spells now.left rest bytes)
  where
    behind : (read : Result (FieldValue f.0 × Unread) Fault) → read_by part_at last_spot (v1_plan f.0) now.left ≡ read → IsOkAnd read (λ got. (got.0 ≡ f.1) × (got.1.bytes ≡ rest)) →
        (next : V1Left) × (v1_at f.0 now ≡ Ok (f.1, next)) × (next.left.bytes ≡ rest)
    behind (Ok got) is gives =
        let next : V1Left = record { left = got.1; spot = here now.left } in
        (next, rw is (ap (λ v. Ok (v, next)) gives.0), gives.1)
    behind (Err fault) is gives = absurd gives

-- nothing is left where the file ends
nothing_ends : (now : V1Left) → now.left.bytes ≡ [] → v1_end now ≡ Ok tt
nothing_ends now none = ap (nothing_left (here now.left)) none

-- fields are read from their bytes, one after another
fields_again : (fields : List Field) (now : V1Left) → Each V1Spells fields → now.left.bytes ≡ v1_bytes_of_all fields → AreRead v1_files fields now
fields_again [] now spelled bytes = nothing_ends now bytes
fields_again (f ∷ fs) now spelled bytes =
    let first = read_back f spelled.0 now (v1_bytes_of_all fs) bytes in
    (first.0, first.1, fields_again fs first.0 spelled.1 first.2)

-- ---- lemmas for callers

-- fields behind bytes
pub with_v1_bytes : (fs : List Field) (old : List ℕ) → with_fields (λ f bytes. bytes ++ v1_bytes f) fs old ≡ old ++ v1_bytes_of_all fs
with_v1_bytes [] old = sym (append-nil old)
with_v1_bytes (f ∷ fs) old = with_v1_bytes fs (old ++ v1_bytes f) ∙ append_assoc old (v1_bytes f) (v1_bytes_of_all fs)

-- what V1 spells is read again
pub written_again : AreReadAgain v1_files (λ f bytes. bytes ++ v1_bytes f) V1Spells (λ bytes. Unit {0}) (λ bytes. bytes) []
written_again = λ fields spelled whole. record { begin = v1_start (with_fields (λ f bytes. bytes ++ v1_bytes f) fields []); starts = refl; read = fields_again fields _ spelled (with_v1_bytes fields []) }

-- so what a plan makes of the fields stands in the file of their bytes
pub written_come_back : {X : Type 0} → FieldsComeBackV1 X
unfolding v1_whole
written_come_back = λ fields plan x spelled whole expects. whole_fills plan _ x (come_back v1_files (λ f bytes. bytes ++ v1_bytes f) V1Spells (λ bytes. Unit {0}) (λ bytes. bytes) [] written_again fields plan x spelled whole expects)

-- the same of the bytes of all fields
pub written_fills : {X : Type 0} (fields : List Field) (plan : FieldPlan X) (x : X) → Expects plan fields x → Each V1Spells fields → FillsV1 plan (v1_bytes_of_all fields) x
written_fills fields plan x expects spelled = subst (λ bytes. FillsV1 plan bytes x) (with_v1_bytes fields []) (written_come_back fields plan x spelled tt expects)
