-- Bytes that a plan reads as a value, whatever follows.
use Rattle.std.proofs.Common.{◌≡◌, ℕ, ◌^◌, ◌<◌, List, [], ◌∷◌, ◌++◌, length, Result, Ok, refl, sym, ap, subst, ◌∙◌, append_assoc, append-nil}
use Rattle.std.specs.Prelude.{IsOkAnd}
use Rattle.yd_num.specs.Number.{byte_at, unsigned_at}
use Rattle.yd_num.specs.Reading.{Cause as NumCause}
use Rattle.yd_num.specs.Signed.{signed_at}
use Rattle.yd_num.specs.Text.{blob_at, bytes_at, text_at}
use Rattle.yd_num.specs.Writing.{shortest, shortest_blob, shortest_signed}
use Rattle.yd_num.specs.declared.signed.Signed.{Signed}
use Rattle.yd_num.proofs.BlobLemmas.{blob_only, bytes_only, text_only}
use Rattle.yd_num.proofs.NumberLemmas.{unsigned_only}
use Rattle.yd_num.proofs.ShortestLemmas.{unsigned_spells}
use Rattle.yd_num.proofs.ShortestSignedLemmas.{signed_spells}
use Rattle.yd_num.proofs.SignedLemmas.{signed_only}
use Rattle.yd_num.proofs.WrittenLemmas.{blob_spells, text_spells}
use Rattle.yd_parts.specs.AnyBytes.{IsWritableText}
use Rattle.yd_parts.specs.Fault.{Fault}
use Rattle.yd_parts.specs.Part.{Part, PartPlan, PartValue, Unread, behind, last_spot, part_at, placed}
use Rattle.yd_parts.specs.Part as part
use Rattle.yd_parts.specs.Plan.{give, want, ◌>>=◌, and_then, read_by}
use Rattle.yd_parts.specs.declared.fault.Spot.{Spot}
use Rattle.yd_parts.proofs.PlanLemmas.{read_by_bind}

-- the bytes are read as a part of the type with this value, whatever follows
abbrev pub PartReads : (t : Part) → List ℕ → PartValue t → Type 0
PartReads t bytes v = (s : Unread) (rest : List ℕ) → s.bytes ≡ bytes ++ rest → (left : Unread) × (part_at t s ≡ Ok (v, left)) × (left.bytes ≡ rest)

-- the bytes are read by the plan as the value, whatever follows
abbrev pub ReadsAs : {X : Type 0} → PartPlan X → List ℕ → X → Type 0
ReadsAs plan bytes x = (s : Unread) (rest : List ℕ) → s.bytes ≡ bytes ++ rest → (left : Unread) × (read_by part_at last_spot plan s ≡ Ok (x, left)) × (left.bytes ≡ rest)

-- ---- parts

-- what is read at the front
at_front : {X : Type 0} (read : List ℕ → Result (X × List ℕ) NumCause) (bytes : List ℕ) (x : X) (s : Unread) (rest : List ℕ) → read (bytes ++ rest) ≡ Ok (x, rest) → s.bytes ≡ bytes ++ rest → placed s (read s.bytes) ≡ Ok (x, behind s rest)
at_front read bytes x s rest got e = ap (placed s) (ap read e ∙ got)

pub part_byte : (b : ℕ) → PartReads part.byte (b ∷ []) b
part_byte b = λ s rest e. (behind s rest, at_front byte_at (b ∷ []) b s rest refl e, refl)

pub part_unsigned : (v : ℕ) → v < 2 ^ 53 → PartReads part.unsigned (shortest v) v
part_unsigned v lt = λ s rest e. (behind s rest, at_front unsigned_at (shortest v) v s rest (unsigned_only (shortest v) v rest (unsigned_spells v lt)) e, refl)

pub part_signed : (n : Signed) → n.size < 2 ^ 55 → PartReads part.signed (shortest_signed n) n
part_signed n lt = λ s rest e. (behind s rest, at_front signed_at (shortest_signed n) n s rest (signed_only (shortest_signed n) n rest (signed_spells n lt)) e, refl)

pub part_blob : (bytes : List ℕ) → length bytes < 2 ^ 53 → PartReads part.blob (shortest_blob bytes) bytes
part_blob bytes lt = λ s rest e. (behind s rest, at_front blob_at (shortest_blob bytes) bytes s rest (blob_only (shortest_blob bytes) bytes rest (blob_spells bytes lt)) e, refl)

pub part_text : (text : List ℕ) → IsWritableText text → PartReads part.text (shortest_blob text) text
part_text text fits = λ s rest e. (behind s rest, at_front text_at (shortest_blob text) text s rest (text_only (shortest_blob text) text rest (text_spells text fits)) e, refl)

pub part_raw : (count : ℕ) (bytes : List ℕ) → length bytes ≡ count → PartReads (part.raw count) bytes bytes
part_raw count bytes len = λ s rest e. (behind s rest, at_front (bytes_at count) bytes bytes s rest (bytes_only count bytes rest len) e, refl)

-- ---- plans

pub reads_give : {X : Type 0} (x : X) → ReadsAs (give x) [] x
unfolding read_by
reads_give x = λ s rest e. (s, refl, e)

-- a part, and what is read behind it
pub reads_want : {X : Type 0} (t : Part) (next : PartValue t → Spot → PartPlan X) (front back : List ℕ) (v : PartValue t) (x : X) → PartReads t front v → ((spot : Spot) → ReadsAs (next v spot) back x) → ReadsAs (want t next) (front ++ back) x
unfolding read_by
reads_want {X} t next front back v x first later = λ s rest e.
    let got = first s (back ++ rest) (e ∙ append_assoc front back rest) in
    let more = later (last_spot got.0) got.0 rest got.2 in
    (more.0, ap (λ (read : Result (PartValue t × Unread) Fault). and_then read (λ r. read_by part_at last_spot (next r.0 (last_spot r.1)) r.1)) got.1 ∙ more.1, more.2)

-- a part, of which the value is made
pub reads_last : {X : Type 0} (t : Part) (next : PartValue t → Spot → PartPlan X) (front : List ℕ) (v : PartValue t) (x : X) → PartReads t front v → ((spot : Spot) → next v spot ≡ give x) → ReadsAs (want t next) front x
reads_last t next front v x first made =
    subst (λ (bytes : List ℕ). ReadsAs (want t next) bytes x) (append-nil front) (reads_want t next front [] v x first (λ spot. subst (λ plan. ReadsAs plan [] x) (sym (made spot)) (reads_give x)))

-- a plan, and what is read behind it
pub reads_bind : {X Y : Type 0} (plan : PartPlan X) (next : X → PartPlan Y) (front back : List ℕ) (x : X) (y : Y) → ReadsAs plan front x → ReadsAs (next x) back y → ReadsAs (plan >>= next) (front ++ back) y
reads_bind {X} {Y} plan next front back x y first later = λ s rest e.
    let got = first s (back ++ rest) (e ∙ append_assoc front back rest) in
    let more = later got.0 rest got.2 in
    (more.0, read_by_bind part_at last_spot plan next s ∙ ap (λ (read : Result (X × Unread) Fault). and_then read (λ r. read_by part_at last_spot (next r.0) r.1)) got.1 ∙ more.1, more.2)

-- a plan whose value is made into another
pub reads_map : {X Y : Type 0} (plan : PartPlan X) (next : X → PartPlan Y) (front : List ℕ) (x : X) (y : Y) → ReadsAs plan front x → next x ≡ give y → ReadsAs (plan >>= next) front y
reads_map plan next front x y first made =
    subst (λ (bytes : List ℕ). ReadsAs (plan >>= next) bytes y) (append-nil front) (reads_bind plan next front [] x y first (subst (λ p. ReadsAs p [] y) (sym made) (reads_give y)))

-- what is read so is read at all
pub reads_well : {X : Type 0} (plan : PartPlan X) (bytes : List ℕ) (x : X) → ReadsAs plan bytes x → (s : Unread) (rest : List ℕ) → s.bytes ≡ bytes ++ rest → IsOkAnd (read_by part_at last_spot plan s) (λ read. (read.0 ≡ x) × (read.1.bytes ≡ rest))
reads_well {X} plan bytes x reads s rest e =
    let got = reads s rest e in
    subst (λ (read : Result (X × Unread) Fault). IsOkAnd read (λ r. (r.0 ≡ x) × (r.1.bytes ≡ rest))) (sym got.1) (refl, got.2)
