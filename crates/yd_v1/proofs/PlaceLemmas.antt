-- The place of a fault in V1 is within the file.
use Rattle.std.proofs.Common.{◌≡◌, ◌∙◌, ◌<◌, ◌≤◌, ◌^◌, ◌+◌, ◌-◌, ◌++◌, ℕ, List, [], ◌∷◌, None, length, Result, Ok, Err, refl, ap, subst, arith, length-append}
use Rattle.yd_fields.specs.Field.{FieldType, FieldValue}
use Rattle.yd_fields.specs.UpdatePlan.{update_plan}
use Rattle.yd_num.proofs.ReadingLemmas.{ok_value}
use Rattle.yd_ops.specs.Value as ops
use Rattle.yd_parts.proofs.PartExactLemmas.{parts_exact}
use Rattle.yd_parts.specs.Fault.{Fault, IsFaultOf}
use Rattle.yd_parts.specs.Part.{Unread, here, last_spot, part_at}
use Rattle.yd_parts.specs.Plan.{and_then, read_by}
use Rattle.yd_parts.specs.declared.fault.ReadError.{ReadError}
use Rattle.yd_parts.specs.declared.fault.ReadError.TheVariants as errors
use Rattle.yd_parts.specs.declared.fault.Spot.{Spot}
use Rattle.yd_v1.specs.Log.{HasPlace}
use Rattle.yd_v1.specs.Reading.{V1Left, nothing_left, v1_at, v1_plan, v1_reading, v1_spot, v1_start, v1_whole}
use Rattle.yd_v1.proofs.RefusalLemmas.{ReadsAt, TellsAt, field_plan_at, reads_at, update_at}

-- so many bytes have been read or are left
abbrev HasBytes : ℕ → Unread → Type 0
HasBytes count left = left.place + length left.bytes ≡ count

-- the place is within so many bytes
abbrev IsWithin : ℕ → Spot → Type 0
IsWithin count spot = spot.at ≤ count

-- parts stand within the bytes
parts_at : (count : ℕ) → TellsAt part_at last_spot (HasBytes count) (IsWithin count)
parts_at count = record {
  told = λ t now v next sound is.
      let stands = parts_exact.found t now v next is in
      let joined : length now.bytes ≡ length (stands.front ++ stands.rest) = ap length stands.joined in
      let place : next.place ≡ (now.place + length now.bytes) - length stands.rest = ap (λ (left : Unread). left.place) stands.next_is in
      let bytes : length next.bytes ≡ length stands.rest = ap (λ (left : Unread). length left.bytes) stands.next_is in
      let last : next.last ≡ now.place = ap (λ (left : Unread). left.last) stands.next_is in
      (omega (arith, length-append stands.front stands.rest), omega arith);
  lacks = λ t now fault sound is.
      let lacks = parts_exact.fails t now fault is in
      let place : fault.spot.at ≡ now.place = ap (λ (one : Fault). one.spot.at) lacks.fault_is in
      omega arith;
}

-- so do fields
abbrev HasBytesV1 : ℕ → V1Left → Type 0
HasBytesV1 count now = HasBytes count now.left

fields_at : (count : ℕ) → TellsAt v1_at v1_spot (HasBytesV1 count) (IsWithin count)
unfolding v1_at
fields_at count = record {
  told = λ t now v next sound is. told_by t now v next sound (read_by part_at last_spot (v1_plan t) now.left) refl is;
  lacks = λ t now fault sound is. fails_by t now fault sound (read_by part_at last_spot (v1_plan t) now.left) refl is;
}
  where
    of_parts : (t : FieldType) (now : V1Left) → HasBytesV1 count now → ReadsAt part_at last_spot (HasBytes count) (IsWithin count) (v1_plan t) now.left
    of_parts t now sound = reads_at part_at last_spot (HasBytes count) (IsWithin count) (v1_plan t) now.left (parts_at count) (field_plan_at (IsWithin count) t) sound

    told_by : (t : FieldType) (now : V1Left) (v : FieldValue t) (next : V1Left) → HasBytesV1 count now → (read : Result (FieldValue t × Unread) Fault) → read_by part_at last_spot (v1_plan t) now.left ≡ read →
        and_then {B = FieldValue t × V1Left} read (λ got. Ok (got.0, record { left = got.1; spot = here now.left })) ≡ Ok (v, next) → HasBytesV1 count next × IsWithin count next.spot
    told_by t now v next sound (Ok got) is gives =
        let same : record { left = got.1; spot = here now.left } ≡ next = ap (λ pair. pair.1) (ok_value (got.0, record { left = got.1; spot = here now.left }) (v, next) gives) in
        let left = (of_parts t now sound).ends got.0 got.1 is in
        let within : now.left.place ≤ count = omega arith in
        subst (λ (one : V1Left). HasBytesV1 count one × IsWithin count one.spot) same (left, within)
    told_by t now v next sound (Err fault) is gives = absurd cc

    fails_by : (t : FieldType) (now : V1Left) (fault : Fault) → HasBytesV1 count now → (read : Result (FieldValue t × Unread) Fault) → read_by part_at last_spot (v1_plan t) now.left ≡ read →
        and_then {B = FieldValue t × V1Left} read (λ got. Ok (got.0, record { left = got.1; spot = here now.left })) ≡ Err fault → IsWithin count fault.spot
    fails_by t now fault sound (Ok got) is gives = absurd cc
    fails_by t now fault sound (Err other) is gives = let same : other ≡ fault = cc in (of_parts t now sound).fails fault (is ∙ ap Err same)

-- ---- lemmas for callers

-- the first fault of a file is within it
pub fault_within : (bytes : List ℕ) (fault : Fault) → v1_reading bytes ≡ Err fault → fault.spot.at ≤ length bytes
unfolding v1_whole
fault_within bytes fault is = behind_fields (read_by v1_at v1_spot (update_plan None) (v1_start bytes)) refl is
  where
    of_fields : ReadsAt v1_at v1_spot (HasBytesV1 (length bytes)) (IsWithin (length bytes)) (update_plan None) (v1_start bytes)
    of_fields = reads_at v1_at v1_spot (HasBytesV1 (length bytes)) (IsWithin (length bytes)) (update_plan None) (v1_start bytes) (fields_at (length bytes)) (update_at (IsWithin (length bytes)) None) (omega arith)

    at_end : (spot : Spot) (rest : List ℕ) (u : ops.UpdateValue) → spot.at ≤ length bytes → and_then (nothing_left spot rest) (λ end. Ok u) ≡ Err fault → fault.spot.at ≤ length bytes
    at_end spot [] u within gives = absurd cc
    at_end spot (b ∷ rest) u within gives = let same : spot ≡ fault.spot = cc in subst (λ (one : Spot). one.at ≤ length bytes) same within

    behind_fields : (read : Result (ops.UpdateValue × V1Left) Fault) → read_by v1_at v1_spot (update_plan None) (v1_start bytes) ≡ read →
        and_then read (λ got. and_then (nothing_left (here got.1.left) got.1.left.bytes) (λ end. Ok got.0)) ≡ Err fault → fault.spot.at ≤ length bytes
    behind_fields (Ok got) read gives = let left = of_fields.ends got.0 got.1 read in at_end (here got.1.left) got.1.left.bytes got.0 (omega arith) gives
    behind_fields (Err other) read gives = let same : other ≡ fault = cc in of_fields.fails fault (read ∙ ap Err same)

-- so the error of a body is at a place of the file that has a number, where the body ends at one
pub has_place : (start : ℕ) (body : List ℕ) (error : ReadError) → start + length body < 2 ^ 64 → IsFaultOf (v1_reading body) error → HasPlace start error
has_place start body errors.NoMemory ends is = tt
has_place start body (errors.Fault cause spot) ends is = let within : spot.at ≤ length body = fault_within body (record { cause = cause; spot = spot }) is in omega arith
