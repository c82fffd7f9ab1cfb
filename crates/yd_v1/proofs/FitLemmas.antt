-- What V1 reads of a field fits its type.
use Rattle.std.proofs.Common.{◌≡◌, ◌<◌, ℕ, List, Result, Ok, Err, IsTrue, refl, ap, subst, arith}
use Rattle.yd_any.specs.Tree.{AnyTree}
use Rattle.yd_any.specs.Valid.{is_valid_json}
use Rattle.yd_reading.proofs.JsonFitLemmas.{value_at_valid}
use Rattle.yd_reading.proofs.JudgedFitLemmas.{EndAtClock, flag_judged, range_judged}
use Rattle.yd_fields.specs.Field.{FieldType, FieldValue, Fits, ReadsFit}
use Rattle.yd_fields.specs.Field as field
use Rattle.yd_fields.specs.JsonPlan.{value_at}
use Rattle.yd_ids.specs.Id.{IsId}
use Rattle.yd_num.proofs.ReadingLemmas.{ok_value}
use Rattle.yd_parts.proofs.AnyFitsLemmas.{any_read_valid}
use Rattle.yd_parts.proofs.GivenLemmas.{GivesOnly, given}
use Rattle.yd_parts.proofs.PartFitLemmas.{FitsPart, parts_fit}
use Rattle.yd_parts.specs.AnyPlan.{any_plan}
use Rattle.yd_parts.specs.Fault.{Fault}
use Rattle.yd_parts.specs.Part.{Unread, here, last_spot, part_at}
use Rattle.yd_parts.specs.Plan.{and_then, of_made, read_by}
use Rattle.yd_parts.specs.declared.fault.Spot.{Spot}
use Rattle.yd_v1.specs.Reading.{IsSoundV1, V1Left, flag_plan, id_plan, json_text_plan, range_plan, v1_at, v1_plan}

-- an id
id_fits : GivesOnly FitsPart IsId id_plan
unfolding id_plan
id_fits = λ client spot is_client clock at is_clock. record { client = is_client; clock = is_clock }

-- a flag
flag_fits : GivesOnly FitsPart (λ flag. flag < 2) flag_plan
unfolding flag_plan
flag_fits = λ flag spot in_range. flag_judged FitsPart spot flag

-- a range
range_fits : GivesOnly FitsPart EndAtClock range_plan
unfolding range_plan
range_fits = λ clock spot is_clock len at is_len. range_judged FitsPart spot clock len

-- a JSON value
json_fits : GivesOnly FitsPart (λ t. IsTrue (is_valid_json t)) json_text_plan
unfolding json_text_plan
json_fits = λ text spot is_text. judged spot text (value_at spot text) refl
  where
    judged : (spot : Spot) (text : List ℕ) (made : Result AnyTree Fault) → value_at spot text ≡ made → GivesOnly FitsPart (λ t. IsTrue (is_valid_json t)) (of_made made)
    judged spot text (Ok t) is = value_at_valid spot text t is
    judged spot text (Err fault) is = tt

-- what is read of a field, but for any-values
plain_fits : (t : FieldType) → GivesOnly FitsPart (Fits t) (v1_plan t) → (now : V1Left) (v : FieldValue t) (next : V1Left) → v1_at t now ≡ Ok (v, next) → Fits t v
unfolding v1_at
plain_fits t only now v next is = behind_parts (read_by part_at last_spot (v1_plan t) now.left) refl is
  where
    behind_parts : (read : Result (FieldValue t × Unread) Fault) → read_by part_at last_spot (v1_plan t) now.left ≡ read →
        and_then {B = FieldValue t × V1Left} read (λ got. Ok (got.0, record { left = got.1; spot = here now.left })) ≡ Ok (v, next) → Fits t v
    behind_parts (Ok got) read gives =
        let same : got.0 ≡ v = ap (λ pair. pair.0) (ok_value (got.0, record { left = got.1; spot = here now.left }) (v, next) gives) in
        subst (Fits t) same (given part_at last_spot FitsPart (λ left. Unit {0}) (Fits t) (v1_plan t) now.left got.0 got.1 parts_fit only tt read)
    behind_parts (Err fault) read gives = absurd cc

-- what is read of an any-value
any_fits : (now : V1Left) (v : FieldValue field.any) (next : V1Left) → v1_at field.any now ≡ Ok (v, next) → Fits field.any v
unfolding v1_at
any_fits now v next is = behind_parts (read_by part_at last_spot (any_plan 100) now.left) refl is
  where
    behind_parts : (read : Result (FieldValue field.any × Unread) Fault) → read_by part_at last_spot (any_plan 100) now.left ≡ read →
        and_then {B = FieldValue field.any × V1Left} read (λ got. Ok (got.0, record { left = got.1; spot = here now.left })) ≡ Ok (v, next) → Fits field.any v
    behind_parts (Ok got) read gives =
        let same : got.0 ≡ v = ap (λ pair. pair.0) (ok_value (got.0, record { left = got.1; spot = here now.left }) (v, next) gives) in
        subst (Fits field.any) same (any_read_valid 100 now.left got.0 got.1 (omega arith) read)
    behind_parts (Err fault) read gives = absurd cc

-- what is read of a field of each type
fits_of : (t : FieldType) (now : V1Left) (v : FieldValue t) (next : V1Left) → v1_at t now ≡ Ok (v, next) → Fits t v
fits_of field.info = λ now v next is. tt
fits_of field.client = plain_fits field.client (λ v spot fits. fits)
fits_of field.left = plain_fits field.left id_fits
fits_of field.right = plain_fits field.right id_fits
fits_of field.flag = plain_fits field.flag flag_fits
fits_of field.string = plain_fits field.string (λ text spot fits. fits)
fits_of field.key = plain_fits field.key (λ text spot fits. fits)
fits_of field.kind = plain_fits field.kind (λ v spot fits. fits)
fits_of field.len = plain_fits field.len (λ v spot fits. fits)
fits_of field.any = any_fits
fits_of field.blob = λ now v next is. tt
fits_of field.json = plain_fits field.json json_fits
fits_of field.number = plain_fits field.number (λ v spot fits. fits)
fits_of (field.range before) = plain_fits (field.range before) range_fits

-- what V1 reads fits its type, from whatever is left
pub v1_fits : ReadsFit v1_at IsSoundV1
v1_fits t now v next sound is = (fits_of t now v next is, tt)
