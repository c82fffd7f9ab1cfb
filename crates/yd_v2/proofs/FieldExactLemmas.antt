-- Each field of V2 is read exactly.
use Rattle.std.proofs.Common.{◌≡◌, ◌∙◌, Result, Ok, Err, refl, ap, subst, sym}
use Rattle.yd_fields.specs.Field.{FieldType, FieldValue}
use Rattle.yd_num.proofs.ReadingLemmas.{ok_value}
use Rattle.yd_parts.proofs.ExactLemmas.{failed_read, given_read, plan_fails, plan_gives}
use Rattle.yd_parts.specs.Exact.{ReadsExactly}
use Rattle.yd_parts.specs.Fault.{Fault}
use Rattle.yd_parts.specs.Plan.{PlanGives, and_then, read_by}
use Rattle.yd_parts.specs.declared.fault.Spot.{Spot}
use Rattle.yd_v2.proofs.PartExactLemmas.{v2_parts_exact}
use Rattle.yd_v2.specs.Grammar.{FailsField, FailsV2Part, StandsField, StandsV2Part}
use Rattle.yd_v2.specs.Part.{V2Turn, v2_last, v2_part_at}
use Rattle.yd_v2.specs.Plan.{FieldRead, v2_plan}
use Rattle.yd_v2.specs.Reading.{V2Now, turn_of, v2_at, v2_spot}

-- what a field gives, where its parts are read
abbrev field_of : {X : Type 0} → FieldRead X × V2Turn → Result (X × V2Now) Fault
field_of got = Ok (got.0.value, record { left = got.1.left; known = got.0.known; spot = got.0.spot })

-- what V2 reads of a field stands there
field_found : (t : FieldType) (now : V2Now) (v : FieldValue t) (next : V2Now) → v2_at t now ≡ Ok (v, next) → StandsField now (record { type = t; value = v; spot = v2_spot next }) next
unfolding v2_at
field_found t now v next is = behind_parts (read_by v2_part_at v2_last (v2_plan t now.known) (turn_of now)) refl is
  where
    behind_parts : (read : Result (FieldRead (FieldValue t) × V2Turn) Fault) → read_by v2_part_at v2_last (v2_plan t now.known) (turn_of now) ≡ read →
        and_then {B = FieldValue t × V2Now} read field_of ≡ Ok (v, next) → StandsField now (record { type = t; value = v; spot = v2_spot next }) next
    behind_parts (Ok got) read gives =
        let same = ok_value {E = Fault} (got.0.value, record { left = got.1.left; known = got.0.known; spot = got.0.spot }) (v, next) gives in
        let parts : PlanGives StandsV2Part (v2_plan t now.known) (turn_of now) got.0 got.1 = plan_gives v2_part_at v2_last StandsV2Part FailsV2Part v2_parts_exact (v2_plan t now.known) (turn_of now) got.0 got.1 read in
        record {
          end = got.1;
          parts = subst (λ (pair : FieldValue t × V2Now). PlanGives StandsV2Part (v2_plan t now.known) (turn_of now) (record { value = pair.0; spot = pair.1.spot; known = pair.1.known }) got.1) same parts;
          left = ap (λ (pair : FieldValue t × V2Now). pair.1.left) (sym same);
          spot = refl;
        }
    behind_parts (Err fault) read gives = absurd cc

-- a field that stands there is read
field_only : (t : FieldType) (now : V2Now) (v : FieldValue t) (spot : Spot) (next : V2Now) → StandsField now (record { type = t; value = v; spot = spot }) next → (v2_at t now ≡ Ok (v, next)) × (spot ≡ v2_spot next)
unfolding v2_at
field_only t now v spot next stands =
    let read = given_read v2_part_at v2_last StandsV2Part FailsV2Part v2_parts_exact (v2_plan t now.known) (turn_of now) (record { value = v; spot = next.spot; known = next.known }) stands.end stands.parts in
    (rw read (ap (λ left. Ok (v, record { left = left; known = next.known; spot = next.spot })) (sym stands.left)), stands.spot)

-- where V2 fails to read a field, it fails
field_fails : (t : FieldType) (now : V2Now) (fault : Fault) → v2_at t now ≡ Err fault → FailsField t now fault
unfolding v2_at
field_fails t now fault is = behind_parts (read_by v2_part_at v2_last (v2_plan t now.known) (turn_of now)) refl is
  where
    behind_parts : (read : Result (FieldRead (FieldValue t) × V2Turn) Fault) → read_by v2_part_at v2_last (v2_plan t now.known) (turn_of now) ≡ read →
        and_then {B = FieldValue t × V2Now} read field_of ≡ Err fault → FailsField t now fault
    behind_parts (Ok got) read gives = absurd cc
    behind_parts (Err other) read gives =
        let same : other ≡ fault = cc in
        plan_fails v2_part_at v2_last StandsV2Part FailsV2Part v2_parts_exact (v2_plan t now.known) (turn_of now) fault (read ∙ ap Err same)

-- where a field fails, V2 fails to read it
field_fails_only : (t : FieldType) (now : V2Now) (fault : Fault) → FailsField t now fault → v2_at t now ≡ Err fault
unfolding v2_at
field_fails_only t now fault fails =
    let failed = failed_read v2_part_at v2_last StandsV2Part FailsV2Part v2_parts_exact (v2_plan t now.known) (turn_of now) fault fails in
    rw failed refl

pub v2_fields_exact : ReadsExactly v2_at v2_spot StandsField FailsField
v2_fields_exact = record { found = field_found; only = field_only; fails = field_fails; fails_only = field_fails_only }
