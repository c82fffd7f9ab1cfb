-- Each field of V1 is read exactly.
use Rattle.std.proofs.Common.{◌≡◌, ◌∙◌, Result, Ok, Err, refl, ap, subst, sym}
use Rattle.yd_num.proofs.ReadingLemmas.{ok_value}
use Rattle.yd_parts.proofs.ExactLemmas.{failed_read, given_read, plan_fails, plan_gives}
use Rattle.yd_parts.proofs.PartExactLemmas.{parts_exact}
use Rattle.yd_parts.specs.Exact.{ReadsExactly}
use Rattle.yd_parts.specs.Fault.{Fault}
use Rattle.yd_parts.specs.Part.{Unread, here, last_spot, part_at}
use Rattle.yd_parts.specs.PartGrammar.{FailsPart, StandsPart}
use Rattle.yd_parts.specs.Plan.{PlanGives, and_then, read_by}
use Rattle.yd_parts.specs.declared.fault.Spot.{Spot}
use Rattle.yd_fields.specs.Field.{FieldType, FieldValue}
use Rattle.yd_v1.specs.Grammar.{FailsField, StandsField}
use Rattle.yd_v1.specs.Reading.{V1Left, v1_at, v1_plan, v1_spot}

-- what V1 reads of a field stands there
field_found : (t : FieldType) (now : V1Left) (v : FieldValue t) (next : V1Left) → v1_at t now ≡ Ok (v, next) → StandsField now (record { type = t; value = v; spot = v1_spot next }) next
unfolding v1_at
field_found t now v next is = behind_parts (read_by part_at last_spot (v1_plan t) now.left) refl is
  where
    behind_parts : (read : Result (FieldValue t × Unread) Fault) → read_by part_at last_spot (v1_plan t) now.left ≡ read →
        and_then {B = FieldValue t × V1Left} read (λ got. Ok (got.0, record { left = got.1; spot = here now.left })) ≡ Ok (v, next) → StandsField now (record { type = t; value = v; spot = v1_spot next }) next
    behind_parts (Ok got) read gives =
        let same = ok_value (got.0, record { left = got.1; spot = here now.left }) (v, next) gives in
        let next_is : record { left = got.1; spot = here now.left } ≡ next = ap (λ pair. pair.1) same in
        let parts : PlanGives StandsPart (v1_plan t) now.left got.0 got.1 = plan_gives part_at last_spot StandsPart FailsPart parts_exact (v1_plan t) now.left got.0 got.1 read in
        record {
          parts = subst (λ (pair : FieldValue t × V1Left). PlanGives StandsPart (v1_plan t) now.left pair.0 pair.1.left) same parts;
          spot = ap v1_spot (sym next_is);
          next_spot = ap v1_spot (sym next_is);
        }
    behind_parts (Err fault) read gives = absurd cc

-- a field that stands there is read
field_only : (t : FieldType) (now : V1Left) (v : FieldValue t) (spot : Spot) (next : V1Left) → StandsField now (record { type = t; value = v; spot = spot }) next → (v1_at t now ≡ Ok (v, next)) × (spot ≡ v1_spot next)
unfolding v1_at
field_only t now v spot next stands =
    let read = given_read part_at last_spot StandsPart FailsPart parts_exact (v1_plan t) now.left v next.left stands.parts in
    let whole : record { left = next.left; spot = here now.left } ≡ next = ap (λ place. record { left = next.left; spot = place }) (sym stands.next_spot) in
    (rw read (ap (λ left. Ok (v, left)) whole), stands.spot ∙ sym stands.next_spot)

-- where V1 fails to read a field, it fails
field_fails : (t : FieldType) (now : V1Left) (fault : Fault) → v1_at t now ≡ Err fault → FailsField t now fault
unfolding v1_at
field_fails t now fault is = behind_parts (read_by part_at last_spot (v1_plan t) now.left) refl is
  where
    behind_parts : (read : Result (FieldValue t × Unread) Fault) → read_by part_at last_spot (v1_plan t) now.left ≡ read →
        and_then {B = FieldValue t × V1Left} read (λ got. Ok (got.0, record { left = got.1; spot = here now.left })) ≡ Err fault → FailsField t now fault
    behind_parts (Ok got) read gives = absurd cc
    behind_parts (Err other) read gives =
        let same : other ≡ fault = cc in
        plan_fails part_at last_spot StandsPart FailsPart parts_exact (v1_plan t) now.left fault (read ∙ ap Err same)

-- where a field fails, V1 fails to read it
field_fails_only : (t : FieldType) (now : V1Left) (fault : Fault) → FailsField t now fault → v1_at t now ≡ Err fault
unfolding v1_at
field_fails_only t now fault fails =
    let failed = failed_read part_at last_spot StandsPart FailsPart parts_exact (v1_plan t) now.left fault fails in
    rw failed refl

-- fields are read exactly
pub fields_exact : ReadsExactly v1_at v1_spot StandsField FailsField
fields_exact = record { found = field_found; only = field_only; fails = field_fails; fails_only = field_fails_only }
