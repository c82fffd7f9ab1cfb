-- Reading contents by their plan, step by step.
use Rattle.std.proofs.Common.{◌≡◌, ◌∙◌, ◌++◌, [], ◌∷◌, ℕ, Bool, true, false, List, Option, Result, Ok, Err, nat_eq, if◌then◌else◌, refl}
use Rattle.std.proofs.lemmas.List.{map_push}
use Rattle.yd_any.specs.Tree.{AnyTree, no_trees}
use Rattle.yd_ops.specs.Value as ops
use Rattle.yd_parts.specs.Fault.{Fault}
use Rattle.yd_fields.specs.Field.{FieldType, FieldValue}
use Rattle.yd_fields.specs.Field as field
use Rattle.yd_fields.specs.JsonPlan.{unit_at}
use Rattle.yd_parts.specs.Plan.{give, refuse, and_then, of_made, read_by, repeated, ◌>>=◌}
use Rattle.yd_fields.specs.StructPlan.{kind_plan, nested_plan, unit_step, units_plan, value_step, values_plan}
use Rattle.yd_parts.specs.declared.fault.Cause.TheVariants as causes
use Rattle.yd_parts.specs.declared.fault.Spot.{Spot}
use Rattle.yd_parts.proofs.PlanLemmas.{read_by_bind, then_same}

-- what was made without reading
pub read_by_made : {T : Type 0} {V : T → Type 0} {S X : Type 0} (at : (t : T) → S → Result (V t × S) Fault) (spot_of : S → Spot) (made : Result X Fault) (s : S) →
    read_by at spot_of (of_made made) s ≡ and_then made (λ x. Ok (x, s))
unfolding read_by
read_by_made at spot_of (Ok x) s = refl
read_by_made at spot_of (Err fault) s = refl

-- a type
pub read_nested_plan : {S : Type 0} (at : (t : FieldType) → S → Result (FieldValue t × S) Fault) (spot_of : S → Spot) (s : S) →
    read_by at spot_of nested_plan s ≡ and_then (read_by at spot_of kind_plan s) (λ kind. Ok (ops.nested kind.0, kind.1))
unfolding nested_plan read_by
read_nested_plan at spot_of s = read_by_bind at spot_of kind_plan (λ kind. give (ops.nested kind)) s

-- one more JSON unit
pub read_unit_step : {S : Type 0} (at : (t : FieldType) → S → Result (FieldValue t × S) Fault) (spot_of : S → Spot) (found : List (Option AnyTree)) (s : S) →
    read_by at spot_of (unit_step found) s ≡ and_then (at field.string s) (λ text. and_then (unit_at (spot_of text.1) text.0) (λ unit. Ok (found ++ unit ∷ [], text.1)))
unfolding unit_step read_by
read_unit_step at spot_of found s = then_same (at field.string s) _ _ (λ text.
    read_by_bind at spot_of (of_made (unit_at (spot_of text.1) text.0)) (λ unit. give (found ++ unit ∷ [])) text.1
    ∙ one (unit_at (spot_of text.1) text.0) text.1)
  where
    one : (made : Result (Option AnyTree) Fault) (left : _) →
        and_then (read_by at spot_of (of_made made) left) (λ read. read_by at spot_of (give (found ++ read.0 ∷ [])) read.1) ≡ and_then made (λ unit. Ok (found ++ unit ∷ [], left))
    one (Ok unit) left = refl
    one (Err fault) left = refl

-- one more JSON unit, as the code has it in a list
pub ruleset next_unit = (read_unit_step, map_push)

-- so many JSON units
pub read_units_plan : {S : Type 0} (at : (t : FieldType) → S → Result (FieldValue t × S) Fault) (spot_of : S → Spot) (begin : Spot) (s : S) →
    read_by at spot_of (units_plan begin) s ≡ and_then (at field.len s) (λ count. if nat_eq count.0 0 then Err (record { cause = causes.EmptyStruct; spot = begin })
    else and_then (read_by at spot_of (repeated unit_step count.0 []) count.1) (λ units. Ok (ops.json units.0, units.1)))
unfolding units_plan read_by
read_units_plan at spot_of begin s = then_same (at field.len s) _ _ (λ count. some (nat_eq count.0 0) count.0 count.1)
  where
    some : (none : Bool) (count : ℕ) (left : _) →
        read_by at spot_of (if none then refuse causes.EmptyStruct begin else (repeated unit_step count [] >>= λ units. give (ops.json units))) left
        ≡ (if none then Err (record { cause = causes.EmptyStruct; spot = begin }) else and_then (read_by at spot_of (repeated unit_step count []) left) (λ units. Ok (ops.json units.0, units.1)))
    some true count left = refl
    some false count left = read_by_bind at spot_of (repeated unit_step count []) (λ units. give (ops.json units)) left

-- so many any-values
pub read_values_plan : {S : Type 0} (at : (t : FieldType) → S → Result (FieldValue t × S) Fault) (spot_of : S → Spot) (begin : Spot) (s : S) →
    read_by at spot_of (values_plan begin) s ≡ and_then (at field.len s) (λ count. if nat_eq count.0 0 then Err (record { cause = causes.EmptyStruct; spot = begin })
    else and_then (read_by at spot_of (repeated value_step count.0 no_trees) count.1) (λ values. Ok (ops.any values.0, values.1)))
unfolding values_plan read_by
read_values_plan at spot_of begin s = then_same (at field.len s) _ _ (λ count. some (nat_eq count.0 0) count.0 count.1)
  where
    some : (none : Bool) (count : ℕ) (left : _) →
        read_by at spot_of (if none then refuse causes.EmptyStruct begin else (repeated value_step count no_trees >>= λ values. give (ops.any values))) left
        ≡ (if none then Err (record { cause = causes.EmptyStruct; spot = begin }) else and_then (read_by at spot_of (repeated value_step count no_trees) left) (λ values. Ok (ops.any values.0, values.1)))
    some true count left = refl
    some false count left = read_by_bind at spot_of (repeated value_step count no_trees) (λ values. give (ops.any values)) left
