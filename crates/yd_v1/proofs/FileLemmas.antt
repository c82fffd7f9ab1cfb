-- Whole files in V1 are read exactly, for any plan.
use Rattle.std.proofs.Common.{◌≡◌, ◌≢◌, ◌∙◌, ℕ, List, [], ◌∷◌, Result, Ok, Err, inl, inr, refl, ap, subst, sym}
use Rattle.yd_num.proofs.ReadingLemmas.{ok_value}
use Rattle.yd_parts.proofs.ExactLemmas.{failed_read, given_read, plan_fails, plan_gives}
use Rattle.yd_parts.specs.Fault.{Fault}
use Rattle.yd_parts.specs.Part.{here}
use Rattle.yd_parts.specs.Plan.{and_then, read_by}
use Rattle.yd_parts.specs.declared.fault.Cause.TheVariants.{Trailing}
use Rattle.yd_parts.specs.declared.fault.Spot.{Spot}
use Rattle.yd_fields.specs.Field.{FieldPlan}
use Rattle.yd_reading.specs.Files.{FilesAreRead}
use Rattle.yd_v1.proofs.ExactLemmas.{fields_exact}
use Rattle.yd_v1.specs.Grammar.{BeginsV1, FailsField, FailsV1, FillsV1, StandsField}
use Rattle.yd_v1.specs.Reading.{V1Left, nothing_left, v1_at, v1_end, v1_spot, v1_start, v1_whole}

-- nothing is left where the file ends
ended : (spot : Spot) (bytes : List ℕ) → nothing_left spot bytes ≡ Ok tt → bytes ≡ []
ended spot [] is = refl
ended spot (b ∷ bytes) is = absurd cc

-- where something is left, the file does not end
trailing : (spot : Spot) (bytes : List ℕ) (fault : Fault) → nothing_left spot bytes ≡ Err fault → (bytes ≢ []) × (fault ≡ record { cause = Trailing; spot = spot })
trailing spot [] fault is = absurd cc
trailing spot (b ∷ bytes) fault is = let same : record { cause = Trailing; spot = spot } ≡ fault = cc in (λ none. absurd cc, sym same)

-- and back
trails : (spot : Spot) (bytes : List ℕ) → bytes ≢ [] → nothing_left spot bytes ≡ Err (record { cause = Trailing; spot = spot })
trails spot [] some = absurd (some refl)
trails spot (b ∷ bytes) some = refl

-- what is read of a whole file fills it
pub whole_fills : {X : Type 0} (plan : FieldPlan X) (bytes : List ℕ) (u : X) → v1_whole plan bytes ≡ Ok u → FillsV1 plan bytes u
unfolding v1_whole
whole_fills {X} plan bytes u is = behind_fields (read_by v1_at v1_spot plan (v1_start bytes)) refl is
  where
    behind_end : (v : X) (end : V1Left) (rest : Result (Unit {0}) Fault) → v1_end end ≡ rest → BeginsV1 plan bytes v end → and_then {B = X} rest (λ x. Ok v) ≡ Ok u → FillsV1 plan bytes u
    behind_end v end (Ok x) is_end begins gives = (end, subst (λ w. BeginsV1 plan bytes w end) (ok_value v u gives) begins, ended (here end.left) end.left.bytes is_end)
    behind_end v end (Err fault) is_end begins gives = absurd cc

    behind_fields : (read : Result (X × V1Left) Fault) → read_by v1_at v1_spot plan (v1_start bytes) ≡ read →
        and_then {B = X} read (λ got. and_then (v1_end got.1) (λ end. Ok got.0)) ≡ Ok u → FillsV1 plan bytes u
    behind_fields (Ok got) read gives = behind_end got.0 got.1 (v1_end got.1) refl (plan_gives v1_at v1_spot StandsField FailsField fields_exact plan (v1_start bytes) got.0 got.1 read) gives
    behind_fields (Err fault) read gives = absurd cc

-- what fills a file is read of it
pub fills_whole : {X : Type 0} (plan : FieldPlan X) (bytes : List ℕ) (u : X) → FillsV1 plan bytes u → v1_whole plan bytes ≡ Ok u
unfolding v1_whole
fills_whole {X} plan bytes u stands =
    let read = given_read v1_at v1_spot StandsField FailsField fields_exact plan (v1_start bytes) u stands.0 stands.1 in
    rw (read, stands.2) refl

-- a fault that is read is the first
pub whole_fails : {X : Type 0} (plan : FieldPlan X) (bytes : List ℕ) (fault : Fault) → v1_whole plan bytes ≡ Err fault → FailsV1 plan bytes fault
unfolding v1_whole
whole_fails {X} plan bytes fault is = behind_fields (read_by v1_at v1_spot plan (v1_start bytes)) refl is
  where
    behind_end : (v : X) (end : V1Left) (rest : Result (Unit {0}) Fault) → v1_end end ≡ rest → BeginsV1 plan bytes v end → and_then {B = X} rest (λ x. Ok v) ≡ Err fault → FailsV1 plan bytes fault
    behind_end v end (Ok x) is_end begins gives = absurd cc
    behind_end v end (Err other) is_end begins gives =
        let same : other ≡ fault = cc in
        let left = trailing (here end.left) end.left.bytes fault (is_end ∙ ap Err same) in
        inr (v, end, begins, left.0, left.1)

    behind_fields : (read : Result (X × V1Left) Fault) → read_by v1_at v1_spot plan (v1_start bytes) ≡ read →
        and_then {B = X} read (λ got. and_then (v1_end got.1) (λ end. Ok got.0)) ≡ Err fault → FailsV1 plan bytes fault
    behind_fields (Ok got) read gives = behind_end got.0 got.1 (v1_end got.1) refl (plan_gives v1_at v1_spot StandsField FailsField fields_exact plan (v1_start bytes) got.0 got.1 read) gives
    behind_fields (Err other) read gives =
        let same : other ≡ fault = cc in
        inl (plan_fails v1_at v1_spot StandsField FailsField fields_exact plan (v1_start bytes) fault (read ∙ ap Err same))

-- the first fault is read
pub fails_whole : {X : Type 0} (plan : FieldPlan X) (bytes : List ℕ) (fault : Fault) → FailsV1 plan bytes fault → v1_whole plan bytes ≡ Err fault
unfolding v1_whole
fails_whole {X} plan bytes fault (inl fails) =
    let failed = failed_read v1_at v1_spot StandsField FailsField fields_exact plan (v1_start bytes) fault fails in
    rw failed refl
fails_whole {X} plan bytes fault (inr more) =
    let read = given_read v1_at v1_spot StandsField FailsField fields_exact plan (v1_start bytes) more.0 more.1 more.2 in
    let left = trails (here more.1.left) more.1.left.bytes more.3 in
    rw (read, left) (ap Err (sym more.4))

-- a file is read as what it stands for, or has the fault that is read
pub files_read : {Y : Type 0} (plan : FieldPlan Y) → FilesAreRead (v1_whole plan) (FillsV1 plan) (FailsV1 plan)
files_read plan = record {
  values = λ bytes y. (whole_fills plan bytes y, fills_whole plan bytes y);
  faults = λ bytes fault. (whole_fails plan bytes fault, fails_whole plan bytes fault);
}
