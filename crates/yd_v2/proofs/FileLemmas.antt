-- Whole files in V2 are read exactly, for any plan.
use Rattle.std.proofs.Common.{◌≡◌, ◌∙◌, ℕ, List, Result, Ok, Err, inl, inr, refl, ap, subst}
use Rattle.yd_fields.specs.Field.{FieldPlan}
use Rattle.yd_reading.specs.Files.{FilesAreRead}
use Rattle.yd_num.proofs.ReadingLemmas.{ok_value}
use Rattle.yd_parts.proofs.ExactLemmas.{failed_read, given_read, plan_fails, plan_gives}
use Rattle.yd_parts.specs.Fault.{Fault}
use Rattle.yd_parts.specs.Plan.{PlanGives, and_then, read_by}
use Rattle.yd_v2.proofs.FieldExactLemmas.{v2_fields_exact}
use Rattle.yd_v2.proofs.StartLemmas.{begins_start, head_fails_start, start_begins, start_fails, text_fails_start}
use Rattle.yd_v2.specs.Grammar.{BeginsV2, FailsField, FailsV2, FillsV2, StandsField}
use Rattle.yd_v2.specs.Reading.{V2Now, v2_at, v2_end, v2_spot, v2_start, v2_whole}

-- the fields, and behind them the end
abbrev behind_start : {X : Type 0} → FieldPlan X → V2Now → Result X Fault
behind_start {X} plan start = and_then (read_by v2_at v2_spot plan start) (λ read. and_then {B = X} (v2_end read.1) (λ end. Ok read.0))

-- what is read of a whole file fills it
whole_fills : {X : Type 0} (plan : FieldPlan X) (bytes : List ℕ) (u : X) → v2_whole plan bytes ≡ Ok u → FillsV2 plan bytes u
unfolding v2_whole
whole_fills {X} plan bytes u is = by_start (v2_start bytes) refl is
  where
    by_end : (start : V2Now) (v : X) (end : V2Now) (last : Result (Unit {0}) Fault) → BeginsV2 bytes start → PlanGives StandsField plan start v end → v2_end end ≡ last → and_then {B = X} last (λ x. Ok v) ≡ Ok u → FillsV2 plan bytes u
    by_end start v end (Ok x) begins fields ended gives = record { start = start; end = end; begins = begins; fields = subst (λ w. PlanGives StandsField plan start w end) (ok_value v u gives) fields; ended = ended }
    by_end start v end (Err fault) begins fields ended gives = absurd cc

    by_fields : (start : V2Now) (read : Result (X × V2Now) Fault) → BeginsV2 bytes start → read_by v2_at v2_spot plan start ≡ read → and_then read (λ got. and_then {B = X} (v2_end got.1) (λ end. Ok got.0)) ≡ Ok u → FillsV2 plan bytes u
    by_fields start (Ok got) begins read gives = by_end start got.0 got.1 (v2_end got.1) begins (plan_gives v2_at v2_spot StandsField FailsField v2_fields_exact plan start got.0 got.1 read) refl gives
    by_fields start (Err fault) begins read gives = absurd cc

    by_start : (first : Result V2Now Fault) → v2_start bytes ≡ first → and_then first (behind_start plan) ≡ Ok u → FillsV2 plan bytes u
    by_start (Ok start) read gives = by_fields start (read_by v2_at v2_spot plan start) (start_begins bytes start read) refl gives
    by_start (Err fault) read gives = absurd cc

-- what fills a file is read of it
fills_whole : {X : Type 0} (plan : FieldPlan X) (bytes : List ℕ) (u : X) → FillsV2 plan bytes u → v2_whole plan bytes ≡ Ok u
unfolding v2_whole
fills_whole plan bytes u fills =
    let read = given_read v2_at v2_spot StandsField FailsField v2_fields_exact plan fills.start u fills.end fills.fields in
    rw (begins_start bytes fills.start fills.begins, read, fills.ended) refl

-- a fault that is read is the first
whole_fails : {X : Type 0} (plan : FieldPlan X) (bytes : List ℕ) (fault : Fault) → v2_whole plan bytes ≡ Err fault → FailsV2 plan bytes fault
unfolding v2_whole
whole_fails {X} plan bytes fault is = by_start (v2_start bytes) refl is
  where
    by_end : (start : V2Now) (v : X) (end : V2Now) (last : Result (Unit {0}) Fault) → BeginsV2 bytes start → PlanGives StandsField plan start v end → v2_end end ≡ last → and_then {B = X} last (λ x. Ok v) ≡ Err fault → FailsV2 plan bytes fault
    by_end start v end (Ok x) begins fields ended gives = absurd cc
    by_end start v end (Err other) begins fields ended gives =
        let same : other ≡ fault = cc in
        inr (inr (inr (record { start = start; end = end; value = v; begins = begins; fields = fields; left = ended ∙ ap Err same })))

    by_fields : (start : V2Now) (read : Result (X × V2Now) Fault) → BeginsV2 bytes start → read_by v2_at v2_spot plan start ≡ read → and_then read (λ got. and_then {B = X} (v2_end got.1) (λ end. Ok got.0)) ≡ Err fault → FailsV2 plan bytes fault
    by_fields start (Ok got) begins read gives = by_end start got.0 got.1 (v2_end got.1) begins (plan_gives v2_at v2_spot StandsField FailsField v2_fields_exact plan start got.0 got.1 read) refl gives
    by_fields start (Err other) begins read gives =
        let same : other ≡ fault = cc in
        inr (inr (inl (record { start = start; begins = begins; fails = plan_fails v2_at v2_spot StandsField FailsField v2_fields_exact plan start fault (read ∙ ap Err same) })))

    by_start : (first : Result V2Now Fault) → v2_start bytes ≡ first → and_then first (behind_start plan) ≡ Err fault → FailsV2 plan bytes fault
    by_start (Ok start) read gives = by_fields start (read_by v2_at v2_spot plan start) (start_begins bytes start read) refl gives
    by_start (Err other) read gives =
        let same : other ≡ fault = cc in
        elim (start_fails bytes fault (read ∙ ap Err same)) [
          | inl head ↦ inl head
          | inr text ↦ inr (inl text)
        ]

-- the first fault is read
fails_whole : {X : Type 0} (plan : FieldPlan X) (bytes : List ℕ) (fault : Fault) → FailsV2 plan bytes fault → v2_whole plan bytes ≡ Err fault
unfolding v2_whole
fails_whole plan bytes fault (inl head) = rw (head_fails_start bytes fault head) refl
fails_whole plan bytes fault (inr (inl text)) = rw (text_fails_start bytes fault text) refl
fails_whole plan bytes fault (inr (inr (inl fields))) =
    rw (begins_start bytes fields.start fields.begins, failed_read v2_at v2_spot StandsField FailsField v2_fields_exact plan fields.start fault fields.fails) refl
fails_whole plan bytes fault (inr (inr (inr ends))) =
    let read = given_read v2_at v2_spot StandsField FailsField v2_fields_exact plan ends.start ends.value ends.end ends.fields in
    rw (begins_start bytes ends.start ends.begins, read, ends.left) refl

-- a file is read as what it stands for, or has the fault that is read
pub files_read : {Y : Type 0} (plan : FieldPlan Y) → FilesAreRead (v2_whole plan) (FillsV2 plan) (FailsV2 plan)
files_read plan = record {
  values = λ bytes y. (whole_fills plan bytes y, fills_whole plan bytes y);
  faults = λ bytes fault. (whole_fails plan bytes fault, fails_whole plan bytes fault);
}
