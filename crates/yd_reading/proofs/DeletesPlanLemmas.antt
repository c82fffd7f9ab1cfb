-- Reading delete sets by their plan, step by step.
use Rattle.std.proofs.Common.{◌≡◌, ◌+◌, ◌++◌, [], ◌∷◌, List, Result, Ok, refl}
use Rattle.yd_ids.specs.Set.{set_of}
use Rattle.yd_ids.specs.declared.id.Client.{Client}
use Rattle.yd_ids.specs.declared.id.Span.{Span}
use Rattle.yd_parts.specs.Fault.{Fault}
use Rattle.yd_fields.specs.Field.{FieldType, FieldValue}
use Rattle.yd_fields.specs.Field as field
use Rattle.yd_parts.specs.Plan.{give, and_then, read_by, repeated}
use Rattle.yd_fields.specs.UpdatePlan.{RangesRead, clients_step, deletes_plan, ranges_step}
use Rattle.yd_parts.specs.declared.fault.Spot.{Spot}
use Rattle.yd_parts.proofs.PlanLemmas.{read_by_bind, then_same}

-- one more range of a client
pub read_ranges_step : {S : Type 0} (at : (t : FieldType) → S → Result (FieldValue t × S) Fault) (spot_of : S → Spot) (client : Client) (read : RangesRead) (s : S) →
    read_by at spot_of (ranges_step client read) s
    ≡ and_then (at (field.range read.end) s) (λ r. Ok (record { end = r.0.0 + r.0.1; spans = read.spans ++ record { client = client; clock = r.0.0; len = r.0.1 } ∷ [] }, r.1))
unfolding ranges_step read_by
read_ranges_step at spot_of client read s = refl

-- the ranges of one more client
pub read_clients_step : {S : Type 0} (at : (t : FieldType) → S → Result (FieldValue t × S) Fault) (spot_of : S → Spot) (found : List Span) (s : S) →
    read_by at spot_of (clients_step found) s ≡ and_then (at field.number s) (λ client. and_then (at field.number client.1) (λ count.
    and_then (read_by at spot_of (repeated (ranges_step (record { 0 = client.0 })) count.0 (record { end = 0; spans = found })) count.1) (λ read. Ok (read.0.spans, read.1))))
unfolding clients_step read_by
read_clients_step at spot_of found s =
    then_same (at field.number s) _ _ (λ client. then_same (at field.number client.1) _ _ (λ count.
    read_by_bind at spot_of (repeated (ranges_step (record { 0 = client.0 })) count.0 (record { end = 0; spans = found })) (λ read. give read.spans) count.1))

-- a delete set: how many clients there are, and their ranges
pub read_deletes_plan : {S : Type 0} (at : (t : FieldType) → S → Result (FieldValue t × S) Fault) (spot_of : S → Spot) (s : S) →
    read_by at spot_of deletes_plan s ≡ and_then (at field.number s) (λ count. and_then (read_by at spot_of (repeated clients_step count.0 []) count.1) (λ spans. Ok (set_of spans.0, spans.1)))
unfolding deletes_plan read_by
read_deletes_plan at spot_of s =
    then_same (at field.number s) _ _ (λ count. read_by_bind at spot_of (repeated clients_step count.0 []) (λ spans. give (set_of spans)) count.1)

-- a delete set of no client
pub read_no_deletes : {S : Type 0} (at : (t : FieldType) → S → Result (FieldValue t × S) Fault) (spot_of : S → Spot) (s next : S) → at field.number s ≡ Ok (0, next) → read_by at spot_of deletes_plan s ≡ Ok ([], next)
unfolding read_by repeated
read_no_deletes at spot_of s next none = rw (read_deletes_plan at spot_of s, none) refl
