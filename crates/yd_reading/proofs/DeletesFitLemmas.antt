-- What reading deletions gives is spans.
use Rattle.std.proofs.Common.{◌≡◌, ◌++◌, [], ◌∷◌, ℕ, List, Result, Ok}
use Rattle.yd_words.specs.Each.{Each}
use Rattle.yd_ids.specs.Id.{IsClient, IsSpan}
use Rattle.yd_ids.specs.declared.id.Client.{Client}
use Rattle.yd_ids.specs.declared.id.Span.{Span}
use Rattle.yd_parts.specs.Fault.{Fault}
use Rattle.yd_fields.specs.Field.{FieldType, FieldValue, Fits, ReadsFit}
use Rattle.yd_parts.specs.Plan.{give, read_by, repeated}
use Rattle.yd_fields.specs.UpdatePlan.{RangesRead, clients_step, ranges_step}
use Rattle.yd_parts.specs.declared.fault.Spot.{Spot}
use Rattle.yd_parts.proofs.GivenLemmas.{GivesOnly, given, gives_only_bind, gives_only_repeated}

-- one more element with the fact
pub each-last : {X : Type 0} (P : X → Type 0) (xs : List X) (x : X) → Each P xs → P x → Each P (xs ++ x ∷ [])
each-last P [] x before last = (last, tt)
each-last P (y ∷ ys) x before last = (before.0, each-last P ys x before.1 last)

-- the ranges read so far are spans
abbrev AreSpansRead : RangesRead → Type 0
AreSpansRead read = Each IsSpan read.spans

-- one more range of a client
ranges_step_fits : (client : Client) (read : RangesRead) → IsClient client → AreSpansRead read → GivesOnly Fits AreSpansRead (ranges_step client read)
unfolding ranges_step
ranges_step_fits client read is_client before = λ r spot ends.
    each-last IsSpan read.spans (record { client = client; clock = r.0; len = r.1 }) before (record { client = is_client; end = ends })

-- the ranges of one more client
clients_step_fits : (found : List Span) → Each IsSpan found → GivesOnly Fits (Each IsSpan) (clients_step found)
unfolding clients_step
clients_step_fits found before = λ client spot is_client count at is_count.
    gives_only_bind Fits AreSpansRead (Each IsSpan) (repeated (ranges_step (record { 0 = client })) count (record { end = 0; spans = found })) (λ read. give read.spans)
    (gives_only_repeated Fits AreSpansRead (ranges_step (record { 0 = client })) count (record { end = 0; spans = found }) before (λ read so_far. ranges_step_fits (record { 0 = client }) read is_client so_far))
    (λ read so_far. so_far)

-- the ranges of so many clients
pub clients_fit : (count : ℕ) → GivesOnly Fits (Each IsSpan) (repeated clients_step count [])
clients_fit count = gives_only_repeated Fits (Each IsSpan) clients_step count [] tt clients_step_fits

-- what was read of so many clients is spans
pub spans_read : {S : Type 0} (at : (t : FieldType) → S → Result (FieldValue t × S) Fault) (spot_of : S → Spot) (IsSound : S → Type 0) (count : ℕ) (s : S) (spans : List Span) (left : S) →
    ReadsFit at IsSound → IsSound s → read_by at spot_of (repeated clients_step count []) s ≡ Ok (spans, left) → Each IsSpan spans
spans_read at spot_of IsSound count s spans left fits sound read =
    given at spot_of Fits IsSound (Each IsSpan) (repeated clients_step count []) s spans left fits (clients_fit count) sound read
