-- What is written of a message stands for it.
use Rattle.std.proofs.Common.{◌≡◌, ◌∙◌, ◌<◌, ◌^◌, ℕ, List, [], ◌∷◌, length, Result, Ok, None, refl, ap, subst, sym, arith}
use Rattle.std.proofs.lemmas.List.{append-nil}
use Rattle.yd_fields.specs.UpdatePlan.{update_plan, vector_plan}
use Rattle.yd_num.proofs.WritingLemmas.{groups-last}
use Rattle.yd_num.specs.Writing.{shortest, shortest_blob}
use Rattle.yd_parts.proofs.ReadsLemmas.{PartReads, ReadsAs, part_blob, part_unsigned, reads_last, reads_want}
use Rattle.yd_parts.specs.Fault.{Fault}
use Rattle.yd_parts.specs.Part as part
use Rattle.yd_parts.specs.Part.{Unread, all_of}
use Rattle.yd_parts.specs.Plan.{give, want}
use Rattle.yd_parts.specs.declared.fault.Column.TheVariants.{Whole}
use Rattle.yd_reading.specs.Files.{FilesAreRead}
use Rattle.yd_v1.proofs.FileLemmas.{files_read}
use Rattle.yd_sync.specs.declared.kind.Kind.{Kind}
use Rattle.yd_sync.specs.declared.kind.Kind.TheVariants as kinds
use Rattle.yd_sync.specs.Entry.{aware_plan}
use Rattle.yd_sync.specs.Envelope.{behind_outer, body_plan, envelope_plan, sync_kind}
use Rattle.yd_sync.specs.Message.{MessageValue, aware, auth, change, query, step1, step2}
use Rattle.yd_sync.specs.MessageGrammar.{StandsForMessage}
use Rattle.yd_sync.specs.MessageReading.{ended, message_of, message_reading, of_body, of_envelope}
use Rattle.yd_sync.specs.MessageWriting.{HasBody, body_of, bytes_of_message}
use Rattle.yd_sync.proofs.MessageLemmas.{messages_read}

-- ---- numbers and bodies

-- a number of one byte
one_byte : (v : ℕ) → v < 128 → shortest v ≡ v ∷ []
unfolding shortest
one_byte v small = groups-last 7 v small

part_small : (v : ℕ) → v < 128 → PartReads part.unsigned (v ∷ []) v
part_small v small = subst (λ (bytes : List ℕ). PartReads part.unsigned bytes v) (one_byte v small) (part_unsigned v (omega (arith, small)))

-- a sync message with its second number
sync_reads : (inner : ℕ) (kind : Kind) (body : List ℕ) → inner < 128 → sync_kind inner ≡ kind → body_plan kind ≡ want part.blob (λ b at. give (kind, b)) → length body < 2 ^ 53 →
    ReadsAs envelope_plan (0 ∷ inner ∷ shortest_blob body) (kind, body)
unfolding envelope_plan
sync_reads inner kind body small is plan fits =
    reads_want part.unsigned (λ outer spot. behind_outer outer) (0 ∷ []) (inner ∷ shortest_blob body) 0 (kind, body) (part_small 0 (omega arith))
    (λ spot. reads_want part.unsigned (λ v at. body_plan (sync_kind v)) (inner ∷ []) (shortest_blob body) inner (kind, body) (part_small inner small)
    (λ at. rw (is, plan) (reads_last part.blob (λ b place. give (kind, b)) (shortest_blob body) body (kind, body) (part_blob body fits) (λ place. refl))))

-- entries
aware_reads : (body : List ℕ) → length body < 2 ^ 53 → ReadsAs envelope_plan (1 ∷ shortest_blob body) (kinds.Aware, body)
unfolding envelope_plan
aware_reads body fits =
    reads_want part.unsigned (λ outer spot. behind_outer outer) (1 ∷ []) (shortest_blob body) 1 (kinds.Aware, body) (part_small 1 (omega arith))
    (λ spot. reads_last part.blob (λ b place. give (kinds.Aware, b)) (shortest_blob body) body (kinds.Aware, body) (part_blob body fits) (λ place. refl))

-- a number alone
number_reads : (outer : ℕ) (kind : Kind) → outer < 128 → behind_outer outer ≡ give (kind, []) → ReadsAs envelope_plan (outer ∷ []) (kind, [])
unfolding envelope_plan
number_reads outer kind small is = reads_last part.unsigned (λ v spot. behind_outer v) (outer ∷ []) outer (kind, []) (part_small outer small) (λ spot. is)

-- ---- messages

-- what is read so, with a body that stands for something, is the message of it
read_body : {X : Type 0} (kind : Kind) (make : X → MessageValue) (reading : List ℕ → Result X Fault) (Stands : List ℕ → X → Type 0) (Fails : List ℕ → Fault → Type 0) → FilesAreRead reading Stands Fails →
    ((body : List ℕ) (left : Unread) → message_of kind body left ≡ of_body make (reading body) left) →
    (bytes body : List ℕ) (x : X) → ReadsAs envelope_plan bytes (kind, body) → Stands body x → message_reading bytes ≡ Ok (make x)
unfolding message_reading
read_body kind make reading Stands Fails read is bytes body x reads stands =
    let got = reads (all_of Whole bytes) [] (sym (append-nil bytes)) in
    ap of_envelope got.1 ∙ is body got.0 ∙ ap (λ made. of_body make made got.0) ((read.values body x).1 stands) ∙ ap (λ left. ended (make x) got.0.place left) got.2

read_auth : (bytes : List ℕ) → message_reading (2 ∷ bytes) ≡ Ok (auth bytes)
unfolding message_reading
read_auth bytes =
    let got = number_reads 2 kinds.Auth (omega arith) refl (all_of Whole (2 ∷ bytes)) bytes refl in
    ap of_envelope got.1 ∙ ap (λ left. Ok (auth left)) got.2

read_query : message_reading (3 ∷ []) ≡ Ok query
unfolding message_reading
read_query =
    let got = number_reads 3 kinds.Query (omega arith) refl (all_of Whole (3 ∷ [])) [] refl in
    ap of_envelope got.1 ∙ ap (λ left. ended query got.0.place left) got.2

-- ---- for callers

-- what is written of a message is read as it
pub written_read : (m : MessageValue) → HasBody m → message_reading (bytes_of_message m) ≡ Ok m
written_read (step1 vector) has = read_body kinds.Step1 step1 _ _ _ (files_read vector_plan) (λ body left. refl) (bytes_of_message (step1 vector)) (body_of (step1 vector)) vector (sync_reads 0 kinds.Step1 (body_of (step1 vector)) (omega arith) refl refl has.1) has.0
written_read (step2 update) has = read_body kinds.Step2 step2 _ _ _ (files_read (update_plan None)) (λ body left. refl) (bytes_of_message (step2 update)) (body_of (step2 update)) update (sync_reads 1 kinds.Step2 (body_of (step2 update)) (omega arith) refl refl has.1) has.0
written_read (change update) has = read_body kinds.Change change _ _ _ (files_read (update_plan None)) (λ body left. refl) (bytes_of_message (change update)) (body_of (change update)) update (sync_reads 2 kinds.Change (body_of (change update)) (omega arith) refl refl has.1) has.0
written_read (aware entries) has = read_body kinds.Aware aware _ _ _ (files_read aware_plan) (λ body left. refl) (bytes_of_message (aware entries)) (body_of (aware entries)) entries (aware_reads (body_of (aware entries)) has.1) has.0
written_read (auth bytes) has = read_auth bytes
written_read query has = read_query

-- and so it stands for it
pub written_stands : (m : MessageValue) → HasBody m → StandsForMessage (bytes_of_message m) m
written_stands m has = (messages_read.messages (bytes_of_message m) m).0 (written_read m has)
