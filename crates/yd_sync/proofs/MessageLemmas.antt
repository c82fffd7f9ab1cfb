-- Messages are read exactly: what is read is what the bytes stand for, and their first deviation is the one that is read.
use Rattle.std.proofs.Common.{◌≡◌, ◌≢◌, ◌∙◌, ℕ, List, [], ◌∷◌, Result, Ok, Err, None, inl, inr, refl, ap, subst, sym}
use Rattle.yd_num.proofs.ReadingLemmas.{ok_value}
use Rattle.yd_fields.specs.UpdatePlan.{update_plan, vector_plan}
use Rattle.yd_parts.proofs.ExactLemmas.{failed_read, given_read, plan_fails, plan_gives}
use Rattle.yd_parts.proofs.PartExactLemmas.{parts_exact}
use Rattle.yd_parts.specs.Fault.{Fault}
use Rattle.yd_parts.specs.Part.{Unread, all_of, last_spot, part_at}
use Rattle.yd_parts.specs.PartGrammar.{FailsPart, StandsPart}
use Rattle.yd_parts.specs.Plan.{read_by}
use Rattle.yd_parts.specs.declared.fault.Column.TheVariants.{Whole}
use Rattle.yd_reading.specs.Files.{FilesAreRead}
use Rattle.yd_v1.proofs.FileLemmas.{files_read}
use Rattle.yd_sync.specs.declared.fault.MessageFault.{MessageFault}
use Rattle.yd_sync.specs.declared.fault.MessageFault.TheVariants.{BadMessage, Inner, Trailing}
use Rattle.yd_sync.specs.declared.kind.Kind.{Kind}
use Rattle.yd_sync.specs.declared.kind.Kind.TheVariants as kinds
use Rattle.yd_sync.specs.Entry.{aware_plan}
use Rattle.yd_sync.specs.Envelope.{envelope_plan}
use Rattle.yd_sync.specs.Message.{MessageValue, aware, auth, change, query, step1, step2}
use Rattle.yd_sync.specs.MessageGrammar.{DeviatesAs, DeviatesOfKind, HasFirstDeviation, IsFrontFault, IsMadeOf, IsOfKind, StandsForMessage}
use Rattle.yd_sync.specs.MessageLaw.{MessagesAreOne, MessagesAreRead}
use Rattle.yd_sync.specs.MessageReading.{ended, message_of, message_reading, of_body, of_envelope, outer_fault}
use Rattle.yd_sync.proofs.FrontLemmas.{front_fault, front_is}

-- ---- the end

ended_ok : (m n : MessageValue) (place : ℕ) (bytes : List ℕ) → ended m place bytes ≡ Ok n → (bytes ≡ []) × (n ≡ m)
ended_ok m n place [] is = (refl, sym (ok_value m n is))
ended_ok m n place (b ∷ bytes) is = absurd cc

ended_err : (m : MessageValue) (place : ℕ) (bytes : List ℕ) (fault : MessageFault) → ended m place bytes ≡ Err fault → (bytes ≢ []) × (fault ≡ Trailing place)
ended_err m place [] fault is = absurd cc
ended_err m place (b ∷ bytes) fault is = let same : Trailing place ≡ fault = cc in (λ none. absurd cc, sym same)

ends_ok : (m : MessageValue) (place : ℕ) (bytes : List ℕ) → bytes ≡ [] → ended m place bytes ≡ Ok m
ends_ok m place bytes none = rw none refl

ends_err : (m : MessageValue) (place : ℕ) (bytes : List ℕ) → bytes ≢ [] → ended m place bytes ≡ Err (Trailing place)
ends_err m place [] some = absurd (some refl)
ends_err m place (b ∷ bytes) some = refl

-- ---- a body

body_ok : {X : Type 0} (make : X → MessageValue) (reading : List ℕ → Result X Fault) (Stands : List ℕ → X → Type 0) (Fails : List ℕ → Fault → Type 0) → FilesAreRead reading Stands Fails →
    (body : List ℕ) (left : Unread) (m : MessageValue) → of_body make (reading body) left ≡ Ok m → IsMadeOf make Stands body left m
body_ok {X} make reading Stands Fails read body left m is = behind (reading body) refl is
  where
    behind : (got : Result X Fault) → reading body ≡ got → of_body make got left ≡ Ok m → IsMadeOf make Stands body left m
    behind (Ok x) there gives = let end = ended_ok (make x) m left.place left.bytes gives in (x, (read.values body x).0 there, end.0, end.1)
    behind (Err fault) there gives = absurd cc

ok_body : {X : Type 0} (make : X → MessageValue) (reading : List ℕ → Result X Fault) (Stands : List ℕ → X → Type 0) (Fails : List ℕ → Fault → Type 0) → FilesAreRead reading Stands Fails →
    (body : List ℕ) (left : Unread) (m : MessageValue) → IsMadeOf make Stands body left m → of_body make (reading body) left ≡ Ok m
ok_body {X} make reading Stands Fails read body left m made =
    let there : reading body ≡ Ok made.0 = (read.values body made.0).1 made.1 in
    ap (λ got. of_body make got left) there ∙ ends_ok (make made.0) left.place left.bytes made.2 ∙ ap Ok (sym made.3)

body_err : {X : Type 0} (make : X → MessageValue) (reading : List ℕ → Result X Fault) (Stands : List ℕ → X → Type 0) (Fails : List ℕ → Fault → Type 0) → FilesAreRead reading Stands Fails →
    (body : List ℕ) (left : Unread) (fault : MessageFault) → of_body make (reading body) left ≡ Err fault → DeviatesAs Stands Fails body left fault
body_err {X} make reading Stands Fails read body left fault is = behind (reading body) refl is
  where
    behind : (got : Result X Fault) → reading body ≡ got → of_body make got left ≡ Err fault → DeviatesAs Stands Fails body left fault
    behind (Ok x) there gives = inr (x, (read.values body x).0 there, ended_err (make x) left.place left.bytes fault gives)
    behind (Err inner) there gives = let same : Inner inner.cause inner.spot ≡ fault = cc in inl (inner, (read.faults body inner).0 there, sym same)

err_body : {X : Type 0} (make : X → MessageValue) (reading : List ℕ → Result X Fault) (Stands : List ℕ → X → Type 0) (Fails : List ℕ → Fault → Type 0) → FilesAreRead reading Stands Fails →
    (body : List ℕ) (left : Unread) (fault : MessageFault) → DeviatesAs Stands Fails body left fault → of_body make (reading body) left ≡ Err fault
err_body {X} make reading Stands Fails read body left fault (inl fails) =
    let there : reading body ≡ Err fails.0 = (read.faults body fails.0).1 fails.1 in
    ap (λ got. of_body make got left) there ∙ ap Err (sym fails.2)
err_body {X} make reading Stands Fails read body left fault (inr more) =
    let there : reading body ≡ Ok more.0 = (read.values body more.0).1 more.1 in
    ap (λ got. of_body make got left) there ∙ ends_err (make more.0) left.place left.bytes more.2.0 ∙ ap Err (sym more.2.1)

-- ---- a kind

kind_ok : (kind : Kind) (body : List ℕ) (left : Unread) (m : MessageValue) → message_of kind body left ≡ Ok m → IsOfKind kind body left m
kind_ok kinds.Step1 body left m is = body_ok step1 _ _ _ (files_read vector_plan) body left m is
kind_ok kinds.Step2 body left m is = body_ok step2 _ _ _ (files_read (update_plan None)) body left m is
kind_ok kinds.Change body left m is = body_ok change _ _ _ (files_read (update_plan None)) body left m is
kind_ok kinds.Aware body left m is = body_ok aware _ _ _ (files_read aware_plan) body left m is
kind_ok kinds.Auth body left m is = sym (ok_value (auth left.bytes) m is)
kind_ok kinds.Query body left m is = ended_ok query m left.place left.bytes is
kind_ok (kinds.Other number) body left m is = absurd cc

ok_kind : (kind : Kind) (body : List ℕ) (left : Unread) (m : MessageValue) → IsOfKind kind body left m → message_of kind body left ≡ Ok m
ok_kind kinds.Step1 body left m is = ok_body step1 _ _ _ (files_read vector_plan) body left m is
ok_kind kinds.Step2 body left m is = ok_body step2 _ _ _ (files_read (update_plan None)) body left m is
ok_kind kinds.Change body left m is = ok_body change _ _ _ (files_read (update_plan None)) body left m is
ok_kind kinds.Aware body left m is = ok_body aware _ _ _ (files_read aware_plan) body left m is
ok_kind kinds.Auth body left m is = ap Ok (sym is)
ok_kind kinds.Query body left m is = ends_ok query left.place left.bytes is.0 ∙ ap Ok (sym is.1)
ok_kind (kinds.Other number) body left m is = absurd is

kind_err : (kind : Kind) (body : List ℕ) (left : Unread) (fault : MessageFault) → message_of kind body left ≡ Err fault → DeviatesOfKind kind body left fault
kind_err kinds.Step1 body left fault is = body_err step1 _ _ _ (files_read vector_plan) body left fault is
kind_err kinds.Step2 body left fault is = body_err step2 _ _ _ (files_read (update_plan None)) body left fault is
kind_err kinds.Change body left fault is = body_err change _ _ _ (files_read (update_plan None)) body left fault is
kind_err kinds.Aware body left fault is = body_err aware _ _ _ (files_read aware_plan) body left fault is
kind_err kinds.Auth body left fault is = absurd cc
kind_err kinds.Query body left fault is = ended_err query left.place left.bytes fault is
kind_err (kinds.Other number) body left fault is = let same : BadMessage number ≡ fault = cc in sym same

err_kind : (kind : Kind) (body : List ℕ) (left : Unread) (fault : MessageFault) → DeviatesOfKind kind body left fault → message_of kind body left ≡ Err fault
err_kind kinds.Step1 body left fault is = err_body step1 _ _ _ (files_read vector_plan) body left fault is
err_kind kinds.Step2 body left fault is = err_body step2 _ _ _ (files_read (update_plan None)) body left fault is
err_kind kinds.Change body left fault is = err_body change _ _ _ (files_read (update_plan None)) body left fault is
err_kind kinds.Aware body left fault is = err_body aware _ _ _ (files_read aware_plan) body left fault is
err_kind kinds.Auth body left fault is = absurd is
err_kind kinds.Query body left fault is = ends_err query left.place left.bytes is.0 ∙ ap Err (sym is.1)
err_kind (kinds.Other number) body left fault is = ap Err (sym is)

-- ---- a message

message_ok : (bytes : List ℕ) (m : MessageValue) → message_reading bytes ≡ Ok m → StandsForMessage bytes m
unfolding message_reading
message_ok bytes m is = behind (read_by part_at last_spot envelope_plan (all_of Whole bytes)) refl is
  where
    behind : (read : Result ((Kind × List ℕ) × Unread) Fault) → read_by part_at last_spot envelope_plan (all_of Whole bytes) ≡ read → of_envelope read ≡ Ok m → StandsForMessage bytes m
    behind (Ok read) there gives = (
      read.0.0,
      read.0.1,
      read.1,
      plan_gives part_at last_spot StandsPart FailsPart parts_exact envelope_plan (all_of Whole bytes) read.0 read.1 there,
      kind_ok read.0.0 read.0.1 read.1 m gives,
    )
    behind (Err fault) there gives = absurd cc

ok_message : (bytes : List ℕ) (m : MessageValue) → StandsForMessage bytes m → message_reading bytes ≡ Ok m
unfolding message_reading
ok_message bytes m stands =
    let there = given_read part_at last_spot StandsPart FailsPart parts_exact envelope_plan (all_of Whole bytes) (stands.0, stands.1) stands.2 stands.3 in
    ap of_envelope there ∙ ok_kind stands.0 stands.1 stands.2 m stands.4

message_err : (bytes : List ℕ) (fault : MessageFault) → message_reading bytes ≡ Err fault → HasFirstDeviation bytes fault
unfolding message_reading
message_err bytes fault is = behind (read_by part_at last_spot envelope_plan (all_of Whole bytes)) refl is
  where
    behind : (read : Result ((Kind × List ℕ) × Unread) Fault) → read_by part_at last_spot envelope_plan (all_of Whole bytes) ≡ read → of_envelope read ≡ Err fault → HasFirstDeviation bytes fault
    behind (Ok read) there gives = inr (
      read.0.0,
      read.0.1,
      read.1,
      plan_gives part_at last_spot StandsPart FailsPart parts_exact envelope_plan (all_of Whole bytes) read.0 read.1 there,
      kind_err read.0.0 read.0.1 read.1 fault gives,
    )
    behind (Err outer) there gives =
        let same : outer_fault outer.cause outer.spot.at ≡ fault = cc in
        let fails = plan_fails part_at last_spot StandsPart FailsPart parts_exact envelope_plan (all_of Whole bytes) outer there in
        inl (outer, fails, subst (IsFrontFault outer.cause outer.spot.at) same (front_fault bytes outer fails))

err_message : (bytes : List ℕ) (fault : MessageFault) → HasFirstDeviation bytes fault → message_reading bytes ≡ Err fault
unfolding message_reading
err_message bytes fault (inl front) =
    let there = failed_read part_at last_spot StandsPart FailsPart parts_exact envelope_plan (all_of Whole bytes) front.0 front.1 in
    ap of_envelope there ∙ ap Err (front_is front.0.cause front.0.spot.at fault front.2)
err_message bytes fault (inr more) =
    let there = given_read part_at last_spot StandsPart FailsPart parts_exact envelope_plan (all_of Whole bytes) (more.0, more.1) more.2 more.3 in
    ap of_envelope there ∙ err_kind more.0 more.1 more.2 fault more.4

-- ---- for callers

pub messages_read : MessagesAreRead
messages_read = record {
  messages = λ bytes m. (message_ok bytes m, ok_message bytes m);
  faults = λ bytes fault. (message_err bytes fault, err_message bytes fault);
}

pub messages_one : MessagesAreOne
messages_one = record {
  messages = λ bytes m other one two. ok_value {E = MessageFault} m other (sym (ok_message bytes m one) ∙ ok_message bytes other two);
  faults = λ bytes fault other one two. let first = err_message bytes fault one in let second = err_message bytes other two in cc;
  apart = λ bytes m fault stands deviates. let found = ok_message bytes m stands in let failed = err_message bytes fault deviates in cc;
}
