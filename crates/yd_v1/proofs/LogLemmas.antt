-- Logs are read exactly.
use Rattle.std.proofs.Common.{◌≡◌, ◌≢◌, ◌∙◌, ℕ, zero, suc, ◌<◌, ◌≤◌, ◌+◌, ◌-◌, List, [], ◌∷◌, ◌++◌, length, Result, Ok, Err, inl, inr, refl, ap, subst, sym, arith, append_assoc, append-nil, length-append}
use Rattle.yd_num.proofs.ReadingLemmas.{ok_value}
use Rattle.yd_num.specs.Number.{IsTerminated}
use Rattle.yd_ops.specs.Value.{UpdateValue}
use Rattle.yd_parts.proofs.PartExactLemmas.{parts_exact}
use Rattle.yd_parts.specs.Fault.{Fault}
use Rattle.yd_parts.specs.Part.{Unread, all_of, blob, here, part_at}
use Rattle.yd_parts.specs.Plan.{and_then}
use Rattle.yd_parts.specs.declared.fault.Column.TheVariants.{Whole}
use Rattle.yd_fields.specs.UpdatePlan.{update_plan}
use Rattle.std.specs.Prelude.{None}
use Rattle.yd_reading.specs.Files.{FilesAreRead}
use Rattle.yd_v1.proofs.FileLemmas.{files_read}
use Rattle.yd_v1.specs.Log.{AreEntries, FailsBehind, FailsEntry, HasFirstFaultLog, StandsBody, StandsEntry, StandsForLog, body_start, entry_at, in_file, log_from, log_reading, read_in_file, unless_ended}
use Rattle.yd_v1.specs.Reading.{v1_reading}

-- ---- one entry

-- a byte string that is read stands there
body_found : (left : Unread) (body : List ℕ) (next : Unread) → part_at blob left ≡ Ok (body, next) → StandsBody left body next
body_found left body next is =
    let stands = parts_exact.found blob left body next is in
    record { front = stands.front; rest = stands.rest; spells = stands.spells; joined = stands.joined; spot = refl; next_is = stands.next_is }

-- what is read of an entry stands there
pub entry_found : (left : Unread) (u : UpdateValue) (next : Unread) → entry_at left ≡ Ok (u, next) → StandsEntry left u next
unfolding entry_at
entry_found left u next is = behind_blob (part_at blob left) refl is
  where
    behind_body : (body : List ℕ) (end : Unread) (made : Result UpdateValue Fault) → v1_reading body ≡ made → StandsBody left body end →
        and_then {B = UpdateValue × Unread} (read_in_file (body_start body end) made) (λ v. Ok (v, end)) ≡ Ok (u, next) → StandsEntry left u next
    behind_body body end (Ok v) made stands gives =
        let same = ok_value (v, end) (u, next) gives in
        let v_is : v ≡ u = ap (λ pair. pair.0) same in
        let end_is : end ≡ next = ap (λ pair. pair.1) same in
        (body, subst (λ e. StandsBody left body e) end_is stands, ((files_read (update_plan None)).values body u).0 (made ∙ ap Ok v_is))
    behind_body body end (Err fault) made stands gives = absurd cc

    behind_blob : (read : Result (List ℕ × Unread) Fault) → part_at blob left ≡ read →
        and_then {B = UpdateValue × Unread} read (λ got. and_then (read_in_file (body_start got.0 got.1) (v1_reading got.0)) (λ v. Ok (v, got.1))) ≡ Ok (u, next) → StandsEntry left u next
    behind_blob (Ok got) read gives = behind_body got.0 got.1 (v1_reading got.0) refl (body_found left got.0 got.1 read) gives
    behind_blob (Err fault) read gives = absurd cc

-- an entry that stands there is read
pub entry_only : (left : Unread) (u : UpdateValue) (next : Unread) → StandsEntry left u next → entry_at left ≡ Ok (u, next)
unfolding entry_at
entry_only left u next stands =
    let read = (parts_exact.only blob left stands.0 (here left) next stands.1).0 in
    let made = ((files_read (update_plan None)).values stands.0 u).1 stands.2 in
    rw (read, made) refl

-- where reading an entry fails, none stands there
pub entry_fails : (left : Unread) (fault : Fault) → entry_at left ≡ Err fault → FailsEntry left fault
unfolding entry_at
entry_fails left fault is = behind_blob (part_at blob left) refl is
  where
    behind_body : (body : List ℕ) (end : Unread) (made : Result UpdateValue Fault) → v1_reading body ≡ made → StandsBody left body end →
        and_then {B = UpdateValue × Unread} (read_in_file (body_start body end) made) (λ v. Ok (v, end)) ≡ Err fault → FailsEntry left fault
    behind_body body end (Ok v) made stands gives = absurd cc
    behind_body body end (Err inner) made stands gives =
        let same : in_file (body_start body end) inner ≡ fault = cc in
        inr (body, end, inner, stands, ((files_read (update_plan None)).faults body inner).0 made, sym same)

    behind_blob : (read : Result (List ℕ × Unread) Fault) → part_at blob left ≡ read →
        and_then {B = UpdateValue × Unread} read (λ got. and_then (read_in_file (body_start got.0 got.1) (v1_reading got.0)) (λ v. Ok (v, got.1))) ≡ Err fault → FailsEntry left fault
    behind_blob (Ok got) read gives = behind_body got.0 got.1 (v1_reading got.0) refl (body_found left got.0 got.1 read) gives
    behind_blob (Err other) read gives =
        let same : other ≡ fault = cc in
        inl (parts_exact.fails blob left fault (read ∙ ap Err same))

-- where no entry stands, reading one fails
pub entry_fails_only : (left : Unread) (fault : Fault) → FailsEntry left fault → entry_at left ≡ Err fault
unfolding entry_at
entry_fails_only left fault (inl lacks) = let read = parts_exact.fails_only blob left fault lacks in rw read refl
entry_fails_only left fault (inr more) =
    let read = (parts_exact.only blob left more.0 (here left) more.1 more.3).0 in
    let made = ((files_read (update_plan None)).faults more.0 more.2).1 more.4 in
    rw (read, made) (ap Err (sym more.5))

-- an entry takes at least a byte
some_byte : (bytes : List ℕ) → IsTerminated bytes → 0 < length bytes
some_byte [] ends = absurd ends
some_byte (b ∷ bytes) ends = omega arith

pub entry_takes : (left : Unread) (u : UpdateValue) (next : Unread) → StandsEntry left u next → length next.bytes < length left.bytes
entry_takes left u next stands =
    let there = stands.1 in
    let number = some_byte there.spells.front there.spells.is_front.terminated in
    let front : length there.front ≡ length (there.spells.front ++ there.spells.back) = ap length there.spells.joined in
    let all : length left.bytes ≡ length (there.front ++ there.rest) = ap length there.joined in
    let rest : length next.bytes ≡ length there.rest = ap (λ (end : Unread). length end.bytes) there.next_is in
    omega (arith, number, front, all, rest, length-append there.spells.front there.spells.back, length-append there.front there.rest)

-- ---- a log

-- where something is left
some_left : (bytes : List ℕ) (found : List UpdateValue) (more : Result (List UpdateValue) Fault) → bytes ≢ [] → unless_ended bytes found more ≡ more
some_left [] found more some = absurd (some refl)
some_left (b ∷ bytes) found more some = refl

-- where nothing is left
none_left : (bytes : List ℕ) (found : List UpdateValue) (more : Result (List UpdateValue) Fault) → bytes ≡ [] → unless_ended bytes found more ≡ Ok found
none_left bytes found more none = ap (λ b. unless_ended b found more) none

-- no byte is left
pub no_bytes : (bytes : List ℕ) → length bytes ≤ 0 → bytes ≡ []
no_bytes [] le = refl
no_bytes (b ∷ bytes) le = absurd (omega arith)

-- some byte is left
pub some_bytes : (bytes : List ℕ) → 0 < length bytes → bytes ≢ []
some_bytes [] lt = absurd (omega arith)
some_bytes (b ∷ bytes) lt = λ none. absurd cc

-- where an entry stands, something is left
entry_some : (left : Unread) (u : UpdateValue) (next : Unread) → StandsEntry left u next → left.bytes ≢ []
entry_some left u next stands = λ none. let takes = entry_takes left u next stands in let zero_is : length left.bytes ≡ 0 = ap length none in omega (arith, takes, zero_is)

-- updates behind others
record Behind (found all : List UpdateValue) (left : Unread) : Type 0 where
  updates : List UpdateValue
  all_is : all ≡ found ++ updates
  entries : AreEntries left updates

-- what is read of a log stands there
log_found : (most : ℕ) (found : List UpdateValue) (left : Unread) (all : List UpdateValue) → length left.bytes ≤ most → log_from most found left ≡ Ok all → Behind found all left
unfolding log_from
log_found zero found left all le is = record { updates = []; all_is = sym (ok_value {E = Fault} found all is) ∙ sym (append-nil found); entries = no_bytes left.bytes le }
log_found (suc most) found left all le is = by_bytes (λ more next. log_found most more next all) left.bytes refl is
  where
    one_more : (u : UpdateValue) (next : Unread) → StandsEntry left u next → Behind (found ++ u ∷ []) all next → Behind found all left
    one_more u next stands later = record { updates = u ∷ later.updates; all_is = later.all_is ∙ append_assoc found (u ∷ []) later.updates; entries = (next, stands, later.entries) }

    by_entry : ((more : List UpdateValue) (next : Unread) → length next.bytes ≤ most → log_from most more next ≡ Ok all → Behind more all next) → (read : Result (UpdateValue × Unread) Fault) → entry_at left ≡ read → and_then read (λ got. log_from most (found ++ got.0 ∷ []) got.1) ≡ Ok all → Behind found all left
    by_entry later (Ok got) read gives =
        let stands = entry_found left got.0 got.1 read in
        let takes = entry_takes left got.0 got.1 stands in
        one_more got.0 got.1 stands (later (found ++ got.0 ∷ []) got.1 (omega (arith, takes, le)) gives)
    by_entry later (Err fault) read gives = absurd cc

    by_bytes : ((more : List UpdateValue) (next : Unread) → length next.bytes ≤ most → log_from most more next ≡ Ok all → Behind more all next) → (bytes : List ℕ) → left.bytes ≡ bytes → unless_ended bytes found (and_then (entry_at left) (λ read. log_from most (found ++ read.0 ∷ []) read.1)) ≡ Ok all → Behind found all left
    by_bytes later [] none gives = record { updates = []; all_is = sym (ok_value {E = Fault} found all gives) ∙ sym (append-nil found); entries = none }
    by_bytes later (b ∷ bytes) some gives = by_entry later (entry_at left) refl gives

-- entries that stand there are read
log_only : (us : List UpdateValue) (most : ℕ) (found : List UpdateValue) (left : Unread) → length left.bytes ≤ most → AreEntries left us → log_from most found left ≡ Ok (found ++ us)
unfolding log_from
log_only [] zero found left le none = ap Ok (sym (append-nil found))
log_only [] (suc most) found left le none = none_left left.bytes found _ none ∙ ap Ok (sym (append-nil found))
log_only (u ∷ us) zero found left le stands = absurd (entry_some left u stands.0 stands.1 (no_bytes left.bytes le))
log_only (u ∷ us) (suc most) found left le stands =
    let takes = entry_takes left u stands.0 stands.1 in
    some_left left.bytes found _ (entry_some left u stands.0 stands.1)
    ∙ ap (λ (read : Result (UpdateValue × Unread) Fault). and_then read (λ got. log_from most (found ++ got.0 ∷ []) got.1)) (entry_only left u stands.0 stands.1)
    ∙ log_only us most (found ++ u ∷ []) stands.0 (omega (arith, takes, le)) stands.2
    ∙ ap Ok (append_assoc found (u ∷ []) us)

-- a fault that is read is the first
log_fails : (most : ℕ) (found : List UpdateValue) (left : Unread) (fault : Fault) → length left.bytes ≤ most → log_from most found left ≡ Err fault → (us : List UpdateValue) × FailsBehind left us fault
unfolding log_from
log_fails zero found left fault le is = absurd cc
log_fails (suc most) found left fault le is = by_bytes (λ more next. log_fails most more next fault) left.bytes refl is
  where
    by_entry : ((more : List UpdateValue) (next : Unread) → length next.bytes ≤ most → log_from most more next ≡ Err fault → (us : List UpdateValue) × FailsBehind next us fault) → left.bytes ≢ [] → (read : Result (UpdateValue × Unread) Fault) → entry_at left ≡ read → and_then read (λ got. log_from most (found ++ got.0 ∷ []) got.1) ≡ Err fault → (us : List UpdateValue) × FailsBehind left us fault
    by_entry more some (Ok got) read gives =
        let stands = entry_found left got.0 got.1 read in
        let takes = entry_takes left got.0 got.1 stands in
        let later = more (found ++ got.0 ∷ []) got.1 (omega (arith, takes, le)) gives in
        (got.0 ∷ later.0, (got.1, stands, later.1))
    by_entry more some (Err other) read gives =
        let same : other ≡ fault = cc in
        ([], (some, entry_fails left fault (read ∙ ap Err same)))

    by_bytes : ((more : List UpdateValue) (next : Unread) → length next.bytes ≤ most → log_from most more next ≡ Err fault → (us : List UpdateValue) × FailsBehind next us fault) → (bytes : List ℕ) → left.bytes ≡ bytes → unless_ended bytes found (and_then (entry_at left) (λ read. log_from most (found ++ read.0 ∷ []) read.1)) ≡ Err fault → (us : List UpdateValue) × FailsBehind left us fault
    by_bytes more [] none gives = absurd cc
    by_bytes more (b ∷ bytes) some gives = by_entry more (λ none. let both = sym some ∙ none in absurd cc) (entry_at left) refl gives

-- the first fault is read
log_fails_only : (us : List UpdateValue) (most : ℕ) (found : List UpdateValue) (left : Unread) (fault : Fault) → length left.bytes ≤ most → FailsBehind left us fault → log_from most found left ≡ Err fault
unfolding log_from
log_fails_only [] zero found left fault le fails = absurd (fails.0 (no_bytes left.bytes le))
log_fails_only [] (suc most) found left fault le fails =
    some_left left.bytes found _ fails.0
    ∙ ap (λ (read : Result (UpdateValue × Unread) Fault). and_then read (λ got. log_from most (found ++ got.0 ∷ []) got.1)) (entry_fails_only left fault fails.1)
log_fails_only (u ∷ us) zero found left fault le fails = absurd (entry_some left u fails.0 fails.1 (no_bytes left.bytes le))
log_fails_only (u ∷ us) (suc most) found left fault le fails =
    let takes = entry_takes left u fails.0 fails.1 in
    some_left left.bytes found _ (entry_some left u fails.0 fails.1)
    ∙ ap (λ (read : Result (UpdateValue × Unread) Fault). and_then read (λ got. log_from most (found ++ got.0 ∷ []) got.1)) (entry_only left u fails.0 fails.1)
    ∙ log_fails_only us most (found ++ u ∷ []) fails.0 fault (omega (arith, takes, le)) fails.2

-- ---- lemmas for callers

-- one entry more was read
pub log_more : (most i : ℕ) (found : List UpdateValue) (left : Unread) (u : UpdateValue) (next : Unread) → i < most → left.bytes ≢ [] → entry_at left ≡ Ok (u, next) →
    log_from (most - i) found left ≡ log_from (most - (i + 1)) (found ++ u ∷ []) next
unfolding log_from
log_more most i found left u next within some read =
    let steps : most - i ≡ suc (most - (i + 1)) = omega arith in
    rw steps (some_left left.bytes found _ some ∙ ap (λ (r : Result (UpdateValue × Unread) Fault). and_then r (λ got. log_from (most - (i + 1)) (found ++ got.0 ∷ []) got.1)) read)

-- the next entry has a fault
pub log_stops : (most i : ℕ) (found : List UpdateValue) (left : Unread) (fault : Fault) → i < most → left.bytes ≢ [] → entry_at left ≡ Err fault → log_from (most - i) found left ≡ Err fault
unfolding log_from
log_stops most i found left fault within some read =
    let steps : most - i ≡ suc (most - (i + 1)) = omega arith in
    rw steps (some_left left.bytes found _ some ∙ ap (λ (r : Result (UpdateValue × Unread) Fault). and_then r (λ got. log_from (most - (i + 1)) (found ++ got.0 ∷ []) got.1)) read)

-- nothing is left
pub log_ended : (most : ℕ) (found : List UpdateValue) (left : Unread) → left.bytes ≡ [] → log_from most found left ≡ Ok found
unfolding log_from
log_ended zero found left none = refl
log_ended (suc most) found left none = none_left left.bytes found _ none

-- no step is left
pub log_done : (most i : ℕ) (found : List UpdateValue) (left : Unread) → most ≤ i → log_from (most - i) found left ≡ Ok found
unfolding log_from
log_done most i found left all =
    let none : most - i ≡ 0 = omega arith in
    rw none refl

-- logs are read exactly
pub logs_read : FilesAreRead log_reading StandsForLog HasFirstFaultLog
logs_read = record {
  values = λ bytes us. (
    λ is. let there = log_found (length bytes) [] (all_of Whole bytes) us (omega arith) is in subst (λ all. StandsForLog bytes all) (sym there.all_is) there.entries,
    λ stands. log_only us (length bytes) [] (all_of Whole bytes) (omega arith) stands,
  );
  faults = λ bytes fault. (λ is. log_fails (length bytes) [] (all_of Whole bytes) fault (omega arith) is, λ fails. log_fails_only fails.0 (length bytes) [] (all_of Whole bytes) fault (omega arith) fails.1);
}
