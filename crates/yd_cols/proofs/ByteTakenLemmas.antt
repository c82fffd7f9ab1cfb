-- The next byte of a column: what reading gives is what stands there, and where it fails none does.
use Rattle.std.proofs.Common.{◌≡◌, ◌≢◌, ◌∙◌, ◌+◌, ◌-◌, ℕ, zero, suc, Bool, true, false, List, [], ◌∷◌, ◌++◌, length, Result, Ok, Err, refl, ap, sym, subst, inl, inr, arith, if◌then◌else◌}
use Rattle.yd_cols.proofs.RunTakenLemmas.{same_place}
use Rattle.yd_cols.proofs.UintFaultLemmas.{IsNoCount, no_count}
use Rattle.yd_cols.specs.Column.{SpellsByteRun}
use Rattle.yd_cols.specs.Law.{IsExact}
use Rattle.yd_cols.specs.Reading.{BytesLeft, RunsLeft, byte_run_at, counted_byte, next_byte, of_number, opened_byte}
use Rattle.yd_cols.specs.Taking.{LacksByte, LacksByteCount, LacksByteRun, TakesByte, TakesRun}
use Rattle.yd_cols.specs.declared.fault.ColCause.{ColCause}
use Rattle.yd_cols.specs.declared.fault.ColCause.TheVariants.{ShortInput, NumberTooLarge, BadUtf8, HalfPair, ColumnLeft}
use Rattle.yd_cols.specs.declared.fault.ColFault.{ColFault}
use Rattle.yd_cols.specs.declared.run.Run.{Run}
use Rattle.yd_num.specs.Grammar.{EndsInside}
use Rattle.yd_num.specs.Number.{IsTooLarge, SpellsUnsigned, unsigned_at}
use Rattle.yd_num.specs.Reading.{Cause, short_input, number_too_large, bad_utf8, ◌>>=◌}
use Rattle.yd_num.proofs.NumberFaultLemmas.{unsigned_fails}
use Rattle.yd_num.proofs.NumberLemmas.{unsigned_found, unsigned_only}
use Rattle.yd_num.proofs.ReadingLemmas.{bind_ok, ok_value}

-- ---- runs

-- a run with a count is read as it is spelled
pub byte_run_again : (front : List ℕ) (run : Run ℕ) (rest : List ℕ) → SpellsByteRun front run → byte_run_at (front ++ rest) ≡ Ok ((run, false), rest)
unfolding byte_run_at
byte_run_again front run rest spelled = by_count spelled.back spelled.is_back (spelled.joined ∙ ap (λ f. f ++ spelled.back) spelled.is_front)
  where
    by_count : (count : List ℕ) → SpellsUnsigned count run.more → front ≡ run.value ∷ count → byte_run_at (front ++ rest) ≡ Ok ((run, false), rest)
    by_count [] counts is = absurd counts.terminated
    by_count (c ∷ count) counts is = rw (is, unsigned_only (c ∷ count) run.more rest counts) refl

-- a byte behind which nothing stands is a run without a count
one_run : (b : ℕ) → byte_run_at (b ∷ []) ≡ Ok ((record { value = b; more = 0 }, true), [])
unfolding byte_run_at
one_run b = refl

-- what a run that was read is
data RunFound (bytes : List ℕ) (run : Run ℕ) (is_open : Bool) (rest : List ℕ) : Type 0 where
  lone_byte : bytes ≡ run.value ∷ [] → run.more ≡ 0 → is_open ≡ true → rest ≡ [] → RunFound bytes run is_open rest
  counted_run : (front : List ℕ) → SpellsByteRun front run → bytes ≡ front ++ rest → is_open ≡ false → RunFound bytes run is_open rest

byte_run_found : (bytes : List ℕ) (run : Run ℕ) (is_open : Bool) (rest : List ℕ) → byte_run_at bytes ≡ Ok ((run, is_open), rest) → RunFound bytes run is_open rest
unfolding byte_run_at
byte_run_found [] run is_open rest read = absurd cc
byte_run_found (b ∷ []) run is_open rest read =
    let same = ok_value {A = (Run ℕ × Bool) × List ℕ} {E = Cause} ((record { value = b; more = 0 }, true), []) ((run, is_open), rest) read in
    subst (λ (y : (Run ℕ × Bool) × List ℕ). RunFound (b ∷ []) y.0.0 y.0.1 y.1) same (lone_byte refl refl refl refl)
byte_run_found (b ∷ c ∷ bytes) run is_open rest read =
    let h = bind_ok (unsigned_at (c ∷ bytes)) (λ more. Ok ((record { value = b; more = more.0 }, false), more.1)) ((run, is_open), rest) read in
    let same = ok_value {A = (Run ℕ × Bool) × List ℕ} {E = Cause} ((record { value = b; more = h.0.0 }, false), h.0.1) ((run, is_open), rest) h.2 in
    let count = unsigned_found (c ∷ bytes) h.0.0 h.0.1 h.1 in
    subst (λ (y : (Run ℕ × Bool) × List ℕ). RunFound (b ∷ c ∷ bytes) y.0.0 y.0.1 y.1) same
    (counted_run (b ∷ count.front) (record { front = b ∷ []; back = count.front; is_front = refl; is_back = count.is_front; joined = refl })
    (ap (λ bs. b ∷ bs) (count.joined ∙ ap (λ back. count.front ++ back) count.is_back)) refl)

-- ---- the next byte

-- the runs behind a run that is read
abbrev behind : RunsLeft ℕ → Run ℕ → List ℕ → ℕ → RunsLeft ℕ
behind left run rest place = record { value = run.value; more = run.more; at = left.place; place = place; bytes = rest }

-- the place behind one byte
one_behind : (place : ℕ) → (place + 1) - 0 ≡ suc place
one_behind place = omega arith

-- the byte of a run that was found is the next
takes_found : (left : BytesLeft) (run : Run ℕ) (is_open : Bool) (rest : List ℕ) → left.is_open ≡ false → left.runs.more ≡ 0 → RunFound left.runs.bytes run is_open rest →
    TakesByte left run.value (record { is_open = is_open; runs = behind left.runs run rest ((left.runs.place + length left.runs.bytes) - length rest) })
takes_found left run is_open rest closed none (lone_byte only one opens ends) = inr (inr (record {
  closed = closed;
  none = none;
  only = only;
  next_is = rw (ends, only, opens, one) (ap (λ place. record { is_open = true; runs = record { value = run.value; more = 0; at = left.runs.place; place = place; bytes = [] } }) (one_behind left.runs.place));
}))
takes_found left run is_open rest closed none (counted_run front spelled joined still) = inr (inl (record {
  closed = closed;
  still_closed = still;
  taken = inr (record {
    none = none;
    run = run;
    front = front;
    rest = rest;
    spelled = spelled;
    joined = joined;
    value = refl;
    next_is = ap (λ place. behind left.runs run rest place) (same_place left.runs.place left.runs.bytes front rest joined);
  });
}))

pub byte_taken : (left : BytesLeft) (b : ℕ) (next : BytesLeft) → next_byte left ≡ Ok (b, next) → TakesByte left b next
unfolding next_byte
byte_taken left b next read = by_open left.is_open refl read
  where
    by_run : (r : Result ((Run ℕ × Bool) × List ℕ) Cause) → left.is_open ≡ false → left.runs.more ≡ 0 → byte_run_at left.runs.bytes ≡ r → opened_byte left.runs r ≡ Ok (b, next) → TakesByte left b next
    by_run (Ok got) closed none is e =
        let place = (left.runs.place + length left.runs.bytes) - length got.1 in
        let same = ok_value {E = ColFault} (got.0.0.value, record { is_open = got.0.1; runs = behind left.runs got.0.0 got.1 place }) (b, next) e in
        subst (λ (y : ℕ × BytesLeft). TakesByte left y.0 y.1) same (takes_found left got.0.0 got.0.1 got.1 closed none (byte_run_found left.runs.bytes got.0.0 got.0.1 got.1 is))
    by_run (Err cause) closed none is e = absurd cc

    by_more : (more : ℕ) → left.is_open ≡ false → left.runs.more ≡ more → counted_byte left.runs more ≡ Ok (b, next) → TakesByte left b next
    by_more zero closed none e = by_run (byte_run_at left.runs.bytes) closed none refl e
    by_more (suc more) closed there e =
        let runs : RunsLeft ℕ = record { value = left.runs.value; more = more; at = left.runs.at; place = left.runs.place; bytes = left.runs.bytes } in
        let same = ok_value {E = ColFault} (left.runs.value, record { is_open = false; runs = runs }) (b, next) e in
        subst (λ (y : ℕ × BytesLeft). TakesByte left y.0 y.1) same
        (inr (inl (record { closed = closed; still_closed = refl; taken = inl (record { more = more; there = there; value = refl; next_is = refl }) })))

    by_open : (is_open : Bool) → left.is_open ≡ is_open → (if is_open then Ok (left.runs.value, left) else counted_byte left.runs left.runs.more) ≡ Ok (b, next) → TakesByte left b next
    by_open true opened e =
        let same = ok_value {E = ColFault} (left.runs.value, left) (b, next) e in
        inl (record { opened = opened; value = sym (ap (λ pair. pair.0) same); next_is = sym (ap (λ pair. pair.1) same) })
    by_open false closed e = by_more left.runs.more closed refl e

pub byte_again : (left : BytesLeft) (b : ℕ) (next : BytesLeft) → TakesByte left b next → next_byte left ≡ Ok (b, next)
unfolding next_byte
byte_again left b next (inl open_) =
    ap (λ o. if o then Ok (left.runs.value, left) else counted_byte left.runs left.runs.more) open_.opened
    ∙ sym (ap (λ pair. Ok pair) (ap (λ x. (x, next)) open_.value ∙ ap (λ n. (left.runs.value, n)) open_.next_is))
byte_again left b next (inr (inl counted)) = by_taken counted.taken
  where
    closed_next : (runs : RunsLeft ℕ) → next.runs ≡ runs → record { is_open = false; runs = runs } ≡ next
    closed_next runs is = sym (ap (λ o. record { is_open = o; runs = next.runs }) counted.still_closed ∙ ap (λ rs. record { is_open = false; runs = rs }) is)

    by_taken : TakesRun SpellsByteRun left.runs b next.runs → next_byte left ≡ Ok (b, next)
    by_taken (inl hand) =
        ap (λ o. if o then Ok (left.runs.value, left) else counted_byte left.runs left.runs.more) counted.closed ∙ (ap (λ more. counted_byte left.runs more) hand.there ∙ ap (λ n. Ok (left.runs.value, n)) (closed_next (record { value = left.runs.value; more = hand.more; at = left.runs.at; place = left.runs.place; bytes = left.runs.bytes }) hand.next_is) ∙ ap (λ x. Ok (x, next)) (sym hand.value))
    by_taken (inr opens) =
        let read = ap byte_run_at opens.joined ∙ byte_run_again opens.front opens.run opens.rest opens.spelled in
        let place = same_place left.runs.place left.runs.bytes opens.front opens.rest opens.joined in
        ap (λ o. if o then Ok (left.runs.value, left) else counted_byte left.runs left.runs.more) counted.closed ∙ (ap (λ more. counted_byte left.runs more) opens.none ∙ ap (λ r. opened_byte left.runs r) read
        ∙ ap (λ place. Ok (opens.run.value, record { is_open = false; runs = behind left.runs opens.run opens.rest place })) place
        ∙ ap (λ n. Ok (opens.run.value, n)) (closed_next (behind left.runs opens.run opens.rest (left.runs.place + length opens.front)) opens.next_is) ∙ ap (λ x. Ok (x, next)) (sym opens.value))
byte_again left b next (inr (inr last)) =
    rw (last.closed, last.none, last.only, one_run b) (ap (λ place. Ok (b, record { is_open = true; runs = record { value = b; more = 0; at = left.runs.place; place = place; bytes = [] } })) (one_behind left.runs.place) ∙ ap (λ n. Ok (b, n)) (sym last.next_is))

-- ---- faults

byte_lacking_at : (bytes : List ℕ) (cause : Cause) → byte_run_at bytes ≡ Err cause → LacksByteRun bytes (of_number cause)
unfolding byte_run_at
byte_lacking_at [] cause read = let same : short_input ≡ cause = cc in subst (λ why. LacksByteRun [] (of_number why)) same (inl refl)
byte_lacking_at (b ∷ []) cause read = absurd cc
byte_lacking_at (b ∷ c ∷ bytes) cause read = by_count (unsigned_at (c ∷ bytes)) refl read
  where
    some : c ∷ bytes ≢ []
    some none = absurd cc

    by_cause : (why : Cause) → IsNoCount why (c ∷ bytes) → LacksByteRun (b ∷ c ∷ bytes) (of_number why)
    by_cause short_input none = inr (b, c ∷ bytes, some, refl, none)
    by_cause number_too_large none = (b, c ∷ bytes, some, refl, none)
    by_cause bad_utf8 none = absurd none

    by_count : (r : Result (ℕ × List ℕ) Cause) → unsigned_at (c ∷ bytes) ≡ r → ◌>>=◌ {B = (Run ℕ × Bool) × List ℕ} r (λ more. Ok ((record { value = b; more = more.0 }, false), more.1)) ≡ Err cause → LacksByteRun (b ∷ c ∷ bytes) (of_number cause)
    by_count (Ok more) is e = absurd cc
    by_count (Err why) is e = let same : why ≡ cause = cc in by_cause cause (no_count (c ∷ bytes) cause (is ∙ ap Err same))

-- a byte with some behind it that are no count
count_fails : (Behind : List ℕ → Type 0) (why : Cause) (bytes : List ℕ) → ((rest : List ℕ) → Behind rest → unsigned_at rest ≡ Err why) → LacksByteCount Behind bytes → byte_run_at bytes ≡ Err why
unfolding byte_run_at
count_fails Behind why bytes fails (b, [], some, is, behind_it) = absurd (some refl)
count_fails Behind why bytes fails (b, c ∷ rest, some, is, behind_it) = rw (is, fails (c ∷ rest) behind_it) refl

byte_fails_at : (bytes : List ℕ) (cause : ColCause) → LacksByteRun bytes cause → (why : Cause) × (byte_run_at bytes ≡ Err why) × (of_number why ≡ cause)
unfolding byte_run_at
byte_fails_at bytes ShortInput (inl none) = (short_input, rw none refl, refl)
byte_fails_at bytes ShortInput (inr lacks) = (short_input, count_fails (EndsInside SpellsUnsigned) short_input bytes (λ rest. (unsigned_fails.short rest).1) lacks, refl)
byte_fails_at bytes NumberTooLarge lacks = (number_too_large, count_fails IsTooLarge number_too_large bytes (λ rest. (unsigned_fails.large rest).1) lacks, refl)
byte_fails_at bytes BadUtf8 lacks = absurd lacks
byte_fails_at bytes HalfPair lacks = absurd lacks
byte_fails_at bytes ColumnLeft lacks = absurd lacks

byte_lacking : (left : BytesLeft) (fault : ColFault) → next_byte left ≡ Err fault → LacksByte left fault
unfolding next_byte
byte_lacking left fault read = by_open left.is_open refl read
  where
    by_run : (r : Result ((Run ℕ × Bool) × List ℕ) Cause) → left.is_open ≡ false → left.runs.more ≡ 0 → byte_run_at left.runs.bytes ≡ r → opened_byte left.runs r ≡ Err fault → LacksByte left fault
    by_run (Ok got) closed none is e = absurd cc
    by_run (Err cause) closed none is e =
        let same : record { cause = of_number cause; at = left.runs.place } ≡ fault = cc in
        record {
          closed = closed;
          lacking = record { none = none; lacking = subst (λ f. LacksByteRun left.runs.bytes f.cause) same (byte_lacking_at left.runs.bytes cause is); place = sym (ap (λ f. f.at) same) };
        }

    by_more : (more : ℕ) → left.is_open ≡ false → left.runs.more ≡ more → counted_byte left.runs more ≡ Err fault → LacksByte left fault
    by_more zero closed none e = by_run (byte_run_at left.runs.bytes) closed none refl e
    by_more (suc more) closed there e = absurd cc

    by_open : (is_open : Bool) → left.is_open ≡ is_open → (if is_open then Ok (left.runs.value, left) else counted_byte left.runs left.runs.more) ≡ Err fault → LacksByte left fault
    by_open true opened e = absurd cc
    by_open false closed e = by_more left.runs.more closed refl e

byte_fails : (left : BytesLeft) (fault : ColFault) → LacksByte left fault → next_byte left ≡ Err fault
unfolding next_byte
byte_fails left fault lacks =
    let why = byte_fails_at left.runs.bytes fault.cause lacks.lacking.lacking in
    ap (λ o. if o then Ok (left.runs.value, left) else counted_byte left.runs left.runs.more) lacks.closed
    ∙ (ap (λ more. counted_byte left.runs more) lacks.lacking.none ∙ ap (λ r. opened_byte left.runs r) why.1
    ∙ ap (λ cause. Err (record { cause = cause; at = left.runs.place })) why.2 ∙ ap (λ at. Err (record { cause = fault.cause; at = at })) (sym lacks.lacking.place))

-- ---- lemmas for callers

pub byte_exact : IsExact next_byte TakesByte LacksByte
byte_exact = record { values = λ left b next. (byte_taken left b next, byte_again left b next); faults = λ left fault. (byte_lacking left fault, byte_fails left fault) }
