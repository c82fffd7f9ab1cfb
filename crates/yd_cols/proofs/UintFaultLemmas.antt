-- Reading a run of numbers fails just where none stands.
use Rattle.std.proofs.Common.{◌≡◌, ◌∙◌, ◌<◌, ◌^◌, ℕ, suc, Bool, true, false, cond, List, ◌++◌, Result, Ok, Err, refl, ap, subst, inl, inr, ltb}
use Rattle.std.proofs.lemmas.Bool.{cases_lt, lt-ltb, le-ltb}
use Rattle.yd_cols.proofs.RunTakenLemmas.{FailsAsLacking}
use Rattle.yd_cols.specs.Reading.{more_at, of_number, uint_run_at}
use Rattle.yd_cols.specs.Taking.{LacksCount, LacksUintRun}
use Rattle.yd_cols.specs.declared.fault.ColCause.{ColCause}
use Rattle.yd_cols.specs.declared.fault.ColCause.TheVariants.{ShortInput, NumberTooLarge, BadUtf8, HalfPair, ColumnLeft}
use Rattle.yd_cols.specs.declared.run.Run.{Run}
use Rattle.yd_num.specs.Grammar.{EndsInside, Joins}
use Rattle.yd_num.specs.Number.{IsTooLarge, SpellsUnsigned, unsigned_at}
use Rattle.yd_num.specs.Reading.{Cause, short_input, number_too_large, bad_utf8, ◌>>=◌}
use Rattle.yd_num.specs.Signed.{SpellsSigned, signed_at}
use Rattle.yd_num.specs.declared.signed.Signed.{Signed}
use Rattle.yd_num.proofs.NumberFaultLemmas.{unsigned_fails}
use Rattle.yd_num.proofs.SignedFaultLemmas.{signed_fails}
use Rattle.yd_num.proofs.SignedLemmas.{signed_found, signed_only}

-- ---- the count

-- why no count stands there
abbrev pub IsNoCount : Cause → List ℕ → Type 0
IsNoCount short_input bytes = EndsInside SpellsUnsigned bytes
IsNoCount number_too_large bytes = IsTooLarge bytes
IsNoCount bad_utf8 bytes = ⊥

-- a count fails for this reason
pub no_count : (bytes : List ℕ) (cause : Cause) → unsigned_at bytes ≡ Err cause → IsNoCount cause bytes
no_count bytes short_input read = (unsigned_fails.short bytes).0 read
no_count bytes number_too_large read = (unsigned_fails.large bytes).0 read
no_count bytes bad_utf8 read = (unsigned_fails.bad bytes).0 read

-- a count that is asked for fails so
pub no_more : (is_more : Bool) (bytes : List ℕ) (cause : Cause) → more_at is_more bytes ≡ Err cause → (is_more ≡ true) × (unsigned_at bytes ≡ Err cause)
unfolding more_at
no_more false bytes cause read = absurd cc
no_more true bytes cause read = by_count (unsigned_at bytes) refl read
  where
    by_count : (r : Result (ℕ × List ℕ) Cause) → unsigned_at bytes ≡ r → ◌>>=◌ {B = ℕ × List ℕ} r (λ count. Ok (suc count.0, count.1)) ≡ Err cause → (true ≡ true) × (unsigned_at bytes ≡ Err cause)
    by_count (Ok count) is e = absurd cc
    by_count (Err why) is e = (refl, is ∙ e)

-- ---- lacking

-- what the number at the front is, if it is one
abbrev uint_behind : Signed × List ℕ → Result (Run ℕ × List ℕ) Cause
uint_behind number = cond (ltb number.0.size (2 ^ 53)) (more_at number.0.negative number.1 >>= λ more. Ok (record { value = number.0.size; more = more.0 }, more.1)) (Err number_too_large)

-- a number with a minus, whose count is missing
without_count : (bytes : List ℕ) (number : Signed) (rest : List ℕ) (cause : Cause) → signed_at bytes ≡ Ok (number, rest) → number.size < 2 ^ 53 → more_at number.negative rest ≡ Err cause → LacksUintRun bytes (of_number cause)
without_count bytes number rest cause read small fails =
    let no = no_more number.negative rest cause fails in
    let h = signed_found bytes number rest read in
    let number_is : number ≡ record { negative = true; size = number.size } = ap (λ negative. record { negative = negative; size = number.size }) no.0 in
    by_cause cause (no_count rest cause no.1) (record {
      front = h.front;
      back = rest;
      is_front = subst (λ n. SpellsSigned h.front n) number_is h.is_front;
      is_back = refl;
      joined = h.joined ∙ ap (λ b. h.front ++ b) h.is_back;
    })
  where
    by_cause : (why : Cause) → IsNoCount why rest → Joins (λ front. SpellsSigned front (record { negative = true; size = number.size })) (λ back. back ≡ rest) bytes → LacksUintRun bytes (of_number why)
    by_cause short_input none joins = inr (number.size, small, record { front = joins.front; back = rest; is_front = joins.is_front; is_back = none; joined = joins.joined ∙ ap (λ b. joins.front ++ b) joins.is_back })
    by_cause number_too_large none joins = inr (inr (number.size, small, record { front = joins.front; back = rest; is_front = joins.is_front; is_back = none; joined = joins.joined ∙ ap (λ b. joins.front ++ b) joins.is_back }))
    by_cause bad_utf8 none joins = absurd none

-- no number stands at the front
without_number : (bytes : List ℕ) (cause : Cause) → signed_at bytes ≡ Err cause → LacksUintRun bytes (of_number cause)
without_number bytes short_input read = inl ((signed_fails.short bytes).0 read)
without_number bytes number_too_large read = inl ((signed_fails.large bytes).0 read)
without_number bytes bad_utf8 read = absurd ((signed_fails.bad bytes).0 read)

uint_lacking : (bytes : List ℕ) (cause : Cause) → uint_run_at bytes ≡ Err cause → LacksUintRun bytes (of_number cause)
unfolding uint_run_at
uint_lacking bytes cause read = by_number (signed_at bytes) refl read
  where
    by_more : (number : Signed) (rest : List ℕ) (r : Result (ℕ × List ℕ) Cause) → signed_at bytes ≡ Ok (number, rest) → number.size < 2 ^ 53 → more_at number.negative rest ≡ r →
        ◌>>=◌ {B = Run ℕ × List ℕ} r (λ more. Ok (record { value = number.size; more = more.0 }, more.1)) ≡ Err cause → LacksUintRun bytes (of_number cause)
    by_more number rest (Ok more) is small more_is e = absurd cc
    by_more number rest (Err why) is small more_is e = let same : why ≡ cause = cc in without_count bytes number rest cause is small (more_is ∙ ap Err same)

    by_number : (r : Result (Signed × List ℕ) Cause) → signed_at bytes ≡ r → (r >>= uint_behind) ≡ Err cause → LacksUintRun bytes (of_number cause)
    by_number (Ok number) is e =
        elim (cases_lt number.0.size (2 ^ 53)) [
          | inl small ↦ by_more number.0 number.1 (more_at number.0.negative number.1) is small refl (rw (lt-ltb number.0.size (2 ^ 53) small) at e)
          | inr past ↦
              let same : number_too_large ≡ cause = let e = rw (le-ltb number.0.size (2 ^ 53) past) at e in cc in
              let h = signed_found bytes number.0 number.1 is in
              subst (λ why. LacksUintRun bytes (of_number why)) same (inr (inl (number.0, past, record { front = h.front; back = h.back; is_front = h.is_front; is_back = tt; joined = h.joined })))
        ]
    by_number (Err why) is e = let same : why ≡ cause = cc in without_number bytes cause (is ∙ ap Err same)

-- ---- failing

-- a number with a minus at the front, whose count fails
count_fails : (Behind : List ℕ → Type 0) (why : Cause) (bytes : List ℕ) → ((rest : List ℕ) → Behind rest → unsigned_at rest ≡ Err why) → LacksCount Behind bytes → uint_run_at bytes ≡ Err why
unfolding uint_run_at more_at
count_fails Behind why bytes fails lacks =
    let at_front : signed_at bytes ≡ Ok (record { negative = true; size = lacks.0 }, lacks.2.back) = ap signed_at lacks.2.joined ∙ signed_only lacks.2.front (record { negative = true; size = lacks.0 }) lacks.2.back lacks.2.is_front in
    rw (at_front, lt-ltb lacks.0 (2 ^ 53) lacks.1, fails lacks.2.back lacks.2.is_back) refl

uint_fails : (bytes : List ℕ) (cause : ColCause) → LacksUintRun bytes cause → (why : Cause) × (uint_run_at bytes ≡ Err why) × (of_number why ≡ cause)
unfolding uint_run_at
uint_fails bytes ShortInput (inl ends) = (short_input, rw ((signed_fails.short bytes).1 ends) refl, refl)
uint_fails bytes ShortInput (inr lacks) = (short_input, count_fails (EndsInside SpellsUnsigned) short_input bytes (λ rest. (unsigned_fails.short rest).1) lacks, refl)
uint_fails bytes NumberTooLarge (inl long) = (number_too_large, rw ((signed_fails.large bytes).1 long) refl, refl)
uint_fails bytes NumberTooLarge (inr (inl past)) =
    let at_front : signed_at bytes ≡ Ok (past.0, past.2.back) = ap signed_at past.2.joined ∙ signed_only past.2.front past.0 past.2.back past.2.is_front in
    (number_too_large, rw (at_front, le-ltb past.0.size (2 ^ 53) past.1) refl, refl)
uint_fails bytes NumberTooLarge (inr (inr lacks)) = (number_too_large, count_fails IsTooLarge number_too_large bytes (λ rest. (unsigned_fails.large rest).1) lacks, refl)
uint_fails bytes BadUtf8 lacks = absurd lacks
uint_fails bytes HalfPair lacks = absurd lacks
uint_fails bytes ColumnLeft lacks = absurd lacks

pub uint_fails_as : FailsAsLacking uint_run_at LacksUintRun
uint_fails_as = record { lacking = uint_lacking; fails = uint_fails }
