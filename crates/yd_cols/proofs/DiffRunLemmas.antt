-- Runs of differences are read as they are spelled, and fail where they are lacking.
use Rattle.std.proofs.Common.{◌≡◌, ◌∙◌, ℕ, ℤ, pos, ◌+ℤ◌, ◌*ℤ◌, Bool, true, List, ◌++◌, Result, Ok, Err, nat_eq, ◌%◌, refl, ap, sym, subst, inl, inr, append_assoc}
use Rattle.yd_cols.proofs.HalfLemmas.{doubled_half, half_is, left_over}
use Rattle.yd_cols.proofs.RunTakenLemmas.{FailsAsLacking}
use Rattle.yd_cols.proofs.UintFaultLemmas.{IsNoCount, no_count, no_more}
use Rattle.yd_cols.proofs.UintRunLemmas.{joined_then, more_again, more_found}
use Rattle.yd_cols.specs.Column.{SpellsDiffRun, SpellsInteger, doubled, has_more}
use Rattle.yd_cols.specs.Reading.{diff_run_at, half_of, more_at, of_number}
use Rattle.yd_cols.specs.Taking.{LacksDiffCount, LacksDiffRun}
use Rattle.yd_cols.specs.declared.fault.ColCause.{ColCause}
use Rattle.yd_cols.specs.declared.fault.ColCause.TheVariants.{ShortInput, NumberTooLarge, BadUtf8, HalfPair, ColumnLeft}
use Rattle.yd_cols.specs.declared.run.Run.{Run}
use Rattle.yd_num.specs.Grammar.{EndsInside, Joins}
use Rattle.yd_num.specs.Law.{Skips}
use Rattle.yd_num.specs.Number.{IsTooLarge, SpellsUnsigned, unsigned_at}
use Rattle.yd_num.specs.Reading.{Cause, short_input, number_too_large, bad_utf8, ◌>>=◌}
use Rattle.yd_num.specs.Signed.{SpellsSigned, signed_at}
use Rattle.yd_num.specs.declared.signed.Signed.{Signed}
use Rattle.yd_num.proofs.NumberFaultLemmas.{unsigned_fails}
use Rattle.yd_num.proofs.ReadingLemmas.{bind_ok, ok_value}
use Rattle.yd_num.proofs.SignedFaultLemmas.{signed_fails}
use Rattle.yd_num.proofs.SignedLemmas.{signed_found, signed_only}

-- ---- reading

-- the number at the front is odd
abbrev is_odd : Signed → Bool
is_odd number = nat_eq (number.size % 2) 1

-- the number at the front is twice the difference, and one more where the run has more than one value
number_spells : (front : List ℕ) (number : Signed) (more : ℕ) → SpellsSigned front number → has_more more ≡ is_odd number → SpellsInteger front (doubled (record { value = half_of number; more = more }))
number_spells front number more spelled odd = (number, spelled, doubled_half number ∙ ap (λ b. (pos 2 *ℤ half_of number) +ℤ left_over b) (sym odd))

diff_found : (bytes : List ℕ) (run : Run ℤ) (rest : List ℕ) → diff_run_at bytes ≡ Ok (run, rest) → Joins (λ front. SpellsDiffRun front run) (λ back. back ≡ rest) bytes
unfolding diff_run_at
diff_found bytes run rest read =
    let h = bind_ok (signed_at bytes) (λ number. more_at (is_odd number.0) number.1 >>= λ more. Ok (record { value = half_of number.0; more = more.0 }, more.1)) (run, rest) read in
    let m = bind_ok (more_at (is_odd h.0.0) h.0.1) (λ more. Ok (record { value = half_of h.0.0; more = more.0 }, more.1)) (run, rest) h.2 in
    let same = ok_value {E = Cause} (record { value = half_of h.0.0; more = m.0.0 }, m.0.1) (run, rest) m.2 in
    found h.0.0 h.0.1 m.0.0 m.0.1 h.1 m.1 same
  where
    found : (number : Signed) (middle : List ℕ) (more : ℕ) (back : List ℕ) → signed_at bytes ≡ Ok (number, middle) → more_at (is_odd number) middle ≡ Ok (more, back) → ◌≡◌ {A = Run ℤ × List ℕ} (record { value = half_of number; more = more }, back) (run, rest) →
        Joins (λ front. SpellsDiffRun front run) (λ back. back ≡ rest) bytes
    found number middle more back is more_is same =
        let count = more_found (is_odd number) middle more back more_is in
        let h = signed_found bytes number middle is in
        let both = joined_then (λ front. SpellsInteger front (doubled (record { value = half_of number; more = more }))) more bytes middle back
        (record { front = h.front; back = h.back; is_front = number_spells h.front number more h.is_front count.0; is_back = h.is_back; joined = h.joined }) count.1 in
        subst (λ (y : Run ℤ × List ℕ). Joins (λ front. SpellsDiffRun front y.0) (λ back. back ≡ y.1) bytes) same both

diff_only : (front : List ℕ) (run : Run ℤ) (rest : List ℕ) → SpellsDiffRun front run → diff_run_at (front ++ rest) ≡ Ok (run, rest)
unfolding diff_run_at
diff_only front run rest spells =
    let number = spells.is_front.0 in
    let half = half_is number run.value (has_more run.more) spells.is_front.2 in
    let at_front : signed_at (front ++ rest) ≡ Ok (number, spells.back ++ rest) =
    ap (λ b. signed_at (b ++ rest)) spells.joined ∙ ap signed_at (append_assoc spells.front spells.back rest) ∙ signed_only spells.front number (spells.back ++ rest) spells.is_front.1 in
    rw (at_front, half.1, more_again spells.back run.more rest spells.is_back) (ap (λ d. Ok (record { value = d; more = run.more }, rest)) half.0)

pub diff_skips : Skips diff_run_at SpellsDiffRun
diff_skips = record { found = diff_found; only = diff_only }

-- ---- lacking

-- an odd number, whose count is missing
without_count : (bytes : List ℕ) (number : Signed) (rest : List ℕ) (cause : Cause) → signed_at bytes ≡ Ok (number, rest) → more_at (is_odd number) rest ≡ Err cause → LacksDiffRun bytes (of_number cause)
without_count bytes number rest cause read fails =
    let none = no_more (is_odd number) rest cause fails in
    let h = signed_found bytes number rest read in
    let integer : SpellsInteger h.front ((pos 2 *ℤ half_of number) +ℤ pos 1) = (number, h.is_front, doubled_half number ∙ ap (λ b. (pos 2 *ℤ half_of number) +ℤ left_over b) none.0) in
    by_cause cause (no_count rest cause none.1) h.front integer (h.joined ∙ ap (λ b. h.front ++ b) h.is_back)
  where
    by_cause : (why : Cause) → IsNoCount why rest → (front : List ℕ) → SpellsInteger front ((pos 2 *ℤ half_of number) +ℤ pos 1) → bytes ≡ front ++ rest → LacksDiffRun bytes (of_number why)
    by_cause short_input none front integer joined = inr (half_of number, record { front = front; back = rest; is_front = integer; is_back = none; joined = joined })
    by_cause number_too_large none front integer joined = inr (half_of number, record { front = front; back = rest; is_front = integer; is_back = none; joined = joined })
    by_cause bad_utf8 none front integer joined = absurd none

-- no number stands at the front
without_number : (bytes : List ℕ) (cause : Cause) → signed_at bytes ≡ Err cause → LacksDiffRun bytes (of_number cause)
without_number bytes short_input read = inl ((signed_fails.short bytes).0 read)
without_number bytes number_too_large read = inl ((signed_fails.large bytes).0 read)
without_number bytes bad_utf8 read = absurd ((signed_fails.bad bytes).0 read)

diff_lacking : (bytes : List ℕ) (cause : Cause) → diff_run_at bytes ≡ Err cause → LacksDiffRun bytes (of_number cause)
unfolding diff_run_at
diff_lacking bytes cause read = by_number (signed_at bytes) refl read
  where
    by_more : (number : Signed) (rest : List ℕ) (r : Result (ℕ × List ℕ) Cause) → signed_at bytes ≡ Ok (number, rest) → more_at (is_odd number) rest ≡ r →
        ◌>>=◌ {B = Run ℤ × List ℕ} r (λ more. Ok (record { value = half_of number; more = more.0 }, more.1)) ≡ Err cause → LacksDiffRun bytes (of_number cause)
    by_more number rest (Ok more) is more_is e = absurd cc
    by_more number rest (Err why) is more_is e = let same : why ≡ cause = cc in without_count bytes number rest cause is (more_is ∙ ap Err same)

    by_number : (r : Result (Signed × List ℕ) Cause) → signed_at bytes ≡ r →
        ◌>>=◌ {B = Run ℤ × List ℕ} r (λ number. more_at (is_odd number.0) number.1 >>= λ more. Ok (record { value = half_of number.0; more = more.0 }, more.1)) ≡ Err cause → LacksDiffRun bytes (of_number cause)
    by_number (Ok number) is e = by_more number.0 number.1 (more_at (is_odd number.0) number.1) is refl e
    by_number (Err why) is e = let same : why ≡ cause = cc in without_number bytes cause (is ∙ ap Err same)

-- ---- failing

-- an odd number at the front, whose count fails
count_fails : (Behind : List ℕ → Type 0) (why : Cause) (bytes : List ℕ) → ((rest : List ℕ) → Behind rest → unsigned_at rest ≡ Err why) → LacksDiffCount Behind bytes → diff_run_at bytes ≡ Err why
unfolding diff_run_at more_at
count_fails Behind why bytes fails lacks =
    let number = lacks.1.is_front.0 in
    let at_front : signed_at bytes ≡ Ok (number, lacks.1.back) = ap signed_at lacks.1.joined ∙ signed_only lacks.1.front number lacks.1.back lacks.1.is_front.1 in
    let odd = half_is number lacks.0 true lacks.1.is_front.2 in
    rw (at_front, odd.1, fails lacks.1.back lacks.1.is_back) refl

diff_fails : (bytes : List ℕ) (cause : ColCause) → LacksDiffRun bytes cause → (why : Cause) × (diff_run_at bytes ≡ Err why) × (of_number why ≡ cause)
unfolding diff_run_at
diff_fails bytes ShortInput (inl ends) = (short_input, rw ((signed_fails.short bytes).1 ends) refl, refl)
diff_fails bytes ShortInput (inr lacks) = (short_input, count_fails (EndsInside SpellsUnsigned) short_input bytes (λ rest. (unsigned_fails.short rest).1) lacks, refl)
diff_fails bytes NumberTooLarge (inl long) = (number_too_large, rw ((signed_fails.large bytes).1 long) refl, refl)
diff_fails bytes NumberTooLarge (inr lacks) = (number_too_large, count_fails IsTooLarge number_too_large bytes (λ rest. (unsigned_fails.large rest).1) lacks, refl)
diff_fails bytes BadUtf8 lacks = absurd lacks
diff_fails bytes HalfPair lacks = absurd lacks
diff_fails bytes ColumnLeft lacks = absurd lacks

pub diff_fails_as : FailsAsLacking diff_run_at LacksDiffRun
diff_fails_as = record { lacking = diff_lacking; fails = diff_fails }
