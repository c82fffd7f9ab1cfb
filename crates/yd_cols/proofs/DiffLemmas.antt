-- A column of differences is read exactly, value by value and whole.
use Rattle.std.proofs.Common.{◌≡◌, ◌∙◌, ◌⊎◌, ◌^◌, ◌<◌, ℕ, ℤ, pos, negsuc, ◌+ℤ◌, ◌-ℤ◌, ◌≤ℤ◌, ◌<ℤ◌, List, ◌∷◌, Result, Ok, Err, Some, None, refl, ap, sym, subst, inl, inr, arith}
use Rattle.std.proofs.lemmas.Bool.{cases_lt, lt-ltb, le-ltb}
use Rattle.std.proofs.lemmas.Int.{ints}
use Rattle.yd_cols.proofs.DiffRunLemmas.{diff_fails_as, diff_skips}
use Rattle.yd_cols.proofs.RunStandLemmas.{ends_runs, run_before, run_given, runs_end}
use Rattle.yd_cols.proofs.RunTakenLemmas.{run_again, run_fails, run_lacking, run_taken}
use Rattle.yd_cols.specs.Column.{SpellsDiffRun, differences}
use Rattle.yd_cols.specs.Law.{IsExact, IsReadWhole}
use Rattle.yd_cols.specs.Reading.{DiffsLeft, RunsLeft, and_then, diff_run_at, end_of_diffs, in_range, next_diff, next_in, stepped}
use Rattle.yd_cols.specs.Standing.{DiffsStand, RunsStand}
use Rattle.yd_cols.specs.Taking.{LacksDiff, LacksDiffRun, TakesDiff, TakesRun}
use Rattle.yd_cols.specs.declared.fault.ColCause.TheVariants.{NumberTooLarge}
use Rattle.yd_cols.specs.declared.fault.ColFault.{ColFault}
use Rattle.yd_num.proofs.ReadingLemmas.{ok_value}

-- ---- the range

-- an integer is below zero, or past 2^53-1
abbrev IsOut : ℤ → Type 0
IsOut z = (z <ℤ pos 0) ⊎ (pos (2 ^ 53) ≤ℤ z)

-- what an integer is, by its range
judged : (z : ℤ) → ((v : ℕ) × (z ≡ pos v) × (v < 2 ^ 53) × (in_range z ≡ Some v)) ⊎ (IsOut z × (in_range z ≡ None))
judged (pos v) = elim (cases_lt v (2 ^ 53)) [
  | inl small ↦ inl (v, refl, small, rw (lt-ltb v (2 ^ 53) small) refl)
  | inr past ↦ inr (inr (omega (arith, ints, past)), rw (le-ltb v (2 ^ 53) past) refl)
]
judged (negsuc n) = inr (inl (omega (arith, ints)), refl)

-- none is in the range and out of it
not_both : (z : ℤ) (v : ℕ) → z ≡ pos v → v < 2 ^ 53 → IsOut z → ⊥
not_both z v is small (inl below) = omega (arith, ints, is, small, below)
not_both z v is small (inr past) = omega (arith, ints, is, small, past)

-- ---- one value

pub diff_taken : (left : DiffsLeft) (v : ℕ) (next : DiffsLeft) → next_diff left ≡ Ok (v, next) → TakesDiff left v next
unfolding next_diff
diff_taken left v next read = by_step (next_in diff_run_at left.runs) refl read
  where
    by_value : (step : ℤ) (runs : RunsLeft ℤ) → TakesRun SpellsDiffRun left.runs step runs → stepped runs (in_range (pos left.before +ℤ step)) ≡ Ok (v, next) → TakesDiff left v next
    by_value step runs taken e =
        elim (judged (pos left.before +ℤ step)) [
          | inl fits ↦
              let same = ok_value {E = ColFault} (fits.0, record { before = fits.0; runs = runs }) (v, next) (rw fits.3 at e) in
              subst (λ (y : ℕ × DiffsLeft). TakesDiff left y.0 y.1) same (record { step = step; taken = taken; value = fits.1; in_range = fits.2; before = refl })
          | inr out ↦ let e = rw out.1 at e in absurd cc
        ]

    by_step : (r : Result (ℤ × RunsLeft ℤ) ColFault) → next_in diff_run_at left.runs ≡ r → and_then r (λ step. stepped step.1 (in_range (pos left.before +ℤ step.0))) ≡ Ok (v, next) → TakesDiff left v next
    by_step (Ok step) is e = by_value step.0 step.1 (run_taken diff_run_at SpellsDiffRun diff_skips left.runs step.0 step.1 is) e
    by_step (Err fault) is e = absurd cc

diff_again : (left : DiffsLeft) (v : ℕ) (next : DiffsLeft) → TakesDiff left v next → next_diff left ≡ Ok (v, next)
unfolding next_diff
diff_again left v next takes =
    elim (judged (pos left.before +ℤ takes.step)) [
      | inl fits ↦
          let same : fits.0 ≡ v = omega (arith, ints, fits.1, takes.value) in
          rw (run_again diff_run_at SpellsDiffRun diff_skips left.runs takes.step next.runs takes.taken, fits.3, same)
          (ap (λ before. Ok (v, record { before = before; runs = next.runs })) (sym takes.before))
      | inr out ↦ absurd (not_both (pos left.before +ℤ takes.step) v takes.value takes.in_range out.0)
    ]

diff_lacking : (left : DiffsLeft) (fault : ColFault) → next_diff left ≡ Err fault → LacksDiff left fault
unfolding next_diff
diff_lacking left fault read = by_step (next_in diff_run_at left.runs) refl read
  where
    by_value : (step : ℤ) (runs : RunsLeft ℤ) → TakesRun SpellsDiffRun left.runs step runs → stepped runs (in_range (pos left.before +ℤ step)) ≡ Err fault → LacksDiff left fault
    by_value step runs taken e =
        elim (judged (pos left.before +ℤ step)) [
          | inl fits ↦ let e = rw fits.3 at e in absurd cc
          | inr out ↦
              let e = rw out.1 at e in
              let same : record { cause = NumberTooLarge; at = runs.at } ≡ fault = cc in
              inr (record { step = step; runs = runs; taken = taken; out = out.0; fault_is = sym same })
        ]

    by_step : (r : Result (ℤ × RunsLeft ℤ) ColFault) → next_in diff_run_at left.runs ≡ r → and_then r (λ step. stepped step.1 (in_range (pos left.before +ℤ step.0))) ≡ Err fault → LacksDiff left fault
    by_step (Ok step) is e = by_value step.0 step.1 (run_taken diff_run_at SpellsDiffRun diff_skips left.runs step.0 step.1 is) e
    by_step (Err other) is e = let same : other ≡ fault = cc in inl (run_lacking diff_run_at LacksDiffRun diff_fails_as left.runs fault (is ∙ ap Err same))

diff_fails : (left : DiffsLeft) (fault : ColFault) → LacksDiff left fault → next_diff left ≡ Err fault
unfolding next_diff
diff_fails left fault (inl lacks) = rw (run_fails diff_run_at LacksDiffRun diff_fails_as left.runs fault lacks) refl
diff_fails left fault (inr out) =
    elim (judged (pos left.before +ℤ out.step)) [
      | inl fits ↦ absurd (not_both (pos left.before +ℤ out.step) fits.0 fits.1 fits.2 out.out)
      | inr past ↦ rw (run_again diff_run_at SpellsDiffRun diff_skips left.runs out.step out.runs out.taken, past.1) (ap Err (sym out.fault_is))
    ]

pub diff_exact : IsExact next_diff TakesDiff LacksDiff
diff_exact = record { values = λ left v next. (diff_taken left v next, diff_again left v next); faults = λ left fault. (diff_lacking left fault, diff_fails left fault) }

-- ---- a whole column

-- a difference and the value before make the value
step_back : (before v : ℕ) → pos before +ℤ (pos v -ℤ pos before) ≡ pos v
step_back before v = omega (arith, ints)

-- and the difference is the only one
pub step_only : (before v : ℕ) (step : ℤ) → pos before +ℤ step ≡ pos v → pos v -ℤ pos before ≡ step
step_only before v step is = omega (arith, ints, is)

diff_given : (left : DiffsLeft) (v : ℕ) (vs : List ℕ) → Unit {0} → DiffsStand left (v ∷ vs) → (next : DiffsLeft) × (next_diff left ≡ Ok (v, next)) × Unit {0} × DiffsStand next vs
diff_given left v vs sound stand =
    let given = run_given SpellsDiffRun left.runs (pos v -ℤ pos left.before) (differences v vs) stand.stand in
    let next : DiffsLeft = record { before = v; runs = given.0 } in (
      next,
      diff_again left v next (record { step = pos v -ℤ pos left.before; taken = given.1; value = step_back left.before v; in_range = stand.in_range.0; before = refl }),
      tt,
      record { in_range = stand.in_range.1; stand = given.2 },
    )

diff_before : (left : DiffsLeft) (v : ℕ) (next : DiffsLeft) (vs : List ℕ) → Unit {0} → next_diff left ≡ Ok (v, next) → DiffsStand next vs → DiffsStand left (v ∷ vs)
diff_before left v next vs sound read stand =
    let takes = diff_taken left v next read in
    let behind : RunsStand SpellsDiffRun next.runs (differences v vs) = subst (λ before. RunsStand SpellsDiffRun next.runs (differences before vs)) takes.before stand.stand in
    record {
      in_range = (takes.in_range, stand.in_range);
      stand = subst (λ step. RunsStand SpellsDiffRun left.runs (step ∷ differences v vs)) (sym (step_only left.before v takes.step takes.value))
          (run_before SpellsDiffRun left.runs takes.step next.runs (differences v vs) takes.taken behind);
    }

pub diff_whole : IsReadWhole (λ left. Unit {0}) next_diff end_of_diffs DiffsStand
diff_whole = record {
  given = diff_given;
  taken = diff_before;
  end = λ left. (λ ends. record { in_range = tt; stand = runs_end SpellsDiffRun left.runs ends }, λ stand. ends_runs SpellsDiffRun left.runs stand.stand);
}
