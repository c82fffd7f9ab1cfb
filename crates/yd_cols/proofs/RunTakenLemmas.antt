-- The next value of runs: what reading gives is what stands there, and where it fails none does.
use Rattle.std.proofs.Common.{◌≡◌, ◌∙◌, ℕ, zero, suc, ◌+◌, ◌-◌, List, ◌++◌, length, Result, Ok, Err, refl, ap, sym, subst, inl, inr, arith, length-append}
use Rattle.yd_cols.specs.Reading.{RunsLeft, next_in, next_of, of_number, opened}
use Rattle.yd_cols.specs.Taking.{LacksRun, TakesRun}
use Rattle.yd_cols.specs.declared.fault.ColCause.{ColCause}
use Rattle.yd_cols.specs.declared.fault.ColFault.{ColFault}
use Rattle.yd_cols.specs.declared.run.Run.{Run}
use Rattle.yd_num.specs.Law.{Skips}
use Rattle.yd_num.specs.Reading.{Cause}
use Rattle.yd_num.proofs.ReadingLemmas.{ok_value}

-- the runs behind a run that is read
abbrev behind : {V : Type 0} → RunsLeft V → Run V → List ℕ → ℕ → RunsLeft V
behind left run rest place = record { value = run.value; more = run.more; at = left.place; place = place; bytes = rest }

-- the place behind a run, by what is left and by its own length
pub same_place : (place : ℕ) (bytes front rest : List ℕ) → bytes ≡ front ++ rest → (place + length bytes) - length rest ≡ place + length front
same_place place bytes front rest joined = let both : length bytes ≡ length front + length rest = ap length joined ∙ length-append front rest in omega (arith, both)

pub run_taken : {V : Type 0} (run_at : List ℕ → Result (Run V × List ℕ) Cause) (Spells : List ℕ → Run V → Type 0) → Skips run_at Spells →
    (left : RunsLeft V) (v : V) (next : RunsLeft V) → next_in run_at left ≡ Ok (v, next) → TakesRun Spells left v next
unfolding next_in
run_taken {V} run_at Spells skips left v next read = by_more left.more refl read
  where
    by_run : (r : Result (Run V × List ℕ) Cause) → left.more ≡ 0 → run_at left.bytes ≡ r → opened left r ≡ Ok (v, next) → TakesRun Spells left v next
    by_run (Ok got) none is e =
        let same = ok_value {E = ColFault} (got.0.value, behind left got.0 got.1 ((left.place + length left.bytes) - length got.1)) (v, next) e in
        let h = skips.found left.bytes got.0 got.1 is in
        let joined = h.joined ∙ ap (λ back. h.front ++ back) h.is_back in
        inr (record {
          none = none;
          run = got.0;
          front = h.front;
          rest = got.1;
          spelled = h.is_front;
          joined = joined;
          value = sym (ap (λ pair. pair.0) same);
          next_is = sym (ap (λ pair. pair.1) same) ∙ ap (λ place. behind left got.0 got.1 place) (same_place left.place left.bytes h.front got.1 joined);
        })
    by_run (Err cause) none is e = absurd cc

    by_more : (more : ℕ) → left.more ≡ more → next_of run_at left more ≡ Ok (v, next) → TakesRun Spells left v next
    by_more zero none e = by_run (run_at left.bytes) none refl e
    by_more (suc more) there e =
        let same = ok_value {E = ColFault} (left.value, record { value = left.value; more = more; at = left.at; place = left.place; bytes = left.bytes }) (v, next) e in
        inl (record { more = more; there = there; value = sym (ap (λ pair. pair.0) same); next_is = sym (ap (λ pair. pair.1) same) })

pub run_again : {V : Type 0} (run_at : List ℕ → Result (Run V × List ℕ) Cause) (Spells : List ℕ → Run V → Type 0) → Skips run_at Spells →
    (left : RunsLeft V) (v : V) (next : RunsLeft V) → TakesRun Spells left v next → next_in run_at left ≡ Ok (v, next)
unfolding next_in
run_again run_at Spells skips left v next (inl hand) =
    ap (λ more. next_of run_at left more) hand.there ∙ sym (ap (λ pair. Ok pair) (ap (λ x. (x, next)) hand.value ∙ ap (λ n. (left.value, n)) hand.next_is))
run_again run_at Spells skips left v next (inr opens) =
    let read = ap run_at opens.joined ∙ skips.only opens.front opens.run opens.rest opens.spelled in
    let place = same_place left.place left.bytes opens.front opens.rest opens.joined in
    ap (λ more. next_of run_at left more) opens.none ∙ ap (λ r. opened left r) read
    ∙ ap (λ place. Ok (opens.run.value, behind left opens.run opens.rest place)) place
    ∙ sym (ap (λ pair. Ok pair) (ap (λ x. (x, next)) opens.value ∙ ap (λ n. (opens.run.value, n)) opens.next_is))

-- ---- faults

-- reading a run fails just where one is lacking, for this cause
pub record FailsAsLacking {V : Type 0} (run_at : List ℕ → Result (Run V × List ℕ) Cause) (Lacking : List ℕ → ColCause → Type 0) : Type 0 where
  pub lacking : (bytes : List ℕ) (cause : Cause) → run_at bytes ≡ Err cause → Lacking bytes (of_number cause)
  pub fails : (bytes : List ℕ) (cause : ColCause) → Lacking bytes cause → (why : Cause) × (run_at bytes ≡ Err why) × (of_number why ≡ cause)

pub run_lacking : {V : Type 0} (run_at : List ℕ → Result (Run V × List ℕ) Cause) (Lacking : List ℕ → ColCause → Type 0) → FailsAsLacking run_at Lacking →
    (left : RunsLeft V) (fault : ColFault) → next_in run_at left ≡ Err fault → LacksRun Lacking left fault
unfolding next_in
run_lacking {V} run_at Lacking fails left fault read = by_more left.more refl read
  where
    by_run : (r : Result (Run V × List ℕ) Cause) → left.more ≡ 0 → run_at left.bytes ≡ r → opened left r ≡ Err fault → LacksRun Lacking left fault
    by_run (Ok got) none is e = absurd cc
    by_run (Err cause) none is e =
        let same : record { cause = of_number cause; at = left.place } ≡ fault = cc in
        record { none = none; lacking = subst (λ why. Lacking left.bytes why) (ap (λ f. f.cause) same) (fails.lacking left.bytes cause is); place = sym (ap (λ f. f.at) same) }

    by_more : (more : ℕ) → left.more ≡ more → next_of run_at left more ≡ Err fault → LacksRun Lacking left fault
    by_more zero none e = by_run (run_at left.bytes) none refl e
    by_more (suc more) there e = absurd cc

pub run_fails : {V : Type 0} (run_at : List ℕ → Result (Run V × List ℕ) Cause) (Lacking : List ℕ → ColCause → Type 0) → FailsAsLacking run_at Lacking →
    (left : RunsLeft V) (fault : ColFault) → LacksRun Lacking left fault → next_in run_at left ≡ Err fault
unfolding next_in
run_fails run_at Lacking fails left fault lacks =
    let why = fails.fails left.bytes fault.cause lacks.lacking in
    ap (λ more. next_of run_at left more) lacks.none ∙ ap (λ r. opened left r) why.1
    ∙ ap (λ cause. Err (record { cause = cause; at = left.place })) why.2 ∙ ap (λ at. Err (record { cause = fault.cause; at = at })) (sym lacks.place)
