-- What was given so far of a column is what the bytes before the rest spell.
use Rattle.std.proofs.Common.{◌≡◌, ◌∙◌, ◌⊎◌, ◌+◌, ℕ, suc, ℤ, pos, ◌-ℤ◌, true, false, List, [], ◌∷◌, ◌++◌, replicate, refl, ap, sym, subst, inl, inr, arith, append_assoc, append-nil}
use Rattle.std.proofs.lemmas.List.{replicate-append-replicate}
use Rattle.yd_cols.proofs.ByteTakenLemmas.{byte_taken}
use Rattle.yd_cols.proofs.DiffLemmas.{diff_taken, step_only}
use Rattle.yd_cols.proofs.RunGivenLemmas.{before_first, before_next}
use Rattle.yd_cols.proofs.RunTakenLemmas.{run_taken}
use Rattle.yd_cols.proofs.UintRunLemmas.{uint_skips}
use Rattle.yd_cols.specs.Column.{EndsOpen, SpellsByteRun, SpellsBytes, SpellsDiffRun, SpellsUintRun, differences}
use Rattle.yd_cols.specs.Law.{GivesAll, IsBefore}
use Rattle.yd_cols.specs.Reading.{BytesLeft, DiffsLeft, RunsLeft, bytes_in, diffs_in, next_byte, next_diff, next_uint, runs_from, uint_run_at, uints_in}
use Rattle.yd_cols.specs.Run.{SpellsRuns}
use Rattle.yd_cols.specs.Taking.{TakesByte}

-- ---- numbers

given_uints : (from : ℕ) (bytes before values : List ℕ) (start left : RunsLeft ℕ) → IsBefore SpellsUintRun from bytes before start → GivesAll next_uint start values left → IsBefore SpellsUintRun from bytes (before ++ values) left
given_uints from bytes before [] start left is_before same = subst (λ s. IsBefore SpellsUintRun from bytes (before ++ []) s) same (subst (λ vs. IsBefore SpellsUintRun from bytes vs start) (sym (append-nil before)) is_before)
given_uints from bytes before (v ∷ vs) start left is_before gives =
    let taken = run_taken uint_run_at SpellsUintRun uint_skips start v gives.0 gives.1 in
    subst (λ values. IsBefore SpellsUintRun from bytes values left) (append_assoc before (v ∷ []) vs)
    (given_uints from bytes (before ++ v ∷ []) vs gives.0 left (before_next SpellsUintRun from bytes before start v gives.0 is_before taken) gives.2)

-- from any place on
pub uints_behind : (place : ℕ) (bytes values : List ℕ) (left : RunsLeft ℕ) → GivesAll next_uint (runs_from 0 place bytes) values left → IsBefore SpellsUintRun place bytes values left
uints_behind place bytes values left gives = given_uints place bytes [] values (runs_from 0 place bytes) left (before_first SpellsUintRun 0 place bytes) gives

pub uints_given : (bytes values : List ℕ) (left : RunsLeft ℕ) → GivesAll next_uint (uints_in bytes) values left → IsBefore SpellsUintRun 0 bytes values left
uints_given bytes values left gives = uints_behind 0 bytes values left gives

-- ---- differences

given_diffs : (bytes : List ℕ) (steps : List ℤ) (values : List ℕ) (start left : DiffsLeft) → IsBefore SpellsDiffRun 0 bytes steps start.runs → GivesAll next_diff start values left →
    IsBefore SpellsDiffRun 0 bytes (steps ++ differences start.before values) left.runs
given_diffs bytes steps [] start left is_before same = subst (λ s. IsBefore SpellsDiffRun 0 bytes (steps ++ []) s.runs) same (subst (λ vs. IsBefore SpellsDiffRun 0 bytes vs start.runs) (sym (append-nil steps)) is_before)
given_diffs bytes steps (v ∷ vs) start left is_before gives =
    let takes = diff_taken start v gives.0 gives.1 in
    let step : takes.step ≡ pos v -ℤ pos start.before = sym (step_only start.before v takes.step takes.value) in
    let later = given_diffs bytes (steps ++ takes.step ∷ []) vs gives.0 left (before_next SpellsDiffRun 0 bytes steps start.runs takes.step gives.0.runs is_before takes.taken) gives.2 in
    subst (λ ds. IsBefore SpellsDiffRun 0 bytes ds left.runs)
    (append_assoc steps (takes.step ∷ []) (differences gives.0.before vs) ∙ ap (λ d. steps ++ d ∷ differences gives.0.before vs) step ∙ ap (λ before. steps ++ (pos v -ℤ pos start.before) ∷ differences before vs) takes.before)
    later

pub diffs_given : (bytes values : List ℕ) (left : DiffsLeft) → GivesAll next_diff (diffs_in bytes) values left → IsBefore SpellsDiffRun 0 bytes (differences 0 values) left.runs
diffs_given bytes values left gives = given_diffs bytes [] values (diffs_in bytes) left (before_first SpellsDiffRun (pos 0) 0 bytes) gives

-- ---- bytes

-- what was given ends in a run without a count, which is in hand
record OpenBefore (bytes values : List ℕ) (left : BytesLeft) : Type 0 where
  opened : left.is_open ≡ true
  ends : EndsOpen bytes values
  in_hand : left.runs.value ≡ ends.last

-- what was given stands in runs with counts
record CountedBefore (bytes values : List ℕ) (left : BytesLeft) : Type 0 where
  closed : left.is_open ≡ false
  before : IsBefore SpellsByteRun 0 bytes values left.runs

-- what was given so far
abbrev ByteBefore : List ℕ → List ℕ → BytesLeft → Type 0
ByteBefore bytes values left = OpenBefore bytes values left ⊎ CountedBefore bytes values left

-- no reader is both
both : (left : BytesLeft) → left.is_open ≡ true → left.is_open ≡ false → ⊥
both left opened closed = let same : true ≡ false = sym opened ∙ closed in absurd cc

next_given : (bytes values : List ℕ) (left : BytesLeft) (b : ℕ) (next : BytesLeft) → ByteBefore bytes values left → TakesByte left b next → ByteBefore bytes (values ++ b ∷ []) next
next_given bytes values left b next (inl before) (inl takes) = inl (record {
  opened = ap (λ n. n.is_open) takes.next_is ∙ takes.opened;
  ends = record {
    front = before.ends.front;
    before = before.ends.before;
    last = before.ends.last;
    more = suc before.ends.more;
    spelled = before.ends.spelled;
    bytes_are = before.ends.bytes_are;
    values_are = ap (λ vs. vs ++ b ∷ []) before.ends.values_are ∙ append_assoc before.ends.before (replicate (suc before.ends.more) before.ends.last) (b ∷ [])
        ∙ ap (λ x. before.ends.before ++ (replicate (suc before.ends.more) before.ends.last ++ x ∷ [])) (takes.value ∙ before.in_hand)
        ∙ ap (λ vs. before.ends.before ++ vs) (one_more (suc before.ends.more) before.ends.last);
  };
  in_hand = ap (λ n. n.runs.value) takes.next_is ∙ before.in_hand;
})
  where
    one_more : (n last : ℕ) → replicate n last ++ last ∷ [] ≡ replicate (suc n) last
    one_more n last = let same : n + 1 ≡ suc n = omega arith in replicate-append-replicate n 1 last ∙ ap (λ m. replicate m last) same
next_given bytes values left b next (inl before) (inr (inl takes)) = absurd (both left before.opened takes.closed)
next_given bytes values left b next (inl before) (inr (inr takes)) = absurd (both left before.opened takes.closed)
next_given bytes values left b next (inr before) (inl takes) = absurd (both left takes.opened before.closed)
next_given bytes values left b next (inr before) (inr (inl takes)) = inr (record { closed = takes.still_closed; before = before_next SpellsByteRun 0 bytes values left.runs b next.runs before.before takes.taken })
next_given bytes values left b next (inr before) (inr (inr takes)) = inl (record {
  opened = ap (λ n. n.is_open) takes.next_is;
  ends = record {
    front = before.before.front;
    before = values;
    last = b;
    more = 0;
    spelled = subst (λ vs. SpellsRuns SpellsByteRun before.before.front vs) (ap (λ more. values ++ replicate more left.runs.value) takes.none ∙ append-nil values) before.before.spelled;
    bytes_are = before.before.joined ∙ ap (λ rest. before.before.front ++ rest) takes.only;
    values_are = refl;
  };
  in_hand = ap (λ n. n.runs.value) takes.next_is;
})

given_bytes : (bytes before values : List ℕ) (start left : BytesLeft) → ByteBefore bytes before start → GivesAll next_byte start values left → ByteBefore bytes (before ++ values) left
given_bytes bytes before [] start left is_before same = subst (λ s. ByteBefore bytes (before ++ []) s) same (subst (λ vs. ByteBefore bytes vs start) (sym (append-nil before)) is_before)
given_bytes bytes before (v ∷ vs) start left is_before gives =
    subst (λ values. ByteBefore bytes values left) (append_assoc before (v ∷ []) vs)
    (given_bytes bytes (before ++ v ∷ []) vs gives.0 left (next_given bytes before start v gives.0 is_before (byte_taken start v gives.0 gives.1)) gives.2)

all_given : (bytes values : List ℕ) (left : BytesLeft) → GivesAll next_byte (bytes_in bytes) values left → ByteBefore bytes values left
all_given bytes values left gives = given_bytes bytes [] values (bytes_in bytes) left (inr (record { closed = refl; before = before_first SpellsByteRun 0 0 bytes })) gives

pub bytes_given : (bytes values : List ℕ) (left : BytesLeft) → GivesAll next_byte (bytes_in bytes) values left → left.is_open ≡ false → IsBefore SpellsByteRun 0 bytes values left.runs
bytes_given bytes values left gives closed = elim (all_given bytes values left gives) [
  | inl open_ ↦ absurd (both left open_.opened closed)
  | inr counted ↦ counted.before
]

pub open_given : (bytes values : List ℕ) (left : BytesLeft) → GivesAll next_byte (bytes_in bytes) values left → left.is_open ≡ true → SpellsBytes bytes values
open_given bytes values left gives opened = elim (all_given bytes values left gives) [
  | inl open_ ↦ inr open_.ends
  | inr counted ↦ absurd (both left opened counted.closed)
]
