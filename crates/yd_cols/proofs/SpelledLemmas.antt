-- What is written of runs spells them.
use Rattle.std.proofs.Common.{◌≡◌, ℕ, zero, suc, ◌-◌, ◌^◌, ◌<◌, ℤ, pos, negsuc, List, [], ◌∷◌, ◌++◌, replicate, refl, sym, ap, subst, ◌∙◌, inl, inr, append_assoc, append-nil, arith}
use Rattle.std.proofs.lemmas.Int.{ints}
use Rattle.std.specs.List.{AllByRecursion}
use Rattle.yd_cols.specs.declared.run.Run.{Run}
use Rattle.yd_cols.specs.Column.{EndsOpen, SpellsByteRun, SpellsBytes, SpellsDiffRun, SpellsMore, SpellsUintRun, doubled, has_more, integer_of}
use Rattle.yd_cols.specs.Law.{IsMaximal, bytes_of_runs}
use Rattle.yd_cols.specs.Run.{AreSpelled, SpellsRuns, values_of}
use Rattle.yd_cols.specs.Writable.{IsStep}
use Rattle.yd_cols.specs.Writing.{byte_run_bytes, diff_run_bytes, last_byte, more_bytes, signed_of, uint_run_bytes}
use Rattle.yd_num.specs.Writing.{shortest, shortest_signed}
use Rattle.yd_num.specs.declared.signed.Signed.{Signed}
use Rattle.yd_num.proofs.ShortestLemmas.{unsigned_spells}
use Rattle.yd_num.proofs.ShortestSignedLemmas.{signed_spells}

-- ---- one run

more_spells : (more : ℕ) → more < suc (2 ^ 53) → SpellsMore (more_bytes more) more
more_spells zero lt = refl
more_spells (suc more) lt = unsigned_spells more (omega arith)

uint_run_spells : (run : Run ℕ) → run.value < 2 ^ 53 → run.more < suc (2 ^ 53) → SpellsUintRun (uint_run_bytes run) run
uint_run_spells run in_range lt =
    let number : Signed = record { negative = has_more run.more; size = run.value } in
    record { in_range = in_range; spelled = record { front = shortest_signed number; back = more_bytes run.more; is_front = signed_spells number (omega arith); is_back = more_spells run.more lt; joined = refl } }

integer_of-signed_of : (z : ℤ) → integer_of (signed_of z) ≡ z
integer_of-signed_of (pos n) = refl
integer_of-signed_of (negsuc n) = refl

doubled_fits : (run : Run ℤ) → IsStep run.value → (signed_of (doubled run)).size < 2 ^ 55
doubled_fits run step = grind (arith, ints)

diff_run_spells : (run : Run ℤ) → IsStep run.value → run.more < suc (2 ^ 53) → SpellsDiffRun (diff_run_bytes run) run
diff_run_spells run step lt =
    let number = signed_of (doubled run) in
    record { front = shortest_signed number; back = more_bytes run.more; is_front = (number, signed_spells number (doubled_fits run step), integer_of-signed_of (doubled run)); is_back = more_spells run.more lt; joined = refl }

byte_run_spells : (run : Run ℕ) → run.more < 2 ^ 53 → SpellsByteRun (byte_run_bytes run) run
byte_run_spells run lt = record { front = run.value ∷ []; back = shortest run.more; is_front = refl; is_back = unsigned_spells run.more lt; joined = refl }

-- ---- runs one behind the other

all_behind : {V : Type 0} (P : V → Type 0) (front back : List V) → AllByRecursion P (front ++ back) → AllByRecursion P back
all_behind P [] back all = all
all_behind P (v ∷ front) back all = all_behind P front back all.1

module _ {V : Type 0} (Spells : List ℕ → Run V → Type 0) (spell : Run V → List ℕ) (P : V → Type 0) (most : ℕ) (spells : (run : Run V) → P run.value → run.more < suc most → Spells (spell run) run) where
  each_spelled : (runs : List (Run V)) → AllByRecursion P (values_of runs) → AllByRecursion (λ run. run.more < suc most) runs → AreSpelled Spells runs (bytes_of_runs spell spell runs)
  each_spelled [] all each = refl
  each_spelled (run ∷ []) all each = record { front = spell run; back = []; is_front = spells run all.0 each.0; is_back = refl; joined = sym (append-nil (spell run)) }
  each_spelled (run ∷ next ∷ runs) all each = record {
    front = spell run;
    back = bytes_of_runs spell spell (next ∷ runs);
    is_front = spells run all.0 each.0;
    is_back = each_spelled (next ∷ runs) (all_behind P (replicate run.more run.value) (values_of (next ∷ runs)) all.1) each.1;
    joined = refl;
  }

  -- maximal runs of values that may be written spell these
  runs_spelled : (bytes : List ℕ) (values : List V) → AllByRecursion P values → IsMaximal spell spell most bytes values → SpellsRuns Spells bytes values
  runs_spelled bytes values all is = record {
    runs = is.runs;
    spelled = subst (AreSpelled Spells is.runs) (sym is.bytes_are) (each_spelled is.runs (subst (AllByRecursion P) (sym is.cut) all) is.each);
    cut = is.cut;
  }

-- ---- bytes

no_bytes : SpellsRuns SpellsByteRun [] []
no_bytes = record { runs = []; spelled = refl; cut = refl }

-- a run with its count before runs of which the last has none
ends_behind : (run : Run ℕ) (bytes values : List ℕ) → run.more < 2 ^ 53 → EndsOpen bytes values → EndsOpen (byte_run_bytes run ++ bytes) (replicate (suc run.more) run.value ++ values)
ends_behind run bytes values lt ends = record {
  front = byte_run_bytes run ++ ends.front;
  before = replicate (suc run.more) run.value ++ ends.before;
  last = ends.last;
  more = ends.more;
  spelled = record {
    runs = run ∷ ends.spelled.runs;
    spelled = record { front = byte_run_bytes run; back = ends.front; is_front = byte_run_spells run lt; is_back = ends.spelled.spelled; joined = refl };
    cut = ap (λ (l : List ℕ). replicate (suc run.more) run.value ++ l) ends.spelled.cut;
  };
  bytes_are = ap (λ (l : List ℕ). byte_run_bytes run ++ l) ends.bytes_are ∙ sym (append_assoc (byte_run_bytes run) ends.front (ends.last ∷ []));
  values_are = ap (λ (l : List ℕ). replicate (suc run.more) run.value ++ l) ends.values_are ∙ sym (append_assoc (replicate (suc run.more) run.value) ends.before (replicate (suc ends.more) ends.last));
}

ends_open : (run : Run ℕ) (runs : List (Run ℕ)) → AllByRecursion (λ r. r.more < 2 ^ 53) (run ∷ runs) → EndsOpen (bytes_of_runs byte_run_bytes last_byte (run ∷ runs)) (values_of (run ∷ runs))
ends_open run [] each = record { front = []; before = []; last = run.value; more = run.more; spelled = no_bytes; bytes_are = refl; values_are = append-nil (replicate (suc run.more) run.value) }
ends_open run (next ∷ runs) each = ends_behind run _ _ each.0 (ends_open next runs each.1)

bytes_spelled_by : (runs : List (Run ℕ)) → AllByRecursion (λ r. r.more < 2 ^ 53) runs → SpellsBytes (bytes_of_runs byte_run_bytes last_byte runs) (values_of runs)
bytes_spelled_by [] each = inl no_bytes
bytes_spelled_by (run ∷ runs) each = inr (ends_open run runs each)

-- ---- lemmas for callers

pub uints_spelled : (bytes values : List ℕ) → AllByRecursion (λ v. v < 2 ^ 53) values → IsMaximal uint_run_bytes uint_run_bytes (2 ^ 53) bytes values → SpellsRuns SpellsUintRun bytes values
uints_spelled bytes values all is = runs_spelled SpellsUintRun uint_run_bytes (λ (v : ℕ). v < 2 ^ 53) (2 ^ 53) uint_run_spells bytes values all is

pub diffs_spelled : (bytes : List ℕ) (steps : List ℤ) → AllByRecursion IsStep steps → IsMaximal diff_run_bytes diff_run_bytes (2 ^ 53) bytes steps → SpellsRuns SpellsDiffRun bytes steps
diffs_spelled bytes steps all is = runs_spelled SpellsDiffRun diff_run_bytes IsStep (2 ^ 53) diff_run_spells bytes steps all is

pub bytes_spelled : (bytes values : List ℕ) → IsMaximal byte_run_bytes last_byte (2 ^ 53 - 1) bytes values → SpellsBytes bytes values
bytes_spelled bytes values is = rw (is.bytes_are, sym is.cut) (bytes_spelled_by is.runs is.each)
