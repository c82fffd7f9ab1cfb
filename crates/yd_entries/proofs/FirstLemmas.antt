-- What was taken of the first runs, and what is held: what leaves it as it was.
use Rattle.std.proofs.Common.{◌≡◌, ℕ, ◌≤◌, Bool, true, false, List, ◌∷◌, ◌++◌, length, take, drop, refl, ap, ◌∙◌, arith, tests, length-append}
use Rattle.yd_ops.specs.declared.runs.Run.{Run}
use Rattle.yd_ops.specs.Value.{RunValue}
use Rattle.yd_entries.specs.declared.entry.Entry.{Entry}
use Rattle.yd_entries.specs.Entries.{is_held, is_of_first, OnlyAdds, GrowBy}
use Rattle.yd_entries.specs.Taking.{entry_from}
use Rattle.yd_entries.proofs.AddingLemmas.{filter_with}

pub adds_none : (count : ℕ) (ts : List Entry) → OnlyAdds count ts ts
adds_none count ts = record { first = λ n le. refl; held = refl }

-- one change after another
pub adds_more : (few many : ℕ) (old mid new : List Entry) → few ≤ many → OnlyAdds few old mid → OnlyAdds many mid new → OnlyAdds few old new
adds_more few many old mid new less one other = record {
  first = λ n le. other.first n (omega arith) ∙ one.first n le;
  held = other.held ∙ one.held;
}

-- and more runs behind the others between the two
pub adds_grown : (old_runs runs : List Run) (old mid new : List Entry) → GrowBy old_runs runs → OnlyAdds (length old_runs) old mid →
    OnlyAdds (length runs) mid new → OnlyAdds (length old_runs) old new
adds_grown old_runs runs old mid new (more, e) one other =
    adds_more (length old_runs) (length runs) old mid new (omega (arith, ap length e, length-append old_runs more)) one other

pub later_run : (t : Entry) (n : ℕ) → n ≤ t.run → is_of_first n t ≡ false
later_run t n le = grind (arith, tests)

-- an entry of a later run goes between the others, and waits
pub adds_one : (count : ℕ) (ts : List Entry) (at : ℕ) (t : Entry) → count ≤ t.run → is_held t ≡ false → OnlyAdds count ts (take at ts ++ t ∷ drop at ts)
adds_one count ts at t later waits = record {
  first = λ n le. filter_with (is_of_first n) ts at t (later_run t n (omega arith));
  held = filter_with is_held ts at t waits;
}

-- so do units of a run, or ones that are gone
pub adds_from : (index : ℕ) (ts : List Entry) (at : ℕ) (is_gone : Bool) (run : RunValue) (n count : ℕ) →
    OnlyAdds index ts (take at ts ++ entry_from is_gone run n index count ∷ drop at ts)
adds_from index ts at true run n count = adds_one index ts at (entry_from true run n index count) (omega arith) refl
adds_from index ts at false run n count = adds_one index ts at (entry_from false run n index count) (omega arith) refl
