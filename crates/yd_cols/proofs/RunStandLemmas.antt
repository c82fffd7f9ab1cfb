-- The values that are left of runs are those that reading gives, one after the other.
use Rattle.std.proofs.Common.{◌≡◌, ◌∙◌, ℕ, zero, suc, ◌+◌, List, [], ◌∷◌, ◌++◌, length, replicate, Ok, refl, ap, sym, subst, inl, inr}
use Rattle.yd_cols.specs.Reading.{RunsLeft, end_of_runs, runs_done}
use Rattle.yd_cols.specs.Run.{AreSpelled, SpellsRuns, values_of}
use Rattle.yd_cols.specs.Standing.{RunsStand}
use Rattle.yd_cols.specs.Taking.{TakesRun}
use Rattle.yd_cols.specs.declared.run.Run.{Run}

-- what is the same in two lists with a first element
pub first_same : {V : Type 0} (x y : V) (xs ys : List V) → x ∷ xs ≡ y ∷ ys → (x ≡ y) × (xs ≡ ys)
first_same x y xs ys same = (cc, cc)

-- ---- one value less

-- the first value that stands is taken, and the others stand behind it
pub run_given : {V : Type 0} (Spells : List ℕ → Run V → Type 0) (left : RunsLeft V) (v : V) (vs : List V) → RunsStand Spells left (v ∷ vs) → (next : RunsLeft V) × TakesRun Spells left v next × RunsStand Spells next vs
run_given {V} Spells left v vs stand = by_more left.more refl stand.all
  where
    by_runs : (runs : List (Run V)) → left.more ≡ 0 → AreSpelled Spells runs left.bytes → values_of runs ≡ v ∷ vs → (next : RunsLeft V) × TakesRun Spells left v next × RunsStand Spells next vs
    by_runs [] none spelled all = absurd cc
    by_runs (run ∷ runs) none spelled all =
        let same = first_same run.value v (replicate run.more run.value ++ values_of runs) vs all in
        let next : RunsLeft V = record { value = run.value; more = run.more; at = left.place; place = left.place + length spelled.front; bytes = spelled.back } in (
          next,
          inr (record { none = none; run = run; front = spelled.front; rest = spelled.back; spelled = spelled.is_front; joined = spelled.joined; value = sym same.0; next_is = refl }),
          record { behind = values_of runs; spelled = record { runs = runs; spelled = spelled.is_back; cut = refl }; all = sym same.1 },
        )

    by_more : (more : ℕ) → left.more ≡ more → v ∷ vs ≡ replicate more left.value ++ stand.behind → (next : RunsLeft V) × TakesRun Spells left v next × RunsStand Spells next vs
    by_more zero none all = by_runs stand.spelled.runs none stand.spelled.spelled (stand.spelled.cut ∙ sym all)
    by_more (suc more) there all =
        let same = first_same v left.value vs (replicate more left.value ++ stand.behind) all in
        let next : RunsLeft V = record { value = left.value; more = more; at = left.at; place = left.place; bytes = left.bytes } in (
          next,
          inl (record { more = more; there = there; value = same.0; next_is = refl }),
          record { behind = stand.behind; spelled = stand.spelled; all = same.1 },
        )

-- ---- one value more

-- a value that is taken stands before those that stand behind it
pub run_before : {V : Type 0} (Spells : List ℕ → Run V → Type 0) (left : RunsLeft V) (v : V) (next : RunsLeft V) (vs : List V) → TakesRun Spells left v next → RunsStand Spells next vs → RunsStand Spells left (v ∷ vs)
run_before Spells left v next vs (inl hand) stand = record {
  behind = stand.behind;
  spelled = subst (λ n. SpellsRuns Spells n.bytes stand.behind) hand.next_is stand.spelled;
  all = ap (λ x. x ∷ vs) hand.value ∙ ap (λ xs. left.value ∷ xs) (stand.all ∙ ap (λ n. replicate n.more n.value ++ stand.behind) hand.next_is)
      ∙ sym (ap (λ more. replicate more left.value ++ stand.behind) hand.there);
}
run_before {V} Spells left v next vs (inr opens) stand =
    let bytes : next.bytes ≡ opens.rest = ap (λ n. n.bytes) opens.next_is in
    record {
      behind = v ∷ vs;
      spelled = record {
        runs = opens.run ∷ stand.spelled.runs;
        spelled = record { front = opens.front; back = opens.rest; is_front = opens.spelled; is_back = subst (λ b. AreSpelled Spells stand.spelled.runs b) bytes stand.spelled.spelled; joined = opens.joined };
        cut = sym (ap (λ x. x ∷ vs) opens.value
            ∙ ap (λ xs. opens.run.value ∷ xs) (stand.all ∙ ap (λ n. replicate n.more n.value ++ stand.behind) opens.next_is ∙ ap (λ b. replicate opens.run.more opens.run.value ++ b) (sym stand.spelled.cut)));
      };
      all = sym (ap (λ more. replicate more left.value ++ v ∷ vs) opens.none);
    }

-- ---- the end

-- where reading may end, nothing stands
pub runs_end : {V : Type 0} (Spells : List ℕ → Run V → Type 0) (left : RunsLeft V) → end_of_runs left ≡ Ok tt → RunsStand Spells left []
runs_end {V} Spells left ends = by_more left.more left.bytes refl refl ends
  where
    by_more : (more : ℕ) (bytes : List ℕ) → left.more ≡ more → left.bytes ≡ bytes → runs_done left more bytes ≡ Ok tt → RunsStand Spells left []
    by_more zero [] none empty e = record {
      behind = [];
      spelled = record { runs = []; spelled = empty; cut = refl };
      all = sym (ap (λ more. replicate more left.value ++ []) none);
    }
    by_more zero (b ∷ bytes) none some e = absurd cc
    by_more (suc more) bytes there some e = absurd cc

-- where nothing stands, reading may end
pub ends_runs : {V : Type 0} (Spells : List ℕ → Run V → Type 0) (left : RunsLeft V) → RunsStand Spells left [] → end_of_runs left ≡ Ok tt
ends_runs {V} Spells left stand = by_more left.more refl stand.all
  where
    by_runs : (runs : List (Run V)) → AreSpelled Spells runs left.bytes → values_of runs ≡ [] → left.bytes ≡ []
    by_runs [] spelled none = spelled
    by_runs (run ∷ runs) spelled none = absurd cc

    by_more : (more : ℕ) → left.more ≡ more → [] ≡ replicate more left.value ++ stand.behind → end_of_runs left ≡ Ok tt
    by_more zero none all =
        let empty = by_runs stand.spelled.runs stand.spelled.spelled (stand.spelled.cut ∙ sym all) in
        ap (λ more. runs_done left more left.bytes) none ∙ ap (λ bytes. runs_done left 0 bytes) empty
    by_more (suc more) there all = absurd cc
