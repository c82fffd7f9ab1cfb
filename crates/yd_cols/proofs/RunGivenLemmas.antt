-- What reading gave so far of runs is what the bytes before the rest spell.
use Rattle.std.proofs.Common.{◌≡◌, ◌∙◌, ℕ, suc, ◌+◌, List, [], ◌∷◌, ◌++◌, length, replicate, refl, ap, sym, subst, inl, inr, arith, append_assoc, append-nil, length-append}
use Rattle.yd_cols.specs.Law.{IsBefore}
use Rattle.yd_cols.specs.Reading.{RunsLeft, runs_from}
use Rattle.yd_cols.specs.Run.{AreSpelled, SpellsRuns, values_of}
use Rattle.yd_cols.specs.Taking.{TakesRun}
use Rattle.yd_cols.specs.declared.run.Run.{Run}

-- ---- runs one behind the other

-- runs that are spelled, and behind them others, are spelled together
spelled-append : {V : Type 0} (Spells : List ℕ → Run V → Type 0) (runs others : List (Run V)) (front back : List ℕ) → AreSpelled Spells runs front → AreSpelled Spells others back → AreSpelled Spells (runs ++ others) (front ++ back)
spelled-append Spells [] others front back is_front is_back = subst (λ f. AreSpelled Spells others (f ++ back)) (sym is_front) is_back
spelled-append Spells (run ∷ runs) others front back is_front is_back = record {
  front = is_front.front;
  back = is_front.back ++ back;
  is_front = is_front.is_front;
  is_back = spelled-append Spells runs others is_front.back back is_front.is_back is_back;
  joined = ap (λ f. f ++ back) is_front.joined ∙ append_assoc is_front.front is_front.back back;
}

-- the values of runs, and of others behind them
values_of-append : {V : Type 0} (runs others : List (Run V)) → values_of (runs ++ others) ≡ values_of runs ++ values_of others
values_of-append [] others = refl
values_of-append (run ∷ runs) others = ap (λ vs. replicate (suc run.more) run.value ++ vs) (values_of-append runs others) ∙ sym (append_assoc (replicate (suc run.more) run.value) (values_of runs) (values_of others))

-- one more run is spelled behind others
pub spells-snoc : {V : Type 0} (Spells : List ℕ → Run V → Type 0) (front : List ℕ) (values : List V) (last : List ℕ) (run : Run V) → SpellsRuns Spells front values → Spells last run →
    SpellsRuns Spells (front ++ last) (values ++ replicate (suc run.more) run.value)
spells-snoc Spells front values last run spelled is_last = record {
  runs = spelled.runs ++ run ∷ [];
  spelled = spelled-append Spells spelled.runs (run ∷ []) front last spelled.spelled (record { front = last; back = []; is_front = is_last; is_back = refl; joined = sym (append-nil last) });
  cut = values_of-append spelled.runs (run ∷ []) ∙ ap (λ vs. vs ++ values_of (run ∷ [])) spelled.cut ∙ ap (λ vs. values ++ vs) (append-nil (replicate (suc run.more) run.value));
}

-- ---- lemmas for callers

-- before the first run
pub before_first : {V : Type 0} (Spells : List ℕ → Run V → Type 0) (none : V) (start : ℕ) (bytes : List ℕ) → IsBefore Spells start bytes [] (runs_from none start bytes)
before_first Spells none start bytes = record { front = []; joined = refl; place = omega arith; spelled = record { runs = []; spelled = refl; cut = refl } }

-- one value more was given
pub before_next : {V : Type 0} (Spells : List ℕ → Run V → Type 0) (start : ℕ) (bytes : List ℕ) (values : List V) (left : RunsLeft V) (v : V) (next : RunsLeft V) → IsBefore Spells start bytes values left → TakesRun Spells left v next →
    IsBefore Spells start bytes (values ++ v ∷ []) next
before_next {V} Spells start bytes values left v next before (inl hand) = record {
  front = before.front;
  joined = before.joined ∙ ap (λ b. before.front ++ b) (sym (ap (λ n. n.bytes) hand.next_is));
  place = ap (λ n. n.place) hand.next_is ∙ before.place;
  spelled = subst (λ vs. SpellsRuns Spells before.front vs) same before.spelled;
}
  where
    same : values ++ replicate left.more left.value ≡ (values ++ v ∷ []) ++ replicate next.more next.value
    same = ap (λ more. values ++ replicate more left.value) hand.there
        ∙ ap (λ x. values ++ x ∷ replicate hand.more left.value) (sym hand.value)
        ∙ ap (λ n. values ++ v ∷ replicate n.more n.value) (sym hand.next_is)
        ∙ sym (append_assoc values (v ∷ []) (replicate next.more next.value))
before_next {V} Spells start bytes values left v next before (inr opens) = record {
  front = before.front ++ opens.front;
  joined = before.joined ∙ ap (λ b. before.front ++ b) opens.joined ∙ sym (append_assoc before.front opens.front opens.rest) ∙ ap (λ n. (before.front ++ opens.front) ++ n.bytes) (sym opens.next_is);
  place =
      let ends : next.place ≡ left.place + length opens.front = ap (λ n. n.place) opens.next_is in
      let joined : length (before.front ++ opens.front) ≡ length before.front + length opens.front = length-append before.front opens.front in
      omega (arith, ends, before.place, joined);
  spelled = subst (λ vs. SpellsRuns Spells (before.front ++ opens.front) vs) same (spells-snoc Spells before.front values opens.front opens.run (subst (λ vs. SpellsRuns Spells before.front vs) none before.spelled) opens.spelled);
}
  where
    none : values ++ replicate left.more left.value ≡ values
    none = ap (λ more. values ++ replicate more left.value) opens.none ∙ append-nil values

    same : values ++ replicate (suc opens.run.more) opens.run.value ≡ (values ++ v ∷ []) ++ replicate next.more next.value
    same = ap (λ x. values ++ x ∷ replicate opens.run.more opens.run.value) (sym opens.value)
        ∙ ap (λ n. values ++ v ∷ replicate n.more n.value) (sym opens.next_is)
        ∙ sym (append_assoc values (v ∷ []) (replicate next.more next.value))
