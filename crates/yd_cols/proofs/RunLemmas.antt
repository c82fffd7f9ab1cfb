-- Values that are put one behind the other are cut into runs that could not be longer.
use Rattle.std.proofs.Common.{◌≡◌, ◌≢◌, ◌⊎◌, ℕ, zero, suc, ◌<◌, ◌≤◌, Bool, true, false, List, [], ◌∷◌, ◌++◌, replicate, Some, refl, sym, ap, subst, ◌∙◌, inl, inr, append_assoc, arith}
use Rattle.std.proofs.lemmas.Bool.{both_ways, cases_Bool, cases_lt, le-ltb, lt-ltb}
use Rattle.std.specs.Bool.{Decides}
use Rattle.std.specs.List.{AllByRecursion}
use Rattle.yd_cols.specs.declared.run.Run.{Run}
use Rattle.yd_cols.specs.Law.{IsMaximal, bytes_of_runs}
use Rattle.yd_cols.specs.Run.{AreMaximal, values_of}
use Rattle.yd_cols.specs.Writing.{RunsWritten, hand_bytes, no_runs, one, put_all, put_behind, written}

-- a value is put behind what is written
abbrev pub put_run : {V : Type 0} → (Run V → List ℕ) → (V → V → Bool) → ℕ → V → RunsWritten V → RunsWritten V
put_run spell same most v runs = put_behind spell same most v runs.bytes runs.hand

-- the bytes in the end, where the last run may be spelled otherwise
abbrev pub column_of : {V : Type 0} → (Run V → List ℕ) → RunsWritten V → List ℕ
column_of spell_last runs = runs.bytes ++ hand_bytes spell_last runs.hand

-- from a run in hand on, the column has these runs
pub record FromHand {V : Type 0} (spell spell_last : Run V → List ℕ) (most : ℕ) (bytes column : List ℕ) (run : Run V) (values : List V) : Type 0 where
  pub first : Run V
  pub others : List (Run V)
  pub value : first.value ≡ run.value
  pub cut : values_of (first ∷ others) ≡ replicate (suc run.more) run.value ++ values
  pub maximal : AreMaximal most (first ∷ others)
  pub each : AllByRecursion (λ r. r.more < suc most) (first ∷ others)
  pub bytes_are : column ≡ bytes ++ bytes_of_runs spell spell_last (first ∷ others)

-- one more of a value stands behind those that are in hand
replicate-more : {V : Type 0} (n : ℕ) (v : V) (vs : List V) → replicate (suc n) v ++ vs ≡ replicate n v ++ v ∷ vs
replicate-more {V} zero v vs = refl
replicate-more {V} (suc n) v vs = ap (λ (l : List V). v ∷ l) (replicate-more n v vs)

module _ {V : Type 0} (spell spell_last : Run V → List ℕ) (same : V → V → Bool) (decides : (x y : V) → Decides (same x y) (x ≡ y)) (most : ℕ) where
  put_taken : (v : V) (bytes : List ℕ) (run : Run V) → same run.value v ≡ true → run.more < most
      → put_run spell same most v (written bytes (Some run)) ≡ written bytes (Some (record { value = run.value; more = suc run.more }))
  put_taken v bytes run is lt = rw (is, lt-ltb run.more most lt) refl

  put_other : (v : V) (bytes : List ℕ) (run : Run V) → same run.value v ≡ false
      → put_run spell same most v (written bytes (Some run)) ≡ written (bytes ++ spell run) (Some (one v))
  put_other v bytes run isnt = rw isnt refl

  put_full : (v : V) (bytes : List ℕ) (run : Run V) → same run.value v ≡ true → most ≤ run.more
      → put_run spell same most v (written bytes (Some run)) ≡ written (bytes ++ spell run) (Some (one v))
  put_full v bytes run is le = rw (is, le-ltb run.more most le) refl

  -- the last value is put
  at_end : (bytes : List ℕ) (run : Run V) → run.more < suc most → FromHand spell spell_last most bytes (bytes ++ spell_last run) run []
  at_end bytes run lt = record {
    first = run;
    others = [];
    value = refl;
    cut = refl;
    maximal = tt;
    each = (lt, tt);
    bytes_are = refl;
  }

  -- the run in hand took one value more
  after_taken : (v : V) (vs : List V) (bytes column : List ℕ) (run : Run V) → run.value ≡ v
      → FromHand spell spell_last most bytes column (record { value = run.value; more = suc run.more }) vs
      → FromHand spell spell_last most bytes column run (v ∷ vs)
  after_taken v vs bytes column run is from = record {
    first = from.first;
    others = from.others;
    value = from.value;
    cut = from.cut ∙ replicate-more (suc run.more) run.value vs ∙ ap (λ (u : V). replicate (suc run.more) run.value ++ u ∷ vs) is;
    maximal = from.maximal;
    each = from.each;
    bytes_are = from.bytes_are;
  }

  -- the run in hand was closed before the value
  after_closed : (v : V) (vs : List V) (bytes column : List ℕ) (run : Run V) → run.more < suc most → (run.value ≢ v) ⊎ (run.more ≡ most)
      → FromHand spell spell_last most (bytes ++ spell run) column (one v) vs
      → FromHand spell spell_last most bytes column run (v ∷ vs)
  after_closed v vs bytes column run lt ends from = record {
    first = run;
    others = from.first ∷ from.others;
    value = refl;
    cut = ap (λ (l : List V). replicate (suc run.more) run.value ++ l) from.cut;
    maximal = (rw from.value ends, from.maximal);
    each = (lt, from.each);
    bytes_are = from.bytes_are ∙ append_assoc bytes (spell run) (bytes_of_runs spell spell_last (from.first ∷ from.others));
  }

  -- the value leads to this state
  from_next : (v : V) (vs : List V) (bytes : List ℕ) (run : Run V) (next : RunsWritten V) → put_run spell same most v (written bytes (Some run)) ≡ next
      → FromHand spell spell_last most bytes (column_of spell_last (put_all (put_run spell same most) vs next)) run (v ∷ vs)
      → FromHand spell spell_last most bytes (column_of spell_last (put_all (put_run spell same most) (v ∷ vs) (written bytes (Some run)))) run (v ∷ vs)
  from_next v vs bytes run next leads from =
      subst (λ (w : RunsWritten V). FromHand spell spell_last most bytes (column_of spell_last (put_all (put_run spell same most) vs w)) run (v ∷ vs)) (sym leads) from

  from_hand : (values : List V) (bytes : List ℕ) (run : Run V) → run.more < suc most
      → FromHand spell spell_last most bytes (column_of spell_last (put_all (put_run spell same most) values (written bytes (Some run)))) run values
  from_hand [] bytes run lt = at_end bytes run lt
  from_hand (v ∷ vs) bytes run lt = elim (cases_Bool (same run.value v)) [
    | inr isnt ↦
        from_next v vs bytes run _ (put_other v bytes run isnt)
        (after_closed v vs bytes _ run lt (inl (λ is. both_ways (same run.value v) isnt ((decides run.value v).1 is))) (from_hand vs (bytes ++ spell run) (one v) (omega arith)))
    | inl is ↦ elim (cases_lt run.more most) [
      | inl less ↦
          from_next v vs bytes run _ (put_taken v bytes run is less)
          (after_taken v vs bytes _ run ((decides run.value v).0 is) (from_hand vs bytes (record { value = run.value; more = suc run.more }) (omega arith)))
      | inr le ↦
          from_next v vs bytes run _ (put_full v bytes run is le)
          (after_closed v vs bytes _ run lt (inr (omega arith)) (from_hand vs (bytes ++ spell run) (one v) (omega arith)))
    ]
  ]

  -- what is written of values is cut into maximal runs
  pub are_maximal : (values : List V) → IsMaximal spell spell_last most (column_of spell_last (put_all (put_run spell same most) values no_runs)) values
  are_maximal [] = record { runs = []; cut = refl; maximal = tt; each = tt; bytes_are = refl }
  are_maximal (v ∷ vs) =
      let from = from_hand vs [] (one v) (omega arith) in
      record { runs = from.first ∷ from.others; cut = from.cut; maximal = from.maximal; each = from.each; bytes_are = from.bytes_are }
