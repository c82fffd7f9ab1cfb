-- What an update did, at the end of it; and what is put back where memory ended.
use Rattle.std.proofs.Common.{◌≡◌, ◌↔◌, ℕ, Bool, true, false, List, length, take, Option, Some, None, refl, sym, ap, ◌∙◌, subst, true≢false}
use Rattle.std.specs.Prelude.{filter, IsTrue}
use Rattle.std.specs.Bool.{OnFalse}
use Rattle.yd_ops.specs.declared.runs.Run.{Run}
use Rattle.yd_ops.specs.Operation.{Operation}
use Rattle.yd_received.specs.declared.brought.Brought.{Brought}
use Rattle.yd_received.specs.declared.brought.Brought.TheVariants.{Nothing, Added, Lowered}
use Rattle.yd_entries.specs.declared.entry.Entry.{Entry}
use Rattle.yd_entries.specs.Entries.{AreTaken, is_of_first, GrowBy}
use Rattle.yd_entries.specs.Lowering.{IsBacked}
use Rattle.yd_received.specs.Received.{ReceivedValue, brings, lowers, LowersOne, IsBrought}
use Rattle.yd_received.specs.Structs.{KeepsToLower, kept_of, IsBroughtBy}
use Rattle.yd_entries.specs.Taking.{AreUnchanged}
use Rattle.yd_received.proofs.RestoringLemmas.{first_back, front_back}

module _ (count : ℕ) (before : Option (List Entry)) (more : Bool) (old_runs runs : List Run) (old new : List Entry) (result : Brought) where
  pub end_brings : (P : Type 0) → IsTrue more ↔ P → IsBroughtBy count before more result → IsTrue (brings result) ↔ P
  end_brings P some brought = subst (λ (t : Bool). IsTrue t ↔ P) (sym (go before more result brought)) some
    where
      go : (before : Option (List Entry)) (more : Bool) (result : Brought) → IsBroughtBy count before more result → brings result ≡ more
      go None false result b = ap brings b
      go (Some kept) false result b = ap brings b
      go None true result b = ap brings b
      go (Some kept) true Nothing b = absurd b
      go (Some kept) true Added b = absurd b
      go (Some kept) true (Lowered entries) b = refl

  pub end_lowers : (os received : List Operation) → KeepsToLower None before os received → IsBroughtBy count before more result → IsTrue (lowers result) → LowersOne os received
  end_lowers os received kept brought lowered = go before more kept brought
    where
      not_lowered : (r : Brought) → lowers r ≡ false → result ≡ r → ⊥
      not_lowered r none e = true≢false (sym lowered ∙ ap lowers e ∙ none)

      go : (before : Option (List Entry)) (more : Bool) → KeepsToLower None before os received → IsBroughtBy count before more result → LowersOne os received
      go None false kept b = absurd (not_lowered Nothing refl b)
      go None true kept b = absurd (not_lowered Added refl b)
      go (Some aside) false kept b = kept
      go (Some aside) true kept b = kept

  pub end_brought : AreTaken old_runs old → count ≡ length old_runs → OnFalse more (AreUnchanged old_runs old runs new) → IsBacked (length old_runs) None old before new →
      IsBroughtBy count before more result → IsBrought result (record { runs = old_runs; entries = old }) (record { runs = runs; entries = new })
  end_brought are last unchanged backed brought = go before more result unchanged backed brought
    where
      one : {rs : List Run} {ts : List Entry} → rs ≡ old_runs → ts ≡ old → ◌≡◌ {A = ReceivedValue} (record { runs = rs; entries = ts }) (record { runs = old_runs; entries = old })
      one e f = λ i. record { runs = e i; entries = f i }

      by : (to from : Brought) → to ≡ from → IsBrought from (record { runs = old_runs; entries = old }) (record { runs = runs; entries = new }) →
          IsBrought to (record { runs = old_runs; entries = old }) (record { runs = runs; entries = new })
      by to from e = subst (λ r. IsBrought r (record { runs = old_runs; entries = old }) (record { runs = runs; entries = new })) (sym e)

      go : (before : Option (List Entry)) (more : Bool) (result : Brought) → OnFalse more (AreUnchanged old_runs old runs new) → IsBacked (length old_runs) None old before new →
          IsBroughtBy count before more result → IsBrought result (record { runs = old_runs; entries = old }) (record { runs = runs; entries = new })
      go None false result same backed b = by result Nothing b (one same.0 same.1)
      go (Some kept) false result same backed b = by result Nothing b (one same.0 same.1)
      go None true result same backed b = by result Added b backed
      go (Some kept) true Nothing same backed b = absurd b
      go (Some kept) true Added same backed b = absurd b
      go (Some kept) true (Lowered entries) same backed b = b ∙ first_back old_runs old kept count are last backed

-- where memory ended, the runs and entries are as they were
pub end_back : (count : ℕ) (before : Option (List Entry)) (old_runs runs : List Run) (old mid : List Entry) → AreTaken old_runs old → count ≡ length old_runs →
    GrowBy old_runs runs →
    IsBacked (length old_runs) None old before mid → (left : List Run) (rest : List Entry) → left ≡ take count runs → rest ≡ filter (is_of_first count) (kept_of before mid) →
    AreUnchanged old_runs old left rest
end_back count before old_runs runs old mid are last grows backed left rest e f = (
  e ∙ ap (λ n. take n runs) last ∙ front_back old_runs runs grows,
  f ∙ go before backed,
)
  where
    go : (before : Option (List Entry)) → IsBacked (length old_runs) None old before mid → filter (is_of_first count) (kept_of before mid) ≡ old
    go None adds = first_back old_runs old mid count are last adds.first
    go (Some kept) first = first_back old_runs old kept count are last first
