-- Checks of the same changes, which agree, are the same.
use Rattle.std.proofs.Common.{◌≡◌, ◌⊎◌, ◌∙◌, ℕ, List, ap, subst, sym, inl, inr}
use Rattle.yd_checking.proofs.ConvergeLemmas.{findings_alike, found_alike}
use Rattle.yd_checking.specs.Findings.{IsFound, findings_in, findings_of}
use Rattle.yd_checking.specs.declared.checking.Findings.{Findings}
use Rattle.yd_meaning.proofs.ReplicaLemmas.{documents_are_one}
use Rattle.yd_meaning.specs.Document.{Document}
use Rattle.yd_meaning.specs.Held.{held_set}
use Rattle.yd_meaning.specs.Order.{AreHonest}
use Rattle.yd_ops.specs.Value.{UpdateValue}
use Rattle.yd_ops.specs.Agreement.{HaveSameContents, SayTheSame}
use Rattle.yd_ops.specs.Received.{Received, received_set}
use Rattle.yd_files.proofs.VerdictLemmas.{stand_valid}
use Rattle.yd_app.proofs.LawLemmas.{received_same}
use Rattle.yd_app.proofs.MergeLemmas.{written_of}
use Rattle.yd_asking.specs.Command.{check}
use Rattle.yd_app.specs.Commands.Check.{findings_text}
use Rattle.yd_app.specs.Law.{AreSameChanges, CheckRunsConverge, ChecksConverge}
use Rattle.yd_app.specs.Output.{BringHonest}
use Rattle.yd_ending.specs.Writing.{TakesAll}

-- the same changes have the same contents, or say the same
changes_are : (one other : List UpdateValue) → AreSameChanges one other → HaveSameContents one other ⊎ SayTheSame one other
changes_are one other (inl contents) = inl contents.same
changes_are one other (inr said) = inr said.same

-- where the edit rules are kept, one thing is found
pub found_one : (us : List UpdateValue) (found also : Findings) → BringHonest us → IsFound found us → IsFound also us → found ≡ also
found_one us found also honest a b = a.told
    ∙ ap (λ (document : Document). findings_in document us) (documents_are_one (received_set us) honest a.document b.document a.replica b.replica) ∙ sym b.told

-- and it is as what is received defines it
found_is : (us : List UpdateValue) (found : Findings) → BringHonest us → IsFound found us → found ≡ findings_of us
found_is us found honest a = a.told ∙ ap (λ (document : Document). findings_in document us) (a.replica.defined honest)

-- files of the same changes are told alike
pub checks_same : ChecksConverge
checks_same = record {
  alike = λ shelf other files others one another read also agree other_agree changes bytes others_bytes a b.
      findings_alike.agreeing one.updates another.updates (stand_valid shelf files one read) (stand_valid other others another also) agree other_agree
      (changes_are one.updates another.updates changes) a.found b.found a.is_found b.is_found;
  same = λ shelf other files others one another read also agree other_agree changes honest bytes others_bytes a b.
      let valid = stand_valid shelf files one read in
      let other_valid = stand_valid other others another also in
      let others_honest = subst (λ (r : Received). AreHonest (held_set r.operations)) (received_same one.updates another.updates valid other_valid changes) honest in
      a.bytes_are
      ∙ ap (λ (found : Findings). findings_text found) (found_is one.updates a.found honest a.is_found
      ∙ found_alike one.updates another.updates valid other_valid agree other_agree (changes_are one.updates another.updates changes)
      ∙ sym (found_is another.updates b.found others_honest b.is_found))
      ∙ sym b.bytes_are;
}

-- two runs over the same changes have written the same
pub check_runs_same : CheckRunsConverge
check_runs_same one another words others shelf other link another_link taken now took took_now a b agree other_agree changes honest =
    let x = written_of check one words shelf link taken now (λ bytes over. over) a in
    let y = written_of check another others other another_link took took_now (λ bytes over. over) b in
    let alike : x.0 ≡ y.0 = checks_same.same shelf other a.files b.files one another a.stand b.stand agree other_agree changes honest x.0 y.0 x.1 y.1 in
    (x.0, x.2, subst (λ (l : List ℕ). TakesAll took took_now l) (sym alike) y.2)
