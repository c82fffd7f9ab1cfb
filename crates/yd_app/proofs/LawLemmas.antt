-- Shows of the same changes are the same.
use Rattle.std.proofs.Common.{◌≡◌, ◌∙◌, ℕ, List, Option, Some, ap, subst, sym, inl, inr}
use Rattle.yd_words.specs.Each.{Each}
use Rattle.yd_ops.specs.Value.{UpdateValue}
use Rattle.yd_ops.specs.Valid.{IsValidUpdate}
use Rattle.yd_ops.specs.Received.{received_set}
use Rattle.yd_ops.proofs.AgreementLemmas.{received_one, received_merged}
use Rattle.yd_meaning.specs.Replica.{IsReplicaDocument}
use Rattle.yd_meaning.proofs.ReplicaLemmas.{documents_are_one}
use Rattle.yd_world.specs.Shelf.{Shelf}
use Rattle.yd_files.proofs.VerdictLemmas.{stand_one, stand_valid}
use Rattle.yd_files.specs.Files.{File}
use Rattle.yd_files.specs.Verdict.{Inputs, StandFor}
use Rattle.yd_asking.proofs.WordLemmas.{asks_same}
use Rattle.yd_app.specs.Law.{AreSameChanges, RunsConverge, Shows, ShowsConverge}
use Rattle.yd_asking.specs.Command.{Command, show}
use Rattle.yd_app.specs.Commands.Show.{shown_line}
use Rattle.yd_app.specs.Link.{Link}
use Rattle.yd_app.specs.Online.{IsOutputOver}
use Rattle.yd_app.specs.Output.{IsOutputOf}
use Rattle.yd_app.specs.Run.{Writes}
use Rattle.yd_asking.specs.Words.{Asks}
use Rattle.yd_ending.specs.Writing.{TakesAll}
use Rattle.yd_modes.specs.declared.mode.Mode.{Mode}

-- of the same changes the same is received
pub received_same : (one other : List UpdateValue) → Each IsValidUpdate one → Each IsValidUpdate other → AreSameChanges one other → received_set one ≡ received_set other
received_same one other valid other_valid (inl contents) = received_one one other valid other_valid contents.alike contents.same
received_same one other valid other_valid (inr merged) = received_merged one other valid other_valid merged.agree merged.others_agree merged.same

-- what a run wrote of a command that makes nothing over the network
pub written_alone : (command : Command) (inputs : Inputs) (words : List (List ℕ)) (shelf : Shelf) (link : Link) (taken now : Option (List ℕ)) (files : List File) → Asks words command files → StandFor (Some shelf) files inputs
    → ((bytes : List ℕ) → ¬ (IsOutputOver link command inputs bytes)) → Writes words (Some shelf) link taken now → (bytes : List ℕ) × IsOutputOf command inputs bytes × TakesAll taken now bytes
written_alone command inputs words shelf link taken now files asks stand none (inl w) =
    let same = asks_same words w.command command w.files files w.asks asks in
    let read : StandFor (Some shelf) files w.holds.0 = subst (λ (fs : List File). StandFor (Some shelf) fs w.holds.0) same.1 w.holds.1 in
    let one : w.holds.0 ≡ inputs = stand_one shelf files w.holds.0 inputs read stand in
    (w.holds.2, subst (λ (i : Inputs). IsOutputOf command i w.holds.2) one (subst (λ (c : Command). IsOutputOf c w.holds.0 w.holds.2) same.0 w.holds.3.is_output), w.holds.4)
written_alone command inputs words shelf link taken now files asks stand none (inr w) =
    let same = asks_same words w.command command w.files files w.asks asks in
    let read : StandFor (Some shelf) files w.holds.0 = subst (λ (fs : List File). StandFor (Some shelf) fs w.holds.0) same.1 w.holds.1 in
    let one : w.holds.0 ≡ inputs = stand_one shelf files w.holds.0 inputs read stand in
    absurd (none w.holds.2.0 (subst (λ (i : Inputs). IsOutputOver link command i w.holds.2.0) one (subst (λ (c : Command). IsOutputOver link c w.holds.0 w.holds.2.0) same.0 w.holds.2.1)))

-- files of the same changes show the same
pub shows_same : ShowsConverge
shows_same shelf other files others one another mode root read also contents honest =
    λ bytes others_bytes a b.
    let same = received_same one.updates another.updates (stand_valid shelf files one read) (stand_valid other others another also) contents in
    a.line_is
    ∙ ap (shown_line mode root) (documents_are_one (received_set one.updates) honest a.document b.document a.is_document (subst (IsReplicaDocument b.document) (sym same) b.is_document))
    ∙ sym b.line_is

-- what a run that shows a root has written
written_of : (mode : Mode) (root : List ℕ) (inputs : Inputs) (words : List (List ℕ)) (shelf : Shelf) (link : Link) (taken now : Option (List ℕ)) → Shows mode root inputs words shelf link taken now →
    (bytes : List ℕ) × IsOutputOf (show mode root) inputs bytes × TakesAll taken now bytes
written_of mode root inputs words shelf link taken now shows = written_alone (show mode root) inputs words shelf link taken now shows.files shows.asks shows.stand (λ bytes over. over) shows.writes

-- two runs that show a root of the same changes have written the same
pub runs_same : RunsConverge
runs_same mode root one another words others shelf other link another_link taken now took took_now a b contents honest =
    let x = written_of mode root one words shelf link taken now a in
    let y = written_of mode root another others other another_link took took_now b in
    let alike : x.0 ≡ y.0 = shows_same shelf other a.files b.files one another mode root a.stand b.stand contents honest x.0 y.0 x.1 y.1 in
    (x.0, x.2, subst (λ (l : List ℕ). TakesAll took took_now l) (sym alike) y.2)
