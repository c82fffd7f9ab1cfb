-- Merges of the same changes are the same, and `convert` of a merge is the merge.
use Rattle.std.proofs.Common.{◌≡◌, ◌∙◌, ℕ, List, [], ◌∷◌, Option, Some, ap, subst, sym, refl}
use Rattle.yd_num.proofs.ReadingLemmas.{ok_value}
use Rattle.yd_grouping.specs.Merged.{merge_of, received_grouped}
use Rattle.yd_ops.specs.Value.{UpdateValue}
use Rattle.yd_parts.specs.Fault.{Fault}
use Rattle.yd_world.specs.Shelf.{Shelf}
use Rattle.yd_files.proofs.KindLemmas.{read_exactly}
use Rattle.yd_files.proofs.VerdictLemmas.{stand_valid}
use Rattle.yd_files.specs.Files.{File}
use Rattle.yd_files.specs.Verdict.{AreRead, Content, Inputs, StandFor, StandsIn, one_update, updates_in}
use Rattle.yd_files.specs.declared.kind.Kind.{Kind}
use Rattle.yd_app.proofs.LawLemmas.{received_same, written_alone}
use Rattle.yd_asking.specs.Command.{Command, convert, merge, vector}
use Rattle.yd_app.specs.Commands.Convert.{StandsAgain, converted_bytes, converted_output}
use Rattle.yd_app.specs.Commands.Vector.{vector_bytes}
use Rattle.yd_grouping.specs.Reach.{reach_of}
use Rattle.yd_app.specs.Law.{FitsIn, MergeRunsConverge, MergesAreConverted, MergesConverge, Runs, WritesOfMerge, file_in, kind_of}
use Rattle.yd_app.specs.Link.{Link}
use Rattle.yd_app.specs.Online.{IsOutputOver}
use Rattle.yd_app.specs.Output.{IsOutputOf}
use Rattle.yd_ending.specs.Writing.{TakesAll}
use Rattle.yd_asking.specs.declared.format.Format.{Format}
use Rattle.yd_asking.specs.declared.format.Format.TheVariants.{V1, V2}

-- ---- the same changes

-- updates that merge to one have one output
output_same : (command : Command) (one another : Inputs) (bytes others_bytes : List ℕ) → WritesOfMerge command → merge_of one.updates ≡ merge_of another.updates → IsOutputOf command one bytes → IsOutputOf command another others_bytes → bytes ≡ others_bytes
output_same (merge form) one another bytes others_bytes of same a b = a ∙ ap (converted_bytes form) same ∙ sym b
output_same vector one another bytes others_bytes of same a b = a ∙ ap (λ (u : UpdateValue). vector_bytes (reach_of u)) same ∙ sym b
output_same command one another bytes others_bytes of same a b = absurd of

-- files of the same changes have the same merge
pub merges_same : MergesConverge
merges_same command shelf other files others one another of read also contents =
    λ bytes others_bytes a b.
    output_same command one another bytes others_bytes of (ap received_grouped (received_same one.updates another.updates (stand_valid shelf files one read) (stand_valid other others another also) contents)) a b

-- what a run of a command that makes nothing over the network has written
pub written_of : (command : Command) (inputs : Inputs) (words : List (List ℕ)) (shelf : Shelf) (link : Link) (taken now : Option (List ℕ)) → ((bytes : List ℕ) → ¬ (IsOutputOver link command inputs bytes)) → Runs command inputs words shelf link taken now
    → (bytes : List ℕ) × IsOutputOf command inputs bytes × TakesAll taken now bytes
written_of command inputs words shelf link taken now none runs = written_alone command inputs words shelf link taken now runs.files runs.asks runs.stand none runs.writes

-- a merge makes nothing over the network
merges_alone : (command : Command) (inputs : Inputs) (link : Link) → WritesOfMerge command → (bytes : List ℕ) → ¬ (IsOutputOver link command inputs bytes)
merges_alone (merge form) inputs link of bytes over = over
merges_alone vector inputs link of bytes over = over
merges_alone command inputs link of bytes over = of

-- two runs over the same changes have written the same
pub merge_runs_same : MergeRunsConverge
merge_runs_same command one another words others shelf other link another_link taken now took took_now of a b contents =
    let x = written_of command one words shelf link taken now (merges_alone command one link of) a in
    let y = written_of command another others other another_link took took_now (merges_alone command another another_link of) b in
    let alike : x.0 ≡ y.0 = merges_same command shelf other a.files b.files one another of a.stand b.stand contents x.0 y.0 x.1 y.1 in
    (x.0, x.2, subst (λ (l : List ℕ). TakesAll took took_now l) (sym alike) y.2)

-- ---- a merge in the other format

-- bytes stand for one content
stands_one : (kind : Kind) (bytes : List ℕ) (content other : Content) → StandsIn kind bytes content → StandsIn kind bytes other → content ≡ other
stands_one kind bytes content other a b = ok_value {E = Fault} content other (sym (((read_exactly kind).values bytes content).1 a) ∙ ((read_exactly kind).values bytes other).1 b)

-- what is written in a format stands there for the update, where it fits in
stands_in : (form : Format) (bytes : List ℕ) (u : UpdateValue) → StandsAgain form bytes u → FitsIn form u → StandsIn (kind_of form) bytes (one_update u)
stands_in V1 bytes u again fits = (u, refl, again)
stands_in V2 bytes u again fits = (u, refl, again fits)

-- a file in the format is read as the update for which its bytes stand
read_as : (shelf : Shelf) (form : Format) (name bytes : List ℕ) (u : UpdateValue) (contents : List Content) → shelf.bytes_under name ≡ Some bytes → StandsIn (kind_of form) bytes (one_update u) → AreRead (Some shelf) (file_in form name ∷ []) contents → updates_in contents ≡ u ∷ []
read_as shelf form name bytes u [] here stands read = absurd read
read_as shelf form name bytes u (content ∷ more ∷ contents) here stands read = absurd read.1
read_as shelf form name bytes u (content ∷ []) here stands read =
    let there = read.0 in
    let same : there.0 ≡ bytes = let is : Some there.0 ≡ Some bytes = sym there.1 ∙ here in cc in
    let stood : StandsIn (kind_of form) bytes content = subst (λ (bs : List ℕ). StandsIn (kind_of form) bs content) same there.2.1 in
    ap (λ (c : Content). updates_in (c ∷ [])) (stands_one (kind_of form) bytes content (one_update u) stood stands)

-- `convert` of a merge is the merge
pub merges_converted : MergesAreConverted
merges_converted shelf other files name form to inputs others bytes written read made fits here stand converts =
    let merged = merge_of inputs.updates in
    let is : bytes ≡ converted_bytes form merged = made.is_output in
    let stands : StandsIn (kind_of form) bytes (one_update merged) = stands_in form bytes merged (subst (λ (bs : List ℕ). StandsAgain form bs merged) (sym is) made.again) fits in
    let one : others.updates ≡ merged ∷ [] = ap (λ (i : Inputs). i.updates) stand.inputs_are ∙ read_as other form name bytes merged stand.contents here stands stand.are_read in
    converts ∙ ap (converted_output to) one
