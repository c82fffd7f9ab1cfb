-- What is due: one thing, and there always is one.
use Rattle.std.proofs.Common.{◌≡◌, ◌⊎◌, ◌∙◌, ℕ, true, List, Option, Some, None, inl, inr, refl, sym, subst, ap, ap₂}
use Rattle.yd_checking.proofs.ConvergeLemmas.{defined_found}
use Rattle.yd_checking.specs.Findings.{findings_of}
use Rattle.yd_checking.specs.declared.checking.Findings.{Findings}
use Rattle.yd_meaning.proofs.ReplicaLemmas.{defined_is, documents_are_one}
use Rattle.yd_meaning.specs.Document.{document_of}
use Rattle.yd_playing.proofs.EndLemmas.{lines_end}
use Rattle.yd_causes.specs.declared.cause.LineCause.{LineCause}
use Rattle.yd_ops.proofs.AgreementLemmas.{received_written}
use Rattle.yd_ops.specs.Received.{received_set}
use Rattle.yd_world.specs.Shelf.{Shelf}
use Rattle.yd_ending.specs.Lines.{refused_line}
use Rattle.yd_ending.specs.Script.{refused_script_line}
use Rattle.yd_files.proofs.VerdictLemmas.{files_judged, stand_apart, stand_one, stops_one}
use Rattle.yd_files.specs.Files.{File}
use Rattle.yd_files.specs.Verdict.{Inputs, IsTold, StandFor, StopsAt, Verdict, accepted, missing, refused, too_large}
use Rattle.yd_app.proofs.CheckLemmas.{found_one}
use Rattle.yd_app.proofs.GenerateLemmas.{generated_one, generated_some}
use Rattle.yd_generator.specs.Generated.{ended}
use Rattle.yd_app.specs.Commands.Generate.{generated_line}
use Rattle.yd_asking.proofs.WordLemmas.{asked_or_not, asks_same}
use Rattle.yd_asking.specs.Command.{Command, HasRange, IsOnline, check, convert, cut, edit, generate, merge, pack, serve, show, sync, vector}
use Rattle.yd_app.specs.Commands.Check.{findings_text}
use Rattle.yd_app.specs.Commands.Convert.{converted_output}
use Rattle.yd_app.specs.Commands.Cut.{cut_output}
use Rattle.yd_app.specs.Commands.Edit.{lines_of_first}
use Rattle.yd_app.specs.Commands.Merge.{merged_output}
use Rattle.yd_app.specs.Commands.Show.{shown_line}
use Rattle.yd_app.specs.Commands.Vector.{vector_output}
use Rattle.yd_app.specs.Due.{AreKept, Due, IsDue, IsDueIn, IsDueOver, Refuses, lacking, no_step_2, output, over_limit, refusal, usage}
use Rattle.yd_app.specs.Law.{OneIsDue}
use Rattle.yd_app.specs.Link.{Link}
use Rattle.yd_app.specs.Online.{GoesOnline, IsOutputOver, IsRefusalOver, OfInputs, WantsStep2}
use Rattle.yd_app.specs.Output.{IsOutputOf, IsRefusalOf, KeepsRules}
use Rattle.yd_asking.specs.Words.{AreOfNoForm, Asks, AsksFor}
use Rattle.yd_asking.specs.declared.format.Format.TheVariants.{V1}
use Rattle.yd_v1.specs.LogWriting.{log_bytes}

-- what holds of what is asked for holds of each thing that is asked for
pub asked : (words : List (List ℕ)) (Holds : Command → List File → Type 0) (command : Command) (files : List File) → AsksFor words Holds → Asks words command files → Holds command files
asked words Holds command files w asks =
    let same = asks_same words w.command command w.files files w.asks asks in
    subst (λ (fs : List File). Holds command fs) same.1 (subst (λ (c : Command). Holds c w.files) same.0 w.holds)

-- and so does what follows from it
pub weaker : (words : List (List ℕ)) (P Q : Command → List File → Type 0) → ((command : Command) (files : List File) → P command files → Q command files) → AsksFor words P → AsksFor words Q
weaker words P Q less w = record { command = w.command; files = w.files; asks = w.asks; holds = less w.command w.files w.holds }

-- what a file that is not accepted makes due
abbrev due_of : File → Verdict → Due
due_of file (accepted content) = usage
due_of file (refused fault) = refusal (refused_line file fault)
due_of file too_large = over_limit file.name
due_of file missing = lacking file.name

-- ---- what a command makes of its inputs

-- where the edit rules are kept it writes one output
output_one : (command : Command) (inputs : Inputs) (bytes other : List ℕ) → KeepsRules command inputs → IsOutputOf command inputs bytes → IsOutputOf command inputs other → bytes ≡ other
output_one (show mode root) inputs bytes other kept a b = a.line_is
    ∙ ap (shown_line mode root) (documents_are_one (received_set inputs.updates) kept a.document b.document a.is_document b.is_document) ∙ sym b.line_is
output_one (edit client name) inputs bytes other kept a b = a.bytes_are
    ∙ ap (merged_output V1) (lines_end.one_row client (received_set inputs.updates) (lines_of_first inputs.scripts) kept a.made b.made a.are_made b.are_made) ∙ sym b.bytes_are
output_one check inputs bytes other kept a b = a.bytes_are
    ∙ ap (λ (found : Findings). findings_text found) (found_one inputs.updates a.found b.found kept a.is_found b.is_found) ∙ sym b.bytes_are
output_one (serve address turns) inputs bytes other kept a b = absurd a
output_one (sync address turns) inputs bytes other kept a b = absurd a
output_one (generate steps) inputs bytes other kept a b = generated_one steps bytes other a b
output_one command inputs bytes other kept a b = a ∙ sym b

-- or it refuses them with one line
refusal_one : (command : Command) (inputs : Inputs) (line other : List ℕ) → KeepsRules command inputs → IsRefusalOf command inputs line → IsRefusalOf command inputs other → line ≡ other
refusal_one (edit client name) inputs line other kept a b =
    let same = lines_end.one_stop client (received_set inputs.updates) (lines_of_first inputs.scripts) kept a.0 b.0 a.1 b.1 a.2 b.2 in
    a.3 ∙ ap₂ (λ number (cause : LineCause). refused_script_line name number cause) same.0 same.1 ∙ sym b.3
refusal_one command inputs line other kept a b = absurd a

-- and not both
output_apart : (command : Command) (inputs : Inputs) (bytes line : List ℕ) → KeepsRules command inputs → IsOutputOf command inputs bytes → IsRefusalOf command inputs line → ⊥
output_apart (edit client name) inputs bytes line kept a b =
    lines_end.apart client (received_set inputs.updates) (lines_of_first inputs.scripts) kept a.made b.0 b.1 a.are_made b.2
output_apart command inputs bytes line kept a b = b

-- one of the two comes, or it uses the network
output_or_refusal : (command : Command) (inputs : Inputs) → HasRange command → ((bytes : List ℕ) × IsOutputOf command inputs bytes) ⊎ ((line : List ℕ) × IsRefusalOf command inputs line) ⊎ IsOnline command
output_or_refusal (edit client name) inputs range = elim (lines_end.some client (received_set inputs.updates) (lines_of_first inputs.scripts) (received_written inputs.updates)) [
  | inl played ↦ inl (merged_output V1 played.0, record { made = played.0; are_made = played.1; bytes_are = refl })
  | inr stops ↦ inr (inl (refused_script_line name stops.0 stops.1, (stops.0, stops.1, stops.2, refl)))
]
output_or_refusal (show mode root) inputs range =
    let document = document_of (received_set inputs.updates) in
    inl (shown_line mode root document, record { document = document; is_document = defined_is (received_set inputs.updates) (received_written inputs.updates); line_is = refl })
output_or_refusal (convert form) inputs range = inl (converted_output form inputs.updates, refl)
output_or_refusal pack inputs range = inl (log_bytes inputs.updates, refl)
output_or_refusal (merge form) inputs range = inl (merged_output form inputs.updates, refl)
output_or_refusal vector inputs range = inl (vector_output inputs.updates, refl)
output_or_refusal (cut name) inputs range = inl (cut_output inputs.kinds inputs.vectors inputs.updates, refl)
output_or_refusal check inputs range =
    inl (findings_text (findings_of inputs.updates), record { found = findings_of inputs.updates; is_found = defined_found inputs.updates (findings_of inputs.updates) refl; bytes_are = refl })
output_or_refusal (serve address turns) inputs range = inr (inr tt)
output_or_refusal (sync address turns) inputs range = inr (inr tt)
output_or_refusal (generate steps) inputs range = inl (generated_line (ended steps) true, generated_some steps range)

-- one that uses the network makes and refuses nothing of its inputs alone
online_apart : (command : Command) (inputs : Inputs) → IsOnline command → ((bytes : List ℕ) × IsOutputOf command inputs bytes) ⊎ ((line : List ℕ) × IsRefusalOf command inputs line) → ⊥
online_apart (serve address turns) inputs online (inl made) = made.1
online_apart (serve address turns) inputs online (inr told) = told.1
online_apart (sync address turns) inputs online (inl made) = made.1
online_apart (sync address turns) inputs online (inr told) = told.1
online_apart command inputs online some = absurd online

-- ---- what is due

-- all files are accepted, and the output is due; or one is the first that is not, and what it is; or the command refuses them all
abbrev Answers : Option Shelf → Due → Command → List File → Type 0
Answers told due command files =
    ((inputs : Inputs) × StandFor told files inputs × (bytes : List ℕ) × IsOutputOf command inputs bytes × (due ≡ output bytes))
    ⊎ ((file : File) × (verdict : Verdict) × StopsAt told files file verdict × (due ≡ due_of file verdict))
    ⊎ ((inputs : Inputs) × StandFor told files inputs × (line : List ℕ) × IsRefusalOf command inputs line × (due ≡ refusal line))

-- the words are of no form, or ask for one of these
abbrev Judged : List (List ℕ) → Option Shelf → Due → Type 0
Judged words told due = (AreOfNoForm words × (due ≡ usage)) ⊎ AsksFor words (Answers told due)

-- a refusal of a file, or of a command
refusal_answers : (told : Option Shelf) (line : List ℕ) (command : Command) (files : List File) → Refuses told command files line → Answers told (refusal line) command files
refusal_answers told line command files (inl r) = inr (inl (r.0, refused r.1, r.2, ap refusal r.3))
refusal_answers told line command files (inr r) = inr (inr (r.0, r.1, line, r.2, refl))

-- what is due is one of these
judged : (words : List (List ℕ)) (told : Option Shelf) (due : Due) → IsDue words told due → Judged words told due
judged words told usage d = inl (d, refl)
judged words told (refusal line) d = inr (record { command = d.command; files = d.files; asks = d.asks; holds = refusal_answers told line d.command d.files d.holds })
judged words told (over_limit name) d = inr (record { command = d.command; files = d.files; asks = d.asks; holds = inr (inl (d.holds.0, too_large, d.holds.1, ap over_limit d.holds.2)) })
judged words told (lacking name) d = inr (record { command = d.command; files = d.files; asks = d.asks; holds = inr (inl (d.holds.0, missing, d.holds.1, ap lacking d.holds.2)) })
judged words told no_step_2 d = absurd d
judged words told (output bytes) d = inr (record { command = d.command; files = d.files; asks = d.asks; holds = inl (d.holds.0, d.holds.1, bytes, d.holds.2, refl) })

-- of files one thing is due, where the edit rules are kept
answers_one : (shelf : Shelf) (command : Command) (files : List File) (due other : Due) → ((inputs : Inputs) → StandFor (Some shelf) files inputs → KeepsRules command inputs) →
    Answers (Some shelf) due command files → Answers (Some shelf) other command files → due ≡ other
answers_one shelf command files due other kept (inl a) (inl b) =
    let same = stand_one shelf files a.0 b.0 a.1 b.1 in
    a.4 ∙ ap output (output_one command b.0 a.2 b.2 (kept b.0 b.1) (subst (λ (inputs : Inputs). IsOutputOf command inputs a.2) same a.3) b.3) ∙ sym b.4
answers_one shelf command files due other kept (inl a) (inr (inl b)) = absurd (stand_apart shelf files a.0 b.0 b.1 a.1 b.2)
answers_one shelf command files due other kept (inl a) (inr (inr b)) =
    absurd (output_apart command b.0 a.2 b.2 (kept b.0 b.1) (subst (λ (inputs : Inputs). IsOutputOf command inputs a.2) (stand_one shelf files a.0 b.0 a.1 b.1) a.3) b.3)
answers_one shelf command files due other kept (inr (inl a)) (inl b) = absurd (stand_apart shelf files b.0 a.0 a.1 b.1 a.2)
answers_one shelf command files due other kept (inr (inl a)) (inr (inl b)) =
    let same = stops_one shelf files a.0 b.0 a.1 b.1 a.2 b.2 in
    a.3 ∙ ap (λ (f : File). due_of f a.1) same.0 ∙ ap (due_of b.0) same.1 ∙ sym b.3
answers_one shelf command files due other kept (inr (inl a)) (inr (inr b)) = absurd (stand_apart shelf files b.0 a.0 a.1 b.1 a.2)
answers_one shelf command files due other kept (inr (inr a)) (inl b) =
    absurd (output_apart command a.0 b.2 a.2 (kept a.0 a.1) (subst (λ (inputs : Inputs). IsOutputOf command inputs b.2) (stand_one shelf files b.0 a.0 b.1 a.1) b.3) a.3)
answers_one shelf command files due other kept (inr (inr a)) (inr (inl b)) = absurd (stand_apart shelf files a.0 b.0 b.1 a.1 b.2)
answers_one shelf command files due other kept (inr (inr a)) (inr (inr b)) =
    let same = stand_one shelf files a.0 b.0 a.1 b.1 in
    a.4 ∙ ap refusal (refusal_one command b.0 a.2 b.2 (kept b.0 b.1) (subst (λ (inputs : Inputs). IsRefusalOf command inputs a.2) same a.3) b.3) ∙ sym b.4

judged_one : (words : List (List ℕ)) (shelf : Shelf) (due other : Due) → AreKept words (Some shelf) → Judged words (Some shelf) due → Judged words (Some shelf) other → due ≡ other
judged_one words shelf due other kept (inl a) (inl b) = a.1 ∙ sym b.1
judged_one words shelf due other kept (inl a) (inr b) = absurd (a.0 b.command b.files b.asks)
judged_one words shelf due other kept (inr a) (inl b) = absurd (b.0 a.command a.files a.asks)
judged_one words shelf due other kept (inr a) (inr b) =
    answers_one shelf b.command b.files due other (λ inputs stand. kept b.command b.files inputs b.asks stand) (asked words (Answers (Some shelf) due) b.command b.files a b.asks) b.holds

-- of files of a command that uses the network nothing is due
answers_offline : (shelf : Shelf) (command : Command) (files : List File) (inputs : Inputs) (due : Due) → StandFor (Some shelf) files inputs → IsOnline command → Answers (Some shelf) due command files → ⊥
answers_offline shelf command files inputs due stand online (inl a) = online_apart command a.0 online (inl (a.2, a.3))
answers_offline shelf command files inputs due stand online (inr (inl a)) = stand_apart shelf files inputs a.0 a.1 stand a.2
answers_offline shelf command files inputs due stand online (inr (inr a)) = online_apart command a.0 online (inr (a.2, a.3))

judged_offline : (words : List (List ℕ)) (shelf : Shelf) (due : Due) → Judged words (Some shelf) due → GoesOnline words (Some shelf) → ⊥
judged_offline words shelf due (inl a) goes = a.0 goes.command goes.files goes.asks
judged_offline words shelf due (inr a) goes =
    answers_offline shelf goes.command goes.files goes.holds.0 due goes.holds.1 goes.holds.2 (asked words (Answers (Some shelf) due) goes.command goes.files a goes.asks)

-- ---- lemmas for callers

-- what is due is one thing, where the edit rules are kept
pub due_one : (words : List (List ℕ)) (told : Option Shelf) (due other : Due) → IsTold told → AreKept words told → IsDue words told due → IsDue words told other → due ≡ other
due_one words None due other is_told kept a b = absurd is_told
due_one words (Some shelf) due other is_told kept a b = judged_one words shelf due other kept (judged words (Some shelf) due a) (judged words (Some shelf) other b)

-- and then the words do not ask for the network
pub due_offline : (words : List (List ℕ)) (told : Option Shelf) (due : Due) → IsTold told → IsDue words told due → GoesOnline words told → ⊥
due_offline words None due is_told a goes = is_told
due_offline words (Some shelf) due is_told a goes = judged_offline words shelf due (judged words (Some shelf) due a) goes

-- what is made, refused or wanted over the network is so of a command that uses it
pub output_online : (link : Link) (command : Command) (inputs : Inputs) (bytes : List ℕ) → IsOutputOver link command inputs bytes → IsOnline command
output_online link (serve address turns) inputs bytes is = tt
output_online link (sync address turns) inputs bytes is = tt
output_online link command inputs bytes is = absurd is

refusal_online : (link : Link) (command : Command) (inputs : Inputs) (line : List ℕ) → IsRefusalOver link command inputs line → IsOnline command
refusal_online link (sync address turns) inputs line is = tt
refusal_online link command inputs line is = absurd is

wants_online : (link : Link) (command : Command) (inputs : Inputs) → WantsStep2 link command inputs → IsOnline command
wants_online link (sync address turns) inputs is = tt
wants_online link command inputs is = absurd is

-- so the words ask for the network
pub goes_online : (words : List (List ℕ)) (told : Option Shelf) (Holds : Command → Inputs → Type 0) → ((command : Command) (inputs : Inputs) → Holds command inputs → IsOnline command)
    → AsksFor words (λ command files. OfInputs told files (Holds command)) → GoesOnline words told
goes_online words told Holds online w = record { command = w.command; files = w.files; asks = w.asks; holds = (w.holds.0, w.holds.1, online w.command w.holds.0 w.holds.2) }

pub over_online : (words : List (List ℕ)) (told : Option Shelf) (link : Link) (due : Due) → IsDueOver words told link due → GoesOnline words told
over_online words told link usage d = absurd d
over_online words told link (refusal line) d = goes_online words told (λ command inputs. IsRefusalOver link command inputs line) (λ command inputs is. refusal_online link command inputs line is) d
over_online words told link (over_limit name) d = absurd d
over_online words told link (lacking name) d = absurd d
over_online words told link no_step_2 d = goes_online words told (WantsStep2 link) (wants_online link) d
over_online words told link (output bytes) d = goes_online words told (λ command inputs. IsOutputOver link command inputs bytes) (λ command inputs is. output_online link command inputs bytes is) d

-- what is due in the one way or the other is due by the files, where something is
pub due_in_alone : (words : List (List ℕ)) (told : Option Shelf) (link : Link) (due other : Due) → IsTold told → IsDue words told due → IsDueIn words told link other → IsDue words told other
due_in_alone words told link due other is_told a (inl b) = b
due_in_alone words told link due other is_told a (inr b) = absurd (due_offline words told due is_told a (over_online words told link other b))

-- there is something that is due, or the words ask for the network
due_some : (words : List (List ℕ)) (shelf : Shelf) → ((due : Due) × IsDue words (Some shelf) due) ⊎ GoesOnline words (Some shelf)
due_some words shelf =
    elim (asked_or_not words) [
      | inl a ↦ by_files a.0 a.1 a.2 (files_judged.files shelf a.1)
      | inr never ↦ inl (usage, never)
    ]
  where
    by_first : (command : Command) (files : List File) → Asks words command files → (file : File) (verdict : Verdict) → StopsAt (Some shelf) files file verdict → (due : Due) × IsDue words (Some shelf) due
    by_first command files asks file (accepted content) stops = absurd stops.not_accepted
    by_first command files asks file (refused fault) stops = (refusal (refused_line file fault), record { command = command; files = files; asks = asks; holds = inl (file, fault, stops, refl) })
    by_first command files asks file too_large stops = (over_limit file.name, record { command = command; files = files; asks = asks; holds = (file, stops, refl) })
    by_first command files asks file missing stops = (lacking file.name, record { command = command; files = files; asks = asks; holds = (file, stops, refl) })

    by_command : (command : Command) (files : List File) → Asks words command files → (inputs : Inputs) → StandFor (Some shelf) files inputs
        → ((bytes : List ℕ) × IsOutputOf command inputs bytes) ⊎ ((line : List ℕ) × IsRefusalOf command inputs line) ⊎ IsOnline command → ((due : Due) × IsDue words (Some shelf) due) ⊎ GoesOnline words (Some shelf)
    by_command command files asks inputs read (inl made) = inl (output made.0, record { command = command; files = files; asks = asks; holds = (inputs, read, made.1) })
    by_command command files asks inputs read (inr (inl told)) = inl (refusal told.0, record { command = command; files = files; asks = asks; holds = inr (inputs, read, told.1) })
    by_command command files asks inputs read (inr (inr online)) = inr (record { command = command; files = files; asks = asks; holds = (inputs, read, online) })

    by_files : (command : Command) (files : List File) → Asks words command files
        → ((inputs : Inputs) × StandFor (Some shelf) files inputs) ⊎ ((file : File) × (verdict : Verdict) × StopsAt (Some shelf) files file verdict)
        → ((due : Due) × IsDue words (Some shelf) due) ⊎ GoesOnline words (Some shelf)
    by_files command files asks (inl read) = by_command command files asks read.0 read.1 (output_or_refusal command read.0 asks.in_range)
    by_files command files asks (inr stops) = inl (by_first command files asks stops.0 stops.1 stops.2)

-- so one thing is due
pub one_is_due : OneIsDue
one_is_due = record {
  some = due_some;
  one = λ words shelf kept due other a b. due_one words (Some shelf) due other tt kept a b;
  apart = λ words shelf due a goes. due_offline words (Some shelf) due tt a goes;
}
