-- What was made and what was written of it, as the ending of a run.
use Rattle.std.proofs.Common.{◌≡◌, ◌≢◌, ◌⊎◌, ◌∙◌, ℕ, List, Option, Result, Ok, Err, IsErr, IsErrAnd, IsOk, refl, inl, inr, subst, sym, ap, arith}
use Rattle.std.specs.Global.{Vec}
use Rattle.yd_meaning.specs.Document.{Document}
use Rattle.yd_meaning.specs.Replica.{IsReplicaDocument}
use Rattle.yd_modes.specs.declared.mode.Mode.{Mode}
use Rattle.yd_fields.specs.UpdatePlan.{vector_plan}
use Rattle.yd_grouping.specs.Merged.{merge_of}
use Rattle.yd_grouping.specs.Reach.{reach_of}
use Rattle.yd_ids.specs.declared.id.Client.{Client}
use Rattle.yd_v1.specs.Grammar.{FillsV1}
use Rattle.yd_v1.specs.Log.{StandsForLog}
use Rattle.yd_v1.specs.LogWriting.{log_bytes}
use Rattle.yd_ops.specs.Received.{Received, received_set}
use Rattle.yd_world.specs.Shelf.{Shelf}
use Rattle.yd_ending.specs.Ending.{Delivers, status_of, stop_of_fault}
use Rattle.yd_ending.specs.Writing.{TakesAll}
use Rattle.yd_files.specs.Counts.{Count, RoseIn}
use Rattle.yd_files.specs.Files.{File}
use Rattle.yd_files.specs.Reading.{StopsAmong}
use Rattle.yd_files.specs.Seen.{file_of}
use Rattle.yd_files.specs.declared.fault.FileFault.{FileFault}
use Rattle.yd_files.specs.declared.fault.FileFault.TheVariants as faults
use Rattle.yd_files.specs.Verdict.{Inputs, StandFor}
use Rattle.yd_app.proofs.DueLemmas.{weaker}
use Rattle.yd_asking.specs.Asking.{StopsAsking}
use Rattle.yd_asking.specs.Command.{Command, pack, show, vector}
use Rattle.yd_app.specs.Commands.Show.{shown_line}
use Rattle.yd_app.specs.Commands.Vector.{vector_bytes}
use Rattle.yd_app.specs.Due.{IsDueIn, IsDueOver, no_step_2, output, refusal}
use Rattle.yd_app.specs.Ending.{Ends}
use Rattle.yd_app.specs.Output.{IsMadeOf}
use Rattle.yd_app.specs.Link.{Link}
use Rattle.yd_app.specs.Online.{LosesItsNetwork, OfInputs}
use Rattle.yd_app.specs.Run.{TakesAllOf, TakesAllOver, Writes}
use Rattle.yd_app.specs.Stopping.{IsNoLinkFault, Makes, MakesAsked, MakesIn, MakesOf, MakesOn, MakesOver, StopsFor, StopsMaking, StopsOnline, StopsOver}
use Rattle.yd_asking.specs.Words.{Asks, AsksFor}
use Rattle.yd_ending.specs.declared.stop.Stop.{Stop}
use Rattle.yd_ending.specs.declared.stop.Stop.TheVariants.{Usage, Refused, ReadFault, TooLarge, NoMemory, WriteFault, LinkFault, NoStep2}

-- ---- what is made of inputs

-- a root that is shown of a document of what was received
pub made_of_document : (mode : Mode) (root : List ℕ) (inputs : Inputs) (received : Received) (document : Document) (line : List ℕ) → received ≡ received_set inputs.updates → IsReplicaDocument document received
    → line ≡ shown_line mode root document → IsMadeOf (show mode root) inputs line
made_of_document mode root inputs received document line is of line_is =
    record { is_output = record { document = document; is_document = subst (IsReplicaDocument document) is of; line_is = line_is }; again = tt }

-- ---- what was made

-- words that ask for nothing
pub asks_none : (Calm : Type 0) (words : List (List ℕ)) (told told_now : Option Shelf) (reads : Count) (result : Result (Vec ℕ) Stop) (stop : Stop) → IsErr result × IsErrAnd result (λ s. s ≡ stop)
    → StopsAsking words stop → Makes Calm words told told_now reads result
asks_none Calm words told told_now reads (Ok bytes) stop is asking = absurd is.1
asks_none Calm words told told_now reads (Err other) Usage is asking = inr (inl (is.1, asking))
asks_none Calm words told told_now reads (Err other) NoMemory is asking = inl is.1
asks_none Calm words told told_now reads (Err other) (Refused what) is asking = absurd asking
asks_none Calm words told told_now reads (Err other) (ReadFault file) is asking = absurd asking
asks_none Calm words told told_now reads (Err other) (TooLarge file) is asking = absurd asking
asks_none Calm words told told_now reads (Err other) WriteFault is asking = absurd asking
asks_none Calm words told told_now reads (Err other) LinkFault is asking = absurd asking
asks_none Calm words told told_now reads (Err other) NoStep2 is asking = absurd asking

-- files of which the command made nothing
pub makes_stopped : (Calm : Type 0) (words : List (List ℕ)) (command : Command) (files : List File) (told told_now : Option Shelf) (reads : Count) (result : Result (Vec ℕ) Stop) (stop : Stop) → IsErr result × IsErrAnd result (λ s. s ≡ stop)
    → Asks words command files → MakesOn Calm command files told told_now reads (Err stop) → Makes Calm words told told_now reads result
makes_stopped Calm words command files told told_now reads (Ok bytes) stop is asks stops = absurd is.1
makes_stopped Calm words command files told told_now reads (Err other) stop is asks (inl none) = inl (is.1 ∙ none)
makes_stopped Calm words command files told told_now reads (Err other) stop is asks (inr (inl stops)) =
    inr (inr (inl (record { command = command; files = files; asks = asks; holds = subst (StopsFor Calm told told_now files reads) (sym is.1) stops })))
makes_stopped Calm words command files told told_now reads (Err other) stop is asks (inr (inr over)) =
    inr (inr (inr (record { command = command; files = files; asks = asks; holds = subst (StopsOver command files told) (sym is.1) over })))

-- what it made
pub makes_asked : (Calm : Type 0) (words : List (List ℕ)) (command : Command) (files : List File) (told told_now : Option Shelf) (reads : Count) (bytes : Vec ℕ) → Asks words command files → MakesOf command files told bytes.items → Makes Calm words told told_now reads (Ok bytes)
makes_asked Calm words command files told told_now reads bytes asks made = record { command = command; files = files; asks = asks; holds = made }

-- ---- the same, with the network

-- words that ask for nothing
pub asked_none : (Calm : Type 0) (link : Link) (words : List (List ℕ)) (told told_now : Option Shelf) (reads : Count) (result : Result (Vec ℕ) Stop) (stop : Stop) → IsErr result × IsErrAnd result (λ s. s ≡ stop)
    → StopsAsking words stop → MakesAsked Calm link words told told_now reads result
asked_none Calm link words told told_now reads result stop is asking = inl (asks_none Calm words told told_now reads result stop is asking)

-- files of which the command made nothing
pub asked_stopped : (Calm : Type 0) (link : Link) (words : List (List ℕ)) (command : Command) (files : List File) (told told_now : Option Shelf) (reads : Count) (result : Result (Vec ℕ) Stop) (stop : Stop) → IsErr result × IsErrAnd result (λ s. s ≡ stop)
    → Asks words command files → MakesIn Calm link command files told told_now reads (Err stop) → MakesAsked Calm link words told told_now reads result
asked_stopped Calm link words command files told told_now reads result stop is asks (inl stops) = inl (makes_stopped Calm words command files told told_now reads result stop is asks stops)
asked_stopped Calm link words command files told told_now reads (Ok bytes) stop is asks (inr over) = absurd is.1
asked_stopped Calm link words command files told told_now reads (Err other) stop is asks (inr over) =
    inr (record { command = command; files = files; asks = asks; holds = (over.0, over.1, subst (StopsOnline link command over.0) (sym is.1) over.2) })

-- what it made
pub asked_made : (Calm : Type 0) (link : Link) (words : List (List ℕ)) (command : Command) (files : List File) (told told_now : Option Shelf) (reads : Count) (bytes : Vec ℕ) → Asks words command files
    → MakesIn Calm link command files told told_now reads (Ok bytes) → MakesAsked Calm link words told told_now reads (Ok bytes)
asked_made Calm link words command files told told_now reads bytes asks (inl made) = inl (makes_asked Calm words command files told told_now reads bytes asks made)
asked_made Calm link words command files told told_now reads bytes asks (inr over) = inr (record { command = command; files = files; asks = asks; holds = over })

-- ---- what a command makes of its files

-- files that are not all accepted
pub reads_none : (Calm : Type 0) (command : Command) (files : List File) (told told_now : Option Shelf) (reads : Count) (result : Result (Vec ℕ) Stop) (fault : FileFault) → IsErr result × IsErrAnd result (λ s. s ≡ stop_of_fault fault)
    → StopsAmong Calm told told_now files reads fault → MakesOn Calm command files told told_now reads result
reads_none Calm command files told told_now reads (Ok bytes) fault is stops = absurd is.1
reads_none Calm command files told told_now reads (Err stop) fault is stops = inr (inl (fault, is.1, stops))

-- inputs of which the command makes nothing
pub refuses_some : (Calm : Type 0) (command : Command) (files : List File) (told told_now : Option Shelf) (reads : Count) (inputs : Inputs) (result : Result (Vec ℕ) Stop) (stop : Stop) → IsErr result × IsErrAnd result (λ s. s ≡ stop)
    → StandFor told files inputs → StopsMaking command inputs stop → MakesOn Calm command files told told_now reads result
refuses_some Calm command files told told_now reads inputs (Ok bytes) stop is stand stops = absurd is.1
refuses_some Calm command files told told_now reads inputs (Err other) stop is stand stops = inr (inr (inputs, stand, subst (StopsMaking command inputs) (sym is.1) stops))

-- the vector that the updates reach which the files stand for
pub reaches_files : (told : Option Shelf) (files : List File) (inputs : Inputs) (reached : List (Client × ℕ)) (bytes : List ℕ) → StandFor told files inputs → reached ≡ reach_of (merge_of inputs.updates) → bytes ≡ vector_bytes reached
    → FillsV1 vector_plan bytes reached → MakesOf vector files told bytes
reaches_files told files inputs reached bytes stand is written again =
    (inputs, stand, record { is_output = written ∙ ap vector_bytes is; again = subst (λ v. FillsV1 vector_plan (vector_bytes v) v) is (subst (λ (b : List ℕ). FillsV1 vector_plan b reached) written again) })

-- the log of the updates that the files stand for
pub packs_files : (told : Option Shelf) (files : List File) (inputs : Inputs) (bytes : List ℕ) → StandFor told files inputs → bytes ≡ log_bytes inputs.updates → StandsForLog bytes inputs.updates → MakesOf pack files told bytes
packs_files told files inputs bytes stand written again =
    (inputs, stand, record { is_output = written; again = subst (λ (b : List ℕ). StandsForLog b inputs.updates) written again })

-- ---- how the run ends

-- reading files that stopped
stopped : (Calm : Type 0) (words : List (List ℕ)) (told told_now : Option Shelf) (link : Link) (reads writes : Count) (taken now : Option (List ℕ)) (fault : FileFault) → now ≡ taken → (command : Command) (files : List File) → Asks words command files
    → StopsAmong Calm told told_now files reads fault → Ends Calm words told told_now link reads writes taken now (Err (stop_of_fault fault))
stopped Calm words told told_now link reads writes taken now (faults.Refused file cause spot) same command files asks stops =
    inl (record { command = command; files = files; asks = asks; holds = inl (file_of file, record { cause = cause; spot = spot }, stops, refl) })
stopped Calm words told told_now link reads writes taken now (faults.ReadFault file) same command files asks stops =
    (stops.0, record { command = command; files = files; asks = asks; holds = (file_of file, stops.1, refl) })
stopped Calm words told told_now link reads writes taken now (faults.TooLarge file) same command files asks stops =
    record { command = command; files = files; asks = asks; holds = (file_of file, stops, refl) }
stopped Calm words told told_now link reads writes taken now faults.NoMemory same command files asks stops = inl same

-- a command that stopped
refused_made : (Calm : Type 0) (words : List (List ℕ)) (told told_now : Option Shelf) (link : Link) (reads writes : Count) (taken now : Option (List ℕ)) (stop : Stop) → now ≡ taken → (command : Command) (files : List File) → Asks words command files
    → StopsOver command files told stop → Ends Calm words told told_now link reads writes taken now (Err stop)
refused_made Calm words told told_now link reads writes taken now NoMemory same command files asks over = inl same
refused_made Calm words told told_now link reads writes taken now (Refused what) same command files asks over = inl (record { command = command; files = files; asks = asks; holds = inr over })
refused_made Calm words told told_now link reads writes taken now Usage same command files asks over = absurd over.2
refused_made Calm words told told_now link reads writes taken now (ReadFault file) same command files asks over = absurd over.2
refused_made Calm words told told_now link reads writes taken now (TooLarge file) same command files asks over = absurd over.2
refused_made Calm words told told_now link reads writes taken now WriteFault same command files asks over = absurd over.2
refused_made Calm words told told_now link reads writes taken now LinkFault same command files asks over = absurd over.2
refused_made Calm words told told_now link reads writes taken now NoStep2 same command files asks over = absurd over.2

-- a command that stopped over the network
refused_over : (Calm : Type 0) (words : List (List ℕ)) (told told_now : Option Shelf) (link : Link) (reads writes : Count) (taken now : Option (List ℕ)) (stop : Stop) → now ≡ taken
    → AsksFor words (λ command files. OfInputs told files (λ inputs. StopsOnline link command inputs stop)) → Ends Calm words told told_now link reads writes taken now (Err stop)
refused_over Calm words told told_now link reads writes taken now NoMemory same w = inl same
refused_over Calm words told told_now link reads writes taken now (Refused what) same w = inr w
refused_over Calm words told told_now link reads writes taken now NoStep2 same w = w
refused_over Calm words told told_now link reads writes taken now LinkFault same w = w
refused_over Calm words told told_now link reads writes taken now Usage same w = absurd w.holds.2
refused_over Calm words told told_now link reads writes taken now (ReadFault file) same w = absurd w.holds.2
refused_over Calm words told told_now link reads writes taken now (TooLarge file) same w = absurd w.holds.2
refused_over Calm words told told_now link reads writes taken now WriteFault same w = absurd w.holds.2

-- what stopped before anything was written
unwritten : (Calm : Type 0) (words : List (List ℕ)) (told told_now : Option Shelf) (link : Link) (reads writes : Count) (taken now : Option (List ℕ)) (stop : Stop) → now ≡ taken
    → MakesAsked Calm link words told told_now reads (Err stop) → Ends Calm words told told_now link reads writes taken now (Err stop)
unwritten Calm words told told_now link reads writes taken now stop same (inl (inl none)) = subst (λ (s : Stop). Ends Calm words told told_now link reads writes taken now (Err s)) (sym none) (inl same)
unwritten Calm words told told_now link reads writes taken now stop same (inl (inr (inl none))) = subst (λ (s : Stop). Ends Calm words told told_now link reads writes taken now (Err s)) (sym none.0) none.1
unwritten Calm words told told_now link reads writes taken now stop same (inl (inr (inr (inl asks)))) =
    subst (λ (s : Stop). Ends Calm words told told_now link reads writes taken now (Err s)) (sym asks.holds.1) (stopped Calm words told told_now link reads writes taken now asks.holds.0 same asks.command asks.files asks.asks asks.holds.2)
unwritten Calm words told told_now link reads writes taken now stop same (inl (inr (inr (inr asks)))) =
    refused_made Calm words told told_now link reads writes taken now stop same asks.command asks.files asks.asks asks.holds
unwritten Calm words told told_now link reads writes taken now stop same (inr over) = refused_over Calm words told told_now link reads writes taken now stop same over

-- what was made is due
made_due : (Calm : Type 0) (words : List (List ℕ)) (told told_now : Option Shelf) (link : Link) (reads : Count) (bytes : Vec ℕ) → MakesAsked Calm link words told told_now reads (Ok bytes) → IsDueIn words told link (output bytes.items)
made_due Calm words told told_now link reads bytes (inl asks) = inl (record { command = asks.command; files = asks.files; asks = asks.asks; holds = (asks.holds.0, asks.holds.1, asks.holds.2.is_output) })
made_due Calm words told told_now link reads bytes (inr over) = inr over

-- and was written, where all of it was
made_written : (Calm : Type 0) (words : List (List ℕ)) (told told_now : Option Shelf) (link : Link) (reads : Count) (taken now : Option (List ℕ)) (bytes : Vec ℕ) → MakesAsked Calm link words told told_now reads (Ok bytes) → TakesAll taken now bytes.items
    → Writes words told link taken now
made_written Calm words told told_now link reads taken now bytes (inl asks) all =
    inl (weaker words (λ command files. MakesOf command files told bytes.items) (λ command files. TakesAllOf command files told taken now)
    (λ command files x. (x.0, x.1, bytes.items, x.2, all)) asks)
made_written Calm words told told_now link reads taken now bytes (inr over) all =
    inr (weaker words (λ command files. OfInputs told files (λ inputs. MakesOver link command inputs (Ok bytes))) (λ command files. TakesAllOver link command files told taken now)
    (λ command files x. (x.0, x.1, (bytes.items, x.2, all))) over)

-- ---- lemmas for callers

-- what was written is due
pub written_due : (words : List (List ℕ)) (told : Option Shelf) (link : Link) (taken now : Option (List ℕ)) → Writes words told link taken now → (bytes : List ℕ) × IsDueIn words told link (output bytes)
written_due words told link taken now (inl w) = (w.holds.2, inl (record { command = w.command; files = w.files; asks = w.asks; holds = (w.holds.0, w.holds.1, w.holds.3.is_output) }))
written_due words told link taken now (inr w) = (w.holds.2.0, inr (record { command = w.command; files = w.files; asks = w.asks; holds = (w.holds.0, w.holds.1, w.holds.2.1) }))

-- how a run ends that made this and wrote it so far
pub ends_of : (Calm : Type 0) (words : List (List ℕ)) (told told_now : Option Shelf) (link : Link) (reads writes : Count) (taken now : Option (List ℕ)) (made : Result (Vec ℕ) Stop) (e : Result (Unit {0}) Stop)
    → MakesAsked Calm link words told told_now reads made → Delivers made writes taken now e → Ends Calm words told told_now link reads writes taken now e
ends_of Calm words told told_now link reads writes taken now (Err stop) e m d =
    subst (λ (r : Result (Unit {0}) Stop). Ends Calm words told told_now link reads writes taken now r) (sym d.0) (unwritten Calm words told told_now link reads writes taken now stop d.1 m)
ends_of Calm words told told_now link reads writes taken now (Ok bytes) (Ok done) m d = made_written Calm words told told_now link reads taken now bytes m d
ends_of Calm words told told_now link reads writes taken now (Ok bytes) (Err stop) m d = by_outage d.1
  where
    due : IsDueIn words told link (output bytes.items)
    due = made_due Calm words told told_now link reads bytes m

    by_outage : (stop ≡ NoMemory) ⊎ ((stop ≡ WriteFault) × RoseIn writes) → Ends Calm words told told_now link reads writes taken now (Err stop)
    by_outage (inl none) = subst (λ (s : Stop). Ends Calm words told told_now link reads writes taken now (Err s)) (sym none) (inr (bytes.items, due, d.0))
    by_outage (inr failed) = subst (λ (s : Stop). Ends Calm words told told_now link reads writes taken now (Err s)) (sym failed.0) (failed.1, (bytes.items, due, d.0))

-- a run that did not write did not fail to write
pub no_write_fault : (Calm : Type 0) (words : List (List ℕ)) (told told_now : Option Shelf) (link : Link) (reads writes : Count) (taken now : Option (List ℕ)) (made : Result (Vec ℕ) Stop) (e : Result (Unit {0}) Stop)
    → MakesAsked Calm link words told told_now reads made → Delivers made writes taken now e → (IsOk made → status_of e ≢ 4) → status_of e ≢ 4
no_write_fault Calm words told told_now link reads writes taken now (Ok bytes) e m d written n = written refl n
no_write_fault Calm words told told_now link reads writes taken now (Err stop) e m d written n = by_stop stop m (sym (ap status_of d.0) ∙ n)
  where
    no_fault : (fault : FileFault) → WriteFault ≡ stop_of_fault fault → ⊥
    no_fault (faults.Refused file cause spot) is = cc
    no_fault (faults.ReadFault file) is = cc
    no_fault (faults.TooLarge file) is = cc
    no_fault faults.NoMemory is = cc

    by_stop : (s : Stop) → MakesAsked Calm link words told told_now reads (Err s) → status_of (Err s) ≡ 4 → ⊥
    by_stop WriteFault (inl (inl none)) same = cc
    by_stop WriteFault (inl (inr (inl none))) same = let is : WriteFault ≡ Usage = none.0 in cc
    by_stop WriteFault (inl (inr (inr (inl asks)))) same = no_fault asks.holds.0 asks.holds.1
    by_stop WriteFault (inl (inr (inr (inr asks)))) same = absurd asks.holds.2
    by_stop WriteFault (inr over) same = absurd over.holds.2
    by_stop (Refused what) made same = omega (arith, same)
    by_stop LinkFault made same = omega (arith, same)
    by_stop NoStep2 made same = omega (arith, same)
    by_stop Usage made same = omega (arith, same)
    by_stop (ReadFault file) made same = omega (arith, same)
    by_stop NoMemory made same = omega (arith, same)
    by_stop (TooLarge file) made same = omega (arith, same)

-- a run that the network did not stop has not its status
pub no_link_fault : (writes : Count) (taken now : Option (List ℕ)) (made : Result (Vec ℕ) Stop) (e : Result (Unit {0}) Stop) → Delivers made writes taken now e → IsNoLinkFault made → status_of e ≢ 6
no_link_fault writes taken now (Ok bytes) (Ok done) d linked n = omega (arith, n)
no_link_fault writes taken now (Ok bytes) (Err stop) d linked n = by_outage d.1
  where
    by_outage : (stop ≡ NoMemory) ⊎ ((stop ≡ WriteFault) × RoseIn writes) → ⊥
    by_outage (inl none) = omega (arith, sym (ap (λ (s : Stop). status_of (Err s)) none) ∙ n)
    by_outage (inr failed) = omega (arith, sym (ap (λ (s : Stop). status_of (Err s)) failed.0) ∙ n)
no_link_fault writes taken now (Err stop) e d linked n = by_stop stop linked (sym (ap status_of d.0) ∙ n)
  where
    by_stop : (s : Stop) → IsNoLinkFault {X = Vec ℕ} (Err s) → status_of (Err s) ≡ 6 → ⊥
    by_stop LinkFault is same = is
    by_stop WriteFault is same = omega (arith, same)
    by_stop (Refused what) is same = omega (arith, same)
    by_stop NoStep2 is same = omega (arith, same)
    by_stop Usage is same = omega (arith, same)
    by_stop (ReadFault file) is same = omega (arith, same)
    by_stop NoMemory is same = omega (arith, same)
    by_stop (TooLarge file) is same = omega (arith, same)

-- words that ask for nothing are not stopped by the network
pub stop_linked : (words : List (List ℕ)) (result : Result (Vec ℕ) Stop) (stop : Stop) → IsErr result × IsErrAnd result (λ s. s ≡ stop) → StopsAsking words stop → IsNoLinkFault result
stop_linked words (Ok bytes) stop is asking = tt
stop_linked words (Err other) Usage is asking = subst (λ (s : Stop). IsNoLinkFault {X = Vec ℕ} (Err s)) (sym is.1) tt
stop_linked words (Err other) NoMemory is asking = subst (λ (s : Stop). IsNoLinkFault {X = Vec ℕ} (Err s)) (sym is.1) tt
stop_linked words (Err other) (Refused what) is asking = absurd asking
stop_linked words (Err other) (ReadFault file) is asking = absurd asking
stop_linked words (Err other) (TooLarge file) is asking = absurd asking
stop_linked words (Err other) WriteFault is asking = absurd asking
stop_linked words (Err other) LinkFault is asking = absurd asking
stop_linked words (Err other) NoStep2 is asking = absurd asking

-- nor is what came of a command that was not
pub still_linked : (result : Result (Vec ℕ) Stop) (stop : Stop) → IsErr result × IsErrAnd result (λ s. s ≡ stop) → IsNoLinkFault {X = Vec ℕ} (Err stop) → IsNoLinkFault result
still_linked (Ok bytes) stop is linked = tt
still_linked (Err other) stop is linked = subst (λ (s : Stop). IsNoLinkFault {X = Vec ℕ} (Err s)) (sym is.1) linked

-- files that are not all accepted are no fault of the network
pub reads_linked : (result : Result (Vec ℕ) Stop) (fault : FileFault) → IsErr result × IsErrAnd result (λ s. s ≡ stop_of_fault fault) → IsNoLinkFault result
reads_linked (Ok bytes) fault is = tt
reads_linked (Err stop) fault is = subst (λ (s : Stop). IsNoLinkFault {X = Vec ℕ} (Err s)) (sym is.1) (by_fault fault)
  where
    by_fault : (f : FileFault) → IsNoLinkFault {X = Vec ℕ} (Err (stop_of_fault f))
    by_fault (faults.Refused file cause spot) = tt
    by_fault (faults.ReadFault file) = tt
    by_fault (faults.TooLarge file) = tt
    by_fault faults.NoMemory = tt

-- and neither is what a command refuses of them
pub making_linked : (command : Command) (inputs : Inputs) (result : Result (Vec ℕ) Stop) (stop : Stop) → IsErr result × IsErrAnd result (λ s. s ≡ stop) → StopsMaking command inputs stop → IsNoLinkFault result
making_linked command inputs (Ok bytes) stop is stops = tt
making_linked command inputs (Err other) stop is stops = subst (λ (s : Stop). IsNoLinkFault {X = Vec ℕ} (Err s)) (sym is.1) (by_stop stop stops)
  where
    by_stop : (s : Stop) → StopsMaking command inputs s → IsNoLinkFault {X = Vec ℕ} (Err s)
    by_stop NoMemory said = tt
    by_stop (Refused what) said = tt
    by_stop Usage said = tt
    by_stop (ReadFault file) said = tt
    by_stop (TooLarge file) said = tt
    by_stop WriteFault said = tt
    by_stop LinkFault said = said
    by_stop NoStep2 said = tt
