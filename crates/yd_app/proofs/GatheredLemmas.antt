-- What a command makes of gathered updates it makes of all of them, where it asks only what is received.
use Rattle.std.proofs.Common.{◌≡◌, ◌∙◌, ℕ, List, Option, Result, Ok, Err, IfErr, IfOk, IsErr, IsErrAnd, refl, inl, inr, subst, sym, ap}
use Rattle.std.specs.Global.{Vec}
use Rattle.yd_grouping.specs.Merged.{received_grouped}
use Rattle.yd_grouping.specs.Reach.{reach_of}
use Rattle.yd_fields.specs.UpdatePlan.{vector_plan}
use Rattle.yd_meaning.specs.Replica.{IsReplicaDocument}
use Rattle.yd_ops.specs.Received.{Received, received_set}
use Rattle.yd_playing.specs.Played.{ArePlayed}
use Rattle.yd_playing.specs.Stopped.{StopsAt}
use Rattle.yd_script.specs.Lines.{Numbered}
use Rattle.yd_v1.specs.Grammar.{FillsV1}
use Rattle.yd_world.specs.Shelf.{Shelf}
use Rattle.yd_files.specs.Counts.{Count}
use Rattle.yd_files.specs.Files.{File}
use Rattle.yd_files.specs.Verdict.{Inputs, StandFor}
use Rattle.yd_asking.specs.Command.{Command, IsOfInputs, IsOnline, check, convert, cut, edit, generate, merge, pack, serve, show, sync, vector}
use Rattle.yd_ending.specs.declared.stop.Stop.{Stop}
use Rattle.yd_ending.specs.declared.stop.Stop.TheVariants.{Usage, Refused, ReadFault, TooLarge, NoMemory, WriteFault, LinkFault, NoStep2}
use Rattle.yd_app.specs.Commands.Convert.{StandsAgain, converted_bytes}
use Rattle.yd_app.specs.Commands.Edit.{EditStandsAgain, IsEdited, IsRefusedLine, MakesUpdates, lines_of_first}
use Rattle.yd_app.specs.Commands.Merge.{MergedStandsAgain, merged_output}
use Rattle.yd_app.specs.Commands.Vector.{VectorStandsAgain, vector_bytes, vector_output}
use Rattle.yd_app.specs.Gathered.{AreGathered, IsAtOnce, IsOfReceived, StandGathered}
use Rattle.yd_app.specs.Output.{IsMadeOf}
use Rattle.yd_app.specs.Stopping.{MakesOf, MakesOn, StopsMaking, StopsOver}

-- what the lines of a script make
edited_again : (client : _) (inputs all : Inputs) (us : _) → AreGathered inputs all → MakesUpdates client inputs us → MakesUpdates client all us
edited_again client inputs all us g makes =
    subst (λ scripts. ArePlayed client (received_set all.updates) (lines_of_first scripts) us) g.scripts (subst (λ (r : Received). ArePlayed client r (lines_of_first inputs.scripts) us) g.received makes)

-- ---- lemmas for callers

-- a command that neither uses the network nor works while its files are read is of what they stand for together
pub of_inputs : (command : Command) → ¬ (IsOnline command) → ¬ (IsAtOnce command) → IsOfInputs command
of_inputs (show mode root) alone kept = tt
of_inputs (convert form) alone kept = tt
of_inputs pack alone kept = absurd (kept tt)
of_inputs (merge form) alone kept = tt
of_inputs vector alone kept = absurd (kept tt)
of_inputs (cut name) alone kept = absurd (kept tt)
of_inputs (edit client name) alone kept = tt
of_inputs check alone kept = tt
of_inputs (serve address turns) alone kept = absurd (alone tt)
of_inputs (sync address turns) alone kept = absurd (alone tt)
of_inputs (generate steps) alone kept = tt

-- and so is one that asks only what is received
pub received_inputs : (command : Command) → IsOfReceived command → IsOfInputs command
received_inputs (show mode root) of = tt
received_inputs (convert form) of = absurd of
received_inputs pack of = absurd of
received_inputs (merge form) of = tt
received_inputs vector of = absurd of
received_inputs (cut name) of = absurd of
received_inputs (edit client name) of = tt
received_inputs check of = absurd of
received_inputs (serve address turns) of = absurd of
received_inputs (sync address turns) of = absurd of
received_inputs (generate steps) of = absurd of

-- inputs of which all updates are kept
pub all_gathered : (told : Option Shelf) (files : List File) (inputs : Inputs) → StandFor told files inputs → StandGathered told files inputs
all_gathered told files inputs stand = record { all = inputs; stand = stand; gathered = record { kinds = refl; vectors = refl; scripts = refl; received = refl } }

pub made_again : (command : Command) (inputs all : Inputs) (bytes : List ℕ) → IsOfReceived command → AreGathered inputs all → IsMadeOf command inputs bytes → IsMadeOf command all bytes
made_again (show mode root) inputs all bytes of g made = record {
  is_output = record { document = made.is_output.document; is_document = subst (λ (r : Received). IsReplicaDocument made.is_output.document r) g.received made.is_output.is_document; line_is = made.is_output.line_is };
  again = tt;
}
made_again (merge form) inputs all bytes of g made = record {
  is_output = made.is_output ∙ ap (λ (r : Received). converted_bytes form (received_grouped r)) g.received;
  again = subst (λ (r : Received). StandsAgain form (converted_bytes form (received_grouped r)) (received_grouped r)) g.received made.again;
}
made_again vector inputs all bytes of g made = absurd of
made_again (edit client name) inputs all bytes of g made = record {
  is_output = record { made = made.is_output.made; are_made = edited_again client inputs all made.is_output.made g made.is_output.are_made; bytes_are = made.is_output.bytes_are };
  again = record { made = made.again.made; are_made = edited_again client inputs all made.again.made g made.again.are_made; bytes_are = made.again.bytes_are; again = made.again.again };
}
made_again (convert form) inputs all bytes of g made = absurd of
made_again pack inputs all bytes of g made = absurd of
made_again (cut name) inputs all bytes of g made = absurd of
made_again check inputs all bytes of g made = absurd of
made_again (serve address turns) inputs all bytes of g made = absurd of
made_again (sync address turns) inputs all bytes of g made = absurd of
made_again (generate steps) inputs all bytes of g made = absurd of

refused_again : (command : Command) (inputs all : Inputs) (what : _) → IsOfReceived command → AreGathered inputs all → StopsMaking command inputs (Refused what) → StopsMaking command all (Refused what)
refused_again (show mode root) inputs all what of g stops = absurd stops
refused_again (merge form) inputs all what of g stops = absurd stops
refused_again vector inputs all what of g stops = absurd of
refused_again (edit client name) inputs all what of g stops =
    (stops.0, stops.1, subst (λ scripts. StopsAt client (received_set all.updates) (lines_of_first scripts) stops.0 stops.1) g.scripts (subst (λ (r : Received). StopsAt client r (lines_of_first inputs.scripts) stops.0 stops.1) g.received stops.2), stops.3)
refused_again (convert form) inputs all what of g stops = absurd of
refused_again pack inputs all what of g stops = absurd of
refused_again (cut name) inputs all what of g stops = absurd of
refused_again check inputs all what of g stops = absurd of
refused_again (serve address turns) inputs all what of g stops = absurd of
refused_again (sync address turns) inputs all what of g stops = absurd of
refused_again (generate steps) inputs all what of g stops = absurd of

pub stops_again : (command : Command) (inputs all : Inputs) (stop : Stop) → IsOfReceived command → AreGathered inputs all → StopsMaking command inputs stop → StopsMaking command all stop
stops_again command inputs all NoMemory of g stops = tt
stops_again command inputs all (Refused what) of g stops = refused_again command inputs all what of g stops
stops_again command inputs all Usage of g stops = absurd stops
stops_again command inputs all (ReadFault file) of g stops = absurd stops
stops_again command inputs all (TooLarge file) of g stops = absurd stops
stops_again command inputs all WriteFault of g stops = absurd stops
stops_again command inputs all LinkFault of g stops = absurd stops
stops_again command inputs all NoStep2 of g stops = absurd stops

-- gathered inputs of which the command makes something, and of which it makes nothing
pub makes_gathered : (command : Command) (files : List File) (told : Option Shelf) (inputs : Inputs) (bytes : List ℕ) → IsOfReceived command → StandGathered told files inputs → IsMadeOf command inputs bytes → MakesOf command files told bytes
makes_gathered command files told inputs bytes of s made = (s.all, s.stand, made_again command inputs s.all bytes of s.gathered made)

pub refuses_gathered : (Calm : Type 0) (command : Command) (files : List File) (told told_now : Option Shelf) (reads : Count) (inputs : Inputs) (result : Result (Vec ℕ) Stop) (stop : Stop) → IsErr result × IsErrAnd result (λ s. s ≡ stop)
    → IsOfReceived command → StandGathered told files inputs → StopsMaking command inputs stop → MakesOn Calm command files told told_now reads result
refuses_gathered Calm command files told told_now reads inputs (Ok bytes) stop is of s stops = absurd is.1
refuses_gathered Calm command files told told_now reads inputs (Err other) stop is of s stops =
    inr (inr (s.all, s.stand, stops_again command inputs s.all other of s.gathered (subst (StopsMaking command inputs) (sym is.1) stops)))
