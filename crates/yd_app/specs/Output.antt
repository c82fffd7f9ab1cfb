-- What a command writes of what its files stand for: a case for each command (own).
use Rattle.std.specs.Prelude.{◌≡◌, ℕ, List}
use Rattle.yd_meaning.specs.Held.{held_set}
use Rattle.yd_meaning.specs.Order.{AreHonest}
use Rattle.yd_ops.specs.Value.{UpdateValue}
use Rattle.yd_playing.specs.Desk.{first_desk}
use Rattle.yd_playing.specs.Played.{RulesAreKept}
use Rattle.yd_ops.specs.Received.{received_set}
use Rattle.yd_files.specs.Verdict.{Inputs}
use Rattle.yd_v1.specs.Log.{StandsForLog}
use Rattle.yd_v1.specs.LogWriting.{log_bytes}
use Rattle.yd_asking.specs.Command.{Command, check, convert, cut, edit, generate, merge, pack, serve, show, sync, vector}
use Rattle.yd_app.specs.Commands.Check.{IsChecked}
use Rattle.yd_app.specs.Commands.Convert.{ConvertedStandsAgain, converted_output}
use Rattle.yd_app.specs.Commands.Cut.{CutStandsAgain, cut_output}
use Rattle.yd_app.specs.Commands.Edit.{EditStandsAgain, IsEdited, IsRefusedLine, lines_of_first}
use Rattle.yd_app.specs.Commands.Generate.{IsGenerated}
use Rattle.yd_app.specs.Commands.Merge.{MergedStandsAgain, merged_output}
use Rattle.yd_app.specs.Commands.Show.{IsShown}
use Rattle.yd_app.specs.Commands.Vector.{VectorStandsAgain, vector_output}

-- the bytes are what the command writes of its inputs. A command that uses the network writes nothing of its inputs alone
abbrev pub IsOutputOf : Command → Inputs → List ℕ → Type 0
IsOutputOf (show mode root) inputs bytes = IsShown mode root inputs.updates bytes
IsOutputOf (convert form) inputs bytes = bytes ≡ converted_output form inputs.updates
IsOutputOf pack inputs bytes = bytes ≡ log_bytes inputs.updates
IsOutputOf (merge form) inputs bytes = bytes ≡ merged_output form inputs.updates
IsOutputOf vector inputs bytes = bytes ≡ vector_output inputs.updates
IsOutputOf (cut name) inputs bytes = bytes ≡ cut_output inputs.kinds inputs.vectors inputs.updates
IsOutputOf (edit client name) inputs bytes = IsEdited client inputs bytes
IsOutputOf check inputs bytes = IsChecked inputs.updates bytes
IsOutputOf (serve address turns) inputs bytes = ⊥
IsOutputOf (sync address turns) inputs bytes = ⊥
IsOutputOf (generate steps) inputs bytes = IsGenerated steps bytes

-- what `convert` and `pack` write stands for the updates again, and what `merge`, `vector`, `cut` and `edit` write for the merge, its vector, the cut
-- and what was made
abbrev pub StandsForAgain : Command → Inputs → List ℕ → Type 0
StandsForAgain (show mode root) inputs bytes = Unit {0}
StandsForAgain (convert form) inputs bytes = ConvertedStandsAgain form inputs.updates
StandsForAgain pack inputs bytes = StandsForLog (log_bytes inputs.updates) inputs.updates
StandsForAgain (merge form) inputs bytes = MergedStandsAgain form inputs.updates
StandsForAgain vector inputs bytes = VectorStandsAgain inputs.updates
StandsForAgain (cut name) inputs bytes = CutStandsAgain inputs.kinds inputs.vectors inputs.updates
StandsForAgain (edit client name) inputs bytes = EditStandsAgain client inputs bytes
StandsForAgain check inputs bytes = Unit {0}
StandsForAgain (serve address turns) inputs bytes = Unit {0}
StandsForAgain (sync address turns) inputs bytes = Unit {0}
StandsForAgain (generate steps) inputs bytes = Unit {0}

-- so they are, and what is to stand for something again does
pub record IsMadeOf (command : Command) (inputs : Inputs) (bytes : List ℕ) : Type 0 where
  pub is_output : IsOutputOf command inputs bytes
  pub again : StandsForAgain command inputs bytes

-- the command refuses its inputs with this line on err: of a script the first line that is refused
abbrev pub IsRefusalOf : Command → Inputs → List ℕ → Type 0
IsRefusalOf (edit client name) inputs line = IsRefusedLine client name inputs line
IsRefusalOf command inputs line = ⊥

-- ---- where there is one output

-- what the updates bring together keeps the edit rules
abbrev pub BringHonest : List UpdateValue → Type 0
BringHonest updates = AreHonest (held_set (received_set updates).operations)

-- the edit rules are kept, where what the command writes depends on the order of lists: `show` and `check` by what their files bring, and
-- `edit` at each line of its script
abbrev pub KeepsRules : Command → Inputs → Type 0
KeepsRules (show mode root) inputs = BringHonest inputs.updates
KeepsRules (edit client name) inputs = RulesAreKept client (first_desk (received_set inputs.updates)) (lines_of_first inputs.scripts)
KeepsRules check inputs = BringHonest inputs.updates
KeepsRules command inputs = Unit {0}
