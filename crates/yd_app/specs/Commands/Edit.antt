-- What `edit` writes: what the lines of a script made, played by a client on what the files hold, as one update; or the line that is refused (own).
use Rattle.std.specs.Prelude.{◌≡◌, ℕ, List, [], ◌∷◌}
use Rattle.yd_ids.specs.declared.id.Client.{Client}
use Rattle.yd_ops.specs.Value.{UpdateValue}
use Rattle.yd_playing.specs.Played.{ArePlayed}
use Rattle.yd_playing.specs.Stopped.{StopsAt}
use Rattle.yd_causes.specs.declared.cause.LineCause.{LineCause}
use Rattle.yd_ending.specs.Script.{refused_script_line}
use Rattle.yd_script.specs.Lines.{Numbered, script_lines}
use Rattle.yd_ops.specs.Received.{received_set}
use Rattle.yd_files.specs.Verdict.{Inputs}
use Rattle.yd_app.specs.Commands.Merge.{MergedStandsAgain, merged_output}
use Rattle.yd_asking.specs.declared.format.Format.TheVariants.{V1}

-- the lines of the first script; without one there is none
abbrev pub lines_of_first : List (List ℕ) → List Numbered
lines_of_first [] = []
lines_of_first (text ∷ texts) = script_lines text

-- the lines of the script were carried out on what the files hold, and made these updates
abbrev pub MakesUpdates : Client → Inputs → List UpdateValue → Type 0
MakesUpdates client inputs us = ArePlayed client (received_set inputs.updates) (lines_of_first inputs.scripts) us

-- the bytes are what is written of such updates: they as one
pub record IsEdited (client : Client) (inputs : Inputs) (bytes : List ℕ) : Type 0 where
  pub made : List UpdateValue
  pub are_made : MakesUpdates client inputs made
  pub bytes_are : bytes ≡ merged_output V1 made

-- they are so of such updates, and stand for the merge of these again
pub record EditStandsAgain (client : Client) (inputs : Inputs) (bytes : List ℕ) : Type 0 where
  pub made : List UpdateValue
  pub are_made : MakesUpdates client inputs made
  pub bytes_are : bytes ≡ merged_output V1 made
  pub again : MergedStandsAgain V1 made

-- this is the line of the first line of the script that is refused
abbrev pub IsRefusedLine : Client → List ℕ → Inputs → List ℕ → Type 0
IsRefusedLine client name inputs line =
    (number : ℕ) × (cause : LineCause) × StopsAt client (received_set inputs.updates) (lines_of_first inputs.scripts) number cause × (line ≡ refused_script_line name number cause)
