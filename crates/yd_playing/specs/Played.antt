-- Lines of a script that are played one after another, each on what the lines before it left (own).
use Rattle.std.specs.Prelude.{◌≡◌, ◌⊎◌, ℕ, List, [], ◌∷◌, ◌++◌, Result, Ok, Err}
use Rattle.yd_ids.specs.declared.id.Client.{Client}
use Rattle.yd_ops.specs.Value.{UpdateValue}
use Rattle.yd_ops.specs.Received.{Received}
use Rattle.yd_meaning.specs.Held.{held_set}
use Rattle.yd_meaning.specs.Order.{AreHonest}
use Rattle.yd_script.specs.Lines.{Numbered}
use Rattle.yd_playing.specs.Desk.{Desk, Played, first_desk}
use Rattle.yd_playing.specs.Ended.{MayEnd}
use Rattle.yd_causes.specs.declared.cause.LineCause.{LineCause}

-- the line with a number is refused, and why
pub record Stop : Type 0 where
  pub number : ℕ
  pub cause : LineCause

-- lines behind others that made these updates
abbrev pub behind_updates : List UpdateValue → Result Played Stop → Result Played Stop
behind_updates us (Ok played) = Ok (record { updates = us ++ played.updates; desk = played.desk })
behind_updates us (Err stop) = Err stop

-- lines may end so: the first one is refused, or it is played, and then the others end so on what it left. Each is played over a document
-- that a replica may have then
abbrev pub LinesMayEnd : Client → Desk → List Numbered → Result Played Stop → Type 0
LinesMayEnd client desk [] ends = ends ≡ Ok (record { updates = []; desk = desk })
LinesMayEnd client desk (line ∷ lines) ends =
    ((cause : LineCause) × MayEnd client desk line.text (Err cause) × (ends ≡ Err (record { number = line.number; cause = cause })))
    ⊎ ((first : Played) × (rest : Result Played Stop) × MayEnd client desk line.text (Ok first) × LinesMayEnd client first.desk lines rest
    × (ends ≡ behind_updates first.updates rest))

-- all lines are played on what is received, and these are their updates
abbrev pub ArePlayed : Client → Received → List Numbered → List UpdateValue → Type 0
ArePlayed client r lines us = (desk : Desk) × LinesMayEnd client (first_desk r) lines (Ok (record { updates = us; desk = desk }))

-- the lines before these were played with these updates, and this is the desk then
pub record SoFar (client : Client) (r : Received) (desk : Desk) (lines behind : List Numbered) (updates : List UpdateValue) : Type 0 where
  pub before : List Numbered
  pub lines_are : lines ≡ before ++ behind
  pub are_played : LinesMayEnd client (first_desk r) before (Ok (record { updates = updates; desk = desk }))

-- some of the lines, from the first on, were played, and this is received then
abbrev pub HasPlayed : Client → Received → Received → List Numbered → Type 0
HasPlayed client r now lines = (desk : Desk) × (behind : List Numbered) × (updates : List UpdateValue) × SoFar client r desk lines behind updates × (now ≡ desk.received)

-- ---- where lines end one way

-- at each line that is reached what is held keeps the edit rules
abbrev pub RulesAreKept : Client → Desk → List Numbered → Type 0
RulesAreKept client desk [] = Unit {0}
RulesAreKept client desk (line ∷ lines) =
    AreHonest (held_set desk.received.operations) × ((first : Played) → MayEnd client desk line.text (Ok first) → RulesAreKept client first.desk lines)
