-- What commands make over a network, and what they do with it: a case for each that uses one (own).
use Rattle.std.specs.Prelude.{◌⊎◌, ℕ, List, Option}
use Rattle.yd_world.specs.Shelf.{Shelf}
use Rattle.yd_world.specs.Traffic.{Traffic}
use Rattle.yd_files.specs.Files.{File}
use Rattle.yd_files.specs.Verdict.{Inputs, StandFor}
use Rattle.yd_serving.specs.Board.{HasEvents, TradesFew}
use Rattle.yd_asking.specs.Command.{Command, IsOnline, serve, sync}
use Rattle.yd_app.specs.Commands.Serve.{IsServed, LosesServer, form_of_one, the_update}
use Rattle.yd_app.specs.Commands.Sync.{IsRefusedMessage, IsSynced, LacksStep2, LosesClient}
use Rattle.yd_app.specs.Link.{Link}
use Rattle.yd_asking.specs.Words.{Asks, AsksFor}

-- ---- a command over its inputs

-- the bytes are what it writes of its inputs; they stand for it again
abbrev pub IsOutputOver : Link → Command → Inputs → List ℕ → Type 0
IsOutputOver link (serve address turns) inputs bytes = IsServed (form_of_one inputs.kinds) turns (the_update inputs.updates) link bytes
IsOutputOver link (sync address turns) inputs bytes = IsSynced (form_of_one inputs.kinds) turns (the_update inputs.updates) link bytes
IsOutputOver link command inputs bytes = ⊥

-- it refuses with this line on err what came: of `sync` a message
abbrev pub IsRefusalOver : Link → Command → Inputs → List ℕ → Type 0
IsRefusalOver link (sync address turns) inputs line = IsRefusedMessage turns (the_update inputs.updates) link line
IsRefusalOver link command inputs line = ⊥

-- no step 2 came
abbrev pub WantsStep2 : Link → Command → Inputs → Type 0
WantsStep2 link (sync address turns) inputs = LacksStep2 turns (the_update inputs.updates) link
WantsStep2 link command inputs = ⊥

-- the network failed
abbrev pub LosesNetwork : Link → Command → Inputs → Type 0
LosesNetwork link (serve address turns) inputs = LosesServer turns (the_update inputs.updates) link
LosesNetwork link (sync address turns) inputs = LosesClient turns (the_update inputs.updates) link
LosesNetwork link command inputs = ⊥

-- the board was asked for no more events than it has turns; it has an event for each of them
abbrev pub TradesTurns : Link → Command → Type 0
TradesTurns link (serve address turns) = TradesFew turns link.before link.now
TradesTurns link (sync address turns) = TradesFew turns link.before link.now
TradesTurns link command = ⊥

abbrev pub HasTurns : Command → Option Traffic → Type 0
HasTurns (serve address turns) traffic = HasEvents turns traffic
HasTurns (sync address turns) traffic = HasEvents turns traffic
HasTurns command traffic = Unit {0}

-- ---- what the words ask for

-- all files are accepted, and of what they stand for this holds
abbrev pub OfInputs : Option Shelf → List File → (Inputs → Type 0) → Type 0
OfInputs told files Holds = (inputs : Inputs) × StandFor told files inputs × Holds inputs

-- the words ask for a command that uses the network, of files that are all accepted
abbrev pub GoesOnline : List (List ℕ) → Option Shelf → Type 0
GoesOnline words told = AsksFor words (λ command files. OfInputs told files (λ inputs. IsOnline command))

-- the network failed in it
abbrev pub LosesItsNetwork : List (List ℕ) → Option Shelf → Link → Type 0
LosesItsNetwork words told link = AsksFor words (λ command files. OfInputs told files (LosesNetwork link command))

-- the board has an event for each turn of it
abbrev pub HasItsTurns : List (List ℕ) → Option Traffic → Type 0
HasItsTurns words traffic = (command : Command) (files : List File) → Asks words command files → HasTurns command traffic

-- the board is as it was; or it was used in the turns of such a command
abbrev pub LeavesBoard : Type 0 → List (List ℕ) → Option Shelf → Link → Type 0
LeavesBoard Same words told link = Same ⊎ AsksFor words (λ command files. OfInputs told files (λ inputs. TradesTurns link command))
