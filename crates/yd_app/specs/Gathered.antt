-- Inputs whose updates are gathered: fewer of them, of which the same is received (own).
use Rattle.std.specs.Prelude.{◌≡◌, List, Option}
use Rattle.yd_ops.specs.Received.{received_set}
use Rattle.yd_world.specs.Shelf.{Shelf}
use Rattle.yd_files.specs.Files.{File}
use Rattle.yd_files.specs.Verdict.{Inputs, StandFor}
use Rattle.yd_asking.specs.Command.{Command, check, convert, cut, edit, generate, merge, pack, serve, show, sync, vector}

-- these are the same inputs but for their updates, and of these the same is received
pub record AreGathered (inputs all : Inputs) : Type 0 where
  pub kinds : inputs.kinds ≡ all.kinds
  pub vectors : inputs.vectors ≡ all.vectors
  pub scripts : inputs.scripts ≡ all.scripts
  pub received : received_set inputs.updates ≡ received_set all.updates

-- so they are of what the files stand for
pub record StandGathered (told : Option Shelf) (files : List File) (inputs : Inputs) : Type 0 where
  pub all : Inputs
  pub stand : StandFor told files all
  pub gathered : AreGathered inputs all

-- of its updates the command asks only what is received of them, so that they may be gathered
abbrev pub IsOfReceived : Command → Type 0
IsOfReceived (show mode root) = Unit {0}
IsOfReceived (merge form) = Unit {0}
IsOfReceived (edit client name) = Unit {0}
IsOfReceived command = ⊥

-- it works while its files are read
abbrev pub IsAtOnce : Command → Type 0
IsAtOnce pack = Unit {0}
IsAtOnce vector = Unit {0}
IsAtOnce (cut name) = Unit {0}
IsAtOnce command = ⊥
