-- What one look at the network does to a board (own).
use Rattle.std.specs.Prelude.{◌≡◌}
use Rattle.yd_sockets.specs.Board.{BoardState, Happens}
use Rattle.yd_sockets.specs.declared.look.Look.{Look}
use Rattle.yd_sockets.specs.declared.look.Look.TheVariants.{Still, Moved, Happened}

-- only what happens changes something
abbrev pub Looks : BoardState → BoardState → Look → Type 0
Looks old new Still = new ≡ old
Looks old new Moved = new ≡ old
Looks old new (Happened what) = Happens old new what
