-- What is seen where connections come from (own).
use Rattle.std.specs.Prelude.{◌≡◌, true, false, ⊤}
use Rattle.yd_world.specs.declared.board.Way.{Way}
use Rattle.yd_world.specs.declared.board.Way.TheVariants.{Listen, Call}
use Rattle.yd_sockets.specs.declared.door.Door.{Door}
use Rattle.yd_sockets.specs.declared.door.Door.TheVariants.{Shut, Open, Called}
use Rattle.yd_sockets.specs.declared.entrance.Seen.{Seen}
use Rattle.yd_sockets.specs.declared.entrance.Seen.TheVariants.{Nobody, Somebody, Entered}
use Rattle.yd_lines.specs.declared.link.Wire.{Wire}
use Rattle.tungstenite.specs.declared.protocol.RandomKeys.{RandomKeys}
use Rattle.yd_lines.specs.Lines.{IsNewLine}

-- who enters comes by a new connection of this server
abbrev pub EntersNew : {L K : Type 0} → Seen L K → Type 0
EntersNew Nobody = ⊤
EntersNew Somebody = ⊤
EntersNew (Entered line) = IsNewLine true line

-- the door fits the way: it is open to those who come, or one connection was made
abbrev pub IsDoor : {R S L : Type 0} → Way → Door R S L → Type 0
IsDoor Listen (Open entrance) = ⊤
IsDoor Call (Called line) = IsNewLine false line
IsDoor way door = ⊥

-- a connection that was made enters, and once; nobody enters by a door that is shut; one that is open
-- stays so
abbrev pub Sees : {R S L : Type 0} → Door R S L → Door R S L → Seen (Wire S) (RandomKeys R) → Type 0
Sees Shut new seen = (seen ≡ Nobody) × (new ≡ Shut)
Sees (Called line) new seen = (seen ≡ Entered line) × (new ≡ Shut)
Sees (Open before) (Open after) seen = EntersNew seen
Sees (Open before) new seen = ⊥
