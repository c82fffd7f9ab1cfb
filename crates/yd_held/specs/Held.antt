-- What contracts see of a `Held`: what was received, and what is held of it (own).
use Rattle.std.specs.Prelude.{◌≡◌, ℕ, List, []}
use Rattle.yd_ids.specs.declared.id.Client.{Client}
use Rattle.yd_ops.specs.declared.lists.List.{List as DocList}
use Rattle.yd_meaning.specs.Held.{held_set, standing}
use Rattle.yd_received.specs.Received.{ReceivedValue, IsReceived, taken_of, held_of, listed_of}
use Rattle.yd_held.specs.declared.noting.Lack.{Lack}
use Rattle.yd_held.specs.declared.parts.HeldParts.{HeldParts}
use Rattle.yd_held.specs.Numbered.{IsVectorOf, AreNumbered}
use Rattle.yd_held.specs.Placed.{ArePlaced}
use Rattle.yd_held.specs.Noted.{AreNoted, AreMissing}

-- what was received, the clocks that are reached, the names of the lists, and what is lacked
pub record HeldValue : Type 0 where
  pub received : ReceivedValue
  pub vector : List (Client × ℕ)
  pub names : List DocList
  pub lacks : List Lack

-- how it is seen of its parts
abbrev pub held_value : HeldParts → HeldValue
held_value h = record { received = h.received; vector = h.vector; names = h.names; lacks = h.lacks.items }

-- all is held that can be, and what is in lists are the held operations that are not lost; the vector counts what is held,
-- each place is as the origins ask, with the numbers of the lists; and what waits is noted by what it lacks, which is not held
pub record HoldsAll (k : HeldValue) : Type 0 where
  pub in_order : IsReceived k.received
  pub held : held_of k.received ≡ held_set (taken_of k.received)
  pub stands : listed_of k.received ≡ standing (held_of k.received)
  pub counted : IsVectorOf k.vector k.received
  pub placed : ArePlaced k.received k.names
  pub numbered : AreNumbered k.received k.names
  pub noted : AreNoted k.vector k.received.runs k.lacks [] k.received.entries
  pub missing : AreMissing k.vector k.lacks
