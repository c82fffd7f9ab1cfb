-- A peer whose replica is lent to be edited.
use Rattle.std.specs.Borrow.{Fml, Lends, MutBor}
use Rattle.yd_doc.specs.Kept.{Kept}
use Rattle.yd_doc.specs.contracts.replica.Replica as replica
use Rattle.yd_machines.specs.declared.peer.Peer.{Peer}
use Rattle.yd_machines.specs.contracts.peer.Peer.{the_row}

-- the peer with another replica
abbrev pub with_replica : Peer → Kept → Peer
with_replica peer kept = record peer { replica = kept }

-- the peer ends with its replica as it is left behind the reference, and all else as it was
abbrev pub LendsReplica : MutBor Peer → MutBor Kept → Fml
LendsReplica peer lent = Lends the_row replica.the_row peer lent (with_replica peer.now)
