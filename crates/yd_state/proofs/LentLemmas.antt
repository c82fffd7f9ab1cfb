-- The document that a state has is one that a replica may have of what it received.
use Rattle.std.proofs.Common.{List, subst}
use Rattle.yd_words.specs.Member.{IsIn}
use Rattle.yd_ops.specs.declared.lists.List.{List as DocList}
use Rattle.yd_ops.specs.Operation.{Operation}
use Rattle.yd_meaning.specs.Held.{is_named}
use Rattle.yd_meaning.proofs.StandingLemmas.{standing_in}
use Rattle.yd_meaning.specs.Own.{IsOwnDocument}
use Rattle.yd_meaning.specs.Replica.{IsReplicaDocument}
use Rattle.yd_meaning.proofs.ReplicaLemmas.{own_is}
use Rattle.yd_entries.specs.Entries.{is_held}
use Rattle.yd_held.proofs.HeldEntryLemmas.{chosen_received}
use Rattle.yd_held.proofs.HoldingLemmas.{is_written}
use Rattle.yd_held.proofs.KeptLemmas.{holds_holding}
use Rattle.yd_state.specs.State.{StateValue, received_in, held_in, document_in, IsSound}

-- ---- lemmas for callers

pub document_replica : (s : StateValue) → IsSound s → IsReplicaDocument (document_in s) (received_in s)
document_replica s sound = own_is (received_in s) sound.received.written (document_in s)
    (subst (λ (os : List Operation). IsOwnDocument (document_in s) os (is_named s.named)) sound.holds.held sound.own)

-- its units are received
pub units_received : (s : StateValue) → IsSound s → (list : DocList) (o : Operation) → IsIn o ((document_in s).units list) → IsIn o (received_in s).operations
units_received s sound list o i = chosen_received is_held s.held.received sound.holds.in_order o
    (standing_in (held_in s) (is_written s.held (holds_holding s.held sound.holds)) o (sound.own.lists.as_held list o i)).0
