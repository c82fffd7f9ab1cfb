-- What an edit does to a replica.
use Rattle.std.specs.Prelude.{◌≡◌, ◌⊎◌, List, None}
use Rattle.yd_words.specs.Each.{Each}
use Rattle.yd_ops.specs.Valid.{IsValidUpdate}
use Rattle.yd_ops.specs.declared.lists.List.{List as DocList}
use Rattle.yd_ops.specs.Operation.{operations_of}
use Rattle.yd_ops.specs.Value.{UpdateValue}
use Rattle.yd_ops.specs.Received.{received_after}
use Rattle.yd_meaning.specs.Held.{standing}
use Rattle.yd_meaning.specs.Grown.{IsGrown}
use Rattle.yd_meaning.specs.Own.{ids_in}
use Rattle.yd_editing.specs.Basis.{Basis}
use Rattle.yd_editing.specs.Law.{MakesContent}
use Rattle.yd_editing.specs.Made.{update_of_edit}
use Rattle.yd_editing.specs.Refused.{refusal_of}
use Rattle.yd_editing.specs.Step.{Step}
use Rattle.yd_making.specs.Given.{basis_in}
use Rattle.yd_state.specs.State.{held_in}
use Rattle.yd_received.specs.Received.{LowersOne}
use Rattle.yd_state.specs.Growing.{GrowsTo, LosesNone, Grows}
use Rattle.yd_doc.specs.Kept.{Kept, received_of, own_document}

-- what an edit reads of a replica: its client, its own document, and what it holds
abbrev pub own_basis : Kept → Basis
own_basis r = basis_in r.client r.state

-- the update is the one that the steps make: they are not refused, and it is valid
pub record IsPrepared (r : Kept) (steps : List Step) (update : UpdateValue) : Type 0 where
  pub accepted : refusal_of (own_basis r) steps ≡ None
  pub made : update ≡ update_of_edit (own_basis r) steps
  pub valid : IsValidUpdate update

-- where no unit of a list is lost, each list of a replica grew by scans from what it was; a unit is lost only where the update
-- says less of something
pub record GrowsUnlessLost (update : UpdateValue) (old new : Kept) : Type 0 where
  pub grows : Grows old.state new.state
  pub loses : LosesNone old.state new.state ⊎ LowersOne (operations_of update) (received_of old).operations

-- each list of a replica's own document grew by scans, from nothing
abbrev pub HasGrownLists : Kept → Type 0
HasGrownLists r = (list : DocList) → IsGrown (standing (held_in r.state)) list (ids_in (own_document r) list)

-- the replica has taken an update, and is behind or not as it was
pub record IsCommitted (old new : Kept) (update : UpdateValue) : Type 0 where
  pub received : received_of new ≡ received_after (received_of old) update
  pub client : new.client ≡ old.client
  pub is_behind : new.is_behind ≡ old.is_behind
  pub grows : GrowsUnlessLost update old new

-- the steps were carried out: they are not refused, the update is valid and the one that they make on what was there, and the
-- replica has taken it
pub record IsEdit (old new : Kept) (steps : List Step) (update : UpdateValue) : Type 0 where
  pub accepted : refusal_of (own_basis old) steps ≡ None
  pub made : update ≡ update_of_edit (own_basis old) steps
  pub valid : IsValidUpdate update
  pub received : received_of new ≡ received_after (received_of old) update
  pub client : new.client ≡ old.client
  pub is_behind : new.is_behind ≡ old.is_behind
  pub grows : GrowsUnlessLost update old new

-- an edit says less of nothing, so no unit is lost: each list of the replica grew by scans from what it was
abbrev pub EditsGrow : Kept → Type 0
EditsGrow old = (new : Kept) (steps : List Step) (update : UpdateValue) → Each MakesContent steps → IsEdit old new steps update →
    GrowsTo (held_in new.state) (own_document old) (own_document new)
