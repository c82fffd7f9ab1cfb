-- What was received stays that of valid updates.
use Rattle.std.proofs.Common.{◌≡◌, List, sym, subst}
use Rattle.yd_ids.specs.declared.id.Span.{Span}
use Rattle.yd_ids.specs.Set.{union_of}
use Rattle.yd_ops.specs.Operation.{Operation}
use Rattle.yd_ops.specs.Valid.{IsValidUpdate}
use Rattle.yd_ops.specs.Value.{UpdateValue}
use Rattle.yd_ops.specs.Deletes.{deletes_of}
use Rattle.yd_ops.specs.ReceivedLaw.{IsReceived}
use Rattle.yd_ops.specs.Received.{Received, with_groups, groups_of, received_after}
use Rattle.yd_ops.proofs.ReceivedLemmas.{after_is_received}

-- what was taken of an update, and named by it, is what is received after it
pub received_is : (r : Received) (update : UpdateValue) (operations : List Operation) (deletes : List Span) →
    operations ≡ with_groups (groups_of update) r.operations → deletes ≡ union_of r.deletes (deletes_of update) →
    ◌≡◌ {A = Received} (record { operations = operations; deletes = deletes }) (received_after r update)
received_is r update operations deletes taken named = λ i. record { operations = taken i; deletes = named i }

pub still_received : (r : Received) (update : UpdateValue) (operations : List Operation) (deletes : List Span) → IsReceived r → IsValidUpdate update →
    operations ≡ with_groups (groups_of update) r.operations → deletes ≡ union_of r.deletes (deletes_of update) →
    IsReceived (record { operations = operations; deletes = deletes })
still_received r update operations deletes is valid taken named =
    subst IsReceived (sym (received_is r update operations deletes taken named)) (after_is_received r update is valid)
