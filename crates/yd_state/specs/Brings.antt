-- What an update brings that was not received before (own).
use Rattle.std.specs.Prelude.{◌⊎◌, List}
use Rattle.yd_ids.specs.declared.id.Id.{Id}
use Rattle.yd_ids.specs.declared.id.Span.{Span}
use Rattle.yd_ids.specs.Set.{HasId}
use Rattle.yd_ops.specs.Value.{UpdateValue}
use Rattle.yd_ops.specs.Received.{Received}
use Rattle.yd_ops.specs.Deletes.{deletes_of}
use Rattle.yd_entries.specs.Taking.{BringsOperation}

-- the id is deleted by name, or it is one of the deleted ids that are told
abbrev pub KnowsDeleted : Received → List Span → Id → Type 0
KnowsDeleted r deletes x = HasId r.deletes x ⊎ HasId deletes x

-- not each id that the update deletes by name is known so
abbrev pub BringsUnknownDeletion : UpdateValue → Received → List Span → Type 0
BringsUnknownDeletion update r deletes = ((x : Id) → HasId (deletes_of update) x → KnowsDeleted r deletes x) → ⊥

-- the update has an operation whose id was not received or that says less than the received one, or it deletes an id that
-- was neither in the own delete set nor waiting
abbrev pub BringsUnknown : UpdateValue → Received → List Span → Type 0
BringsUnknown update r deletes = BringsOperation update r.operations ⊎ BringsUnknownDeletion update r deletes
