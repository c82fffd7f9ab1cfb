use Rattle.std.proofs.Common.{ap, ◌∙◌}
use Rattle.yd_meaning.specs.Held.{waiting_counts}
use Rattle.yd_doc.specs.Kept.{received_of}
use Rattle.yd_doc.proofs.replica.Replica.waiting.Goals as goal

pub returns : goal.returns
returns c = (λ i. record { structs = c.waiting_units.ensures i; deletes = c.waiting_ids.ensures i }) ∙ ap (λ r. waiting_counts (received_of r)) c.self.view_is
