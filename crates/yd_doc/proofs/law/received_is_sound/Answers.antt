use Rattle.std.proofs.Common.{subst}
use Rattle.yd_ops.specs.ReceivedLaw.{IsReceived}
use Rattle.yd_doc.specs.Kept.{Kept, received_of}
use Rattle.yd_doc.proofs.law.received_is_sound.Goals as goal

pub returns : goal.returns
returns c = subst (λ (k : Kept). IsReceived (received_of k)) c.replica.view_is c.received-received.ensures.sound.received
