use Rattle.yd_ops.proofs.ReceivedLemmas.{nothing_is_received, after_is_received}
use Rattle.yd_ops.proofs.law.received_keeps_pairs.Goals as goal

pub returns : goal.returns
returns c = record { start = nothing_is_received; step = after_is_received }
