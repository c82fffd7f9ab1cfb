use Rattle.yd_ops.proofs.AgreementLemmas.{received_one, received_merged}
use Rattle.yd_ops.proofs.law.received_is_one.Goals as goal

pub returns : goal.returns
returns c = record { any_order = received_one; merged = received_merged }
