use Rattle.yd_ops.proofs.GroupLemmas.{deletes_of-ids}
use Rattle.yd_ops.proofs.AgreementLemmas.{received_is, received_deletes}
use Rattle.yd_ops.proofs.law.received_is_all.Goals as goal

pub returns : goal.returns
returns c = record { operations = received_is; deletes = λ updates valid. received_deletes updates; named = deletes_of-ids }
