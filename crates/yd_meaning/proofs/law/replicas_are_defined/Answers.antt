use Rattle.yd_meaning.proofs.ReplicaLemmas.{defined_is, own_is, documents_are_one}
use Rattle.yd_meaning.proofs.law.replicas_are_defined.Goals as goal

pub returns : goal.returns
returns c = record { defined = defined_is; own = own_is; one = documents_are_one }
