use Rattle.std.proofs.Common.{subst}
use Rattle.yd_meaning.specs.Replica.{IsReplicaDocument}
use Rattle.yd_doc.specs.Kept.{received_of, own_document}
use Rattle.yd_state.proofs.LentLemmas.{document_replica}
use Rattle.yd_doc.proofs.law.own_document_is_replicas.Goals as goal

pub returns : goal.returns
returns c = subst (λ r. IsReplicaDocument (own_document r) (received_of r)) c.replica.view_is (document_replica c.replica.inside.state c.replica.invariant.sound)
