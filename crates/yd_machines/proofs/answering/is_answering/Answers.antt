use Rattle.std.proofs.Common.{subst}
use Rattle.yd_ids.specs.Set.{AreMaximal}
use Rattle.yd_meaning.specs.Document.{AreDeletedIn}
use Rattle.yd_doc.specs.Kept.{own_deletes, own_document}
use Rattle.yd_machines.proofs.answering.is_answering.Goals as goal

pub returns : goal.returns
returns c =
    let replica = c.args.replica.now in
    record {
      received = c.received_is_sound.ensures;
      groupable = c.received_can_be_grouped.ensures;
      deletes = record {
        document = own_document replica;
        is = c.own_document_is_replicas.ensures;
        deletes = subst (λ spans. AreDeletedIn spans (own_document replica)) c.deletes-deletes.ensures.own c.deletes-deletes.ensures.deleted;
      };
      maximal = subst (λ spans. AreMaximal spans) c.deletes-deletes.ensures.own c.spans-spans.ensures.maximal;
    }
