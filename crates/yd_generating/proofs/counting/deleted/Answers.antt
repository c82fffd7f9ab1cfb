use Rattle.std.proofs.Common.{List, ◌∙◌, ap}
use Rattle.yd_ids.specs.declared.id.Span.{Span}
use Rattle.yd_meaning.specs.Held.{count_of_ids}
use Rattle.yd_generating.proofs.ReplicaLemmas.{deletes_defined}
use Rattle.yd_generating.proofs.counting.deleted.Goals as goal

pub returns : goal.returns
returns c = c.count_ids.ensures.count ∙ ap (λ (spans : List Span). count_of_ids spans)
    (deletes_defined c.args.replica.now c.requires c.own_document_is_replicas.ensures c.deletes.result.now c.count_ids.ensures.maximal c.deletes.ensures.deleted)
