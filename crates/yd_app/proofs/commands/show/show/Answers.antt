use Rattle.std.proofs.Common.{◌∙◌, [], ◌∷◌, ◌++◌, map, ap}
use Rattle.yd_doc.specs.Kept.{own_document, received_of}
use Rattle.yd_ops.specs.View.{update_value}
use Rattle.yd_ops.specs.Received.{received_set}
use Rattle.yd_files.specs.Seen.{inputs_of}
use Rattle.yd_app.proofs.MakingLemmas.{made_of_document}
use Rattle.yd_app.proofs.commands.show.show.Goals as goal

pub returns : goal.returns
returns c =
    let replica = c.in_ok-replica.replica in
    made_of_document c.args.mode c.args.root.now (inputs_of c.args.inputs) (received_of replica) (own_document replica) c.push.new.self.items
    (c.in_ok-replica.ensures.received ∙ ap (λ us. received_set (map update_value us)) c.into_vec.ensures) c.own_document_is_replicas.ensures
    (c.in_ok-push.ensures.items ∙ ap (λ bytes. bytes ++ 10 ∷ []) c.in_ok-line.ensures)
