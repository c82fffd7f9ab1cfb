use Rattle.std.proofs.Common.{ℕ, List, ◌∙◌, ap}
use Rattle.yd_doc.specs.Kept.{own_deletes, received_of}
use Rattle.yd_ids.specs.declared.id.Client.{Client}
use Rattle.yd_ids.specs.Vector.{clock_of}
use Rattle.yd_grouping.specs.Merged.{reply_of}
use Rattle.yd_serving.proofs.updates.all_of.Goals as goal

pub returns-clause-all : goal.returns-clause-all
returns-clause-all c =
    let replica = c.args.replica.now in
    record {
      own = own_deletes replica;
      deletes = c.is_answering.ensures.deletes;
      is = c.in_ok-reply.ensures.replies ∙ ap (λ (vector : List (Client × ℕ)). reply_of (received_of replica) (own_deletes replica) (clock_of vector)) c.new.ensures;
    }
