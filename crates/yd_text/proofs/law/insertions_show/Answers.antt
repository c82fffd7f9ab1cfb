use Rattle.yd_text.proofs.ShowingLemmas.{inserted_shown}
use Rattle.yd_text.proofs.law.insertions_show.Goals as goal

pub returns : goal.returns
returns c = inserted_shown c.args.before.now c.args.after.now c.own_document_is_replicas.ensures c.own_document_is_replicas-2.ensures c.inserts_stand.ensures
