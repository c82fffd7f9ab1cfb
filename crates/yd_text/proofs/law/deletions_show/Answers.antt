use Rattle.yd_text.proofs.ShowingLemmas.{deleted_shown}
use Rattle.yd_text.proofs.law.deletions_show.Goals as goal

pub returns : goal.returns
returns c = deleted_shown c.args.before.now c.args.after.now c.own_document_is_replicas.ensures c.own_document_is_replicas-2.ensures c.deletes_stand.ensures
