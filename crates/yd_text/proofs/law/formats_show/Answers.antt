use Rattle.yd_text.proofs.ShowingLemmas.{formatted_shown}
use Rattle.yd_text.proofs.law.formats_show.Goals as goal

pub returns : goal.returns
returns c = formatted_shown c.args.before.now c.args.after.now c.own_document_is_replicas.ensures c.own_document_is_replicas-2.ensures c.formats_stand.ensures
