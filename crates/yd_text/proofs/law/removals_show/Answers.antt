use Rattle.yd_text.proofs.KeyShowingLemmas.{unset_shown}
use Rattle.yd_text.proofs.law.removals_show.Goals as goal

pub returns : goal.returns
returns c = unset_shown c.args.before.now c.args.after.now c.own_document_is_replicas.ensures c.own_document_is_replicas-2.ensures c.unsets_stand.ensures
