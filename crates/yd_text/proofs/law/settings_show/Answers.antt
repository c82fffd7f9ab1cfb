use Rattle.yd_text.proofs.KeyShowingLemmas.{set_shown}
use Rattle.yd_text.proofs.law.settings_show.Goals as goal

pub returns : goal.returns
returns c = set_shown c.args.before.now c.args.after.now c.own_document_is_replicas.ensures c.own_document_is_replicas-2.ensures c.sets_stand.ensures
