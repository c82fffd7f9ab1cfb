use Rattle.yd_restoring.proofs.MapUndoneLemmas.{set_undone}
use Rattle.yd_restoring.proofs.law.settings_are_undone.Goals as goal

pub returns : goal.returns
returns c = set_undone c.args.before.now c.args.between.now c.args.after.now c.keys_are_undone.ensures
