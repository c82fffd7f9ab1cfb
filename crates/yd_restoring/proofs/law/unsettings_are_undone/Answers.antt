use Rattle.yd_restoring.proofs.MapUndoneLemmas.{unset_undone}
use Rattle.yd_restoring.proofs.law.unsettings_are_undone.Goals as goal

pub returns : goal.returns
returns c = unset_undone c.args.before.now c.args.between.now c.args.after.now c.keys_are_undone.ensures
