use Rattle.yd_ops.specs.View.{run_value}
use Rattle.yd_listing.proofs.WalkLemmas.{told_lent, told_len}
use Rattle.yd_listing.proofs.lent.lent_run.Goals as goal

pub returns-clause-units : goal.returns-clause-units
returns-clause-units c = told_lent c.args.store.now c.args.place (run_value c.in-Some.run'.now) c.is_deleted-deleted.result c.in-Some.ensures c.is_deleted-deleted.ensures

pub returns-clause-len : goal.returns-clause-len
returns-clause-len c = told_len c.args.store.now c.args.place (run_value c.in-Some.run'.now) c.len.result c.requires.sound c.requires.place c.in-Some.ensures c.len.ensures
