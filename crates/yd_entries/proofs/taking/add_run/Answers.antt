use Rattle.std.proofs.Common.{refl}
use Rattle.std.proofs.lemmas.Bool.{OnTrue_at}
use Rattle.yd_ops.specs.View.{run_value}
use Rattle.yd_entries.proofs.WholeRunLemmas.{whole_is_new}
use Rattle.yd_entries.proofs.taking.add_run.Goals as goal

pub returns-then-ids-len-clause-says : goal.returns-then-ids-len-clause-says
returns-then-ids-len-clause-says c = (
  (λ yes. whole_is_new c.args.is_gone (run_value c.args.run) c.args.runs.now.items c.args.taken.now c.ids_from-ids.result.at c.requires.taken c.requires.run
      (rw (c.if-ids-len.true, c.len-len.ensures) at (OnTrue_at c.if-ids.true c.ids_from-ids.ensures.new))),
  (λ adds. refl),
)
