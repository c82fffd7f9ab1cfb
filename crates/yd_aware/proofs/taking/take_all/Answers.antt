use Rattle.std.proofs.Common.{sym, ◌∙◌, subst}
use Rattle.yd_sync.specs.Table.{AreRows}
use Rattle.yd_sync.proofs.RowLemmas.{after_entry_rows}
use Rattle.yd_aware.proofs.TakingLemmas.{after_step, taken_step}
use Rattle.yd_aware.proofs.taking.take_all.Goals as goal

pub loop-entry-preserved : goal.loop-entry-preserved
loop-entry-preserved c = record {
  ascend = subst AreRows (sym c.in-Ok.ensures.after)
      (after_entry_rows c.args.own c.args.arrival.moment c.args.arrival.source c.entry-item.result c.loop-entry.rows.entries c.loop-entry.invariant.ascend);
  after =
      after_step c.args.own c.args.arrival.moment c.args.arrival.source c.args.entries.now c.loop-entry.entry-index c.entry-item.result
      c.loop-entry.rows.entries c.take_entry.new.rows.entries c.loop-entry-test.true c.entry-item.is c.in-Ok.ensures.after
      ∙ c.loop-entry.invariant.after;
  taken =
      taken_step c.args.own c.args.arrival.moment c.args.arrival.source c.args.entries.now c.loop-entry.entry-index c.entry-item.result
      c.loop-entry.rows.entries c.take_entry.new.rows.entries c.loop-entry.taken c.take_entry.new.taken c.loop-entry-test.true c.entry-item.is
      c.in-Ok.ensures.after c.in-Ok.ensures.taken
      ∙ c.loop-entry.invariant.taken;
  kept = c.in-Ok.ensures.kept ∙ c.loop-entry.invariant.kept;
}
