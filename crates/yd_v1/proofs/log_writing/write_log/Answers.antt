use Rattle.std.proofs.Common.{◌≤◌, length, List, ℕ, map, subst, sym, arith}
use Rattle.yd_ops.specs.View.{update_value}
use Rattle.yd_v1.specs.Log.{StandsForLog}
use Rattle.yd_v1.proofs.LogWrittenLemmas.{valid_at, written_all, written_more}
use Rattle.yd_v1.proofs.log_writing.write_log.Goals as goal

pub write_entry-requires : goal.write_entry-requires
write_entry-requires c = valid_at c.args.updates.now c.loop-update.update-index c.update-item.result c.loop-update-test.true c.update-item.is c.requires

pub loop-update-preserved : goal.loop-update-preserved
loop-update-preserved c =
    let done = c.in_ok-write_entry.ensures in
    written_more c.args.updates.now c.loop-update.update-index c.update-item.result c.loop-update.log c.write_entry.new.log c.loop-update-test.true c.update-item.is c.loop-update.invariant done.appended done.again

pub returns-clause-read_again : goal.returns-clause-read_again
returns-clause-read_again c =
    let all : length c.args.updates.now ≤ c.loop-update.update-index = omega (arith, c.loop-update-test.false, c.loop-update.auto.update-index-end) in
    subst (λ (l : List ℕ). StandsForLog l (map update_value c.args.updates.now)) (sym c.into_vec.ensures) (written_all c.args.updates.now c.loop-update.update-index c.loop-update.log all c.loop-update.invariant)
