use Rattle.std.proofs.Common.{arith}
use Rattle.yd_ops.specs.View.{run_value}
use Rattle.yd_entries.proofs.FirstLemmas.{adds_none, adds_more}
use Rattle.yd_entries.proofs.StepLemmas.{walk_known, walk_on, walk_ends, kept_grown}
use Rattle.yd_entries.proofs.TakenLemmas.{taken_units}
use Rattle.yd_entries.proofs.taking.add_rest.Goals as goal

pub loop-from-init : goal.loop-from-init
loop-from-init c = (
  walk_known c.args.is_gone (run_value c.args.run.now) c.args.runs.now.items c.args.taken.now c.args.known c.requires.taken c.requires.bound c.requires.known,
  c.requires.kept,
  adds_none c.args.index c.args.taken.now,
)

pub add_next-requires-clause-each : goal.add_next-requires-clause-each
add_next-requires-clause-each c = taken_units c.loop-from.runs.items c.loop-from.taken c.loop-from.invariant.0.each

pub loop-from-preserved : goal.loop-from-preserved
loop-from-preserved c = (
  walk_on c.args.is_gone (run_value c.args.run.now) c.args.runs.now.items c.args.taken.now c.loop-from.runs.items c.loop-from.taken c.loop-from.from c.in_ok-from.from c.requires.run
      c.loop-from.invariant.0 c.in_ok-from.ensures.bound.0 c.in_ok-from.ensures.bound.1 _ _ c.in_ok-from.ensures.taken,
  kept_grown c.loop-from.runs.items _ c.args.index (run_value c.args.run.now) c.add_next.ensures.grows c.loop-from.invariant.1,
  adds_more c.args.index c.args.index c.args.taken.now c.loop-from.taken _ (omega arith) c.loop-from.invariant.2 c.add_next.ensures.adds,
)

pub returns-clause-added : goal.returns-clause-added
returns-clause-added c =
    walk_ends c.args.is_gone (run_value c.args.run.now) c.args.runs.now.items c.args.taken.now c.loop-from.runs.items c.loop-from.taken c.loop-from.from
    c.loop-from.invariant.0 (omega arith)
