use Rattle.yd_ops.specs.View.{run_value}
use Rattle.yd_entries.proofs.BackedLemmas.{backed_adds, backed_grown}
use Rattle.yd_received.proofs.StructLemmas.{less_taken, less_brings, less_keeps}
use Rattle.yd_received.proofs.structs.take_less.Goals as goal

pub returns-clause-taken : goal.returns-clause-taken
returns-clause-taken c =
    less_taken c.args.is_gone c.args.runs.now.items c.args.taken.now (run_value c.args.run) c.requires.taken c.requires.run c.requires.deleted
    c.add_run.new.runs.items c.add_run.new.taken c.in_ok-adds.ensures.added c.in_ok-lowers.lowers c.lower.new.runs.items c.lower.new.taken
    (rw (c.len-len.ensures, c.level_from-level.ensures) at c.in_ok-lowers.ensures.says) (rw (c.len-len.ensures, c.level_from-level.ensures) at c.in_ok-lowers.ensures.lowered)
    c.in_ok-lowers.ensures.unchanged c.in_ok-adds.ensures.grows c.in_ok-adds.ensures.adds c.in_ok-lowers.ensures.places

pub returns-clause-brings : goal.returns-clause-brings
returns-clause-brings c =
    less_brings c.args.is_gone c.args.runs.now.items c.args.taken.now (run_value c.args.run) c.requires.taken c.requires.run c.requires.deleted
    c.add_run.new.runs.items c.add_run.new.taken c.in_ok-adds.ensures.added c.in_ok-adds.adds c.in_ok-lowers.lowers c.in_ok-adds.ensures.says
    (rw (c.len-len.ensures, c.level_from-level.ensures) at c.in_ok-lowers.ensures.says)

pub returns-clause-backed : goal.returns-clause-backed
returns-clause-backed c =
    backed_grown c.args.runs.now.items c.add_run.new.runs.items c.args.before.now c.args.before.now c.lower.new.before c.args.taken.now c.add_run.new.taken c.lower.new.taken
    c.in_ok-adds.ensures.grows (backed_adds _ c.args.before.now c.args.taken.now c.add_run.new.taken c.in_ok-adds.ensures.adds) c.in_ok-lowers.ensures.backed

pub returns-clause-lowers : goal.returns-clause-lowers
returns-clause-lowers c =
    less_keeps c.args.is_gone c.args.runs.now.items c.args.taken.now (run_value c.args.run) c.requires.taken c.requires.run c.requires.deleted
    c.add_run.new.runs.items c.add_run.new.taken c.in_ok-adds.ensures.added c.in_ok-lowers.lowers c.args.before.now c.lower.new.before
    (rw (c.len-len.ensures, c.level_from-level.ensures) at c.in_ok-lowers.ensures.says) c.in_ok-lowers.ensures.aside
