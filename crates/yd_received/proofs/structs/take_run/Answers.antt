use Rattle.std.proofs.Common.{sym, ◌∙◌}
use Rattle.yd_ops.specs.View.{run_value, content_value}
use Rattle.yd_entries.proofs.SpelledLemmas.{full_content}
use Rattle.yd_received.proofs.LoweringLemmas.{keeps_none}
use Rattle.yd_received.proofs.StructLemmas.{full_takes, full_brings}
use Rattle.yd_received.proofs.structs.take_run.Goals as goal

pub returns-clause-taken : goal.returns-clause-taken
returns-clause-taken c =
    full_takes c.args.runs.now.items c.args.taken.now (run_value c.args.run) c.requires.taken c.requires.run
    (full_content (content_value c.args.run.content) (sym c.is_deleted.ensures ∙ c.if-is_deleted.false)) c.add_run.new.runs.items c.add_run.new.taken c.in_ok-brings-2.ensures.added
    c.in_ok-brings-2.ensures.grows c.in_ok-brings-2.ensures.adds

pub returns-clause-brings : goal.returns-clause-brings
returns-clause-brings c =
    full_brings c.args.runs.now.items c.args.taken.now (run_value c.args.run) c.requires.taken c.requires.run
    (full_content (content_value c.args.run.content) (sym c.is_deleted.ensures ∙ c.if-is_deleted.false)) c.in_ok-brings-2.brings c.in_ok-brings-2.ensures.says

pub returns-clause-lowers : goal.returns-clause-lowers
returns-clause-lowers c = keeps_none c.args.before.now _ _
