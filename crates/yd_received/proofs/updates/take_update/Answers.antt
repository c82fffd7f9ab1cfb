use Rattle.std.proofs.Common.{arith}
use Rattle.yd_received.proofs.EndLemmas.{end_brings, end_lowers, end_brought, end_back}
use Rattle.yd_received.proofs.updates.take_update.Goals as goal

pub returns-in-Ok-clause-brings : goal.returns-in-Ok-clause-brings
returns-in-Ok-clause-brings c =
    end_brings c.len-count.result c.take_blocks.new.before c.in-Ok.more c.args.runs.now.items c.take_blocks.new.runs.items c.args.taken.now c.take_blocks.new.taken
    c.brought.result _ (rw c.into_vec.ensures at c.in-Ok.ensures.brings) c.brought.ensures

pub returns-in-Ok-clause-lowers : goal.returns-in-Ok-clause-lowers
returns-in-Ok-clause-lowers c =
    end_lowers c.len-count.result c.take_blocks.new.before c.in-Ok.more c.args.runs.now.items c.take_blocks.new.runs.items c.args.taken.now c.take_blocks.new.taken
    c.brought.result _ _ (rw c.into_vec.ensures at c.in-Ok.ensures.lowers) c.brought.ensures

pub returns-in-Ok-clause-brought : goal.returns-in-Ok-clause-brought
returns-in-Ok-clause-brought c =
    end_brought c.len-count.result c.take_blocks.new.before c.in-Ok.more c.args.runs.now.items c.take_blocks.new.runs.items c.args.taken.now c.take_blocks.new.taken
    c.brought.result c.requires.taken (omega (arith, c.len-count.ensures, c.args.runs.now.ok.0)) c.in-Ok.ensures.unchanged c.in-Ok.ensures.backed c.brought.ensures

pub returns-clause-unchanged : goal.returns-clause-unchanged
returns-clause-unchanged c =
    end_back c.len-count.result c.take_blocks.new.before c.args.runs.now.items c.take_blocks.new.runs.items c.args.taken.now c.take_blocks.new.taken c.requires.taken
    (omega (arith, c.len-count.ensures, c.args.runs.now.ok.0)) c.in-Err.ensures.grows c.in-Err.ensures.backed _ _ c.truncate.ensures.items c.back.ensures
