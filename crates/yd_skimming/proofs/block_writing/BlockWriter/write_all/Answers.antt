use Rattle.std.proofs.Common.{◌∙◌}
use Rattle.yd_skimming.proofs.BlockWritingLemmas.{counted_all, counted_none}
use Rattle.yd_skimming.proofs.block_writing.BlockWriter.write_all.Goals as goal

pub returns-in-None : goal.returns-in-None
returns-in-None c = λ blocks written. counted_none c.args.self.now blocks c.args.all.now c.put_number.new.self c.in-None.is
    c.in_ok-put_number-in-None.ensures.put c.in_ok-put_number-in-None.ensures.spelled written

pub returns : goal.returns
returns c = λ blocks written. counted_all c.args.self.now c.in-Some.last blocks c.in_ok-count.count c.args.all.now c.put_number-2.new.self c.append.new.self c.write_block.new.writer c.in-Some.is
    (c.in_ok-count.ensures.count ∙ c.in_ok-one_more.ensures) c.in_ok-put_number.ensures.put c.in_ok-put_number.ensures.spelled c.in_ok-append.ensures.appended c.in_ok-write_block.ensures written
