use Rattle.std.proofs.Common.{◌∙◌}
use Rattle.yd_skimming.proofs.BlockWritingLemmas.{block_written}
use Rattle.yd_skimming.proofs.block_writing.write_block.Goals as goal

pub returns : goal.returns
returns c = λ block is holds. block_written block c.in_ok-count.count c.args.body.now c.args.writer.now c.put_number.new.self c.append.new.self
    (c.in_ok-count.ensures.count ∙ is) c.in_ok-put_number.ensures.put c.in_ok-put_number.ensures.spelled c.in_ok-append.ensures.appended holds
