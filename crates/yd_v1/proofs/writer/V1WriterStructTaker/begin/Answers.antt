use Rattle.yd_reading.specs.Taking.{counted}
use Rattle.yd_reading.proofs.SectionLemmas.{section_written}
use Rattle.yd_v1.proofs.writer.V1WriterStructTaker.begin.Goals as goal

pub returns : goal.returns
returns c = section_written (counted c.args.blocks) (record { written = c.in_ok-put_number.ensures.put; spelled = (c.in_ok-put_number.ensures.spelled, tt) })
