use Rattle.yd_fields.specs.Lent.{lent_struct}
use Rattle.yd_reading.specs.Taking.{placed}
use Rattle.yd_reading.proofs.SectionLemmas.{section_written}
use Rattle.yd_v1.proofs.writer.V1WriterStructTaker.take.Goals as goal

pub returns : goal.returns
returns c = section_written (placed c.args._id (lent_struct c.args.entry.now)) c.in_ok-write_lent.ensures
