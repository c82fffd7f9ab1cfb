use Rattle.yd_fields.specs.Field as field
use Rattle.yd_fields.proofs.WritesLemmas.{writes_more}
use Rattle.yd_reading.specs.Taking.{headed}
use Rattle.yd_reading.proofs.SectionLemmas.{section_written}
use Rattle.yd_v1.proofs.writer.V1WriterStructTaker.begin_block.Goals as goal

pub returns : goal.returns
returns c =
    section_written (headed c.args.id c.args.structs)
    (writes_more (field.number, c.args.structs) c.args.self.now c.in_ok-put_number.ensures.put c.in_ok-put_number.ensures.spelled
    (writes_more (field.client, c.args.id.client.0) c.put_number.new.self c.in_ok-put_client.ensures.put c.in_ok-put_client.ensures.spelled
    (record { written = c.in_ok-put_number-2.ensures.put; spelled = (c.in_ok-put_number-2.ensures.spelled, tt) })))
