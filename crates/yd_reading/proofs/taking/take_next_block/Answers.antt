use Rattle.std.proofs.Common.{refl, sym, ◌∙◌}
use Rattle.yd_fields.specs.Field as field
use Rattle.yd_reading.proofs.BlockPlanLemmas.{read_blocks_step}
use Rattle.yd_reading.proofs.taking.take_next_block.Goals as goal

pub take_block-requires : goal.take_block-requires
take_block-requires g c κs = ((refl, tt), (c.reads_soundly.ensures.fits field.number c.args.reader.now c.in_ok-count.count c.get_number.new.self c.reads_soundly.ensures.sound c.in_ok-count.ensures.given).0)

pub returns-clause-took : goal.returns-clause-took
returns-clause-took g c =
    let took = c.in_ok-take_block.ensures.took in
    let allowed = sym c.may_declare.ensures ∙ c.if-not-may_declare.false in
    record {
      block = took.block;
      is_read = λ before. rw (read_blocks_step g.R.FieldReader.field_at g.R.FieldReader.spot_of (record { most = c.args.most; blocks = before }) c.args.reader.now, c.in_ok-count.ensures.given, allowed, took.is_read, c.still_declared.ensures) refl;
      taken = took.taken;
    }
