use Rattle.yd_fields.specs.Field.{Fits}
use Rattle.yd_fields.specs.Lent.{lent_struct}
use Rattle.yd_fields.specs.StructPlan.{struct_plan}
use Rattle.yd_parts.proofs.GivenLemmas.{given}
use Rattle.yd_reading.proofs.StructFitLemmas.{EndsAtClock, struct_fits}
use Rattle.yd_reading.proofs.taking.take_struct.Goals as goal

pub take-requires : goal.take-requires
take-requires g c =
    let id = c.args.id in
    let entry = lent_struct c.in_ok-entry.entry in
    let ends = given g.R.FieldReader.field_at g.R.FieldReader.spot_of Fits g.R.FieldReader.is_sound (EndsAtClock id.client id.clock) (struct_plan id.client id.clock) c.args.reader.now entry c.read_lent.new.reader
    c.reads_soundly.ensures.fits (struct_fits id.client id.clock) c.reads_soundly.ensures.sound c.in_ok-entry.ensures.given in
    record { client = c.requires; is_struct = ends.0; end = ends.1 }
