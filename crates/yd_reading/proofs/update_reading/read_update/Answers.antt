use Rattle.std.proofs.Common.{arith, rules}
use Rattle.yd_fields.specs.Field as field
use Rattle.yd_fields.specs.Field.{Fits}
use Rattle.yd_reading.specs.ReadView.{no_blocks}
use Rattle.yd_fields.specs.UpdatePlan.{blocks_step}
use Rattle.yd_parts.proofs.GivenLemmas.{keeps}
use Rattle.yd_parts.specs.Plan.{repeated}
use Rattle.yd_reading.proofs.UpdateFitLemmas.{update_read_valid}
use Rattle.yd_reading.proofs.UpdatePlanLemmas.{read_update_plan}
use Rattle.yd_reading.proofs.update_reading.read_update.Goals as goal

pub read_deletes-requires : goal.read_deletes-requires
read_deletes-requires g c =
    let fits = c.reads_soundly.ensures.fits in
    let counted = fits field.number c.args.reader.now c.in_ok-count.count c.get_number.new.self c.reads_soundly.ensures.sound c.in_ok-count.ensures.given in
    let read = keeps g.R.FieldReader.field_at g.R.FieldReader.spot_of Fits g.R.FieldReader.is_sound (repeated blocks_step c.in_ok-count.count (no_blocks c.most_structs-most.result)) c.get_number.new.self _ c.read_blocks.new.reader fits counted.1 c.in_ok-read.ensures in
    search (rules, read)

pub returns-clause-valid : goal.returns-clause-valid
returns-clause-valid g c =
    update_read_valid g.R.FieldReader.field_at g.R.FieldReader.spot_of g.R.FieldReader.is_sound (g.R.FieldReader.most_of c.args.reader.now) c.args.reader.now _ c.read_deletes.new.reader
    c.reads_soundly.ensures.fits c.reads_soundly.ensures.sound (grind (arith, read_update_plan))
