use Rattle.std.proofs.Common.{◌≡◌, [], ◌∷◌, Ok, refl, sym, rules}
use Rattle.yd_ops.specs.Value as ops
use Rattle.yd_fields.specs.Field as field
use Rattle.yd_fields.specs.Field.{Fits}
use Rattle.yd_fields.specs.UpdatePlan.{blocks_step, update_plan}
use Rattle.yd_parts.specs.Plan.{read_by, repeated}
use Rattle.yd_parts.proofs.GivenLemmas.{keeps}
use Rattle.yd_reading.specs.ReadView.{no_blocks}
use Rattle.yd_reading.specs.Taking.{counted, sections_of_blocks}
use Rattle.yd_reading.proofs.SectionLemmas.{taken_then}
use Rattle.yd_reading.proofs.UpdateFitLemmas.{update_read_valid}
use Rattle.yd_reading.proofs.UpdatePlanLemmas.{read_update_plan}
use Rattle.yd_reading.proofs.taking.take_update.Goals as goal

pub begin-requires : goal.begin-requires
begin-requires g c = (c.reads_soundly.ensures.fits field.number c.args.reader.now c.in_ok-count.count c.get_number.new.self c.reads_soundly.ensures.sound c.in_ok-count.ensures.given).0

pub read_deletes-requires : goal.read_deletes-requires
read_deletes-requires g c =
    let fits = c.reads_soundly.ensures.fits in
    let counted = fits field.number c.args.reader.now c.in_ok-count.count c.get_number.new.self c.reads_soundly.ensures.sound c.in_ok-count.ensures.given in
    let read = keeps g.R.FieldReader.field_at g.R.FieldReader.spot_of Fits g.R.FieldReader.is_sound (repeated blocks_step c.in_ok-count.count (no_blocks c.most_structs-most.result)) c.get_number.new.self _ c.take_blocks.new.reader fits counted.1 c.in_ok-take_blocks.ensures.took.is_read in
    search (rules, read)

pub returns-clause-took : goal.returns-clause-took
returns-clause-took g c =
    let blocks = c.in_ok-take_blocks.ensures.took in
    let u : ops.UpdateValue = record { blocks = blocks.blocks; deletes = c.in_ok-deletes.deletes } in
    let took = g.T.StructTaker.took in
    let read : read_by g.R.FieldReader.field_at g.R.FieldReader.spot_of (update_plan (g.R.FieldReader.most_of c.args.reader.now)) c.args.reader.now ≡ Ok (u, c.read_deletes.new.reader) =
    rw (read_update_plan g.R.FieldReader.field_at g.R.FieldReader.spot_of (g.R.FieldReader.most_of c.args.reader.now) c.args.reader.now, c.in_ok-count.ensures.given, sym c.most_structs-most.ensures, blocks.is_read, c.in_ok-deletes.ensures) refl in
    record {
      update = u;
      is_read = read;
      valid = update_read_valid g.R.FieldReader.field_at g.R.FieldReader.spot_of g.R.FieldReader.is_sound (g.R.FieldReader.most_of c.args.reader.now) c.args.reader.now u c.read_deletes.new.reader
          c.reads_soundly.ensures.fits c.reads_soundly.ensures.sound read;
      deletes_are = refl;
      taken = rw blocks.len (taken_then (took c.args.taker.now) (took c.begin.new.self) (took c.take_blocks.new.taker) (counted c.in_ok-count.count ∷ []) (sections_of_blocks blocks.blocks) c.in_ok-begin.ensures blocks.taken);
    }
