use Rattle.std.proofs.Common.{[], ◌∷◌, refl}
use Rattle.yd_ids.specs.declared.id.Id.{Id}
use Rattle.yd_fields.specs.Field as field
use Rattle.yd_reading.specs.Taking.{headed, sections_of_structs}
use Rattle.yd_reading.proofs.BlockPlanLemmas.{read_block_plan}
use Rattle.yd_reading.proofs.SectionLemmas.{taken_then}
use Rattle.yd_reading.proofs.taking.take_block.Goals as goal

pub begin_block-requires : goal.begin_block-requires
begin_block-requires g c =
    let client = c.reads_soundly.ensures.fits field.client c.args.reader.now c.in_ok-client.client c.get_client.new.self c.reads_soundly.ensures.sound c.in_ok-client.ensures.given in
    let clock = c.reads_soundly.ensures.fits field.number c.get_client.new.self c.in_ok-clock.clock c.get_number.new.self client.1 c.in_ok-clock.ensures.given in
    record { client = client.0; clock = clock.0; structs = c.requires }

pub take_structs-requires : goal.take_structs-requires
take_structs-requires g c κs = ((refl, tt), (c.reads_soundly.ensures.fits field.client c.args.reader.now c.in_ok-client.client c.get_client.new.self c.reads_soundly.ensures.sound c.in_ok-client.ensures.given).0)

pub returns-clause-took : goal.returns-clause-took
returns-clause-took g c =
    let structs = c.in_ok-take_structs.ensures.took in
    let took = g.T.StructTaker.took in
    let id : Id = record { client = record { 0 = c.in_ok-client.client }; clock = c.in_ok-clock.clock } in
    record {
      block = record { client = record { 0 = c.in_ok-client.client }; clock = c.in_ok-clock.clock; structs = structs.structs };
      is_read = rw (read_block_plan g.R.FieldReader.field_at g.R.FieldReader.spot_of c.args.count c.args.reader.now, c.in_ok-client.ensures.given, c.in_ok-clock.ensures.given, structs.is_read) refl;
      taken = rw structs.len (taken_then (took c.args.taker.now) (took c.begin_block.new.self) (took c.take_structs.new.taker) (headed id c.args.count ∷ []) (sections_of_structs id.client id.clock structs.structs) c.in_ok-begin_block.ensures structs.taken);
    }
