use Rattle.std.proofs.Common.{◌≡◌, List, ℕ, None, Ok, refl}
use Rattle.yd_fields.specs.UpdatePlan.{update_plan}
use Rattle.yd_ops.specs.Value.{UpdateValue}
use Rattle.yd_parts.specs.Plan.{read_by}
use Rattle.yd_v1.specs.Reading.{V1Left, v1_at, v1_end, v1_reading, v1_spot, v1_start, v1_whole}
use Rattle.yd_v1.proofs.reading.take_structs_v1.Goals as goal

-- what was read, and then the end, is the reading of the whole
whole_read : (bytes : List ℕ) (begin end : V1Left) (u : UpdateValue) → begin ≡ v1_start bytes → read_by v1_at v1_spot (update_plan None) begin ≡ Ok (u, end) → v1_end end ≡ Ok tt → v1_reading bytes ≡ Ok u
unfolding v1_whole
whole_read bytes begin end u starts read ends = rw (← starts, read, ends) refl

pub returns-clause-took : goal.returns-clause-took
returns-clause-took g c =
    let took = c.in_ok-deletes.ensures.took in
    record {
      update = took.update;
      is_read = whole_read c.args.bytes.now c.new-reader.result c.take_update.new.reader took.update c.new-reader.ensures took.is_read c.in_ok-finish.ensures.given;
      valid = took.valid;
      deletes_are = took.deletes_are;
      taken = took.taken;
    }
