use Rattle.yd_ops.specs.View.{update_value}
use Rattle.yd_gathering.proofs.LateLemmas.{only_want_written, put_written}
use Rattle.yd_gathering.proofs.late.Late.put.Goals as goal

pub returns-in-Ok : goal.returns-in-Ok
returns-in-Ok c = put_written c.args.self.now c.put_v1.new.self c.as_slice.result.now (update_value c.args.update.now) (rw c.as_slice.ensures.value c.in_ok-bytes.ensures.read_again) c.in-Ok.ensures.took

pub only_memory-requires : goal.only_memory-requires
only_memory-requires c = only_want_written c.as_slice.result.now (update_value c.args.update.now) c.in-Err.error (rw c.as_slice.ensures.value c.in_ok-bytes.ensures.read_again) c.in-Err.ensures.fails
