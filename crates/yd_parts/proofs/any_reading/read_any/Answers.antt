use Rattle.std.proofs.Common.{arith}
use Rattle.yd_parts.proofs.AnyFitsLemmas.{any_read_valid}
use Rattle.yd_parts.proofs.any_reading.read_any.Goals as goal

pub returns-clause-valid : goal.returns-clause-valid
returns-clause-valid c = any_read_valid 100 _ _ _ (omega arith) c.in_ok-value.ensures
