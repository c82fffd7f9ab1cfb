use Rattle.std.proofs.Common.{arith}
use Rattle.yd_hub.proofs.SyncLemmas.{status_is, run_counts}
use Rattle.yd_hub.proofs.law.sync_status.Goals as goal

pub returns : goal.returns
returns c = record { eight = status_is; number = λ read write turns peer told count fault e. let from_zero = run_counts read write turns 0 peer told count fault e in omega (arith, from_zero) }
