use Rattle.yd_v1.proofs.LogLemmas.{logs_read}
use Rattle.yd_v1.proofs.law.logs_are_read.Goals as goal

pub returns : goal.returns
returns c = logs_read
