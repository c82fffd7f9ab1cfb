use Rattle.std.proofs.Common.{map}
use Rattle.yd_ops.specs.View.{update_value}
use Rattle.yd_reading.proofs.AnswerLemmas.{reads_whole}
use Rattle.yd_v1.proofs.LogLemmas.{logs_read}
use Rattle.yd_v1.specs.Log.{HasFirstFaultLog, StandsForLog, log_reading}
use Rattle.yd_v1.proofs.log_reading.read_log.Goals as goal

pub returns-clause-exact : goal.returns-clause-exact
returns-clause-exact c = reads_whole (λ list. map update_value list) log_reading StandsForLog HasFirstFaultLog logs_read c.args.bytes.now c.read_list.result c.read_list.ensures.made
