use Rattle.yd_reading.proofs.AnswerLemmas.{files_one}
use Rattle.yd_v1.proofs.LogLemmas.{logs_read}
use Rattle.yd_v1.specs.Log.{HasFirstFaultLog, StandsForLog, log_reading}
use Rattle.yd_v1.proofs.law.logs_are_one.Goals as goal

pub returns : goal.returns
returns c = files_one log_reading StandsForLog HasFirstFaultLog logs_read
