use Rattle.std.proofs.Common.{None}
use Rattle.yd_reading.proofs.AnswerLemmas.{files_one}
use Rattle.yd_fields.specs.UpdatePlan.{update_plan, vector_plan}
use Rattle.yd_v1.proofs.FileLemmas.{files_read}
use Rattle.yd_v1.specs.Grammar.{FailsV1, FillsV1, HasFirstFaultV1, StandsForV1}
use Rattle.yd_v1.specs.Reading.{v1_reading, vector_reading}
use Rattle.yd_v1.proofs.law.files_are_one.Goals as goal

pub returns-clause-updates : goal.returns-clause-updates
returns-clause-updates c = files_one v1_reading StandsForV1 HasFirstFaultV1 (files_read (update_plan None))

pub returns-clause-vectors : goal.returns-clause-vectors
returns-clause-vectors c = files_one vector_reading (FillsV1 vector_plan) (FailsV1 vector_plan) (files_read vector_plan)
