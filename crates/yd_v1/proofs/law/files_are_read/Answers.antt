use Rattle.std.proofs.Common.{None}
use Rattle.yd_fields.specs.UpdatePlan.{update_plan, vector_plan}
use Rattle.yd_v1.proofs.FileLemmas.{files_read}
use Rattle.yd_v1.proofs.law.files_are_read.Goals as goal

pub returns-clause-updates : goal.returns-clause-updates
returns-clause-updates c = files_read (update_plan None)

pub returns-clause-vectors : goal.returns-clause-vectors
returns-clause-vectors c = files_read vector_plan
