use Rattle.std.specs.Prelude.{Some}
use Rattle.yd_fields.specs.UpdatePlan.{update_plan}
use Rattle.yd_v2.proofs.FileLemmas.{files_read}
use Rattle.yd_v2.proofs.law.files_are_read.Goals as goal
use Rattle.yd_v2.specs.Reading.{most_structs}

pub returns : goal.returns
returns c = files_read (update_plan (Some most_structs))
