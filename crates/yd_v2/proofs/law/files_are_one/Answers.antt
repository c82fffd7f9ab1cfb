use Rattle.std.specs.Prelude.{Some}
use Rattle.yd_reading.proofs.AnswerLemmas.{files_one}
use Rattle.yd_fields.specs.UpdatePlan.{update_plan}
use Rattle.yd_v2.proofs.FileLemmas.{files_read}
use Rattle.yd_v2.proofs.law.files_are_one.Goals as goal
use Rattle.yd_v2.specs.Grammar.{HasFirstFaultV2, StandsForV2}
use Rattle.yd_v2.specs.Reading.{most_structs, v2_reading}

pub returns : goal.returns
returns c = files_one v2_reading StandsForV2 HasFirstFaultV2 (files_read (update_plan (Some most_structs)))
