use Rattle.std.specs.Prelude.{Some}
use Rattle.yd_ops.specs.View.{update_value}
use Rattle.yd_reading.proofs.AnswerLemmas.{reads_whole}
use Rattle.yd_fields.specs.UpdatePlan.{update_plan}
use Rattle.yd_v2.proofs.FileLemmas.{files_read}
use Rattle.yd_v2.specs.Grammar.{HasFirstFaultV2, StandsForV2}
use Rattle.yd_v2.specs.Reading.{most_structs, v2_reading}
use Rattle.yd_v2.proofs.reading.read_v2.Goals as goal

pub returns-clause-exact : goal.returns-clause-exact
returns-clause-exact c = reads_whole update_value v2_reading StandsForV2 HasFirstFaultV2 (files_read (update_plan (Some most_structs))) c.args.bytes.now c.read_update_v2.result c.read_update_v2.ensures.made
