use Rattle.std.proofs.Common.{None}
use Rattle.yd_fields.specs.UpdatePlan.{update_plan}
use Rattle.yd_ops.specs.View.{update_value}
use Rattle.yd_v1.proofs.FileLemmas.{files_read}
use Rattle.yd_v1.specs.Grammar.{HasFirstFaultV1, StandsForV1}
use Rattle.yd_v1.specs.Reading.{v1_reading}
use Rattle.yd_sync.proofs.AnswerLemmas.{makes_whole}
use Rattle.yd_sync.proofs.reading.update_of.Goals as goal

pub returns-clause-made : goal.returns-clause-made
returns-clause-made c = makes_whole update_value v1_reading StandsForV1 HasFirstFaultV1 (files_read (update_plan None)) c.args.body.now c.read_v1.result c.read_v1.ensures.exact
