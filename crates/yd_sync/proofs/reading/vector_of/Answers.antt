use Rattle.yd_fields.specs.UpdatePlan.{vector_plan}
use Rattle.yd_v1.proofs.FileLemmas.{files_read}
use Rattle.yd_v1.specs.Grammar.{FailsV1, FillsV1}
use Rattle.yd_v1.specs.Reading.{vector_reading}
use Rattle.yd_sync.proofs.AnswerLemmas.{makes_whole}
use Rattle.yd_sync.proofs.reading.vector_of.Goals as goal

pub returns-clause-made : goal.returns-clause-made
returns-clause-made c = makes_whole (λ vector. vector) vector_reading (FillsV1 vector_plan) (FailsV1 vector_plan) (files_read vector_plan) c.args.body.now c.read_vector.result c.read_vector.ensures.exact
