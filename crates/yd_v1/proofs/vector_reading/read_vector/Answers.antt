use Rattle.yd_reading.proofs.AnswerLemmas.{reads_whole}
use Rattle.yd_fields.specs.UpdatePlan.{vector_plan}
use Rattle.yd_v1.proofs.FileLemmas.{files_read}
use Rattle.yd_v1.specs.Grammar.{FailsV1, FillsV1}
use Rattle.yd_v1.specs.Reading.{vector_reading}
use Rattle.yd_v1.proofs.vector_reading.read_vector.Goals as goal

pub returns-clause-exact : goal.returns-clause-exact
returns-clause-exact c = reads_whole (λ vector. vector) vector_reading (FillsV1 vector_plan) (FailsV1 vector_plan) (files_read vector_plan) c.args.bytes.now c.read_vector_v1.result c.read_vector_v1.ensures.made
