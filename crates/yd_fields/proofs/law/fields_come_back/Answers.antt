use Rattle.yd_fields.proofs.UpdateExpectLemmas.{update_expects_within}
use Rattle.yd_fields.proofs.VectorExpectLemmas.{vector_expects}
use Rattle.yd_fields.proofs.law.fields_come_back.Goals as goal

pub returns : goal.returns
returns c = record {
  updates = update_expects_within;
  vectors = vector_expects;
}
