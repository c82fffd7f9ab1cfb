-- What `vector` writes of updates (Yjs 13, encodeStateVectorFromUpdate).
use Rattle.std.specs.Prelude.{ℕ, List}
use Rattle.yd_fields.specs.UpdatePlan.{vector_plan}
use Rattle.yd_fields.specs.VectorFields.{fields_of_vector}
use Rattle.yd_grouping.specs.Merged.{merge_of}
use Rattle.yd_grouping.specs.Reach.{reach_of}
use Rattle.yd_ids.specs.declared.id.Client.{Client}
use Rattle.yd_ops.specs.Value.{UpdateValue}
use Rattle.yd_v1.specs.Bytes.{v1_bytes_of_all}
use Rattle.yd_v1.specs.Grammar.{FillsV1}

-- the bytes of a state vector
abbrev pub vector_bytes : List (Client × ℕ) → List ℕ
vector_bytes vector = v1_bytes_of_all (fields_of_vector vector)

-- of each client the clock that the merge of the updates reaches from 0 without a gap
abbrev pub vector_output : List UpdateValue → List ℕ
vector_output us = vector_bytes (reach_of (merge_of us))

-- what is written stands for that vector
abbrev pub VectorStandsAgain : List UpdateValue → Type 0
VectorStandsAgain us = FillsV1 vector_plan (vector_output us) (reach_of (merge_of us))
