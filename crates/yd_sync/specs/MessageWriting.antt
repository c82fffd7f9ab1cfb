-- How messages are written: the numbers, and then the body with its length, in the fewest bytes (y-protocols; y-websocket, the number in front).
use Rattle.std.specs.Prelude.{ℕ, ◌<◌, ◌^◌, List, [], ◌∷◌, length}
use Rattle.yd_num.specs.Writing.{shortest_blob}
use Rattle.yd_fields.specs.UpdateFields.{fields_of_update}
use Rattle.yd_fields.specs.UpdatePlan.{vector_plan}
use Rattle.yd_fields.specs.VectorFields.{fields_of_vector}
use Rattle.yd_v1.specs.Bytes.{v1_bytes_of_all}
use Rattle.yd_v1.specs.Grammar.{FillsV1, StandsForV1}
use Rattle.yd_sync.specs.Entry.{aware_plan, fields_of_aware}
use Rattle.yd_sync.specs.Message.{MessageValue, aware, auth, change, query, step1, step2}

-- the body of a message, where it has one
abbrev pub body_of : MessageValue → List ℕ
body_of (step1 vector) = v1_bytes_of_all (fields_of_vector vector)
body_of (step2 update) = v1_bytes_of_all (fields_of_update update)
body_of (change update) = v1_bytes_of_all (fields_of_update update)
body_of (aware entries) = v1_bytes_of_all (fields_of_aware entries)
body_of (auth bytes) = []
body_of query = []

-- the bytes of a message
abbrev pub bytes_of_message : MessageValue → List ℕ
bytes_of_message (step1 vector) = 0 ∷ 0 ∷ shortest_blob (body_of (step1 vector))
bytes_of_message (step2 update) = 0 ∷ 1 ∷ shortest_blob (body_of (step2 update))
bytes_of_message (change update) = 0 ∷ 2 ∷ shortest_blob (body_of (change update))
bytes_of_message (aware entries) = 1 ∷ shortest_blob (body_of (aware entries))
bytes_of_message (auth bytes) = 2 ∷ bytes
bytes_of_message query = 3 ∷ []

-- the body stands for what the message is made of, and is of less than 2^53 bytes
abbrev pub HasBody : MessageValue → Type 0
HasBody (step1 vector) = FillsV1 vector_plan (body_of (step1 vector)) vector × (length (body_of (step1 vector)) < 2 ^ 53)
HasBody (step2 update) = StandsForV1 (body_of (step2 update)) update × (length (body_of (step2 update)) < 2 ^ 53)
HasBody (change update) = StandsForV1 (body_of (change update)) update × (length (body_of (change update)) < 2 ^ 53)
HasBody (aware entries) = FillsV1 aware_plan (body_of (aware entries)) entries × (length (body_of (aware entries)) < 2 ^ 53)
HasBody (auth bytes) = Unit {0}
HasBody query = Unit {0}
