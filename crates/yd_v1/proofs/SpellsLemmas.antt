-- Each field that V1 writes is read as that field, whatever follows.
use Rattle.std.proofs.Common.{ℕ, ◌+◌, ◌^◌, ◌<◌, List, [], ◌∷◌, ◌++◌, length, refl, ap, arith}
use Rattle.std.specs.Prelude.{IsTrue, IsUtf8, nat_le}
use Rattle.std.proofs.lemmas.Bool.{and_parts, leb-true, lt-ltb}
use Rattle.yd_any.proofs.TextLemmas.{read_back}
use Rattle.yd_any.specs.Printed.{printed}
use Rattle.yd_any.specs.Tree.{AnyTree, depth}
use Rattle.yd_any.specs.Valid.{is_in_range, is_valid_any, is_valid_json}
use Rattle.yd_ids.specs.Id.{IsId}
use Rattle.yd_ids.specs.declared.id.Id.{Id}
use Rattle.yd_num.specs.Writing.{shortest, shortest_blob}
use Rattle.yd_parts.specs.AnyBytes.{IsWritable, IsWritableText, bytes_of_any}
use Rattle.yd_parts.specs.AnyPlan.{any_plan}
use Rattle.yd_fields.specs.Field as field
use Rattle.yd_fields.specs.JsonPlan.{made_at, value_at}
use Rattle.yd_reading.specs.Judged.{flag_at, range_at}
use Rattle.yd_parts.specs.Part as part
use Rattle.yd_parts.specs.Part.{PartPlan}
use Rattle.yd_parts.specs.Plan.{give, of_made, want}
use Rattle.yd_v1.specs.Reading.{flag_plan, id_plan, json_text_plan, range_plan}
use Rattle.yd_v1.specs.Bytes.{V1Spells, bytes_of_id}
use Rattle.yd_parts.proofs.AnyReadsLemmas.{any_reads}
use Rattle.yd_parts.proofs.ReadsLemmas.{ReadsAs, part_blob, part_byte, part_text, part_unsigned, reads_last, reads_want, reads_well}

-- an id
id_reads : (id : Id) → IsId id → ReadsAs id_plan (bytes_of_id id) id
unfolding id_plan
id_reads id fits =
    reads_want part.unsigned (λ client spot. want part.unsigned (λ clock at. give (record { client = record { 0 = client }; clock = clock }))) (shortest id.client.0) (shortest id.clock) id.client.0 id (part_unsigned id.client.0 fits.client)
    (λ spot. reads_last part.unsigned (λ clock at. give (record { client = id.client; clock = clock })) (shortest id.clock) id.clock id (part_unsigned id.clock fits.clock) (λ at. refl))

-- a flag
flag_reads : (v : ℕ) → v < 2 → ReadsAs flag_plan (shortest v) v
unfolding flag_plan
flag_reads v lt = reads_last part.unsigned (λ flag spot. of_made (flag_at spot flag)) (shortest v) v v (part_unsigned v (omega arith)) (λ spot. rw (lt-ltb v 2 lt) refl)

-- a range
range_reads : (clock len : ℕ) → clock + len < 2 ^ 53 → ReadsAs range_plan (shortest clock ++ shortest len) (clock, len)
unfolding range_plan
range_reads clock len lt =
    reads_want part.unsigned (λ c spot. want part.unsigned (λ l at. of_made (range_at spot c l))) (shortest clock) (shortest len) clock (clock, len) (part_unsigned clock (omega arith))
    (λ spot. reads_last part.unsigned (λ l at. of_made (range_at spot clock l)) (shortest len) len (clock, len) (part_unsigned len (omega arith)) (λ at. rw (lt-ltb (clock + len) (2 ^ 53) lt) refl))

-- a JSON value
json_reads : (t : AnyTree) → IsTrue (is_valid_json t) → IsWritableText (printed t) → ReadsAs json_text_plan (shortest_blob (printed t)) t
unfolding json_text_plan
json_reads t valid text =
    reads_last part.text (λ u spot. of_made (value_at spot u)) (shortest_blob (printed t)) (printed t) t (part_text (printed t) text) (λ spot. ap (λ made. of_made (made_at spot made)) (read_back t valid))

-- a number
number_reads : (v : ℕ) → v < 2 ^ 53 → ReadsAs (want part.unsigned (λ n spot. give n)) (shortest v) v
number_reads v lt = reads_last part.unsigned (λ n spot. give n) (shortest v) v v (part_unsigned v lt) (λ spot. refl)

-- a text
text_reads : (text : List ℕ) → IsWritableText text → ReadsAs (want part.text (λ t spot. give t)) (shortest_blob text) text
text_reads text fits = reads_last part.text (λ t spot. give t) (shortest_blob text) text text (part_text text fits) (λ spot. refl)

-- ---- lemmas for callers

pub info_spelled : (v : ℕ) → V1Spells (field.info, v)
info_spelled v = reads_well (want part.byte (λ b spot. give b)) (v ∷ []) v (reads_last part.byte (λ b spot. give b) (v ∷ []) v v (part_byte v) (λ spot. refl))

pub client_spelled : (v : ℕ) → v < 2 ^ 53 → V1Spells (field.client, v)
client_spelled v lt = reads_well (want part.unsigned (λ n spot. give n)) (shortest v) v (number_reads v lt)

pub left_spelled : (id : Id) → IsId id → V1Spells (field.left, id)
left_spelled id fits = reads_well id_plan (bytes_of_id id) id (id_reads id fits)

pub right_spelled : (id : Id) → IsId id → V1Spells (field.right, id)
right_spelled id fits = reads_well id_plan (bytes_of_id id) id (id_reads id fits)

pub flag_spelled : (v : ℕ) → v < 2 → V1Spells (field.flag, v)
flag_spelled v lt = reads_well flag_plan (shortest v) v (flag_reads v lt)

pub string_spelled : (text : List ℕ) → length text < 2 ^ 53 → IsUtf8 text → V1Spells (field.string, text)
string_spelled text lt utf8 = reads_well (want part.text (λ t spot. give t)) (shortest_blob text) text (text_reads text (lt, utf8))

pub key_spelled : (text : List ℕ) → length text < 2 ^ 53 → IsUtf8 text → V1Spells (field.key, text)
key_spelled text lt utf8 = reads_well (want part.text (λ t spot. give t)) (shortest_blob text) text (text_reads text (lt, utf8))

pub kind_spelled : (v : ℕ) → v < 2 ^ 53 → V1Spells (field.kind, v)
kind_spelled v lt = reads_well (want part.unsigned (λ n spot. give n)) (shortest v) v (number_reads v lt)

pub length_spelled : (v : ℕ) → v < 2 ^ 53 → V1Spells (field.len, v)
length_spelled v lt = reads_well (want part.unsigned (λ n spot. give n)) (shortest v) v (number_reads v lt)

pub any_spelled : (t : AnyTree) → IsTrue (is_valid_any t) → IsWritable t → V1Spells (field.any, t)
any_spelled t valid fits = reads_well (any_plan 100) (bytes_of_any t) t (any_reads t 100 (leb-true (depth t) 100 (and_parts (nat_le (depth t) 100) (is_in_range t) valid).0) fits)

pub blob_spelled : (bytes : List ℕ) → length bytes < 2 ^ 53 → V1Spells (field.blob, bytes)
blob_spelled bytes lt = reads_well (want part.blob (λ b spot. give b)) (shortest_blob bytes) bytes (reads_last part.blob (λ b spot. give b) (shortest_blob bytes) bytes bytes (part_blob bytes lt) (λ spot. refl))

pub json_spelled : (t : AnyTree) → IsTrue (is_valid_json t) → length (printed t) < 2 ^ 53 → IsUtf8 (printed t) → V1Spells (field.json, t)
json_spelled t valid lt utf8 = reads_well json_text_plan (shortest_blob (printed t)) t (json_reads t valid (lt, utf8))

pub number_spelled : (v : ℕ) → v < 2 ^ 53 → V1Spells (field.number, v)
number_spelled v lt = reads_well (want part.unsigned (λ n spot. give n)) (shortest v) v (number_reads v lt)

pub range_spelled : (before clock len : ℕ) → clock + len < 2 ^ 53 → V1Spells (field.range before, (clock, len))
range_spelled before clock len lt = reads_well range_plan (shortest clock ++ shortest len) (clock, len) (range_reads clock len lt)
