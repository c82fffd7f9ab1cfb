-- What is written of a state vector.
use Rattle.std.proofs.Common.{◌≡◌, ◌∙◌, ◌++◌, [], ◌∷◌, ℕ, List, length, reverse, refl, ap, subst}
use Rattle.std.proofs.lemmas.List.{length-reverse}
use Rattle.yd_words.specs.Each.{Each}
use Rattle.yd_ids.specs.declared.id.Client.{Client}
use Rattle.yd_fields.specs.Field.{Field}
use Rattle.yd_fields.specs.Field as field
use Rattle.yd_v1.specs.Bytes.{V1Spells, v1_bytes, v1_bytes_of_all}
use Rattle.yd_fields.specs.VectorFields.{fields_of_entries, fields_of_vector}
use Rattle.yd_fields.specs.Writes.{Writes, with_fields}
use Rattle.yd_v1.proofs.WrittenLemmas.{with_v1_bytes}

-- the count and the entries that were written are the vector's fields
pub vector_written : (vector entries : List (Client × ℕ)) (count : ℕ) (start middle end : List ℕ) → entries ≡ reverse vector → count ≡ length entries → start ≡ [] →
    middle ≡ start ++ v1_bytes (field.number, count) → V1Spells (field.number, count) → Writes (λ f bytes. bytes ++ v1_bytes f) V1Spells (fields_of_entries entries) middle end →
    (end ≡ v1_bytes_of_all (fields_of_vector vector)) × Each V1Spells (fields_of_vector vector)
vector_written vector entries count start middle end reversed counted none first spelled writes =
    let put : Field → List ℕ → List ℕ = λ f bytes. bytes ++ v1_bytes f in
    let many : count ≡ length vector = counted ∙ ap length reversed ∙ length-reverse vector in
    let fields : (field.number, count) ∷ fields_of_entries entries ≡ fields_of_vector vector = rw (many, reversed) refl in
    let all : end ≡ v1_bytes_of_all ((field.number, count) ∷ fields_of_entries entries) =
    writes.written ∙ ap (with_fields put (fields_of_entries entries)) (first ∙ ap (λ bytes. bytes ++ v1_bytes (field.number, count)) none)
    ∙ with_v1_bytes ((field.number, count) ∷ fields_of_entries entries) [] in
    (all ∙ ap v1_bytes_of_all fields, subst (Each V1Spells) fields (spelled, writes.spelled))
