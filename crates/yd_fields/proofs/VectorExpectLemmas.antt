-- The fields of a state vector are what its plan wants.
use Rattle.std.proofs.Common.{◌≡◌, ◌∙◌, ◌++◌, [], ◌∷◌, ℕ, suc, List, length, reverse, append_assoc, refl, sym, subst}
use Rattle.std.proofs.lemmas.List.{append-nil, length-reverse}
use Rattle.std.proofs.lemmas.List.Sorted.{IsPermutation-reverse}
use Rattle.yd_words.specs.Each.{Each}
use Rattle.yd_words.proofs.EachLemmas.{each_permuted}
use Rattle.yd_ids.proofs.EntriesLemmas.{entries_permuted, vector_entries, vector_of_vector}
use Rattle.yd_ids.specs.Vector.{IsEntry, IsVector, vector_of_entries}
use Rattle.yd_ids.specs.declared.id.Client.{Client}
use Rattle.yd_parts.specs.Plan.{Expects, give, repeated}
use Rattle.yd_fields.specs.UpdatePlan.{entries_step, vector_plan}
use Rattle.yd_fields.specs.VectorFields.{fields_of_entries, fields_of_vector}
use Rattle.yd_parts.proofs.ExpectLemmas.{expects_last, expects_none, expects_step}

-- the entries of a vector from the last to the first are entries
pub reversed_entries : (vector : List (Client × ℕ)) → IsVector vector → Each IsEntry (reverse vector)
reversed_entries vector is = each_permuted IsEntry vector (reverse vector) (IsPermutation-reverse vector) (vector_entries vector is)

-- they make the vector
pub reversed_vector : (vector : List (Client × ℕ)) → IsVector vector → vector_of_entries (reverse vector) ≡ vector
reversed_vector vector is =
    sym (entries_permuted vector (reverse vector) (vector_entries vector is) (IsPermutation-reverse vector)) ∙ vector_of_vector vector is

-- clients with their clocks
entries_expect : (entries found : List (Client × ℕ)) → Expects (repeated entries_step (length entries) found) (fields_of_entries entries) (found ++ entries)
unfolding entries_step
entries_expect [] found = expects_none entries_step found (found ++ []) (sym (append-nil found))
entries_expect (entry ∷ entries) found =
    subst (λ last. Expects (repeated entries_step (suc (length entries)) found) (fields_of_entries (entry ∷ entries)) last) (append_assoc found (entry ∷ []) entries)
    (expects_step entries_step (length entries) found (found ++ entry ∷ []) ((found ++ entry ∷ []) ++ entries) (fields_of_entries (entry ∷ [])) (fields_of_entries entries)
    (entry.0.0, refl, λ spot. (entry.1, refl, λ at. refl)) (entries_expect entries (found ++ entry ∷ [])))

-- a state vector
pub vector_expects : (vector : List (Client × ℕ)) → IsVector vector → Expects vector_plan (fields_of_vector vector) vector
unfolding vector_plan
vector_expects vector is = (
  length vector,
  refl,
  λ spot.
      expects_last (repeated entries_step (length vector) []) (λ entries. give (vector_of_entries entries)) (fields_of_entries (reverse vector)) (reverse vector) vector
      (subst (λ n. Expects (repeated entries_step n []) (fields_of_entries (reverse vector)) (reverse vector)) (length-reverse vector) (entries_expect (reverse vector) []))
      (reversed_vector vector is),
)
