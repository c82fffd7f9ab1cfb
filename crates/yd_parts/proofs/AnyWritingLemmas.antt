-- Any-values that are written one behind the other.
use Rattle.std.proofs.Common.{◌≡◌, ℕ, suc, ◌≤◌, true, List, [], ◌∷◌, ◌++◌, length, refl, ap, ◌∙◌, append_assoc}
use Rattle.yd_any.specs.AnyView.{entries_fields}
use Rattle.yd_any.specs.Tree.{AnyTrees, AnyFields, depth_of_trees, depth_of_fields}
use Rattle.yd_any.specs.Valid.{are_in_range, fields_are_in_range}
use Rattle.yd_any.specs.declared.any_value.Any.{Any}
use Rattle.yd_parts.specs.AnyBytes.{bytes_of_trees, bytes_of_fields, count_of_fields, AreWritable, FieldsAreWritable}

-- of all values these are still to be written; they are in range, and nest no deeper than all
pub record TreesRemain (all rest : AnyTrees) (old now : List ℕ) : Type 0 where
  pub written : now ++ bytes_of_trees rest ≡ old ++ bytes_of_trees all
  pub writable : AreWritable rest → AreWritable all
  pub in_range : are_in_range rest ≡ true
  pub within : depth_of_trees rest ≤ depth_of_trees all

-- of all pairs these are still to be written; they are in range, and nest no deeper than all
pub record FieldsRemain (all rest : AnyFields) (old now : List ℕ) : Type 0 where
  pub written : now ++ bytes_of_fields rest ≡ old ++ bytes_of_fields all
  pub writable : FieldsAreWritable rest → FieldsAreWritable all
  pub in_range : fields_are_in_range rest ≡ true
  pub within : depth_of_fields rest ≤ depth_of_fields all

-- as many fields as pairs
pub count_of-entries : (es : List (List ℕ × Any)) → count_of_fields (entries_fields es) ≡ length es
count_of-entries [] = refl
count_of-entries (e ∷ es) = ap suc (count_of-entries es)

-- a tag and a count, and then what is counted
pub counted_body : (tag : ℕ) (count body old mid new : List ℕ) → mid ≡ old ++ tag ∷ count → new ≡ mid ++ body → new ≡ old ++ tag ∷ (count ++ body)
counted_body tag count body old mid new e f = f ∙ ap (λ (bs : List ℕ). bs ++ body) e ∙ append_assoc old (tag ∷ count) body
