-- Shown values that are made of others, one after the other.
use Rattle.std.proofs.Common.{◌≡◌, ◌≤◌, ℕ, List}
use Rattle.yd_any.specs.Tree.{AnyTree, AnyTrees, AnyFields, depth_of_trees, depth_of_fields}

-- so many values are made; those that are left nest no deeper than all
pub record TreesMade (made of : List AnyTree) (all rest : AnyTrees) : Type 0 where
  pub made_are : made ≡ of
  pub within : depth_of_trees rest ≤ depth_of_trees all

-- so many fields are made; those that are left nest no deeper than all
pub record FieldsMade (made of : List (List ℕ × AnyTree)) (all rest : AnyFields) : Type 0 where
  pub made_are : made ≡ of
  pub within : depth_of_fields rest ≤ depth_of_fields all
