-- The trees of any-values that hold others.
use Rattle.std.proofs.Common.{◌≡◌, suc, List, [], ◌∷◌, length, refl, ap, rules}
use Rattle.yd_any.specs.Tree.{list, pairs}
use Rattle.yd_any.specs.AnyView.{any_tree, any_trees, any_fields, items_trees}
use Rattle.yd_any.specs.declared.any_value.Any.{Any, List as Listed, Pairs, the_lemmas}
use Rattle.yd_any.specs.declared.any_value.AnyList.{AnyList}
use Rattle.yd_any.specs.declared.any_value.AnyPairs.{AnyPairs}
use Rattle.yd_ops.specs.Value.{count_of}

-- a list's tree has those of its values
pub any_tree-List : (values : AnyList) → any_tree (Listed values) ≡ list (any_trees values)
any_tree-List values = search (rules, the_lemmas)

-- an object's tree has those of its pairs
pub any_tree-Pairs : (entries : AnyPairs) → any_tree (Pairs entries) ≡ pairs (any_fields entries)
any_tree-Pairs entries = search (rules, the_lemmas)

-- as many trees as values
pub count_of-items : (vs : List Any) → count_of (items_trees vs) ≡ length vs
count_of-items [] = refl
count_of-items (v ∷ vs) = ap suc (count_of-items vs)
