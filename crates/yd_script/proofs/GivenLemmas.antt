-- Rows that are read one after another.
use Rattle.std.proofs.Common.{◌≡◌, ℕ, ◌+◌, ◌<◌, ◌≤◌, List, [], ◌∷◌, ◌++◌, length, map, drop, get_or, Option, Some, None, IsTrue, refl, sym, ap, ◌∙◌}
use Rattle.std.proofs.lemmas.List.{drop_all, drop_more}
use Rattle.serde_json.specs.Data.{Data}
use Rattle.serde_json.specs.View.{items_of, view}
use Rattle.serde_json.specs.declared.value.Value.{Value}
use Rattle.yd_any.specs.Rows.{trees_and}
use Rattle.yd_any.specs.Tree.{AnyTree, AnyTrees, no_trees, tree, with_last}
use Rattle.yd_any.specs.Valid.{is_valid_any}
use Rattle.yd_ops.specs.Valid.{AreValidTrees}
use Rattle.yd_script.specs.Given.{elements_of, step_before, tree_before, trees_in, value_in}
use Rattle.yd_script.specs.declared.target.TargetStep.{TargetStep}

-- the first of what is left, and the rest
next_is : {Y : Type 0} (F : List Data → Y) (vs : List Value) (i : ℕ) (x : Value) → i < length vs → x ≡ get_or vs i x → F (map view (drop i vs)) ≡ F (view x ∷ map view (drop (i + 1) vs))
next_is F vs i x lt here =
    ap (λ l. F (map view l)) (drop_more vs i x lt) ∙ ap (λ (y : Value). F (view y ∷ map view (drop (i + 1) vs))) (sym here)

-- ---- values

-- values in front of others, where these are there
abbrev pub trees_with : AnyTrees → Option AnyTrees → Option AnyTrees
trees_with ts (Some us) = Some (trees_and ts us)
trees_with ts None = None

last_in_front : (ts : AnyTrees) (t : AnyTree) (us : AnyTrees) → trees_and ts (tree t us) ≡ trees_and (with_last ts t) us
last_in_front no_trees t us = refl
last_in_front (tree s ts) t us = ap (tree s) (last_in_front ts t us)

tree_moved : (ts : AnyTrees) (t : AnyTree) (rest : Option AnyTrees) → trees_with ts (tree_before (Some t) rest) ≡ trees_with (with_last ts t) rest
tree_moved ts t (Some us) = ap (λ vs. Some vs) (last_in_front ts t us)
tree_moved ts t None = refl

none_behind : (ts : AnyTrees) → trees_and ts no_trees ≡ ts
none_behind no_trees = refl
none_behind (tree t ts) = ap (tree t) (none_behind ts)

-- ---- steps

-- steps in front of others, where these are there
abbrev pub steps_with : List TargetStep → Option (List TargetStep) → Option (List TargetStep)
steps_with front (Some back) = Some (front ++ back)
steps_with front None = None

step_in_front : (front : List TargetStep) (step : TargetStep) (back : List TargetStep) → front ++ step ∷ back ≡ (front ++ step ∷ []) ++ back
step_in_front [] step back = refl
step_in_front (s ∷ front) step back = ap (λ (ss : List TargetStep). s ∷ ss) (step_in_front front step back)

step_moved : (front : List TargetStep) (step : TargetStep) (rest : Option (List TargetStep)) → steps_with front (step_before (Some step) rest) ≡ steps_with (front ++ step ∷ []) rest
step_moved front step (Some back) = ap (λ (ss : List TargetStep). Some ss) (step_in_front front step back)
step_moved front step None = refl

-- ---- lemmas for callers

-- the elements of an array are those of its list
pub elements_same : (ds : List Data) → elements_of (items_of ds) ≡ ds
elements_same [] = refl
elements_same (d ∷ ds) = ap (λ (es : List Data). d ∷ es) (elements_same ds)

-- a value more
pub trees_more : (all : Option AnyTrees) (vs : List Value) (i : ℕ) (x : Value) (ts : AnyTrees) (t : AnyTree) → i < length vs → x ≡ get_or vs i x →
    all ≡ trees_with ts (trees_in (map view (drop i vs))) → value_in (view x) ≡ Some t → all ≡ trees_with (with_last ts t) (trees_in (map view (drop (i + 1) vs)))
trees_more all vs i x ts t lt here so_far is =
    so_far ∙ next_is (λ ds. trees_with ts (trees_in ds)) vs i x lt here
    ∙ ap (λ found. trees_with ts (tree_before found (trees_in (map view (drop (i + 1) vs))))) is
    ∙ tree_moved ts t (trees_in (map view (drop (i + 1) vs)))

-- at the end all are read
pub trees_end : (all : Option AnyTrees) (vs : List Value) (i : ℕ) (ts : AnyTrees) → length vs ≤ i → all ≡ trees_with ts (trees_in (map view (drop i vs))) → all ≡ Some ts
trees_end all vs i ts past so_far =
    so_far ∙ ap (λ (l : List Value). trees_with ts (trees_in (map view l))) (drop_all i vs past) ∙ ap (λ us. Some us) (none_behind ts)

-- a valid value behind valid ones
pub valid_last : (ts : AnyTrees) (t : AnyTree) → AreValidTrees ts → IsTrue (is_valid_any t) → AreValidTrees (with_last ts t)
valid_last no_trees t all one = (one, tt)
valid_last (tree s ts) t all one = (all.0, valid_last ts t all.1 one)
