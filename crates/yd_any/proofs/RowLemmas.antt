-- A list of any-values that is cut, or joined with another one, and the rows that these are.
use Rattle.std.proofs.Common.{◌≡◌, ℕ, zero, suc, List, [], ◌∷◌, ◌++◌, take, drop, length, min, inl, inr, refl, ap, sym, ◌∙◌, arith}
use Rattle.std.proofs.lemmas.Bool.{cases_lt}
use Rattle.std.proofs.lemmas.List.{take_min, drop_all}
use Rattle.yd_any.specs.Tree.{AnyTrees, no_trees, tree}
use Rattle.yd_any.specs.Rows.{first_trees, other_trees, trees_and}
use Rattle.yd_any.specs.AnyView.{any_tree, items_trees}
use Rattle.yd_any.specs.declared.any_value.Any.{Any}

-- ---- lists of values

first_items : (vs : List Any) (n : ℕ) → items_trees (take n vs) ≡ first_trees n (items_trees vs)
first_items vs zero = refl
first_items [] (suc n) = refl
first_items (v ∷ vs) (suc n) = ap (tree (any_tree v)) (first_items vs n)

other_items : (vs : List Any) (n : ℕ) → items_trees (drop n vs) ≡ other_trees n (items_trees vs)
other_items vs zero = refl
other_items [] (suc n) = refl
other_items (v ∷ vs) (suc n) = other_items vs n

drop_min : (n : ℕ) (vs : List Any) → drop (min n (length vs)) vs ≡ drop n vs
drop_min n vs = elim (cases_lt n (length vs)) [
  | inl lt ↦ let e : min n (length vs) ≡ n = omega (arith, lt) in ap (λ k. drop k vs) e
  | inr le ↦ let e : min n (length vs) ≡ length vs = omega (arith, le) in ap (λ k. drop k vs) e ∙ drop_all (length vs) vs (omega arith) ∙ sym (drop_all n vs le)
]

-- what a cut keeps, at a place or at the end where there are no more
pub items_kept : (vs new : List Any) (n at : ℕ) → new ≡ take at vs → at ≡ min n (length vs) → items_trees new ≡ first_trees n (items_trees vs)
items_kept vs new n at cut place = ap items_trees (cut ∙ ap (λ k. take k vs) place ∙ take_min n vs) ∙ first_items vs n

-- and what it gives
pub items_given : (vs new : List Any) (n at : ℕ) → new ≡ drop at vs → at ≡ min n (length vs) → items_trees new ≡ other_trees n (items_trees vs)
items_given vs new n at cut place = ap items_trees (cut ∙ ap (λ k. drop k vs) place ∙ drop_min n vs) ∙ other_items vs n

both_items : (vs ws : List Any) → items_trees (vs ++ ws) ≡ trees_and (items_trees vs) (items_trees ws)
both_items [] ws = refl
both_items (v ∷ vs) ws = ap (tree (any_tree v)) (both_items vs ws)

-- what lists have that become one
pub items_joined : (vs ws new : List Any) → new ≡ vs ++ ws → items_trees new ≡ trees_and (items_trees vs) (items_trees ws)
items_joined vs ws new joined = ap items_trees joined ∙ both_items vs ws

-- ---- rows

-- both parts of a row are the row
pub row_again : (n : ℕ) (ts : AnyTrees) → trees_and (first_trees n ts) (other_trees n ts) ≡ ts
row_again zero ts = refl
row_again (suc n) no_trees = refl
row_again (suc n) (tree t ts) = ap (tree t) (row_again n ts)
