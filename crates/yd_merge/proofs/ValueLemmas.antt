-- Values in a row: one more of them is copied, and a part of them.
use Rattle.std.proofs.Common.{◌≡◌, ℕ, zero, suc, ◌+◌, ◌-◌, ◌<◌, ◌≤◌, List, [], ◌∷◌, ◌++◌, map, take, drop, length, get_or, refl, sym, ap, ap₂, ◌∙◌, subst, arith}
use Rattle.std.specs.Prelude.{IsTrue}
use Rattle.std.proofs.lemmas.List.{take-map, take_more, drop-map}
use Rattle.yd_words.specs.Each.{Each}
use Rattle.yd_any.specs.AnyView.{any_tree, items_trees}
use Rattle.yd_any.specs.Rows.{first_trees, other_trees}
use Rattle.yd_any.specs.Tree.{AnyTree, AnyTrees, tree, with_last}
use Rattle.yd_any.specs.Valid.{is_valid_any}
use Rattle.yd_any.specs.declared.any_value.Any.{Any}
use Rattle.yd_any.proofs.AnyLists.{items_trees_last}
use Rattle.yd_ops.specs.Valid.{AreValidTrees, IsValidUnit}
use Rattle.yd_ops.specs.Value.{count_of}
use Rattle.yd_ops.specs.View.{unit_value}
use Rattle.yd_ops.specs.declared.contents.JsonUnit.{JsonUnit}

valid_get : (vs : List Any) (i : ℕ) (d : Any) → AreValidTrees (items_trees vs) → i < length vs → IsTrue (is_valid_any (any_tree (get_or vs i d)))
valid_get [] i d valid lt = absurd (omega arith)
valid_get (v ∷ vs) zero d valid lt = valid.0
valid_get (v ∷ vs) (suc i) d valid lt = valid_get vs i d valid.1 (omega arith)

part_trees : (vs : List Any) (from len : ℕ) → items_trees (take len (drop from vs)) ≡ first_trees len (other_trees from (items_trees vs))
part_trees vs zero zero = refl
part_trees [] zero (suc len) = refl
part_trees (v ∷ vs) zero (suc len) = ap (tree (any_tree v)) (part_trees vs zero len)
part_trees [] (suc from) zero = refl
part_trees [] (suc from) (suc len) = refl
part_trees (v ∷ vs) (suc from) zero = part_trees vs from zero
part_trees (v ∷ vs) (suc from) (suc len) = part_trees vs from (suc len)

valid_part : (vs : List Any) (from len : ℕ) → AreValidTrees (items_trees vs) → AreValidTrees (items_trees (take len (drop from vs)))
valid_part vs zero zero valid = tt
valid_part [] zero (suc len) valid = tt
valid_part (v ∷ vs) zero (suc len) valid = (valid.0, valid_part vs zero len valid.1)
valid_part [] (suc from) zero valid = tt
valid_part [] (suc from) (suc len) valid = tt
valid_part (v ∷ vs) (suc from) zero valid = valid_part vs from zero valid.1
valid_part (v ∷ vs) (suc from) (suc len) valid = valid_part vs from (suc len) valid.1

valid_units : (us : List JsonUnit) (from len : ℕ) → Each IsValidUnit (map unit_value us) → Each IsValidUnit (map unit_value (take len (drop from us)))
valid_units us zero zero valid = tt
valid_units [] zero (suc len) valid = tt
valid_units (u ∷ us) zero (suc len) valid = (valid.0, valid_units us zero len valid.1)
valid_units [] (suc from) zero valid = tt
valid_units [] (suc from) (suc len) valid = tt
valid_units (u ∷ us) (suc from) zero valid = valid_units us from zero valid.1
valid_units (u ∷ us) (suc from) (suc len) valid = valid_units us from (suc len) valid.1

-- ---- lemmas for callers

count-items : (vs : List Any) → count_of (items_trees vs) ≡ length vs
count-items [] = refl
count-items (v ∷ vs) = ap suc (count-items vs)

-- values that are lent are as many as the content has units
pub lent_within : (vs : List Any) (trees : AnyTrees) (from len : ℕ) → items_trees vs ≡ trees → from + len ≤ count_of trees → from + len ≤ length vs
lent_within vs trees from len e le = omega (arith, le, ap count_of e, count-items vs)

pub valid_read : (vs : List Any) (i : ℕ) (v : Any) → AreValidTrees (items_trees vs) → i < length vs → v ≡ get_or vs i v → IsTrue (is_valid_any (any_tree v))
valid_read vs i v valid lt here = subst (λ w. IsTrue (is_valid_any (any_tree w))) (sym here) (valid_get vs i v valid lt)

-- so many values from one on
same_part : {X : Type 0} (xs : List X) (from len : ℕ) → take (from + len - from) (drop from xs) ≡ take len (drop from xs)
same_part xs from len = ap (λ k. take k (drop from xs)) all
  where
    all : from + len - from ≡ len
    all = omega arith

pub values_part : (vs : List Any) (from len : ℕ) → items_trees (take (from + len - from) (drop from vs)) ≡ first_trees len (other_trees from (items_trees vs))
values_part vs from len = ap items_trees (same_part vs from len) ∙ part_trees vs from len

pub values_valid : (vs : List Any) (from len : ℕ) → AreValidTrees (items_trees vs) → AreValidTrees (items_trees (take (from + len - from) (drop from vs)))
values_valid vs from len valid = valid_part vs from (from + len - from) valid

pub json_part : (us : List JsonUnit) (from len : ℕ) → map unit_value (take (from + len - from) (drop from us)) ≡ take len (drop from (map unit_value us))
json_part us from len = ap (map unit_value) (same_part us from len) ∙ sym (ap (take len) (drop-map unit_value from us) ∙ take-map unit_value len (drop from us))

pub json_valid : (us : List JsonUnit) (from len : ℕ) → Each IsValidUnit (map unit_value us) → Each IsValidUnit (map unit_value (take (from + len - from) (drop from us)))
json_valid us from len valid = valid_units us from (from + len - from) valid

-- one more value is copied
pub copy_next : (vs : List Any) (i : ℕ) (v : Any) (old new : AnyTrees) (copy : AnyTree) → i < length vs → v ≡ get_or vs i v → copy ≡ any_tree v → old ≡ items_trees (take i vs) →
    new ≡ with_last old copy → new ≡ items_trees (take (i + 1) vs)
copy_next vs i v old new copy lt here same was is = is ∙ ap₂ with_last was same
    ∙ sym (ap items_trees (take_more vs i v lt ∙ ap (λ w. take i vs ++ w ∷ []) (sym here)) ∙ items_trees_last (take i vs) v)
