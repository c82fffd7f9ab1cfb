-- Any-values in two lists, compared one by one.
use Rattle.std.proofs.Common.{◌≡◌, ℕ, zero, suc, ◌+◌, ◌<◌, ◌≤◌, false, ◌&&◌, List, [], ◌∷◌, drop, length, get_or, refl, sym, ap, ap₂, ◌∙◌, subst, arith, tests}
use Rattle.std.specs.Prelude.{nat_le}
use Rattle.std.specs.Str.{bytes_eq}
use Rattle.std.proofs.lemmas.List.{drop_all}
use Rattle.yd_any.specs.AnyView.{any_tree, entries_fields, items_trees}
use Rattle.yd_any.specs.Tree.{depth, depth_of_fields, depth_of_trees, no_fields, no_trees}
use Rattle.yd_any.specs.declared.any_value.Any.{Any}
use Rattle.yd_any.proofs.AnyLists.{entries_step, items_step}
use Rattle.yd_any.specs.Same.{same_fields, same_tree, same_trees}

-- ---- how deep the values are

item_depth : (vs : List Any) (i : ℕ) (d : Any) → i < length vs → depth (any_tree (get_or vs i d)) ≤ depth_of_trees (items_trees vs)
item_depth [] i d lt = absurd (omega arith)
item_depth (v ∷ vs) zero d lt = omega arith
item_depth (v ∷ vs) (suc i) d lt = let rest = item_depth vs i d (omega arith) in omega (arith, rest)

entry_depth : (es : List (List ℕ × Any)) (i : ℕ) (d : List ℕ × Any) → i < length es → depth (any_tree (get_or es i d).1) ≤ depth_of_fields (entries_fields es)
entry_depth [] i d lt = absurd (omega arith)
entry_depth (e ∷ es) zero d lt = omega arith
entry_depth (e ∷ es) (suc i) d lt = let rest = entry_depth es i d (omega arith) in omega (arith, rest)

-- ---- one list ends before the other

some_left : (vs : List Any) (i : ℕ) → i < length vs → same_trees (items_trees (drop i vs)) no_trees ≡ false
some_left [] i lt = absurd (omega arith)
some_left (v ∷ vs) zero lt = refl
some_left (v ∷ vs) (suc i) lt = some_left vs i (omega arith)

none_left : (ws : List Any) (i : ℕ) → i ≤ length ws → nat_le (length ws) i ≡ same_trees no_trees (items_trees (drop i ws))
none_left [] zero le = refl
none_left [] (suc i) le = absurd (omega arith)
none_left (w ∷ ws) zero le = none
  where
    none : nat_le (suc (length ws)) 0 ≡ false
    none = grind (arith, tests)
none_left (w ∷ ws) (suc i) le = same ∙ none_left ws i (omega arith)
  where
    same : nat_le (suc (length ws)) (suc i) ≡ nat_le (length ws) i
    same = grind (arith, tests)

some_left_fields : (es : List (List ℕ × Any)) (i : ℕ) → i < length es → same_fields (entries_fields (drop i es)) no_fields ≡ false
some_left_fields [] i lt = absurd (omega arith)
some_left_fields (e ∷ es) zero lt = refl
some_left_fields (e ∷ es) (suc i) lt = some_left_fields es i (omega arith)

none_left_fields : (fs : List (List ℕ × Any)) (i : ℕ) → i ≤ length fs → nat_le (length fs) i ≡ same_fields no_fields (entries_fields (drop i fs))
none_left_fields [] zero le = refl
none_left_fields [] (suc i) le = absurd (omega arith)
none_left_fields (f ∷ fs) zero le = none
  where
    none : nat_le (suc (length fs)) 0 ≡ false
    none = grind (arith, tests)
none_left_fields (f ∷ fs) (suc i) le = same ∙ none_left_fields fs i (omega arith)
  where
    same : nat_le (suc (length fs)) (suc i) ≡ nat_le (length fs) i
    same = grind (arith, tests)

-- ---- lemmas for callers

pub item_less : (vs : List Any) (i : ℕ) (v : Any) → i < length vs → v ≡ get_or vs i v → depth (any_tree v) ≤ depth_of_trees (items_trees vs)
item_less vs i v lt here = subst (λ w. depth (any_tree w) ≤ depth_of_trees (items_trees vs)) (sym here) (item_depth vs i v lt)

pub entry_less : (es : List (List ℕ × Any)) (i : ℕ) (e : List ℕ × Any) → i < length es → e ≡ get_or es i e → depth (any_tree e.1) ≤ depth_of_fields (entries_fields es)
entry_less es i e lt here = subst (λ (f : List ℕ × Any). depth (any_tree f.1) ≤ depth_of_fields (entries_fields es)) (sym here) (entry_depth es i e lt)

pub trees_short : (vs ws : List Any) (i : ℕ) → i < length vs → length ws ≤ i → same_trees (items_trees (drop i vs)) (items_trees (drop i ws)) ≡ false
trees_short vs ws i lt le = ap (λ us. same_trees (items_trees (drop i vs)) (items_trees us)) (drop_all i ws le) ∙ some_left vs i lt

pub trees_next : (vs ws : List Any) (i : ℕ) (v w : Any) → i < length vs → v ≡ get_or vs i v → i < length ws → w ≡ get_or ws i w →
    same_trees (items_trees (drop i vs)) (items_trees (drop i ws)) ≡ (same_tree (any_tree v) (any_tree w) && same_trees (items_trees (drop (i + 1) vs)) (items_trees (drop (i + 1) ws)))
trees_next vs ws i v w lt here also there = ap₂ same_trees (items_step vs i v lt here) (items_step ws i w also there)

pub trees_end : (vs ws : List Any) (i : ℕ) → length vs ≤ i → i ≤ length vs → i ≤ length ws →
    nat_le (length ws) (length vs) ≡ same_trees (items_trees (drop i vs)) (items_trees (drop i ws))
trees_end vs ws i le at within = ap (nat_le (length ws)) all ∙ none_left ws i within ∙ ap (λ us. same_trees (items_trees us) (items_trees (drop i ws))) (sym (drop_all i vs le))
  where
    all : length vs ≡ i
    all = omega (arith, le, at)

pub fields_short : (es fs : List (List ℕ × Any)) (i : ℕ) → i < length es → length fs ≤ i → same_fields (entries_fields (drop i es)) (entries_fields (drop i fs)) ≡ false
fields_short es fs i lt le = ap (λ us. same_fields (entries_fields (drop i es)) (entries_fields us)) (drop_all i fs le) ∙ some_left_fields es i lt

pub fields_next : (es fs : List (List ℕ × Any)) (i : ℕ) (e f : List ℕ × Any) → i < length es → e ≡ get_or es i e → i < length fs → f ≡ get_or fs i f →
    same_fields (entries_fields (drop i es)) (entries_fields (drop i fs)) ≡ (bytes_eq e.0 f.0 && same_tree (any_tree e.1) (any_tree f.1) && same_fields (entries_fields (drop (i + 1) es)) (entries_fields (drop (i + 1) fs)))
fields_next es fs i e f lt here also there = ap₂ same_fields (entries_step es i e lt here) (entries_step fs i f also there)

pub fields_end : (es fs : List (List ℕ × Any)) (i : ℕ) → length es ≤ i → i ≤ length es → i ≤ length fs →
    nat_le (length fs) (length es) ≡ same_fields (entries_fields (drop i es)) (entries_fields (drop i fs))
fields_end es fs i le at within = ap (nat_le (length fs)) all ∙ none_left_fields fs i within ∙ ap (λ us. same_fields (entries_fields us) (entries_fields (drop i fs))) (sym (drop_all i es le))
  where
    all : length es ≡ i
    all = omega (arith, le, at)
