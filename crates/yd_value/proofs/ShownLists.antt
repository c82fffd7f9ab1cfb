-- Shown values in a row.
use Rattle.std.proofs.Common.{◌≡◌, ℕ, ◌+◌, ◌<◌, List, [], ◌∷◌, ◌++◌, map, sym, ap, ◌∙◌, length, drop, get_or, rules}
use Rattle.std.proofs.lemmas.List.{drop_more}
use Rattle.yd_any.specs.Tree.{AnyTree, raw4, raw8, tree, field, trees_of, fields_of, with_last, with_last_field}
use Rattle.yd_any.proofs.TreeLemmas.{trees_of-last, fields_of-last, map-last}
use Rattle.yd_value.specs.View.{element_tree, tree_of_element, shown_tree, shown_trees, shown_fields, items_trees, entries_fields}
use Rattle.yd_value.specs.declared.shown.Shown.{Shown, Raw4, Raw8, the_lemmas}
use Rattle.yd_value.specs.declared.shown.ShownElement.{ShownElement}
use Rattle.yd_value.specs.declared.shown.ShownList.{ShownList}
use Rattle.yd_value.specs.declared.shown.ShownFields.{ShownFields}

-- a key with its value's tree
abbrev pub entry_tree : List ℕ × Shown → List ℕ × AnyTree
entry_tree e = (e.0, shown_tree e.1)

pub items_trees_last : (vs : List Shown) (v : Shown) → items_trees (vs ++ v ∷ []) ≡ with_last (items_trees vs) (shown_tree v)
items_trees_last vs v = ap trees_of (map-last shown_tree vs v) ∙ trees_of-last (map shown_tree vs) (shown_tree v)

pub entries_fields_last : (es : List (List ℕ × Shown)) (e : List ℕ × Shown) → entries_fields (es ++ e ∷ []) ≡ with_last_field (entries_fields es) e.0 (shown_tree e.1)
entries_fields_last es e = ap fields_of (map-last entry_tree es e) ∙ fields_of-last (map entry_tree es) (entry_tree e)

-- the first of what is left, and the rest
pub items_step : (items : List Shown) (i : ℕ) (x : Shown) → i < length items → x ≡ get_or items i x → items_trees (drop i items) ≡ tree (shown_tree x) (items_trees (drop (i + 1) items))
items_step items i x lt here = ap items_trees (drop_more items i x lt) ∙ ap (λ (y : Shown). tree (shown_tree y) (items_trees (drop (i + 1) items))) (sym here)

pub entries_step : (es : List (List ℕ × Shown)) (i : ℕ) (x : List ℕ × Shown) → i < length es → x ≡ get_or es i x → entries_fields (drop i es) ≡ field x.0 (shown_tree x.1) (entries_fields (drop (i + 1) es))
entries_step es i x lt here = ap entries_fields (drop_more es i x lt) ∙ ap (λ (y : List ℕ × Shown). field y.0 (shown_tree y.1) (entries_fields (drop (i + 1) es))) (sym here)

-- a list has the trees of its items
pub shown_trees-items : (l : ShownList) → shown_trees l ≡ items_trees l.items.items
shown_trees-items l = search (rules, the_lemmas)

-- an element has the trees of its parts
pub tree_of_element-parts : (e : ShownElement) → tree_of_element e ≡ element_tree (shown_fields e.attributes) (shown_tree e.children) e.name
tree_of_element-parts e = search (rules, the_lemmas)

-- fields are those of their entries
pub shown_fields-entries : (p : ShownFields) → shown_fields p ≡ entries_fields p.items.items
shown_fields-entries p = search (rules, the_lemmas)

pub shown_tree-Raw4 : (bs : List ℕ) → shown_tree (Raw4 bs) ≡ raw4 bs
shown_tree-Raw4 bs = search (rules, the_lemmas)

pub shown_tree-Raw8 : (bs : List ℕ) → shown_tree (Raw8 bs) ≡ raw8 bs
shown_tree-Raw8 bs = search (rules, the_lemmas)
