-- JSON values in a row.
use Rattle.std.proofs.Common.{◌≡◌, ℕ, ◌+◌, ◌<◌, List, [], ◌∷◌, ◌++◌, map, sym, ap, ◌∙◌, length, drop, get_or, rules, Vec, Global}
use Rattle.std.proofs.lemmas.List.{drop_more}
use Rattle.yd_any.specs.Tree.{AnyTree, tree, field, trees_of, fields_of, with_last, with_last_field}
use Rattle.yd_any.specs.JsonView.{json_tree, json_trees, json_fields, items_trees, entries_fields}
use Rattle.yd_any.specs.declared.json_value.Json.{Json, the_lemmas}
use Rattle.yd_any.specs.declared.json_value.Json.TheViews.{roll-JsonList, roll-JsonFields}
use Rattle.yd_any.proofs.TreeLemmas.{trees_of-last, fields_of-last, map-last}

-- a key with its value's tree
abbrev pub entry_tree : List ℕ × Json → List ℕ × AnyTree
entry_tree e = (e.0, json_tree e.1)

pub items_trees_last : (vs : List Json) (v : Json) → items_trees (vs ++ v ∷ []) ≡ with_last (items_trees vs) (json_tree v)
items_trees_last vs v = ap trees_of (map-last json_tree vs v) ∙ trees_of-last (map json_tree vs) (json_tree v)

pub entries_fields_last : (es : List (List ℕ × Json)) (e : List ℕ × Json) → entries_fields (es ++ e ∷ []) ≡ with_last_field (entries_fields es) e.0 (json_tree e.1)
entries_fields_last es e = ap fields_of (map-last entry_tree es e) ∙ fields_of-last (map entry_tree es) (entry_tree e)

-- the first of what is left, and the rest
pub items_step : (items : List Json) (i : ℕ) (x : Json) → i < length items → x ≡ get_or items i x → items_trees (drop i items) ≡ tree (json_tree x) (items_trees (drop (i + 1) items))
items_step items i x lt here = ap items_trees (drop_more items i x lt) ∙ ap (λ (y : Json). tree (json_tree y) (items_trees (drop (i + 1) items))) (sym here)

pub entries_step : (es : List (List ℕ × Json)) (i : ℕ) (x : List ℕ × Json) → i < length es → x ≡ get_or es i x → entries_fields (drop i es) ≡ field x.0 (json_tree x.1) (entries_fields (drop (i + 1) es))
entries_step es i x lt here = ap entries_fields (drop_more es i x lt) ∙ ap (λ (y : List ℕ × Json). field y.0 (json_tree y.1) (entries_fields (drop (i + 1) es))) (sym here)

-- a list that is made of some items has their trees
pub json_trees-made : (items : Vec Json Global) → json_trees (roll-JsonList record { items = items }) ≡ items_trees items.items
json_trees-made items = search (rules, the_lemmas)

-- an object that is made of some entries has their fields
pub json_fields-made : (items : Vec (List ℕ × Json) Global) → json_fields (roll-JsonFields record { items = items }) ≡ entries_fields items.items
json_fields-made items = search (rules, the_lemmas)
