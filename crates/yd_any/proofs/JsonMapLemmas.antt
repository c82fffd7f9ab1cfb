-- Maps from keys to JSON values, and the fields that they stand for.
use Rattle.std.proofs.Common.{◌≡◌, ℕ, List, [], ◌∷◌, map, String, Global, Ordering, Less, Equal, Greater, string_bytes, string_cmp, refl, ap, ◌∙◌}
use Rattle.std.specs.Ordering.{match_ordering}
use Rattle.std.specs.BTreeMap.{insert_entry}
use Rattle.yd_any.specs.Tree.{AnyTree, tree, trees_of}
use Rattle.yd_any.specs.AnyView.{any_tree, items_trees}
use Rattle.yd_any.specs.JsonView.{json_tree}
use Rattle.yd_any.specs.JsonMap.{map_fields}
use Rattle.yd_any.specs.Carried.{put, settled, settled_trees}
use Rattle.yd_any.specs.declared.any_value.Any.{Any}
use Rattle.yd_any.specs.declared.json_value.Json.{Json}

-- a key with the tree of its value
abbrev pub map_entry : String Global × Json → List ℕ × AnyTree
map_entry e = (string_bytes e.0, json_tree e.1)

map_fields-match_ordering : (o : Ordering) (a b c : List (String Global × Json)) → map_fields (match_ordering o a b c) ≡ match_ordering o (map_fields a) (map_fields b) (map_fields c)
map_fields-match_ordering Less a b c = refl
map_fields-match_ordering Equal a b c = refl
map_fields-match_ordering Greater a b c = refl

pub map_fields-insert_entry : (es : List (String Global × Json)) (k : String Global) (v : Json) → map_fields (insert_entry string_cmp es k v) ≡ put (string_bytes k) (json_tree v) (map_fields es)
map_fields-insert_entry [] k v = refl
map_fields-insert_entry (e ∷ es) k v = map_fields-match_ordering (string_cmp k e.0) _ _ _ ∙ rw (map_fields-insert_entry es k v)

pub settled_trees-items : (vs : List Any) → settled_trees (items_trees vs) ≡ trees_of (map (λ v. settled (any_tree v)) vs)
settled_trees-items [] = refl
settled_trees-items (v ∷ vs) = ap (tree (settled (any_tree v))) (settled_trees-items vs)
