-- Values of `serde_json`, one after the other.
use Rattle.std.proofs.Common.{◌≡◌, ℕ, ◌+◌, ◌<◌, length, drop, get_or, ◌&&◌, Bool, true, List, [], ◌∷◌, map, Option, Some, None, String, Global, Less, nat_cmp, string_bytes, string_cmp, refl, ap, sym, ◌∙◌}
use Rattle.std.specs.Prelude.{⊤}
use Rattle.std.specs.Ordering.{is_lt}
use Rattle.std.specs.Cmp.Lexicographic.{slice_cmp}
use Rattle.std.specs.List.{AllByRecursion}
use Rattle.std.specs.List.Sorted.{IsStrictlySortedBy}
use Rattle.std.specs.Map.{keys_of}
use Rattle.std.proofs.lemmas.Bool.{and_parts, and_from}
use Rattle.std.proofs.lemmas.List.{drop_more}
use Rattle.serde_json.specs.View.{view, items_view, members_view}
use Rattle.serde_json.specs.declared.value.Value.{Value}
use Rattle.yd_any.specs.Tree.{AnyTree, AnyTrees, AnyFields, no_trees, tree, no_fields, field, trees_of, fields_of, with_last, with_last_field}
use Rattle.yd_any.specs.Valid.{is_above, is_json, are_json, fields_are_json}
use Rattle.yd_any.specs.DataTree.{data_tree, data_trees, data_fields}

-- a key with the tree of its value
abbrev pub member_entry : String Global × Value → List ℕ × AnyTree
member_entry e = (string_bytes e.0, data_tree (view e.1))

pub data_trees-items : (vs : List Value) → data_trees (items_view vs) ≡ trees_of (map (λ v. data_tree (view v)) vs)
data_trees-items [] = refl
data_trees-items (v ∷ vs) = ap (tree (data_tree (view v))) (data_trees-items vs)

pub data_fields-members : (es : List (String Global × Value)) → data_fields (members_view es) ≡ fields_of (map member_entry es)
data_fields-members [] = refl
data_fields-members (e ∷ es) = ap (field (string_bytes e.0) (data_tree (view e.1))) (data_fields-members es)

-- each value of the fields is a JSON value's tree, whatever the keys
abbrev pub values_are_json : AnyFields → Bool
values_are_json no_fields = true
values_are_json (field k t fs) = is_json t && values_are_json fs

pub values_json-last : (fs : AnyFields) (k : List ℕ) (t : AnyTree) → values_are_json fs ≡ true → is_json t ≡ true → values_are_json (with_last_field fs k t) ≡ true
values_json-last no_fields k t all ok = and_from _ _ ok refl
values_json-last (field l u fs) k t all ok = let parts = and_parts (is_json u) (values_are_json fs) all in and_from _ _ parts.0 (values_json-last fs k t parts.1 ok)

-- all these keys are above the one before them
abbrev Above : Option (List ℕ) → List (String Global × Value) → Type 0
Above None es = ⊤
Above (Some low) es = AllByRecursion (λ k. slice_cmp nat_cmp low (string_bytes k) ≡ Less) (keys_of es)

above-first : (last : Option (List ℕ)) (e : String Global × Value) (es : List (String Global × Value)) → Above last (e ∷ es) → is_above last (string_bytes e.0) ≡ true
above-first None e es h = refl
above-first (Some low) e es h = ap is_lt h.0

-- keys in order make the fields those of a JSON value
json-ordered : (last : Option (List ℕ)) (es : List (String Global × Value)) → Above last es → IsStrictlySortedBy string_cmp (keys_of es) → values_are_json (data_fields (members_view es)) ≡ true → fields_are_json last (data_fields (members_view es)) ≡ true
unfolding IsStrictlySortedBy
json-ordered last [] above sorted all = refl
json-ordered last (e ∷ es) above sorted all =
    let parts = and_parts (is_json (data_tree (view e.1))) _ all in
    and_from _ _ (above-first last e es above) (and_from _ _ parts.0 (json-ordered (Some (string_bytes e.0)) es sorted.0 sorted.1 parts.1))

pub json-members : (es : List (String Global × Value)) → IsStrictlySortedBy string_cmp (keys_of es) → values_are_json (data_fields (members_view es)) ≡ true → fields_are_json None (data_fields (members_view es)) ≡ true
json-members es sorted all = json-ordered None es tt sorted all

pub json-last : (ts : AnyTrees) (t : AnyTree) → are_json ts ≡ true → is_json t ≡ true → are_json (with_last ts t) ≡ true
json-last no_trees t all ok = and_from _ _ ok refl
json-last (tree u ts) t all ok = let parts = and_parts (is_json u) (are_json ts) all in and_from _ _ parts.0 (json-last ts t parts.1 ok)

-- the first of what is left, and the rest
pub data_items_step : (vs : List Value) (i : ℕ) (x : Value) → i < length vs → x ≡ get_or vs i x → data_trees (items_view (drop i vs)) ≡ tree (data_tree (view x)) (data_trees (items_view (drop (i + 1) vs)))
data_items_step vs i x lt here =
    ap (λ l. data_trees (items_view l)) (drop_more vs i x lt) ∙ ap (λ (y : Value). tree (data_tree (view y)) (data_trees (items_view (drop (i + 1) vs)))) (sym here)
