-- What the parts of a valid update are, when they are written.
use Rattle.std.proofs.Common.{◌≡◌, ℕ, zero, suc, ◌+◌, ◌<◌, List, [], ◌∷◌, Option, Some, None, length, map, get_or, sym, subst, arith}
use Rattle.std.specs.Prelude.{IsTrue}
use Rattle.yd_words.specs.Each.{Each}
use Rattle.yd_any.specs.AnyView.{any_tree, items_trees}
use Rattle.yd_any.specs.Valid.{is_valid_any}
use Rattle.yd_any.specs.declared.any_value.Any.{Any}
use Rattle.yd_ids.specs.declared.id.Client.{Client}
use Rattle.yd_ids.specs.declared.id.Id.{Id}
use Rattle.yd_ops.specs.declared.lists.List.{List as DocList}
use Rattle.yd_ops.specs.Valid.{AreStructsFrom, AreValidTrees, CarriesList}
use Rattle.yd_ops.specs.Value.{StructValue, item, skip, gone, clocks_of}
use Rattle.yd_fields.specs.Writes.{IsWritableList, IsWritableStruct}

-- ---- items of lists

-- a fact of every element is one of each
pub each_map_at : {X Y : Type 0} (P : Y → Type 0) (f : X → Y) (xs : List X) (i : ℕ) (x : X) → i < length xs → x ≡ get_or xs i x → Each P (map f xs) → P (f x)
each_map_at {X} P f xs i x lt here all = subst (λ (y : X). P (f y)) (sym here) (at xs i lt all)
  where
    at : (ys : List X) (n : ℕ) → n < length ys → Each P (map f ys) → P (f (get_or ys n x))
    at [] n lt all = absurd (omega arith)
    at (y ∷ ys) zero lt all = all.0
    at (y ∷ ys) (suc n) lt all = at ys n (omega arith) all.1

-- each value of valid ones is valid
pub valid_tree_at : (vs : List Any) (i : ℕ) (x : Any) → i < length vs → x ≡ get_or vs i x → AreValidTrees (items_trees vs) → IsTrue (is_valid_any (any_tree x))
valid_tree_at vs i x lt here all = subst (λ (y : Any). IsTrue (is_valid_any (any_tree y))) (sym here) (at vs i lt all)
  where
    at : (ys : List Any) (n : ℕ) → n < length ys → AreValidTrees (items_trees ys) → IsTrue (is_valid_any (any_tree (get_or ys n x)))
    at [] n lt all = absurd (omega arith)
    at (y ∷ ys) zero lt all = all.0
    at (y ∷ ys) (suc n) lt all = at ys n (omega arith) all.1

-- ---- structs

list_is_writable : (left right : Option Id) (list : Option DocList) → CarriesList left right list → IsWritableList list
list_is_writable None None None carries = tt
list_is_writable None None (Some list) carries = carries
list_is_writable None (Some right) None carries = tt
list_is_writable None (Some right) (Some list) carries = absurd carries
list_is_writable (Some left) right None carries = tt
list_is_writable (Some left) right (Some list) carries = absurd carries

-- structs of a valid block can be written
pub structs_are_writable : (structs : List StructValue) (client : Client) (clock : ℕ) → AreStructsFrom client clock structs → Each IsWritableStruct structs
structs_are_writable [] client clock all = tt
structs_are_writable (item run ∷ structs) client clock all = (
  record {
    left = all.0.left;
    right = all.0.right;
    list = list_is_writable run.left run.right run.list all.0.list;
    content = record { valid = all.0.content; in_range = omega arith };
  },
  structs_are_writable structs client (clock + clocks_of (item run)) all.2,
)
structs_are_writable (skip count ∷ structs) client clock all = (omega arith, structs_are_writable structs client (clock + clocks_of (skip count)) all.2)
structs_are_writable (gone count ∷ structs) client clock all = (omega arith, structs_are_writable structs client (clock + clocks_of (gone count)) all.2)
