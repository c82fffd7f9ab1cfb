-- Units of one content are alike for a key: each sets the same value, and all are its marks or none.
use Rattle.std.proofs.Common.{◌≡◌, ℕ, zero, suc, Bool, true, false, List, [], ◌∷◌, map, drop, refl}
use Rattle.std.specs.Prelude.{if◌then◌else◌}
use Rattle.std.specs.Str.{bytes_eq}
use Rattle.yd_words.specs.Each.{Each}
use Rattle.yd_words.proofs.EachLemmas.{each_front}
use Rattle.yd_any.specs.Tree.{AnyTree, AnyTrees, no_trees, tree}
use Rattle.yd_ops.specs.Value.{ContentValue, json, binary, string, embed, format, nested, any, deleted}
use Rattle.yd_ops.specs.Operation.{UnitContent, units_of_trees, deleted_units, units_of_content}
use Rattle.yd_ops.specs.View.{content_value}
use Rattle.yd_editing.specs.TextEdit.{value_after, is_mark_of}
use Rattle.yd_state.specs.declared.listing.RunView.{RunView}
use Rattle.yd_text.specs.Marks.{value_behind, are_marks_of}
use Rattle.yd_text.proofs.RowLemmas.{contents_of}

module _ (key : List ℕ) where
  -- a content's units all do the same to the value, and all are marks of the key or none
  abbrev pub IsAlike : ContentValue → UnitContent → Type 0
  IsAlike content unit = ((v : AnyTree) → value_after key unit v ≡ value_behind key content v) × (is_mark_of key unit ≡ are_marks_of key content)

  alike_map : {X : Type 0} (f : X → UnitContent) (content : ContentValue) → ((x : X) → IsAlike content (f x)) → (xs : List X) → Each (IsAlike content) (map f xs)
  alike_map f content are [] = tt
  alike_map f content are (x ∷ xs) = (are x, alike_map f content are xs)

  trees_alike : (values ts : AnyTrees) → Each (IsAlike (any values)) (units_of_trees ts)
  trees_alike values no_trees = tt
  trees_alike values (tree t ts) = (((λ v. refl), refl), trees_alike values ts)

  deleted_alike : (count n : ℕ) → Each (IsAlike (deleted count)) (deleted_units n)
  deleted_alike count zero = tt
  deleted_alike count (suc n) = (((λ v. refl), refl), deleted_alike count n)

  all_alike : (content : ContentValue) → Each (IsAlike content) (units_of_content content)
  all_alike (json units) = alike_map _ (json units) (λ x. ((λ v. refl), refl)) units
  all_alike (binary blob) = (((λ v. refl), refl), tt)
  all_alike (string units) = alike_map _ (string units) (λ x. ((λ v. refl), refl)) units
  all_alike (embed value) = (((λ v. refl), refl), tt)
  all_alike (format k value) = (((λ v. refl), refl), tt)
  all_alike (nested kind) = (((λ v. refl), refl), tt)
  all_alike (any values) = trees_alike values values
  all_alike (deleted count) = deleted_alike count count

  -- setting a value once more changes nothing
  pub set_again : (content : ContentValue) (v : AnyTree) → value_behind key content (value_behind key content v) ≡ value_behind key content v
  set_again (json units) v = refl
  set_again (binary blob) v = refl
  set_again (string units) v = refl
  set_again (embed value) v = refl
  set_again (format k value) v = go (bytes_eq k key)
    where
      go : (t : Bool) → (if t then value else (if t then value else v)) ≡ (if t then value else v)
      go true = refl
      go false = refl
  set_again (nested kind) v = refl
  set_again (any values) v = refl
  set_again (deleted count) v = refl

  each_behind : {X : Type 0} (P : X → Type 0) (n : ℕ) (xs : List X) → Each P xs → Each P (drop n xs)
  each_behind P zero xs each = each
  each_behind P (suc n) [] each = tt
  each_behind P (suc n) (x ∷ xs) each = each_behind P n xs each.1

  pub piece_alike : (view : RunView) → Each (IsAlike (content_value view.content.now)) (contents_of view)
  piece_alike view = each_front (IsAlike (content_value view.content.now)) (drop view.offset units) view.len
      (each_behind (IsAlike (content_value view.content.now)) view.offset units (all_alike (content_value view.content.now)))
    where
      units : List UnitContent
      units = units_of_content (content_value view.content.now)
