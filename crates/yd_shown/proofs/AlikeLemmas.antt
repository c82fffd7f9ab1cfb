-- Documents that differ in what is deleted alone show the same.
use Rattle.std.proofs.Common.{◌≡◌, ℕ, zero, suc, List, [], ◌∷◌, None, option_map, refl, ap, ◌∙◌}
use Rattle.yd_units.specs.Text.{text_of}
use Rattle.yd_any.specs.Tree.{AnyTree, AnyFields, list, pairs, str, no_fields, field}
use Rattle.std.specs.Prelude.{codes}
use Rattle.yd_ops.specs.declared.kinds.Kind.{Kind}
use Rattle.yd_ops.specs.declared.kinds.Kind.TheVariants.{Array, Map, Text, Element, Fragment, Hook, ElementText}
use Rattle.yd_ops.specs.declared.lists.Parent.{Parent}
use Rattle.yd_ops.specs.declared.lists.Parent.TheVariants.{Item}
use Rattle.yd_ops.specs.Operation.{Operation}
use Rattle.yd_meaning.specs.Document.{Document}
use Rattle.yd_meaning.specs.Text.{shown_units}
use Rattle.yd_shown.specs.Seen.{without_lone}
use Rattle.yd_shown.specs.Pieces.{delta_pieces, list_pieces, inserts_of, values_of}
use Rattle.yd_shown.specs.Shown.{field_before, fields_under, text_value, shown_delta, shown_list, shown_map, shown_tree, shown_type, value_of_content, value_within}
use Rattle.yd_shown.specs.Shown.{Mode, as_text, as_delta, as_list, as_map, as_tree, shown_within}
use Rattle.yd_shown.specs.Law.{AreLiveAlike}

module _ (one other : Document) (a : AreLiveAlike one other) where
  text_alike : (p : Parent) → text_value one p ≡ text_value other p
  text_alike p = ap (λ os. str (text_of (shown_units None os))) (a.live p)

  delta_alike : (show too : Operation → AnyTree) → show ≡ too → (p : Parent) → shown_delta show one p ≡ shown_delta too other p
  delta_alike show too e p = λ i. list (inserts_of (delta_pieces (e i) no_fields (without_lone None (a.live p i))))

  list_alike : (show too : Operation → AnyTree) → show ≡ too → (p : Parent) → shown_list show one p ≡ shown_list too other p
  list_alike show too e p = λ i. list (values_of (list_pieces (e i) (without_lone None (a.live p i))))

  fields_alike : (show too : Operation → AnyTree) → show ≡ too → (p : Parent) (ks : List (List ℕ)) → fields_under show one p ks ≡ fields_under too other p ks
  fields_alike show too e p [] = refl
  fields_alike show too e p (k ∷ ks) = let deep = fields_alike show too e p ks in λ i. field_before k (option_map (e i) (a.under p k i)) (deep i)

  map_alike : (show too : Operation → AnyTree) → show ≡ too → (p : Parent) → shown_map show one p ≡ shown_map too other p
  map_alike show too e p = ap (λ ks. pairs (fields_under show one p ks)) (a.keys p) ∙ ap pairs (fields_alike show too e p (other.keys p))

  tree_alike : (show too : Operation → AnyTree) → show ≡ too → (p : Parent) (more : AnyFields) → shown_tree show one p more ≡ shown_tree too other p more
  tree_alike show too e p more = λ i. pairs (field (codes "attributes") (map_alike show too e p i) (field (codes "children") (list_alike show too e p i) more))

  type_alike : (show too : Operation → AnyTree) → show ≡ too → (p : Parent) (kind : Kind) → shown_type show one p kind ≡ shown_type too other p kind
  type_alike show too e p Array = list_alike show too e p
  type_alike show too e p Map = map_alike show too e p
  type_alike show too e p Text = text_alike p
  type_alike show too e p (Element name) = tree_alike show too e p (field (codes "name") (str name) no_fields)
  type_alike show too e p Fragment = list_alike show too e p
  type_alike show too e p (Hook name) = λ i. pairs (field (codes "attributes") (map_alike show too e p i) (field (codes "hook") (str name) no_fields))
  type_alike show too e p ElementText = delta_alike show too e p

  value_alike : (n : ℕ) → value_within n one ≡ value_within n other
  value_alike zero = refl
  value_alike (suc n) = let deep = value_alike n in
      λ i o. value_of_content (λ kind. type_alike (value_within n one) (value_within n other) deep (Item o.id) kind i) o.content

  -- ---- lemmas for callers

  pub shown_alike : (n : ℕ) (p : Parent) (mode : Mode) → shown_within n one p mode ≡ shown_within n other p mode
  shown_alike n p as_text = text_alike p
  shown_alike n p as_delta = delta_alike (value_within n one) (value_within n other) (value_alike n) p
  shown_alike n p as_list = list_alike (value_within n one) (value_within n other) (value_alike n) p
  shown_alike n p as_map = map_alike (value_within n one) (value_within n other) (value_alike n) p
  shown_alike n p as_tree = tree_alike (value_within n one) (value_within n other) (value_alike n) p no_fields
