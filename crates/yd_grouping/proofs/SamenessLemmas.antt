-- The tests on kinds and contents tell what is the same.
use Rattle.std.specs.Prelude.{Decides, nat_eq}
use Rattle.std.specs.Str.{bytes_eq}
use Rattle.std.proofs.Common.{◌≡◌, ℕ, Bool, true, false, ◌&&◌, Option, Some, None, refl, sym, ap, ap₂, arith, tests, true≢false}
use Rattle.std.proofs.lemmas.Bool.Decides.{Decides-and}
use Rattle.std.proofs.lemmas.Slice.Eq.{bytes_eq-Decides}
use Rattle.yd_any.specs.Same.{same_tree}
use Rattle.yd_any.specs.Tree.{AnyTree}
use Rattle.yd_any.proofs.SameLemmas.{never_true, one_part, two_parts, tree_decides}
use Rattle.yd_ops.specs.Operation.{UnitContent, any_unit, bytes, deleted_unit, embedded, gone_unit, json_unit, mark, nested_type, text_unit}
use Rattle.yd_ops.specs.declared.kinds.Kind.{Kind}
use Rattle.yd_ops.specs.declared.kinds.Kind.TheVariants.{Array, Map, Text, Element, Fragment, Hook, ElementText}
use Rattle.yd_grouping.specs.Sameness.{same_content, same_kind, same_value}

pub number_decides : (m n : ℕ) → Decides (nat_eq m n) (m ≡ n)
number_decides m n = ((λ e. grind (arith, tests)), (λ e. grind (arith, tests)))

pub value_decides : (x y : Option AnyTree) → Decides (same_value x y) (x ≡ y)
value_decides None None = ((λ e. refl), (λ e. refl))
value_decides (Some a) (Some a2) = one_part Some (λ e. cc) (same_tree a a2) (tree_decides a a2)
value_decides x y = (never_true, λ e. absurd cc)

pub kind_decides : (x y : Kind) → Decides (same_kind x y) (x ≡ y)
kind_decides Array Array = ((λ e. refl), (λ e. refl))
kind_decides Map Map = ((λ e. refl), (λ e. refl))
kind_decides Text Text = ((λ e. refl), (λ e. refl))
kind_decides (Element a) (Element a2) = one_part Element (λ e. cc) (bytes_eq a a2) (bytes_eq-Decides a a2)
kind_decides Fragment Fragment = ((λ e. refl), (λ e. refl))
kind_decides (Hook a) (Hook a2) = one_part Hook (λ e. cc) (bytes_eq a a2) (bytes_eq-Decides a a2)
kind_decides ElementText ElementText = ((λ e. refl), (λ e. refl))
kind_decides x y = (never_true, λ e. absurd cc)

pub content_decides : (x y : UnitContent) → Decides (same_content x y) (x ≡ y)
content_decides (text_unit a) (text_unit a2) = one_part text_unit (λ e. cc) (nat_eq a a2) (number_decides a a2)
content_decides (any_unit a) (any_unit a2) = one_part any_unit (λ e. cc) (same_tree a a2) (tree_decides a a2)
content_decides (json_unit a) (json_unit a2) = one_part json_unit (λ e. cc) (same_value a a2) (value_decides a a2)
content_decides (bytes a) (bytes a2) = one_part bytes (λ e. cc) (bytes_eq a a2) (bytes_eq-Decides a a2)
content_decides (embedded a) (embedded a2) = one_part embedded (λ e. cc) (same_tree a a2) (tree_decides a a2)
content_decides (mark a b) (mark a2 b2) = two_parts mark (λ e. cc) (λ e. cc) (bytes_eq a a2) (same_tree b b2) (bytes_eq-Decides a a2) (tree_decides b b2)
content_decides (nested_type a) (nested_type a2) = one_part nested_type (λ e. cc) (same_kind a a2) (kind_decides a a2)
content_decides deleted_unit deleted_unit = ((λ e. refl), (λ e. refl))
content_decides gone_unit gone_unit = ((λ e. refl), (λ e. refl))
content_decides x y = (never_true, λ e. absurd cc)
