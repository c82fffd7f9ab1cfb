-- The value of one unit of a content.
use Rattle.std.proofs.Common.{◌≡◌, ◌<◌, ℕ, zero, suc, List, [], ◌∷◌, Some, length, map, get_or, refl, ap, sym, ◌∙◌, arith, rules}
use Rattle.std.specs.Prelude.{slice_get}
use Rattle.yd_any.specs.AnyView.{any_tree, items_trees}
use Rattle.yd_any.specs.declared.any_value.Any.{Any}
use Rattle.yd_any.specs.Tree.{AnyTrees}
use Rattle.yd_ops.specs.declared.contents.JsonUnit.{JsonUnit}
use Rattle.yd_ops.specs.Value.{count_of}
use Rattle.yd_ops.specs.Operation.{UnitContent, text_unit, any_unit, json_unit, units_of_trees, deleted_units}
use Rattle.yd_ops.specs.View.{unit_value}
use Rattle.yd_value.specs.View.{shown_tree}
use Rattle.yd_value.specs.declared.shown.Shown.{Undefined, the_lemmas}
use Rattle.yd_modes.specs.Roles.{plain_value}
use Rattle.yd_any.specs.Tree.{undefined}

one_of : {X : Type 0} {x y : X} → Some x ≡ Some y → x ≡ y
one_of e = cc

-- as many units as values
pub count_items : (items : List Any) (ts : AnyTrees) → items_trees items ≡ ts → count_of ts ≡ length items
count_items items ts e = ap count_of (sym e) ∙ go items
  where
    go : (xs : List Any) → count_of (items_trees xs) ≡ length xs
    go [] = refl
    go (x ∷ xs) = ap suc (go xs)

-- the unit of a value
any_at : (items : List Any) (i : ℕ) (d : Any) → i < length items → slice_get (units_of_trees (items_trees items)) i ≡ Some (any_unit (any_tree (get_or items i d)))
any_at [] i d less = absurd (omega arith)
any_at (x ∷ xs) zero d less = refl
any_at (x ∷ xs) (suc i) d less = any_at xs i d (omega arith)

pub any_plain : (items : List Any) (ts : AnyTrees) → items_trees items ≡ ts → (i : ℕ) (d : Any) → i < length items → (unit : UnitContent) → slice_get (units_of_trees ts) i ≡ Some unit →
    any_tree (get_or items i d) ≡ plain_value unit
any_plain items ts e i d less unit there = ap plain_value (one_of (sym (any_at items i d less) ∙ ap (λ us. slice_get (units_of_trees us) i) e ∙ there))

-- the unit of a JSON unit
json_at : (us : List JsonUnit) (i : ℕ) (d : JsonUnit) → i < length us → slice_get (map json_unit (map unit_value us)) i ≡ Some (json_unit (unit_value (get_or us i d)))
json_at [] i d less = absurd (omega arith)
json_at (x ∷ xs) zero d less = refl
json_at (x ∷ xs) (suc i) d less = json_at xs i d (omega arith)

pub json_plain : (us : List JsonUnit) (i : ℕ) (d : JsonUnit) → i < length us → (unit : UnitContent) → slice_get (map json_unit (map unit_value us)) i ≡ Some unit →
    plain_value (json_unit (unit_value (get_or us i d))) ≡ plain_value unit
json_plain us i d less unit there = ap plain_value (one_of (sym (json_at us i d less) ∙ there))

-- the unit of a text
text_at : (us : List ℕ) (i : ℕ) (unit : UnitContent) → slice_get (map text_unit us) i ≡ Some unit → (u : ℕ) × (slice_get us i ≡ Some u) × (unit ≡ text_unit u)
text_at [] i unit there = absurd cc
text_at (u ∷ us) zero unit there = (u, refl, one_of (sym there))
text_at (u ∷ us) (suc i) unit there = text_at us i unit there

pub text_plain : (us : List ℕ) (i : ℕ) (unit : UnitContent) → slice_get (map text_unit us) i ≡ Some unit → (u : ℕ) × (slice_get us i ≡ Some u) × (plain_value (text_unit u) ≡ plain_value unit)
text_plain us i unit there = let (u, here, is) = text_at us i unit there in (u, here, ap plain_value (sym is))

-- a deleted unit has no value
pub deleted_plain : (count i : ℕ) (unit : UnitContent) → slice_get (deleted_units count) i ≡ Some unit → undefined ≡ plain_value unit
deleted_plain zero i unit there = absurd cc
deleted_plain (suc count) zero unit there = ap plain_value (one_of there)
deleted_plain (suc count) (suc i) unit there = deleted_plain count i unit there

-- what has no value is undefined
pub undefined_value : shown_tree Undefined ≡ undefined
undefined_value = search (rules, the_lemmas)
