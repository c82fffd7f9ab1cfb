-- The fields of a content are what its plan wants.
use Rattle.std.proofs.Common.{◌≡◌, ◌<◌, ◌++◌, [], ◌∷◌, ℕ, Bool, true, false, List, Option, Some, None, Ok, length, map, nat_eq, if◌then◌else◌, refl, sym, ap, ◌∙◌, arith, append_assoc, append-nil}
use Rattle.std.specs.Prelude.{IsTrue, codes}
use Rattle.std.specs.Str.{bytes_eq}
use Rattle.std.proofs.lemmas.Bool.Decides.{nat_tests}
use Rattle.std.proofs.lemmas.Slice.Eq.{bytes_eq-Decides}
use Rattle.yd_words.specs.Each.{Each}
use Rattle.yd_any.specs.Outcome.{value_of_text}
use Rattle.yd_any.specs.Printed.{printed}
use Rattle.yd_any.specs.Tree.{AnyTree, AnyTrees, no_trees, tree, with_last}
use Rattle.yd_any.specs.Valid.{is_valid_json}
use Rattle.yd_any.proofs.TextLemmas.{read_back, undefined_is_no_text}
use Rattle.yd_units.specs.Text.{text_of, units_of}
use Rattle.yd_units.proofs.TextLemmas.{units_back, units_of-nil}
use Rattle.yd_ops.specs.Value as ops
use Rattle.yd_ops.specs.Valid.{IsValidUnit, IsValidContent}
use Rattle.yd_ops.specs.declared.kinds.Kind.{Kind}
use Rattle.yd_ops.specs.declared.kinds.Kind.TheVariants as kinds
use Rattle.yd_fields.specs.Field.{Field}
use Rattle.yd_fields.specs.Field as field
use Rattle.yd_fields.specs.JsonPlan.{made_at, unit_at, value_at}
use Rattle.yd_parts.specs.Plan.{give, and_then, Expects, repeated}
use Rattle.yd_fields.specs.StructPlan.{content_plan, deleted_plan, kind_plan, nested_plan, unit_step, units_plan, value_step, values_plan}
use Rattle.yd_fields.specs.UpdateFields.{field_of_unit, fields_of_content, fields_of_kind, fields_of_trees, text_of_unit}
use Rattle.yd_parts.specs.declared.fault.Spot.{Spot}
use Rattle.yd_parts.proofs.ExpectLemmas.{count_some, expects_last, expects_made, expects_none, expects_step}
use Rattle.yd_fields.proofs.InfoLemmas.{kind_of_content}

-- ---- JSON units

-- the text of a JSON value is read as that value, and is not the name of undefined
value_back : (spot : Spot) (t : AnyTree) → IsTrue (is_valid_json t) → unit_at spot (printed t) ≡ Ok (Some t)
value_back spot t valid = apart (bytes_eq (printed t) (codes "undefined")) refl
  where
    apart : (test : Bool) → bytes_eq (printed t) (codes "undefined") ≡ test → (if test then Ok None else and_then (value_at spot (printed t)) (λ u. Ok (Some u))) ≡ Ok (Some t)
    apart true same_text = let same : printed t ≡ codes "undefined" = (bytes_eq-Decides (printed t) (codes "undefined")).0 same_text in
        absurd (cc (sym (read_back t valid) ∙ ap value_of_text same ∙ undefined_is_no_text))
    apart false other = ap (λ made. and_then (made_at spot made) (λ u. Ok (Some u))) (read_back t valid)

-- the text of a unit is read as that unit
unit_back : (spot : Spot) (unit : Option AnyTree) → IsValidUnit unit → unit_at spot (text_of_unit unit) ≡ Ok unit
unit_back spot None valid = refl
unit_back spot (Some t) valid = value_back spot t valid

-- one more JSON unit
unit_expects : (found : List (Option AnyTree)) (unit : Option AnyTree) → IsValidUnit unit → Expects (unit_step found) (field_of_unit unit ∷ []) (found ++ unit ∷ [])
unfolding unit_step
unit_expects found unit valid =
    (text_of_unit unit, refl, λ spot. expects_made (unit_at spot (text_of_unit unit)) (λ u. give (found ++ u ∷ [])) unit (found ++ unit ∷ []) (unit_back spot unit valid) refl)

-- JSON units
units_expect : (found units : List (Option AnyTree)) → Each IsValidUnit units → Expects (repeated unit_step (length units) found) (map field_of_unit units) (found ++ units)
units_expect found [] valid = expects_none unit_step found (found ++ []) (sym (append-nil found))
units_expect found (unit ∷ units) valid =
    let rest = units_expect (found ++ unit ∷ []) units valid.1 in
    expects_step unit_step (length units) found (found ++ unit ∷ []) (found ++ unit ∷ units) (field_of_unit unit ∷ []) (map field_of_unit units) (unit_expects found unit valid.0) (rw append_assoc at rest)

-- ---- any-values

-- the values of both, one after the other
abbrev values_joined : AnyTrees → AnyTrees → AnyTrees
values_joined no_trees more = more
values_joined (tree t ts) more = tree t (values_joined ts more)

-- one more value, and others behind it
values_joined-last : (ts : AnyTrees) (t : AnyTree) (more : AnyTrees) → values_joined (with_last ts t) more ≡ values_joined ts (tree t more)
values_joined-last no_trees t more = refl
values_joined-last (tree u us) t more = ap (tree u) (values_joined-last us t more)

-- no values behind
values_joined-nil : (ts : AnyTrees) → values_joined ts no_trees ≡ ts
values_joined-nil no_trees = refl
values_joined-nil (tree t ts) = ap (tree t) (values_joined-nil ts)

-- any-values
values_expect : (found ts : AnyTrees) → Expects (repeated value_step (ops.count_of ts) found) (fields_of_trees ts) (values_joined found ts)
unfolding value_step
values_expect found no_trees = expects_none value_step found (values_joined found no_trees) (sym (values_joined-nil found))
values_expect found (tree t ts) =
    let rest = values_expect (with_last found t) ts in
    expects_step value_step (ops.count_of ts) found (with_last found t) (values_joined found (tree t ts)) ((field.any, t) ∷ []) (fields_of_trees ts) (t, refl, λ spot. refl) (rw values_joined-last at rest)

-- ---- types

-- a type
kind_expects : (kind : Kind) → Expects kind_plan (fields_of_kind kind) kind
unfolding kind_plan
kind_expects kinds.Array = (0, refl, λ spot. refl)
kind_expects kinds.Map = (1, refl, λ spot. refl)
kind_expects kinds.Text = (2, refl, λ spot. refl)
kind_expects (kinds.Element name) = (3, refl, λ spot. (name, refl, λ at. refl))
kind_expects kinds.Fragment = (4, refl, λ spot. refl)
kind_expects (kinds.Hook name) = (5, refl, λ spot. (name, refl, λ at. refl))
kind_expects kinds.ElementText = (6, refl, λ spot. refl)

-- ---- contents

-- some units have some text
text_some : (units text : List ℕ) → units_of text ≡ units → 0 < length units → nat_eq (length text) 0 ≡ false
text_some units [] back some = let none : units ≡ [] = sym back ∙ units_of-nil in let same : length units ≡ 0 = ap length none in absurd (omega arith)
text_some units (byte ∷ text) back some = grind (arith, nat_tests)

-- the fields of a content are what its plan wants
pub content_expects : (content : ops.ContentValue) (begin : Spot) → IsValidContent content → 0 < ops.len_of content → Expects (content_plan (kind_of_content content) begin) (fields_of_content content) content
unfolding content_plan deleted_plan units_plan values_plan nested_plan
content_expects (ops.json units) begin valid some = (
  length units,
  refl,
  λ spot. rw (count_some (length units) some)
      (expects_last (repeated unit_step (length units) []) (λ found. give (ops.json found)) (map field_of_unit units) units (ops.json units) (units_expect [] units valid) refl),
)
content_expects (ops.binary bytes) begin valid some = (bytes, refl, λ spot. refl)
content_expects (ops.string units) begin valid some =
    let back = units_back units valid.0 valid.1 in
    (text_of units, refl, λ spot. rw (text_some units (text_of units) back some) (ap ops.string back))
content_expects (ops.embed t) begin valid some = (t, refl, λ spot. refl)
content_expects (ops.format key t) begin valid some = (key, refl, λ spot. (t, refl, λ at. refl))
content_expects (ops.nested kind) begin valid some = expects_last kind_plan (λ found. give (ops.nested found)) (fields_of_kind kind) kind (ops.nested kind) (kind_expects kind) refl
content_expects (ops.any ts) begin valid some = (
  ops.count_of ts,
  refl,
  λ spot. rw (count_some (ops.count_of ts) some)
      (expects_last (repeated value_step (ops.count_of ts) no_trees) (λ found. give (ops.any found)) (fields_of_trees ts) ts (ops.any ts) (values_expect no_trees ts) refl),
)
content_expects (ops.deleted count) begin valid some = (count, refl, λ spot. rw (count_some count some) refl)
