-- Units of contents: which one stands at a place, and that units of two kinds are not the same.
use Rattle.std.proofs.Common.{◌≡◌, ℕ, zero, suc, ◌<◌, Bool, true, false, List, [], ◌∷◌, Option, map, length, get_or, refl, sym, ap, ◌∙◌, arith, tests, true≢false}
use Rattle.std.specs.Prelude.{nat_eq}
use Rattle.yd_any.specs.AnyView.{any_tree, items_trees}
use Rattle.yd_any.specs.Tree.{AnyTree, AnyTrees, no_trees, tree}
use Rattle.yd_any.specs.declared.any_value.Any.{Any}
use Rattle.yd_ops.specs.Operation.{UnitContent, any_unit, bytes, deleted_units, embedded, gone_unit, json_unit, mark, nested_type, text_unit, units_of_trees}
use Rattle.yd_ops.specs.Value.{ContentValue, any, binary, count_of, deleted, embed, format, json, len_of, nested, string}
use Rattle.yd_ops.specs.View.{unit_value}
use Rattle.yd_ops.specs.declared.contents.JsonUnit.{JsonUnit}
use Rattle.yd_grouping.specs.Sameness.{same_content}
use Rattle.yd_grouping.proofs.SamenessLemmas.{content_decides}
use Rattle.yd_agreement.specs.Units.{kind_of_content, kind_of_unit, unit_of}

-- ---- the units of a content are of its kind

json_kind : (values : List (Option AnyTree)) (j : ℕ) → j < length values → kind_of_unit (get_or (map json_unit values) j gone_unit) ≡ 0
json_kind [] j lt = absurd (omega arith)
json_kind (value ∷ values) zero lt = refl
json_kind (value ∷ values) (suc j) lt = json_kind values j (omega arith)

text_kind : (units : List ℕ) (j : ℕ) → j < length units → kind_of_unit (get_or (map text_unit units) j gone_unit) ≡ 2
text_kind [] j lt = absurd (omega arith)
text_kind (unit ∷ units) zero lt = refl
text_kind (unit ∷ units) (suc j) lt = text_kind units j (omega arith)

any_kind : (ts : AnyTrees) (j : ℕ) → j < count_of ts → kind_of_unit (get_or (units_of_trees ts) j gone_unit) ≡ 6
any_kind no_trees j lt = absurd (omega (arith, lt))
any_kind (tree t ts) zero lt = refl
any_kind (tree t ts) (suc j) lt = any_kind ts j (omega (arith, lt))

deleted_kind : (count j : ℕ) → j < count → kind_of_unit (get_or (deleted_units count) j gone_unit) ≡ 7
deleted_kind zero j lt = absurd (omega (arith, lt))
deleted_kind (suc count) zero lt = refl
deleted_kind (suc count) (suc j) lt = deleted_kind count j (omega (arith, lt))

one_kind : (unit : UnitContent) (j : ℕ) → j < 1 → kind_of_unit (get_or (unit ∷ []) j gone_unit) ≡ kind_of_unit unit
one_kind unit zero lt = refl
one_kind unit (suc j) lt = absurd (omega (arith, lt))

pub kind_at : (content : ContentValue) (j : ℕ) → j < len_of content → kind_of_unit (unit_of content j) ≡ kind_of_content content
kind_at (json values) j lt = json_kind values j lt
kind_at (binary blob) j lt = one_kind (bytes blob) j lt
kind_at (string units) j lt = text_kind units j lt
kind_at (embed t) j lt = one_kind (embedded t) j lt
kind_at (format key t) j lt = one_kind (mark key t) j lt
kind_at (nested kind) j lt = one_kind (nested_type kind) j lt
kind_at (any ts) j lt = any_kind ts j lt
kind_at (deleted count) j lt = deleted_kind count j lt

-- ---- lemmas for callers

-- units of two kinds are not the same
pub kinds_apart : (unit : UnitContent) (content : ContentValue) (j : ℕ) → j < len_of content → nat_eq (kind_of_unit unit) (kind_of_content content) ≡ false →
    false ≡ same_content unit (unit_of content j)
kinds_apart unit content j lt other = go (same_content unit (unit_of content j)) refl
  where
    go : (b : Bool) → same_content unit (unit_of content j) ≡ b → false ≡ same_content unit (unit_of content j)
    go false e = sym e
    go true e = absurd (true≢false (sym same ∙ other))
      where
        same : nat_eq (kind_of_unit unit) (kind_of_content content) ≡ true
        same = let one : kind_of_unit unit ≡ kind_of_content content = ap kind_of_unit ((content_decides unit (unit_of content j)).0 e) ∙ kind_at content j lt in grind (arith, tests, one)

-- the unit of a text, of any-values and of JSON units at a place
pub text_at : (units : List ℕ) (j : ℕ) → j < length units → unit_of (string units) j ≡ text_unit (get_or units j 0)
text_at [] j lt = absurd (omega arith)
text_at (unit ∷ units) zero lt = refl
text_at (unit ∷ units) (suc j) lt = text_at units j (omega arith)

pub any_at : (vs : List Any) (j : ℕ) (d : Any) → j < length vs → unit_of (any (items_trees vs)) j ≡ any_unit (any_tree (get_or vs j d))
any_at [] j d lt = absurd (omega arith)
any_at (v ∷ vs) zero d lt = refl
any_at (v ∷ vs) (suc j) d lt = any_at vs j d (omega arith)

pub json_at : (us : List JsonUnit) (j : ℕ) (d : JsonUnit) → j < length us → unit_of (json (map unit_value us)) j ≡ json_unit (unit_value (get_or us j d))
json_at [] j d lt = absurd (omega arith)
json_at (u ∷ us) zero d lt = refl
json_at (u ∷ us) (suc j) d lt = json_at us j d (omega arith)

pub one_at : (unit : UnitContent) (j : ℕ) → j < 1 → get_or (unit ∷ []) j gone_unit ≡ unit
one_at unit zero lt = refl
one_at unit (suc j) lt = absurd (omega (arith, lt))
