-- Contents in memory: which unit stands at a place.
use Rattle.std.proofs.Common.{◌≡◌, ℕ, zero, suc, ◌<◌, true, false, List, [], ◌∷◌, Option, map, length, get_or, refl, sym, ap, ◌∙◌, arith}
use Rattle.std.specs.Option.{unwrap_or}
use Rattle.std.specs.Prelude.{slice_get}
use Rattle.std.proofs.lemmas.List.{length-map}
use Rattle.std.proofs.lemmas.Option.{unwrap_or-slice_get}
use Rattle.yd_any.specs.AnyView.{any_tree, any_trees, items_trees}
use Rattle.yd_any.specs.JsonView.{json_tree}
use Rattle.yd_any.specs.Same.{same_tree}
use Rattle.yd_any.specs.Tree.{AnyTree}
use Rattle.yd_any.specs.declared.any_value.Any.{Any as AnyValue}
use Rattle.yd_any.specs.declared.any_value.AnyList.{AnyList}
use Rattle.yd_any.specs.declared.json_value.Json.{Json as JsonValue}
use Rattle.yd_ops.specs.Operation.{any_unit, bytes, deleted_unit, deleted_units, embedded, gone_unit, json_unit, mark, nested_type, text_unit}
use Rattle.yd_ops.specs.Value.{any, count_of, json, len_of}
use Rattle.yd_ops.specs.View.{content_value, unit_value}
use Rattle.yd_ops.specs.declared.contents.Content.{Content}
use Rattle.yd_ops.specs.declared.contents.Content.TheVariants.{Json, Binary, Str, Embed, Format, Nested, Any, Deleted}
use Rattle.yd_ops.specs.declared.contents.JsonUnit.{JsonUnit}
use Rattle.yd_ops.specs.declared.kinds.Kind.{Kind}
use Rattle.yd_grouping.specs.Sameness.{same_content, same_value}
use Rattle.yd_agreement.specs.Units.{unit_of}
use Rattle.yd_agreement.proofs.UnitLemmas.{any_at, json_at, kinds_apart, text_at}

-- ---- a content of another kind

pub no_deleted : (content : Content) (j : ℕ) → ((n : ℕ) → content ≡ Deleted n → ⊥) → j < len_of (content_value content) → false ≡ same_content deleted_unit (unit_of (content_value content) j)
no_deleted (Json units) j other lt = kinds_apart deleted_unit (content_value (Json units)) j lt refl
no_deleted (Binary blob) j other lt = kinds_apart deleted_unit (content_value (Binary blob)) j lt refl
no_deleted (Str units) j other lt = kinds_apart deleted_unit (content_value (Str units)) j lt refl
no_deleted (Embed t) j other lt = kinds_apart deleted_unit (content_value (Embed t)) j lt refl
no_deleted (Format k t) j other lt = kinds_apart deleted_unit (content_value (Format k t)) j lt refl
no_deleted (Nested k) j other lt = kinds_apart deleted_unit (content_value (Nested k)) j lt refl
no_deleted (Any ts) j other lt = kinds_apart deleted_unit (content_value (Any ts)) j lt refl
no_deleted (Deleted n) j other lt = absurd (other n refl)

pub no_binary : (blob : List ℕ) → (content : Content) (j : ℕ) → ((b : List ℕ) → content ≡ Binary b → ⊥) → j < len_of (content_value content) → false ≡ same_content (bytes blob) (unit_of (content_value content) j)
no_binary blob (Json units) j other lt = kinds_apart (bytes blob) (content_value (Json units)) j lt refl
no_binary b (Binary blob) j other lt = absurd (other blob refl)
no_binary blob (Str units) j other lt = kinds_apart (bytes blob) (content_value (Str units)) j lt refl
no_binary blob (Embed t) j other lt = kinds_apart (bytes blob) (content_value (Embed t)) j lt refl
no_binary blob (Format k t) j other lt = kinds_apart (bytes blob) (content_value (Format k t)) j lt refl
no_binary blob (Nested k) j other lt = kinds_apart (bytes blob) (content_value (Nested k)) j lt refl
no_binary blob (Any ts) j other lt = kinds_apart (bytes blob) (content_value (Any ts)) j lt refl
no_binary blob (Deleted n) j other lt = kinds_apart (bytes blob) (content_value (Deleted n)) j lt refl

pub no_embed : (value : JsonValue) → (content : Content) (j : ℕ) → ((t : JsonValue) → content ≡ Embed t → ⊥) → j < len_of (content_value content) → false ≡ same_content (embedded (json_tree value)) (unit_of (content_value content) j)
no_embed value (Json units) j other lt = kinds_apart (embedded (json_tree value)) (content_value (Json units)) j lt refl
no_embed value (Binary blob) j other lt = kinds_apart (embedded (json_tree value)) (content_value (Binary blob)) j lt refl
no_embed value (Str units) j other lt = kinds_apart (embedded (json_tree value)) (content_value (Str units)) j lt refl
no_embed value (Embed t) j other lt = absurd (other t refl)
no_embed value (Format k t) j other lt = kinds_apart (embedded (json_tree value)) (content_value (Format k t)) j lt refl
no_embed value (Nested k) j other lt = kinds_apart (embedded (json_tree value)) (content_value (Nested k)) j lt refl
no_embed value (Any ts) j other lt = kinds_apart (embedded (json_tree value)) (content_value (Any ts)) j lt refl
no_embed value (Deleted n) j other lt = kinds_apart (embedded (json_tree value)) (content_value (Deleted n)) j lt refl

pub no_nested : (kind : Kind) → (content : Content) (j : ℕ) → ((k : Kind) → content ≡ Nested k → ⊥) → j < len_of (content_value content) → false ≡ same_content (nested_type kind) (unit_of (content_value content) j)
no_nested kind (Json units) j other lt = kinds_apart (nested_type kind) (content_value (Json units)) j lt refl
no_nested kind (Binary blob) j other lt = kinds_apart (nested_type kind) (content_value (Binary blob)) j lt refl
no_nested kind (Str units) j other lt = kinds_apart (nested_type kind) (content_value (Str units)) j lt refl
no_nested kind (Embed t) j other lt = kinds_apart (nested_type kind) (content_value (Embed t)) j lt refl
no_nested kind (Format k t) j other lt = kinds_apart (nested_type kind) (content_value (Format k t)) j lt refl
no_nested kind (Nested k) j other lt = absurd (other k refl)
no_nested kind (Any ts) j other lt = kinds_apart (nested_type kind) (content_value (Any ts)) j lt refl
no_nested kind (Deleted n) j other lt = kinds_apart (nested_type kind) (content_value (Deleted n)) j lt refl

pub no_text : (unit : ℕ) → (content : Content) (j : ℕ) → ((us : List ℕ) → content ≡ Str us → ⊥) → j < len_of (content_value content) → false ≡ same_content (text_unit unit) (unit_of (content_value content) j)
no_text unit (Json units) j other lt = kinds_apart (text_unit unit) (content_value (Json units)) j lt refl
no_text unit (Binary blob) j other lt = kinds_apart (text_unit unit) (content_value (Binary blob)) j lt refl
no_text unit (Str units) j other lt = absurd (other units refl)
no_text unit (Embed t) j other lt = kinds_apart (text_unit unit) (content_value (Embed t)) j lt refl
no_text unit (Format k t) j other lt = kinds_apart (text_unit unit) (content_value (Format k t)) j lt refl
no_text unit (Nested k) j other lt = kinds_apart (text_unit unit) (content_value (Nested k)) j lt refl
no_text unit (Any ts) j other lt = kinds_apart (text_unit unit) (content_value (Any ts)) j lt refl
no_text unit (Deleted n) j other lt = kinds_apart (text_unit unit) (content_value (Deleted n)) j lt refl

pub no_format : (key : List ℕ) (value : JsonValue) → (content : Content) (j : ℕ) → ((k : List ℕ) (t : JsonValue) → content ≡ Format k t → ⊥) → j < len_of (content_value content) → false ≡ same_content (mark key (json_tree value)) (unit_of (content_value content) j)
no_format key value (Json units) j other lt = kinds_apart (mark key (json_tree value)) (content_value (Json units)) j lt refl
no_format key value (Binary blob) j other lt = kinds_apart (mark key (json_tree value)) (content_value (Binary blob)) j lt refl
no_format key value (Str units) j other lt = kinds_apart (mark key (json_tree value)) (content_value (Str units)) j lt refl
no_format key value (Embed t) j other lt = kinds_apart (mark key (json_tree value)) (content_value (Embed t)) j lt refl
no_format key value (Format k t) j other lt = absurd (other k t refl)
no_format key value (Nested k) j other lt = kinds_apart (mark key (json_tree value)) (content_value (Nested k)) j lt refl
no_format key value (Any ts) j other lt = kinds_apart (mark key (json_tree value)) (content_value (Any ts)) j lt refl
no_format key value (Deleted n) j other lt = kinds_apart (mark key (json_tree value)) (content_value (Deleted n)) j lt refl

pub no_any : (value : AnyValue) → (content : Content) (j : ℕ) → ((ts : AnyList) → content ≡ Any ts → ⊥) → j < len_of (content_value content) → false ≡ same_content (any_unit (any_tree value)) (unit_of (content_value content) j)
no_any value (Json units) j other lt = kinds_apart (any_unit (any_tree value)) (content_value (Json units)) j lt refl
no_any value (Binary blob) j other lt = kinds_apart (any_unit (any_tree value)) (content_value (Binary blob)) j lt refl
no_any value (Str units) j other lt = kinds_apart (any_unit (any_tree value)) (content_value (Str units)) j lt refl
no_any value (Embed t) j other lt = kinds_apart (any_unit (any_tree value)) (content_value (Embed t)) j lt refl
no_any value (Format k t) j other lt = kinds_apart (any_unit (any_tree value)) (content_value (Format k t)) j lt refl
no_any value (Nested k) j other lt = kinds_apart (any_unit (any_tree value)) (content_value (Nested k)) j lt refl
no_any value (Any ts) j other lt = absurd (other ts refl)
no_any value (Deleted n) j other lt = kinds_apart (any_unit (any_tree value)) (content_value (Deleted n)) j lt refl

pub no_json : (unit : JsonUnit) → (content : Content) (j : ℕ) → ((us : List JsonUnit) → content ≡ Json us → ⊥) → j < len_of (content_value content) → false ≡ same_content (json_unit (unit_value unit)) (unit_of (content_value content) j)
no_json unit (Json units) j other lt = absurd (other units refl)
no_json unit (Binary blob) j other lt = kinds_apart (json_unit (unit_value unit)) (content_value (Binary blob)) j lt refl
no_json unit (Str units) j other lt = kinds_apart (json_unit (unit_value unit)) (content_value (Str units)) j lt refl
no_json unit (Embed t) j other lt = kinds_apart (json_unit (unit_value unit)) (content_value (Embed t)) j lt refl
no_json unit (Format k t) j other lt = kinds_apart (json_unit (unit_value unit)) (content_value (Format k t)) j lt refl
no_json unit (Nested k) j other lt = kinds_apart (json_unit (unit_value unit)) (content_value (Nested k)) j lt refl
no_json unit (Any ts) j other lt = kinds_apart (json_unit (unit_value unit)) (content_value (Any ts)) j lt refl
no_json unit (Deleted n) j other lt = kinds_apart (json_unit (unit_value unit)) (content_value (Deleted n)) j lt refl

-- ---- the unit at a place

count-items : (vs : List AnyValue) → count_of (items_trees vs) ≡ length vs
count-items [] = refl
count-items (v ∷ vs) = ap suc (count-items vs)

deleted_at : (count j : ℕ) → j < count → deleted_unit ≡ get_or (deleted_units count) j gone_unit
deleted_at zero j lt = absurd (omega (arith, lt))
deleted_at (suc count) zero lt = refl
deleted_at (suc count) (suc j) lt = deleted_at count j (omega (arith, lt))

pub deleted_unit_is : (content : Content) (n j : ℕ) → content ≡ Deleted n → j < len_of (content_value content) → deleted_unit ≡ unit_of (content_value content) j
deleted_unit_is content n j e lt = deleted_at n j (omega (arith, lt, ap (λ (c : Content). len_of (content_value c)) e)) ∙ ap (λ (c : Content). unit_of (content_value c) j) (sym e)

pub deleted_is : (content : Content) (n j : ℕ) → content ≡ Deleted n → j < len_of (content_value content) → true ≡ same_content deleted_unit (unit_of (content_value content) j)
deleted_is content n j e lt = ap (same_content deleted_unit) (deleted_unit_is content n j e lt)

pub any_inside : (content : Content) (ts : AnyList) (vs : List AnyValue) (j : ℕ) → content ≡ Any ts → items_trees vs ≡ any_trees ts → j < len_of (content_value content) → j < length vs
any_inside content ts vs j e lent lt = omega (arith, lt, ap (λ (c : Content). len_of (content_value c)) e, ap count_of lent, count-items vs)

pub any_unit_is : (content : Content) (ts : AnyList) (vs : List AnyValue) (j : ℕ) (v : AnyValue) → content ≡ Any ts → items_trees vs ≡ any_trees ts → j < len_of (content_value content) →
    v ≡ get_or vs j v → any_unit (any_tree v) ≡ unit_of (content_value content) j
any_unit_is content ts vs j v e lent lt here = ap (λ w. any_unit (any_tree w)) here ∙ sym (any_at vs j v (any_inside content ts vs j e lent lt))
    ∙ ap (λ us. unit_of (any us) j) lent ∙ ap (λ (c : Content). unit_of (content_value c) j) (sym e)

pub any_is : (t : AnyTree) (content : Content) (ts : AnyList) (vs : List AnyValue) (j : ℕ) (v : AnyValue) → content ≡ Any ts → items_trees vs ≡ any_trees ts →
    j < len_of (content_value content) → v ≡ get_or vs j v → same_tree t (any_tree v) ≡ same_content (any_unit t) (unit_of (content_value content) j)
any_is t content ts vs j v e lent lt here = ap (same_content (any_unit t)) (any_unit_is content ts vs j v e lent lt here)

json_inside : (content : Content) (us vs : List JsonUnit) (j : ℕ) → content ≡ Json us → vs ≡ us → j < len_of (content_value content) → j < length vs
json_inside content us vs j e lent lt = omega (arith, lt, ap (λ (c : Content). len_of (content_value c)) e, ap length lent, length-map us unit_value)

pub json_unit_is : (content : Content) (us vs : List JsonUnit) (j : ℕ) (u : JsonUnit) → content ≡ Json us → vs ≡ us → j < len_of (content_value content) →
    u ≡ get_or vs j u → json_unit (unit_value u) ≡ unit_of (content_value content) j
json_unit_is content us vs j u e lent lt here = ap (λ w. json_unit (unit_value w)) here ∙ sym (json_at vs j u (json_inside content us vs j e lent lt))
    ∙ ap (λ ws. unit_of (json (map unit_value ws)) j) lent ∙ ap (λ (c : Content). unit_of (content_value c) j) (sym e)

pub json_is : (x : Option AnyTree) (content : Content) (us vs : List JsonUnit) (j : ℕ) (u : JsonUnit) → content ≡ Json us → vs ≡ us → j < len_of (content_value content) →
    u ≡ get_or vs j u → same_value x (unit_value u) ≡ same_content (json_unit x) (unit_of (content_value content) j)
json_is x content us vs j u e lent lt here = ap (same_content (json_unit x)) (json_unit_is content us vs j u e lent lt here)

pub text_unit_is : (content : Content) (us : List ℕ) (i : ℕ) (found : Option ℕ) (unit : ℕ) → content ≡ Str us → found ≡ slice_get us i → unit ≡ unwrap_or found 0 →
    i < len_of (content_value content) → text_unit unit ≡ unit_of (content_value content) i
text_unit_is content us i found unit e got is lt = ap text_unit (is ∙ ap (λ o. unwrap_or o 0) got ∙ unwrap_or-slice_get us i 0)
    ∙ sym (text_at us i (omega (arith, lt, ap (λ (c : Content). len_of (content_value c)) e))) ∙ ap (λ (c : Content). unit_of (content_value c) i) (sym e)
