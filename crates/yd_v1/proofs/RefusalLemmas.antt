-- At which spots plans refuse: at those that they are told, up to the plan of an update.
use Rattle.std.proofs.Common.{◌≡◌, ◌∙◌, ◌^◌, ◌+◌, ℕ, zero, suc, Bool, true, false, List, [], Option, Some, None, length, Result, Ok, Err, if◌then◌else◌, nat_eq, nat_lt, refl, ap, subst}
use Rattle.std.specs.Prelude.{codes}
use Rattle.std.specs.Str.{bytes_eq}
use Rattle.yd_any.specs.Outcome.{value_of_text}
use Rattle.yd_any.specs.Tree.{AnyFields, AnyTree, AnyTrees, no_fields, no_trees}
use Rattle.yd_any.specs.declared.fault.JsonFault.{JsonFault}
use Rattle.yd_fields.specs.Field.{FieldType, FieldValue}
use Rattle.yd_fields.specs.Field as field
use Rattle.yd_fields.specs.JsonPlan.{made_at}
use Rattle.yd_fields.specs.StructPlan.{carried_plan, clocks_plan, content_plan, deleted_plan, ended_plan, gone_plan, has_key, has_left, has_right, item_plan, kind_of_info, kind_plan, kinded_plan, list_plan, nested_plan, numbered_plan, optional_plan, parent_plan, skip_plan, struct_plan, type_plan, unit_step, units_plan, value_step, values_plan}
use Rattle.yd_fields.specs.TypeNumber.{kind_of_number}
use Rattle.yd_fields.specs.UpdatePlan.{BlocksRead, RangesRead, StructsRead, block_plan, blocks_step, clients_step, deletes_plan, may_declare, ranges_step, structs_step, update_plan}
use Rattle.yd_fields.specs.declared.info.ContentKind.{ContentKind}
use Rattle.yd_fields.specs.declared.info.ContentKind.TheVariants.{Deleted, Json, Binary, Str, Embed, Format, Nested, Any}
use Rattle.yd_fields.specs.declared.info.StructKind.{StructKind}
use Rattle.yd_fields.specs.declared.info.StructKind.TheVariants.{Gone, Item, Subdocument, Skip, Unknown}
use Rattle.yd_fields.specs.declared.kinds.TypeKind.{TypeKind}
use Rattle.yd_fields.specs.declared.kinds.TypeKind.TheVariants as types
use Rattle.yd_ids.specs.declared.id.Client.{Client}
use Rattle.yd_ids.specs.declared.id.Id.{Id}
use Rattle.yd_ids.specs.declared.id.Span.{Span}
use Rattle.yd_num.proofs.ReadingLemmas.{ok_value}
use Rattle.yd_ops.specs.Value as ops
use Rattle.yd_parts.specs.AnyPlan.{any_plan, field_step, list_plan as any_list_plan, pairs_plan, tag_of_byte, tagged_plan, tree_step, whole_plan}
use Rattle.yd_parts.specs.Fault.{Fault}
use Rattle.yd_parts.specs.Part.{PartPlan, PartValue}
use Rattle.yd_parts.specs.Plan.{Plan, give, refuse, want, ◌>>=◌, and_then, of_made, read_by, repeated}
use Rattle.yd_parts.specs.declared.fault.Cause.TheVariants.{BadParent, ClockTooLarge}
use Rattle.yd_parts.specs.declared.fault.Spot.{Spot}
use Rattle.yd_parts.specs.declared.tag.Tag.{Tag}
use Rattle.yd_parts.specs.declared.tag.Tag.TheVariants.{Undefined, Null, Whole, Raw4, Raw8, Big, False, True, Str as StrTag, Pairs, List as Listed, Blob}
use Rattle.yd_v1.specs.Reading.{flag_plan, id_plan, json_text_plan, range_plan, v1_plan}

-- ---- plans in general

-- a plan refuses only at spots that have P, where each spot that it is told has P
abbrev pub RefusesAt : {T : Type 0} {V : T → Type 0} {X : Type 0} → (Spot → Type 0) → Plan V X → Type 0
RefusesAt P (give x) = Unit {0}
RefusesAt P (refuse cause spot) = P spot
RefusesAt {V = V} P (want t next) = (v : V t) (spot : Spot) → P spot → RefusesAt P (next v spot)

-- two plans in a row
refuses_bind : {T : Type 0} {V : T → Type 0} {X Y : Type 0} (P : Spot → Type 0) (plan : Plan V X) (next : X → Plan V Y) → RefusesAt P plan → ((x : X) → RefusesAt P (next x)) → RefusesAt P (plan >>= next)
unfolding ◌>>=◌
refuses_bind P (give x) next first later = later x
refuses_bind P (refuse cause spot) next first later = first
refuses_bind P (want t go) next first later = λ v spot at. refuses_bind P (go v spot) next (first v spot at) later

-- a step so many times
refuses_repeated : {T : Type 0} {V : T → Type 0} {A : Type 0} (P : Spot → Type 0) (step : A → Plan V A) (count : ℕ) (now : A) → ((a : A) → RefusesAt P (step a)) → RefusesAt P (repeated step count now)
unfolding repeated
refuses_repeated P step zero now each = tt
refuses_repeated P step (suc count) now each = refuses_bind P (step now) (λ a. repeated step count a) (each now) (λ a. refuses_repeated P step count a each)

-- a choice by a test
refuses_if : {T : Type 0} {V : T → Type 0} {X : Type 0} (P : Spot → Type 0) (test : Bool) (plan other : Plan V X) → RefusesAt P plan → RefusesAt P other → RefusesAt P (if test then plan else other)
refuses_if P true plan other first second = first
refuses_if P false plan other first second = second

-- each spot that is told, and that of each fault, has P, and what is left is sound again
pub record TellsAt {T : Type 0} {V : T → Type 0} {S : Type 0} (at : (t : T) → S → Result (V t × S) Fault) (spot_of : S → Spot) (IsSound : S → Type 0) (P : Spot → Type 0) : Type 0 where
  pub told : (t : T) (now : S) (v : V t) (next : S) → IsSound now → at t now ≡ Ok (v, next) → IsSound next × P (spot_of next)
  pub lacks : (t : T) (now : S) (why : Fault) → IsSound now → at t now ≡ Err why → P why.spot

-- so the spot of a fault has P, and what is left behind a plan is sound
pub record ReadsAt {T : Type 0} {V : T → Type 0} {S X : Type 0} (at : (t : T) → S → Result (V t × S) Fault) (spot_of : S → Spot) (IsSound : S → Type 0) (P : Spot → Type 0) (plan : Plan V X) (s : S) : Type 0 where
  pub ends : (x : X) (end : S) → read_by at spot_of plan s ≡ Ok (x, end) → IsSound end
  pub fails : (why : Fault) → read_by at spot_of plan s ≡ Err why → P why.spot

pub reads_at : {T : Type 0} {V : T → Type 0} {S X : Type 0} (at : (t : T) → S → Result (V t × S) Fault) (spot_of : S → Spot) (IsSound : S → Type 0) (P : Spot → Type 0) (plan : Plan V X) (s : S) →
    TellsAt at spot_of IsSound P → RefusesAt P plan → IsSound s → ReadsAt at spot_of IsSound P plan s
unfolding read_by
reads_at {S = S} at spot_of IsSound P (give y) s tells refuses sound =
    record { ends = λ x end read. subst IsSound (ap (λ got. got.1) (ok_value (y, s) (x, end) read)) sound; fails = λ why read. absurd cc }
reads_at at spot_of IsSound P (refuse cause spot) s tells refuses sound =
    record { ends = λ x end read. absurd cc; fails = λ why read. let same : record { cause = cause; spot = spot } ≡ why = cc in subst (λ (one : Fault). P one.spot) same refuses }
reads_at {T} {V} {S} {X} at spot_of IsSound P (want t next) s tells refuses sound =
    let both = behind (at t s) refl (λ v spot now. reads_at at spot_of IsSound P (next v spot) now tells) in
    record { ends = both.0; fails = both.1 }
  where
    behind : (first : Result (V t × S) Fault) → at t s ≡ first → ((v : V t) (spot : Spot) (now : S) → RefusesAt P (next v spot) → IsSound now → ReadsAt at spot_of IsSound P (next v spot) now) →
        ((x : X) (end : S) → and_then first (λ got. read_by at spot_of (next got.0 (spot_of got.1)) got.1) ≡ Ok (x, end) → IsSound end)
        × ((why : Fault) → and_then first (λ got. read_by at spot_of (next got.0 (spot_of got.1)) got.1) ≡ Err why → P why.spot)
    behind (Ok got) is later =
        let has = tells.told t s got.0 got.1 sound is in
        let rest = later got.0 (spot_of got.1) got.1 (refuses got.0 (spot_of got.1) has.1) has.0 in
        (rest.ends, rest.fails)
    behind (Err other) is later = (λ x end read. absurd cc, λ why read. let same : other ≡ why = cc in tells.lacks t s why sound (is ∙ ap Err same))

-- ---- any-values

-- one more value of a list
tree_step_at : (P : Spot → Type 0) (inner : PartPlan AnyTree) (found : AnyTrees) → RefusesAt P inner → RefusesAt P (tree_step inner found)
unfolding tree_step
tree_step_at P inner found each = refuses_bind P inner _ each (λ t. tt)

-- one more pair of an object
field_step_at : (P : Spot → Type 0) (inner : PartPlan AnyTree) (found : AnyFields) → RefusesAt P inner → RefusesAt P (field_step inner found)
unfolding field_step
field_step_at P inner found each = λ key spot at. refuses_bind P inner _ each (λ t. tt)

-- a list
any_list_at : (P : Spot → Type 0) (inner : PartPlan AnyTree) (spot : Spot) → RefusesAt P inner → RefusesAt P (any_list_plan (Some inner) spot)
unfolding any_list_plan
any_list_at P inner spot each = λ count place at. refuses_repeated P (tree_step inner) count no_trees (λ found. tree_step_at P inner found each)

-- an object
pairs_at : (P : Spot → Type 0) (inner : PartPlan AnyTree) (spot : Spot) → RefusesAt P inner → RefusesAt P (pairs_plan (Some inner) spot)
unfolding pairs_plan
pairs_at P inner spot each = λ count place at. refuses_repeated P (field_step inner) count no_fields (λ found. field_step_at P inner found each)

-- a whole number
whole_at : (P : Spot → Type 0) → RefusesAt P whole_plan
unfolding whole_plan
whole_at P = λ n spot at. refuses_if P (nat_lt n.size (2 ^ 53)) _ _ tt at

-- what stands behind a tag where nothing may open
scalar_at : (P : Spot → Type 0) (spot : Spot) (tag : Option Tag) → P spot → RefusesAt P (tagged_plan None spot tag)
unfolding any_list_plan pairs_plan ◌>>=◌
scalar_at P spot None at = at
scalar_at P spot (Some Undefined) at = tt
scalar_at P spot (Some Null) at = tt
scalar_at P spot (Some Whole) at = whole_at P
scalar_at P spot (Some Raw4) at = λ bs place there. tt
scalar_at P spot (Some Raw8) at = λ bs place there. tt
scalar_at P spot (Some Big) at = λ bs place there. tt
scalar_at P spot (Some False) at = tt
scalar_at P spot (Some True) at = tt
scalar_at P spot (Some StrTag) at = λ t place there. tt
scalar_at P spot (Some Pairs) at = at
scalar_at P spot (Some Listed) at = at
scalar_at P spot (Some Blob) at = λ bs place there. tt

-- what stands behind a tag where values may stand inside
tagged_at : (P : Spot → Type 0) (inner : PartPlan AnyTree) (spot : Spot) (tag : Option Tag) → RefusesAt P inner → P spot → RefusesAt P (tagged_plan (Some inner) spot tag)
tagged_at P inner spot None each at = at
tagged_at P inner spot (Some Undefined) each at = tt
tagged_at P inner spot (Some Null) each at = tt
tagged_at P inner spot (Some Whole) each at = whole_at P
tagged_at P inner spot (Some Raw4) each at = λ bs place there. tt
tagged_at P inner spot (Some Raw8) each at = λ bs place there. tt
tagged_at P inner spot (Some Big) each at = λ bs place there. tt
tagged_at P inner spot (Some False) each at = tt
tagged_at P inner spot (Some True) each at = tt
tagged_at P inner spot (Some StrTag) each at = λ t place there. tt
tagged_at P inner spot (Some Pairs) each at = refuses_bind P (pairs_plan (Some inner) spot) _ (pairs_at P inner spot each) (λ fs. tt)
tagged_at P inner spot (Some Listed) each at = refuses_bind P (any_list_plan (Some inner) spot) _ (any_list_at P inner spot each) (λ ts. tt)
tagged_at P inner spot (Some Blob) each at = λ bs place there. tt

-- an any-value
any_at : (P : Spot → Type 0) (most : ℕ) → RefusesAt P (any_plan most)
unfolding any_plan
any_at P zero = λ b spot at. scalar_at P spot (tag_of_byte b) at
any_at P (suc most) = λ b spot at. tagged_at P (any_plan most) spot (tag_of_byte b) (any_at P most) at

-- ---- fields

-- what was made of a JSON text
made_json_at : (P : Spot → Type 0) (spot : Spot) (made : Result AnyTree JsonFault) → P spot → RefusesAt {V = PartValue} P (of_made (made_at spot made))
made_json_at P spot (Ok t) at = tt
made_json_at P spot (Err fault) at = at

-- what was judged by a test
judged_at : {X : Type 0} (P : Spot → Type 0) (test : Bool) (x : X) (fault : Fault) → P fault.spot → RefusesAt {V = PartValue} P (of_made (if test then Ok x else Err fault))
judged_at P true x fault at = tt
judged_at P false x fault at = at

-- the parts of a field of each type
pub field_plan_at : (P : Spot → Type 0) (t : FieldType) → RefusesAt P (v1_plan t)
unfolding id_plan flag_plan range_plan json_text_plan
field_plan_at P field.info = λ v spot at. tt
field_plan_at P field.client = λ v spot at. tt
field_plan_at P field.left = λ client spot at clock place there. tt
field_plan_at P field.right = λ client spot at clock place there. tt
field_plan_at P field.flag = λ flag spot at. judged_at P (nat_lt flag 2) flag (record { cause = BadParent; spot = spot }) at
field_plan_at P field.string = λ v spot at. tt
field_plan_at P field.key = λ v spot at. tt
field_plan_at P field.kind = λ v spot at. tt
field_plan_at P field.len = λ v spot at. tt
field_plan_at P field.any = any_at P 100
field_plan_at P field.blob = λ v spot at. tt
field_plan_at P field.json = λ text spot at. made_json_at P spot (value_of_text text) at
field_plan_at P field.number = λ v spot at. tt
field_plan_at P (field.range before) = λ clock spot at len place there. judged_at P (nat_lt (clock + len) (2 ^ 53)) (clock, len) (record { cause = ClockTooLarge; spot = spot }) at

-- ---- the plan of an update

-- a field that may be there
optional_at : (P : Spot → Type 0) (t : FieldType) (there : Bool) → RefusesAt P (optional_plan t there)
optional_at P t true = λ v spot at. tt
optional_at P t false = tt

-- a list
list_at : (P : Spot → Type 0) (keyed : Bool) → RefusesAt P (list_plan keyed)
unfolding list_plan parent_plan
list_at P keyed =
    refuses_bind P parent_plan _ (λ flag spot at. refuses_if P (nat_eq flag 1) _ _ (λ name place there. tt) (λ id place there. tt))
    (λ parent. refuses_bind P (optional_plan field.string keyed) _ (optional_at P field.string keyed) (λ key. tt))

-- a list that is carried where both origins are absent
carried_at : (P : Spot → Type 0) (keyed : Bool) (left right : Option Id) → RefusesAt P (carried_plan keyed left right)
carried_at P keyed None None = list_at P keyed
carried_at P keyed None (Some right) = tt
carried_at P keyed (Some left) right = tt

-- one more JSON unit
unit_at : (P : Spot → Type 0) (found : List (Option AnyTree)) → RefusesAt P (unit_step found)
unfolding unit_step
unit_at P found = λ text spot at. refuses_bind P _ _ (made (bytes_eq text (codes "undefined")) (value_of_text text) spot at) (λ unit. tt)
  where
    made : (undefined : Bool) (made : Result AnyTree JsonFault) (spot : Spot) → P spot →
        RefusesAt {V = FieldValue} P (of_made (if undefined then Ok None else and_then (made_at spot made) (λ t. Ok (Some t))))
    made true json spot at = tt
    made false (Ok t) spot at = tt
    made false (Err fault) spot at = at

-- one more any-value
value_at_step : (P : Spot → Type 0) (found : AnyTrees) → RefusesAt P (value_step found)
unfolding value_step
value_at_step P found = λ t spot at. tt

-- what stands behind a type's number
type_at : (P : Spot → Type 0) (kind : TypeKind) → RefusesAt P (type_plan kind)
type_at P types.Array = tt
type_at P types.Map = tt
type_at P types.Text = tt
type_at P types.Element = λ name spot at. tt
type_at P types.Fragment = tt
type_at P types.Hook = λ name spot at. tt
type_at P types.ElementText = tt

-- a type that was found by its number, or none
numbered_at : (P : Spot → Type 0) (spot : Spot) (kind : Option TypeKind) → P spot → RefusesAt P (numbered_plan spot kind)
numbered_at P spot None at = at
numbered_at P spot (Some kind) at = type_at P kind

-- a content of each kind
content_at : (P : Spot → Type 0) (kind : ContentKind) (begin : Spot) → P begin → RefusesAt P (content_plan kind begin)
unfolding content_plan deleted_plan units_plan values_plan nested_plan kind_plan
content_at P Deleted begin at = λ count spot there. refuses_if P (nat_eq count 0) _ _ at tt
content_at P Json begin at = λ count spot there. refuses_if P (nat_eq count 0) _ _ at (refuses_bind P (repeated unit_step count []) _ (refuses_repeated P unit_step count [] (unit_at P)) (λ units. tt))
content_at P Binary begin at = λ bytes spot there. tt
content_at P Str begin at = λ text spot there. refuses_if P (nat_eq (length text) 0) _ _ at tt
content_at P Embed begin at = λ t spot there. tt
content_at P Format begin at = λ key spot there t place here. tt
content_at P Nested begin at = refuses_bind P kind_plan _ (λ n spot there. numbered_at P spot (kind_of_number n) there) (λ kind. tt)
content_at P Any begin at = λ count spot there. refuses_if P (nat_eq count 0) _ _ at (refuses_bind P (repeated value_step count no_trees) _ (refuses_repeated P value_step count no_trees (value_at_step P)) (λ values. tt))

-- a struct that ends at a clock
ended_at : (P : Spot → Type 0) (clock : ℕ) (begin : Spot) (s : ops.StructValue) → P begin → RefusesAt P (ended_plan clock begin s)
ended_at P clock begin s at = refuses_if P (nat_lt (clock + ops.clocks_of s) (2 ^ 53)) _ _ tt at

-- a number of clocks
clocks_at_plan : (P : Spot → Type 0) (clock : ℕ) (begin : Spot) (s : ops.StructValue) → P begin → RefusesAt P (clocks_plan clock begin s)
clocks_at_plan P clock begin s at = refuses_if P (nat_eq (ops.clocks_of s) 0) _ _ at (ended_at P clock begin s at)

-- an item
item_at : (P : Spot → Type 0) (client : Client) (clock info : ℕ) (begin : Spot) (kind : ContentKind) → P begin → RefusesAt P (item_plan client clock info begin kind)
unfolding item_plan
item_at P client clock info begin kind at =
    refuses_bind P (optional_plan field.left (has_left info)) _ (optional_at P field.left (has_left info)) (λ left.
    refuses_bind P (optional_plan field.right (has_right info)) _ (optional_at P field.right (has_right info)) (λ right.
    refuses_bind P (carried_plan (has_key info) left right) _ (carried_at P (has_key info) left right) (λ list.
    refuses_bind P (content_plan kind begin) _ (content_at P kind begin at) (λ content.
    ended_at P clock begin (ops.item (record { id = record { client = client; clock = clock }; left = left; right = right; list = list; content = content })) at))))

-- a struct of each kind
kinded_at : (P : Spot → Type 0) (client : Client) (clock info : ℕ) (begin : Spot) (kind : StructKind) → P begin → RefusesAt P (kinded_plan client clock info begin kind)
unfolding kinded_plan gone_plan skip_plan
kinded_at P client clock info begin Gone at = λ count spot there. clocks_at_plan P clock begin (ops.gone count) at
kinded_at P client clock info begin (Item kind) at = item_at P client clock info begin kind at
kinded_at P client clock info begin Subdocument at = at
kinded_at P client clock info begin Skip at = λ count spot there. clocks_at_plan P clock begin (ops.skip count) at
kinded_at P client clock info begin Unknown at = at

-- one more struct
structs_at : (P : Spot → Type 0) (client : Client) (read : StructsRead) → RefusesAt P (structs_step client read)
unfolding structs_step struct_plan
structs_at P client read = refuses_bind P (struct_plan client read.clock) _ (λ info begin at. kinded_at P client read.clock info begin (kind_of_info info) at) (λ s. tt)

-- one more block
blocks_at : (P : Spot → Type 0) (read : BlocksRead) → RefusesAt P (blocks_step read)
unfolding blocks_step block_plan
blocks_at P read = λ count spot at. refuses_if P (may_declare read.most count) _ _
    (refuses_bind P (block_plan count) _
    (λ client begin there clock place here. refuses_bind P (repeated (structs_step (record { 0 = client })) count (record { clock = clock; structs = [] })) _
    (refuses_repeated P (structs_step (record { 0 = client })) count (record { clock = clock; structs = [] }) (structs_at P (record { 0 = client }))) (λ found. tt))
    (λ block. tt))
    at

-- one more range
ranges_at : (P : Spot → Type 0) (client : Client) (read : RangesRead) → RefusesAt P (ranges_step client read)
unfolding ranges_step
ranges_at P client read = λ r spot at. tt

-- the ranges of one more client
clients_at : (P : Spot → Type 0) (found : List Span) → RefusesAt P (clients_step found)
unfolding clients_step
clients_at P found = λ client spot at count place there.
    refuses_bind P (repeated (ranges_step (record { 0 = client })) count (record { end = 0; spans = found })) _
    (refuses_repeated P (ranges_step (record { 0 = client })) count (record { end = 0; spans = found }) (ranges_at P (record { 0 = client }))) (λ read. tt)

-- an update
pub update_at : (P : Spot → Type 0) (most : Option ℕ) → RefusesAt P (update_plan most)
unfolding update_plan deletes_plan
update_at P most = λ count spot at.
    refuses_bind P (repeated blocks_step count (record { most = most; blocks = [] })) _
    (refuses_repeated P blocks_step count (record { most = most; blocks = [] }) (blocks_at P))
    (λ read. refuses_bind P deletes_plan _
    (λ clients begin there. refuses_bind P (repeated clients_step clients []) _ (refuses_repeated P clients_step clients [] (clients_at P)) (λ spans. tt))
    (λ deletes. tt))
