-- What reading structs gives is valid.
use Rattle.std.proofs.Common.{◌≡◌, ◌∙◌, ◌+◌, ◌<◌, ◌^◌, ◌++◌, [], ◌∷◌, ℕ, zero, suc, Bool, true, false, List, length, Option, Some, None, Result, Ok, Err, IfSome, IsTrue, IsUtf8, nat_eq, nat_lt, if◌then◌else◌, refl, subst, ap, arith, length-append}
use Rattle.std.proofs.lemmas.Bool.{ltb-true}
use Rattle.std.proofs.lemmas.Bool.Decides.{nat_tests}
use Rattle.yd_words.specs.Each.{Each}
use Rattle.yd_any.specs.Tree.{AnyTree, AnyTrees, tree, no_trees, with_last}
use Rattle.yd_any.specs.Valid.{is_valid_any}
use Rattle.yd_ids.specs.Id.{IsClock, IsId}
use Rattle.yd_ids.specs.declared.id.Client.{Client}
use Rattle.yd_ids.specs.declared.id.Id.{Id}
use Rattle.yd_units.specs.Text.{units_of}
use Rattle.yd_ops.specs.Value as ops
use Rattle.yd_ops.specs.Valid.{AreValidTrees, CarriesList, IsParent, IsStructAt, IsValidContent, IsValidUnit}
use Rattle.yd_ops.specs.declared.lists.Parent.TheVariants.{Root, Item as ParentItem}
use Rattle.yd_parts.specs.Fault.{Fault}
use Rattle.yd_fields.specs.Field.{FieldType, FieldValue, FieldPlan, Fits}
use Rattle.yd_fields.specs.Field as field
use Rattle.yd_fields.specs.JsonPlan.{unit_at}
use Rattle.yd_parts.specs.Plan.{give, refuse, want, of_made, ◌>>=◌, repeated}
use Rattle.yd_fields.specs.StructPlan.{carried_plan, clocks_plan, content_plan, deleted_plan, ended_plan, gone_plan, has_key, has_left, has_right, item_plan, kind_of_info, kind_plan, kinded_plan, list_plan, nested_plan, optional_plan, parent_plan, skip_plan, struct_plan, unit_step, units_plan, value_step, values_plan}
use Rattle.yd_parts.specs.declared.fault.Cause.TheVariants as causes
use Rattle.yd_parts.specs.declared.fault.Spot.{Spot}
use Rattle.yd_fields.specs.declared.info.ContentKind.{ContentKind}
use Rattle.yd_fields.specs.declared.info.ContentKind.TheVariants.{Deleted, Json, Binary, Str, Embed, Format, Nested, Any}
use Rattle.yd_fields.specs.declared.info.StructKind.{StructKind}
use Rattle.yd_fields.specs.declared.info.StructKind.TheVariants.{Gone, Item, Subdocument, Skip, Unknown}
use Rattle.yd_reading.proofs.DeletesFitLemmas.{each-last}
use Rattle.yd_parts.proofs.GivenLemmas.{GivesOnly, gives_only_bind}
use Rattle.yd_reading.proofs.JsonFitLemmas.{text_has_units, text_units_valid, unit_at_valid}

-- ---- lists

-- a field that may be there
optional_fits : (t : FieldType) (P : FieldValue t → Type 0) (there : Bool) → ((v : FieldValue t) → Fits t v → P v) → GivesOnly Fits (λ v. IfSome v P) (optional_plan t there)
optional_fits t P true is = λ v spot fits. is v fits
optional_fits t P false is = tt

-- a parent
parent_fits : GivesOnly Fits IsParent parent_plan
unfolding parent_plan
parent_fits = λ flag spot fits. by_flag (nat_eq flag 1)
  where
    by_flag : (root : Bool) → GivesOnly Fits IsParent (if root then want field.string (λ name at. give (Root name)) else want field.left (λ id at. give (ParentItem id)))
    by_flag true = λ name at is_text. tt
    by_flag false = λ id at is_id. is_id

-- a list where neither origin is there
list_fits : (keyed : Bool) → GivesOnly Fits (CarriesList None None) (list_plan keyed)
unfolding list_plan
list_fits keyed =
    gives_only_bind Fits IsParent (CarriesList None None) parent_plan _ parent_fits (λ parent is_parent.
    gives_only_bind Fits (λ key. IfSome key (λ text. Unit {0})) (CarriesList None None) (optional_plan field.string keyed) _ (optional_fits field.string (λ text. Unit {0}) keyed (λ text is. tt)) (λ key any. is_parent))

-- the list that is carried
carried_fits : (keyed : Bool) (left right : Option Id) → GivesOnly Fits (CarriesList left right) (carried_plan keyed left right)
carried_fits keyed None None = list_fits keyed
carried_fits keyed None (Some right) = tt
carried_fits keyed (Some left) right = tt

-- ---- contents

-- the content is valid, and has a unit
abbrev pub IsFilled : ops.ContentValue → Type 0
IsFilled content = IsValidContent content × (0 < ops.len_of content)

-- what was made without reading
made_fits : {X : Type 0} (P : X → Type 0) (made : Result X Fault) → ((x : X) → made ≡ Ok x → P x) → GivesOnly Fits P (of_made made)
made_fits P (Ok x) each = each x refl
made_fits P (Err fault) each = tt

-- so many JSON units that are valid
abbrev AreUnitsRead : ℕ → List (Option AnyTree) → Type 0
AreUnitsRead count units = Each IsValidUnit units × (length units ≡ count)

-- so many any-values that are valid
abbrev AreTreesRead : ℕ → AnyTrees → Type 0
AreTreesRead count ts = AreValidTrees ts × (ops.count_of ts ≡ count)

-- so many steps, each of which gives one more
counted_fits : {A : Type 0} (P : ℕ → A → Type 0) (step : A → FieldPlan A) (more before : ℕ) (now : A) → P before now →
    ((count : ℕ) (a : A) → P count a → GivesOnly Fits (P (suc count)) (step a)) → GivesOnly Fits (P (before + more)) (repeated step more now)
unfolding repeated
counted_fits P step zero before now first each = subst (λ count. P count now) (omega arith) first
counted_fits P step (suc more) before now first each =
    gives_only_bind Fits (P (suc before)) (P (before + suc more)) (step now) (λ a. repeated step more a) (each before now first)
    (λ a has. subst (λ count. GivesOnly Fits (P count) (repeated step more a)) (omega arith) (counted_fits P step more (suc before) a has each))

-- one more JSON unit
unit_step_fits : (count : ℕ) (found : List (Option AnyTree)) → AreUnitsRead count found → GivesOnly Fits (AreUnitsRead (suc count)) (unit_step found)
unfolding unit_step
unit_step_fits count found before = λ text spot is_text.
    gives_only_bind Fits IsValidUnit (AreUnitsRead (suc count)) (of_made (unit_at spot text)) (λ unit. give (found ++ unit ∷ []))
    (made_fits IsValidUnit (unit_at spot text) (unit_at_valid spot text))
    (λ unit valid. (each-last IsValidUnit found unit before.0 valid, omega (arith, length-append found (unit ∷ []), before.1)))

-- one more value at the end
trees-last : (ts : AnyTrees) (t : AnyTree) → AreValidTrees ts → IsTrue (is_valid_any t) → AreValidTrees (with_last ts t) × (ops.count_of (with_last ts t) ≡ suc (ops.count_of ts))
trees-last no_trees t before last = ((last, tt), refl)
trees-last (tree u us) t before last = let later = trees-last us t before.1 last in ((before.0, later.0), ap suc later.1)

-- one more any-value
value_step_fits : (count : ℕ) (found : AnyTrees) → AreTreesRead count found → GivesOnly Fits (AreTreesRead (suc count)) (value_step found)
unfolding value_step
value_step_fits count found before = λ t spot valid. let later = trees-last found t before.0 valid in (later.0, later.1 ∙ ap suc before.1)

-- deleted units
deleted_fit : (begin : Spot) → GivesOnly Fits IsFilled (deleted_plan begin)
unfolding deleted_plan
deleted_fit begin = λ count spot is_count. by_count count (nat_eq count 0) refl
  where
    by_count : (count : ℕ) (none : Bool) → nat_eq count 0 ≡ none → GivesOnly Fits IsFilled (if none then refuse causes.EmptyStruct begin else give (ops.deleted count))
    by_count count true test = tt
    by_count count false test = (tt, grind (arith, nat_tests))

-- JSON units
units_fit : (begin : Spot) → GivesOnly Fits IsFilled (units_plan begin)
unfolding units_plan
units_fit begin = λ count spot is_count. by_count count (nat_eq count 0) refl
  where
    by_count : (count : ℕ) (none : Bool) → nat_eq count 0 ≡ none → GivesOnly Fits IsFilled (if none then refuse causes.EmptyStruct begin else (repeated unit_step count [] >>= λ units. give (ops.json units)))
    by_count count true test = tt
    by_count count false test =
        gives_only_bind Fits (AreUnitsRead (0 + count)) IsFilled (repeated unit_step count []) (λ units. give (ops.json units))
        (counted_fits AreUnitsRead unit_step count 0 [] (tt, refl) unit_step_fits)
        (λ units read. (read.0, grind (arith, nat_tests)))

-- any-values
values_fit : (begin : Spot) → GivesOnly Fits IsFilled (values_plan begin)
unfolding values_plan
values_fit begin = λ count spot is_count. by_count count (nat_eq count 0) refl
  where
    by_count : (count : ℕ) (none : Bool) → nat_eq count 0 ≡ none → GivesOnly Fits IsFilled (if none then refuse causes.EmptyStruct begin else (repeated value_step count no_trees >>= λ values. give (ops.any values)))
    by_count count true test = tt
    by_count count false test =
        gives_only_bind Fits (AreTreesRead (0 + count)) IsFilled (repeated value_step count no_trees) (λ values. give (ops.any values))
        (counted_fits AreTreesRead value_step count 0 no_trees (tt, refl) value_step_fits)
        (λ values read. (read.0, grind (arith, nat_tests)))

-- a string
string_fits : (begin : Spot) → GivesOnly Fits IsFilled (content_plan Str begin)
unfolding content_plan
string_fits begin = λ text spot is_text. by_length text is_text (nat_eq (length text) 0) refl
  where
    by_length : (text : List ℕ) → IsUtf8 text → (none : Bool) → nat_eq (length text) 0 ≡ none → GivesOnly Fits IsFilled (if none then refuse causes.EmptyStruct begin else give (ops.string (units_of text)))
    by_length text is_text true test = tt
    by_length text is_text false test = (text_units_valid text is_text, text_has_units text is_text test)

-- nothing is asked of what a plan gives
any_given : {X : Type 0} (plan : FieldPlan X) → GivesOnly Fits (λ x. Unit {0}) plan
any_given (give x) = tt
any_given (refuse cause spot) = tt
any_given (want t next) = λ v spot fits. any_given (next v spot)

-- a content of each kind
content_fits : (kind : ContentKind) (begin : Spot) → GivesOnly Fits IsFilled (content_plan kind begin)
unfolding content_plan nested_plan
content_fits Deleted begin = deleted_fit begin
content_fits Json begin = units_fit begin
content_fits Binary begin = λ bytes spot any. (tt, omega arith)
content_fits Str begin = string_fits begin
content_fits Embed begin = λ t spot valid. (valid, omega arith)
content_fits Format begin = λ key spot is_text t at valid. (valid, omega arith)
content_fits Nested begin = gives_only_bind Fits (λ kind. Unit {0}) IsFilled kind_plan (λ kind. give (ops.nested kind)) (any_given kind_plan) (λ kind any. (tt, omega arith))
content_fits Any begin = values_fit begin

-- ---- structs

-- the struct begins at a clock of the client, and ends at a clock
abbrev pub EndsAtClock : Client → ℕ → ops.StructValue → Type 0
EndsAtClock client clock s = IsStructAt client clock s × IsClock (clock + ops.clocks_of s)

-- a struct that ends at a clock
ended_fits : (client : Client) (clock : ℕ) (begin : Spot) (s : ops.StructValue) → IsStructAt client clock s → GivesOnly Fits (EndsAtClock client clock) (ended_plan clock begin s)
ended_fits client clock begin s is = by_test (nat_lt (clock + ops.clocks_of s) (2 ^ 53)) refl
  where
    by_test : (ends : Bool) → nat_lt (clock + ops.clocks_of s) (2 ^ 53) ≡ ends → GivesOnly Fits (EndsAtClock client clock) (if ends then give s else refuse causes.ClockTooLarge begin)
    by_test true test = (is, ltb-true (clock + ops.clocks_of s) (2 ^ 53) test)
    by_test false test = tt

-- an item
item_fits : (client : Client) (clock info : ℕ) (begin : Spot) (kind : ContentKind) → GivesOnly Fits (EndsAtClock client clock) (item_plan client clock info begin kind)
unfolding item_plan
item_fits client clock info begin kind =
    gives_only_bind Fits (λ v. IfSome v IsId) Ends (optional_plan field.left (has_left info)) _ (optional_fits field.left IsId (has_left info) (λ v is. is)) (λ left is_left.
    gives_only_bind Fits (λ v. IfSome v IsId) Ends (optional_plan field.right (has_right info)) _ (optional_fits field.right IsId (has_right info) (λ v is. is)) (λ right is_right.
    gives_only_bind Fits (CarriesList left right) Ends (carried_plan (has_key info) left right) _ (carried_fits (has_key info) left right) (λ list carries.
    gives_only_bind Fits IsFilled Ends (content_plan kind begin) _ (content_fits kind begin) (λ content filled.
    ended_fits client clock begin (ops.item (record { id = record { client = client; clock = clock }; left = left; right = right; list = list; content = content }))
    (record { begins = refl; has_units = filled.1; left = is_left; right = is_right; list = carries; content = filled.0 })))))
  where
    Ends : ops.StructValue → Type 0
    Ends s = EndsAtClock client clock s

-- a number of clocks
clocks_fit : (client : Client) (clock : ℕ) (begin : Spot) (s : ops.StructValue) → (0 < ops.clocks_of s → IsStructAt client clock s) →
    GivesOnly Fits (EndsAtClock client clock) (clocks_plan clock begin s)
clocks_fit client clock begin s is = by_count (nat_eq (ops.clocks_of s) 0) refl
  where
    by_count : (none : Bool) → nat_eq (ops.clocks_of s) 0 ≡ none →
        GivesOnly Fits (EndsAtClock client clock) (if none then refuse causes.EmptyStruct begin else ended_plan clock begin s)
    by_count true test = tt
    by_count false test = let some : 0 < ops.clocks_of s = grind (arith, nat_tests) in ended_fits client clock begin s (is some)

-- a skip
skip_fits : (client : Client) (clock : ℕ) (begin : Spot) → GivesOnly Fits (EndsAtClock client clock) (skip_plan clock begin)
unfolding skip_plan
skip_fits client clock begin = λ count spot fits. clocks_fit client clock begin (ops.skip count) (λ some. some)

-- a gone run
gone_fits : (client : Client) (clock : ℕ) (begin : Spot) → GivesOnly Fits (EndsAtClock client clock) (gone_plan clock begin)
unfolding gone_plan
gone_fits client clock begin = λ count spot fits. clocks_fit client clock begin (ops.gone count) (λ some. some)

-- a struct of each kind
kinded_fits : (client : Client) (clock info : ℕ) (begin : Spot) (kind : StructKind) → GivesOnly Fits (EndsAtClock client clock) (kinded_plan client clock info begin kind)
unfolding kinded_plan
kinded_fits client clock info begin Gone = gone_fits client clock begin
kinded_fits client clock info begin (Item kind) = item_fits client clock info begin kind
kinded_fits client clock info begin Subdocument = tt
kinded_fits client clock info begin Skip = skip_fits client clock begin
kinded_fits client clock info begin Unknown = tt

-- a struct of a client that begins at a clock
pub struct_fits : (client : Client) (clock : ℕ) → GivesOnly Fits (EndsAtClock client clock) (struct_plan client clock)
unfolding struct_plan
struct_fits client clock = λ info begin fits. kinded_fits client clock info begin (kind_of_info info)
