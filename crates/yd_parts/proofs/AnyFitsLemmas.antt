-- What reading an any-value gives is valid.
use Rattle.std.proofs.Common.{◌≡◌, ◌≤◌, ◌^◌, ℕ, zero, suc, Bool, true, false, ◌&&◌, Option, Some, None, nat_lt, nat_le, refl, arith, IsTrue, Ok, pos, neg_ℤ, nat_abs, if◌then◌else◌}
use Rattle.std.proofs.lemmas.Bool.Decides.{nat_tests}
use Rattle.yd_num.specs.declared.signed.Signed.{Signed}
use Rattle.yd_any.specs.Tree.{AnyTree, whole, list, pairs, AnyTrees, AnyFields, tree, no_trees, field, no_fields, with_last, with_last_field, depth, depth_of_trees, depth_of_fields}
use Rattle.yd_any.specs.Valid.{is_in_range, are_in_range, fields_are_in_range, is_valid_any}
use Rattle.yd_parts.specs.AnyPlan.{any_plan, field_step, list_plan, pairs_plan, tag_of_byte, tagged_plan, tree_step, whole_plan, whole_number}
use Rattle.yd_parts.specs.Part.{Part, PartPlan, PartValue, Unread, part_at, last_spot}
use Rattle.yd_parts.specs.Plan.{read_by, give, refuse, ◌>>=◌}
use Rattle.yd_parts.specs.declared.fault.Cause.TheVariants.{NumberTooLarge}
use Rattle.yd_parts.specs.declared.fault.Spot.{Spot}
use Rattle.yd_parts.specs.declared.tag.Tag.{Tag}
use Rattle.yd_parts.specs.declared.tag.Tag.TheVariants.{Undefined, Null, Whole, Raw4, Raw8, Big, False, True, Str, Pairs, List as Listed, Blob}
use Rattle.yd_parts.proofs.GivenLemmas.{GivesOnly, given, gives_only_bind, gives_only_repeated}

-- nothing is asked of a part
abbrev Any_part : (t : Part) → PartValue t → Type 0
Any_part t v = Unit {0}

-- the value nests at most so deep, and its numbers are in range
abbrev pub IsWithin : ℕ → AnyTree → Type 0
IsWithin most t = (depth t ≤ most) × (is_in_range t ≡ true)

-- the same of values in a row
abbrev AreWithin : ℕ → AnyTrees → Type 0
AreWithin most ts = (depth_of_trees ts ≤ most) × (are_in_range ts ≡ true)

-- the same of the values under keys
abbrev FieldsAreWithin : ℕ → AnyFields → Type 0
FieldsAreWithin most fs = (depth_of_fields fs ≤ most) × (fields_are_in_range fs ≡ true)

both_true : (a b : Bool) → a ≡ true → b ≡ true → (a && b) ≡ true
both_true a b first second = rw (first, second) refl

first_true : (a b : Bool) → (a && b) ≡ true → a ≡ true
first_true true b both = refl
first_true false b both = both

second_true : (a b : Bool) → (a && b) ≡ true → b ≡ true
second_true true b both = both
second_true false b both = absurd cc

-- one more value at the end
within-last : (most : ℕ) (ts : AnyTrees) (t : AnyTree) → AreWithin most ts → IsWithin most t → AreWithin most (with_last ts t)
within-last most no_trees t before last = (omega arith, both_true (is_in_range t) true last.1 refl)
within-last most (tree u us) t before last =
    let later = within-last most us t (omega arith, second_true (is_in_range u) (are_in_range us) before.1) last in
    (omega arith, both_true (is_in_range u) (are_in_range (with_last us t)) (first_true (is_in_range u) (are_in_range us) before.1) later.1)

-- one more pair at the end
within-last_field : (most : ℕ) (fs : AnyFields) (key : _) (t : AnyTree) → FieldsAreWithin most fs → IsWithin most t → FieldsAreWithin most (with_last_field fs key t)
within-last_field most no_fields key t before last = (omega arith, both_true (is_in_range t) true last.1 refl)
within-last_field most (field k u us) key t before last =
    let later = within-last_field most us key t (omega arith, second_true (is_in_range u) (fields_are_in_range us) before.1) last in
    (omega arith, both_true (is_in_range u) (fields_are_in_range (with_last_field us key t)) (first_true (is_in_range u) (fields_are_in_range us) before.1) later.1)

-- one more value of a list
tree_step_fits : (most : ℕ) (inner : PartPlan AnyTree) (found : AnyTrees) → GivesOnly Any_part (IsWithin most) inner → AreWithin most found → GivesOnly Any_part (AreWithin most) (tree_step inner found)
unfolding tree_step
tree_step_fits most inner found each before = gives_only_bind Any_part (IsWithin most) (AreWithin most) inner (λ t. give (with_last found t)) each (λ t here. within-last most found t before here)

-- one more pair of an object
field_step_fits : (most : ℕ) (inner : PartPlan AnyTree) (found : AnyFields) → GivesOnly Any_part (IsWithin most) inner → FieldsAreWithin most found → GivesOnly Any_part (FieldsAreWithin most) (field_step inner found)
unfolding field_step
field_step_fits most inner found each before = λ key spot any. gives_only_bind Any_part (IsWithin most) (FieldsAreWithin most) inner (λ t. give (with_last_field found key t)) each (λ t here. within-last_field most found key t before here)

-- a list
list_plan_fits : (most : ℕ) (inner : PartPlan AnyTree) (spot : Spot) → GivesOnly Any_part (IsWithin most) inner → GivesOnly Any_part (AreWithin most) (list_plan (Some inner) spot)
unfolding list_plan
list_plan_fits most inner spot each = λ count at any. gives_only_repeated Any_part (AreWithin most) (tree_step inner) count no_trees (omega arith, refl) (λ found before. tree_step_fits most inner found each before)

-- an object
pairs_plan_fits : (most : ℕ) (inner : PartPlan AnyTree) (spot : Spot) → GivesOnly Any_part (IsWithin most) inner → GivesOnly Any_part (FieldsAreWithin most) (pairs_plan (Some inner) spot)
unfolding pairs_plan
pairs_plan_fits most inner spot each = λ count at any. gives_only_repeated Any_part (FieldsAreWithin most) (field_step inner) count no_fields (omega arith, refl) (λ found before. field_step_fits most inner found each before)

-- the magnitude of a whole number is its size
whole_number_size : (negative : Bool) (n : ℕ) → nat_abs (if negative then neg_ℤ (pos n) else pos n) ≡ n
whole_number_size true zero = refl
whole_number_size true (suc n) = refl
whole_number_size false n = refl

-- a whole number
whole_plan_fits : (most : ℕ) → GivesOnly Any_part (IsWithin most) whole_plan
unfolding whole_plan
whole_plan_fits most = λ n spot any. in_range n spot (nat_lt n.size (2 ^ 53)) refl
  where
    in_range : (n : Signed) (spot : Spot) (test : Bool) → nat_lt n.size (2 ^ 53) ≡ test → GivesOnly Any_part (IsWithin most) (if test then give (whole (whole_number n)) else refuse NumberTooLarge spot)
    in_range n spot true passed = (omega arith, rw (whole_number_size n.negative n.size) passed)
    in_range n spot false passed = tt

-- what stands behind a tag where nothing may open
scalar_fits : (spot : Spot) (tag : Option Tag) → GivesOnly Any_part (IsWithin 0) (tagged_plan None spot tag)
unfolding list_plan pairs_plan ◌>>=◌
scalar_fits spot None = tt
scalar_fits spot (Some Undefined) = (omega arith, refl)
scalar_fits spot (Some Null) = (omega arith, refl)
scalar_fits spot (Some Whole) = whole_plan_fits 0
scalar_fits spot (Some Raw4) = λ bs at any. (omega arith, refl)
scalar_fits spot (Some Raw8) = λ bs at any. (omega arith, refl)
scalar_fits spot (Some Big) = λ bs at any. (omega arith, refl)
scalar_fits spot (Some False) = (omega arith, refl)
scalar_fits spot (Some True) = (omega arith, refl)
scalar_fits spot (Some Str) = λ t at any. (omega arith, refl)
scalar_fits spot (Some Pairs) = tt
scalar_fits spot (Some Listed) = tt
scalar_fits spot (Some Blob) = λ bs at any. (omega arith, refl)

-- what stands behind a tag where values may stand inside
tagged_fits : (most : ℕ) (inner : PartPlan AnyTree) (spot : Spot) (tag : Option Tag) → GivesOnly Any_part (IsWithin most) inner → GivesOnly Any_part (IsWithin (suc most)) (tagged_plan (Some inner) spot tag)
tagged_fits most inner spot None each = tt
tagged_fits most inner spot (Some Undefined) each = (omega arith, refl)
tagged_fits most inner spot (Some Null) each = (omega arith, refl)
tagged_fits most inner spot (Some Whole) each = whole_plan_fits (suc most)
tagged_fits most inner spot (Some Raw4) each = λ bs at any. (omega arith, refl)
tagged_fits most inner spot (Some Raw8) each = λ bs at any. (omega arith, refl)
tagged_fits most inner spot (Some Big) each = λ bs at any. (omega arith, refl)
tagged_fits most inner spot (Some False) each = (omega arith, refl)
tagged_fits most inner spot (Some True) each = (omega arith, refl)
tagged_fits most inner spot (Some Str) each = λ t at any. (omega arith, refl)
tagged_fits most inner spot (Some Pairs) each =
    gives_only_bind Any_part (FieldsAreWithin most) (IsWithin (suc most)) (pairs_plan (Some inner) spot) (λ fs. give (pairs fs)) (pairs_plan_fits most inner spot each) (λ fs here. (omega arith, here.1))
tagged_fits most inner spot (Some Listed) each =
    gives_only_bind Any_part (AreWithin most) (IsWithin (suc most)) (list_plan (Some inner) spot) (λ ts. give (list ts)) (list_plan_fits most inner spot each) (λ ts here. (omega arith, here.1))
tagged_fits most inner spot (Some Blob) each = λ bs at any. (omega arith, refl)

-- an any-value in which values nest at most so deep
pub any_plan_fits : (most : ℕ) → GivesOnly Any_part (IsWithin most) (any_plan most)
unfolding any_plan
any_plan_fits zero = λ b spot any. scalar_fits spot (tag_of_byte b)
any_plan_fits (suc most) = λ b spot any. tagged_fits most (any_plan most) spot (tag_of_byte b) (any_plan_fits most)

-- a value that was read is valid
pub any_read_valid : (most : ℕ) (s : Unread) (t : AnyTree) (left : Unread) → most ≤ 100 → read_by part_at last_spot (any_plan most) s ≡ Ok (t, left) → IsTrue (is_valid_any t)
any_read_valid most s t left small read =
    let here : IsWithin most t = given part_at last_spot Any_part (λ now. Unit {0}) (IsWithin most) (any_plan most) s t left (λ u now v next sound is. (tt, tt)) (any_plan_fits most) tt read in
    let shallow : nat_le (depth t) 100 ≡ true = grind (arith, nat_tests) in
    rw (shallow, here.1) refl
