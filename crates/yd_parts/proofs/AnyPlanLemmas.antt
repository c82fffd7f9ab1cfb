-- Reading any-values by their plan, step by step.
use Rattle.std.proofs.Common.{◌≡◌, ◌∙◌, ◌-◌, ◌<◌, ℕ, zero, suc, List, Option, Some, None, Result, Ok, Err, refl, arith}
use Rattle.yd_any.specs.Tree.{AnyTree, AnyTrees, AnyFields, list, pairs, no_trees, no_fields, with_last, with_last_field}
use Rattle.yd_parts.specs.AnyPlan.{any_plan, field_step, inner_plan, list_plan, pairs_plan, tag_of_byte, tagged_plan, tree_step}
use Rattle.yd_parts.specs.Fault.{Fault}
use Rattle.yd_parts.specs.Part.{PartPlan, part_at, last_spot, byte, text, unsigned, Unread}
use Rattle.yd_parts.specs.Plan.{give, and_then, read_by, repeated, ◌>>=◌}
use Rattle.yd_parts.specs.declared.fault.Cause.TheVariants.{BadTag, TooDeep}
use Rattle.yd_parts.specs.declared.fault.Spot.{Spot}
use Rattle.yd_parts.specs.declared.tag.Tag.{Tag}
use Rattle.yd_parts.specs.declared.tag.Tag.TheVariants.{Pairs, List as Listed}
use Rattle.yd_parts.proofs.PlanLemmas.{read_by_bind}

-- an any-value: its tag, and what stands behind it
pub read_any_plan : (most : ℕ) (s : Unread) →
    read_by part_at last_spot (any_plan most) s ≡ and_then (part_at byte s) (λ b. read_by part_at last_spot (tagged_plan (inner_plan most) (last_spot b.1) (tag_of_byte b.0)) b.1)
unfolding any_plan read_by
read_any_plan zero s = refl
read_any_plan (suc most) s = refl

-- behind the tag of a list
pub read_listed : (inner : Option (PartPlan AnyTree)) (spot : Spot) (s : Unread) →
    read_by part_at last_spot (tagged_plan inner spot (Some Listed)) s ≡ and_then (read_by part_at last_spot (list_plan inner spot) s) (λ read. Ok (list read.0, read.1))
unfolding read_by
read_listed inner spot s = read_by_bind part_at last_spot (list_plan inner spot) (λ ts. give (list ts)) s

-- behind the tag of an object
pub read_paired : (inner : Option (PartPlan AnyTree)) (spot : Spot) (s : Unread) →
    read_by part_at last_spot (tagged_plan inner spot (Some Pairs)) s ≡ and_then (read_by part_at last_spot (pairs_plan inner spot) s) (λ read. Ok (pairs read.0, read.1))
unfolding read_by
read_paired inner spot s = read_by_bind part_at last_spot (pairs_plan inner spot) (λ fs. give (pairs fs)) s

-- a list that may open
pub read_list_plan : (most : ℕ) (spot : Spot) (s : Unread) → 0 < most →
    read_by part_at last_spot (list_plan (inner_plan most) spot) s ≡ and_then (part_at unsigned s) (λ count. read_by part_at last_spot (repeated (tree_step (any_plan (most - 1))) count.0 no_trees) count.1)
unfolding read_by list_plan
read_list_plan zero spot s may_open = absurd (omega arith)
read_list_plan (suc most) spot s may_open = let one_less : suc most - 1 ≡ most = omega arith in rw one_less refl

-- a list that may not
pub read_list_refused : (most : ℕ) (spot : Spot) (s : Unread) → most ≡ 0 →
    read_by part_at last_spot (list_plan (inner_plan most) spot) s ≡ Err (record { cause = TooDeep; spot = spot })
unfolding read_by list_plan
read_list_refused most spot s none = rw none refl

-- an object that may open
pub read_pairs_plan : (most : ℕ) (spot : Spot) (s : Unread) → 0 < most →
    read_by part_at last_spot (pairs_plan (inner_plan most) spot) s ≡ and_then (part_at unsigned s) (λ count. read_by part_at last_spot (repeated (field_step (any_plan (most - 1))) count.0 no_fields) count.1)
unfolding read_by pairs_plan
read_pairs_plan zero spot s may_open = absurd (omega arith)
read_pairs_plan (suc most) spot s may_open = let one_less : suc most - 1 ≡ most = omega arith in rw one_less refl

-- an object that may not
pub read_pairs_refused : (most : ℕ) (spot : Spot) (s : Unread) → most ≡ 0 →
    read_by part_at last_spot (pairs_plan (inner_plan most) spot) s ≡ Err (record { cause = TooDeep; spot = spot })
unfolding read_by pairs_plan
read_pairs_refused most spot s none = rw none refl

-- one more value of a list
pub read_tree_step : (inner : PartPlan AnyTree) (found : AnyTrees) (s : Unread) →
    read_by part_at last_spot (tree_step inner found) s ≡ and_then (read_by part_at last_spot inner s) (λ read. Ok (with_last found read.0, read.1))
unfolding tree_step read_by
read_tree_step inner found s = read_by_bind part_at last_spot inner (λ t. give (with_last found t)) s

-- one more pair of an object
pub read_field_step : (inner : PartPlan AnyTree) (found : AnyFields) (s : Unread) →
    read_by part_at last_spot (field_step inner found) s ≡ and_then (part_at text s) (λ key. and_then (read_by part_at last_spot inner key.1) (λ read. Ok (with_last_field found key.0 read.0, read.1)))
unfolding field_step read_by
read_field_step inner found s = behind_key (part_at text s)
  where
    behind_key : (key : Result (List ℕ × Unread) _) →
        and_then key (λ read. read_by part_at last_spot (inner >>= λ t. give (with_last_field found read.0 t)) read.1) ≡ and_then key (λ read. and_then (read_by part_at last_spot inner read.1) (λ value. Ok (with_last_field found read.0 value.0, value.1)))
    behind_key (Ok read) = read_by_bind part_at last_spot inner (λ t. give (with_last_field found read.0 t)) read.1
    behind_key (Err fault) = refl

-- what reading behind that tag gives
pub listed_given : (inner : Option (PartPlan AnyTree)) (spot : Spot) (tag : Tag) (s left : Unread) (inside : AnyTrees) → tag ≡ Listed → read_by part_at last_spot (list_plan inner spot) s ≡ Ok (inside, left) →
    read_by part_at last_spot (tagged_plan inner spot (Some tag)) s ≡ Ok (list inside, left)
listed_given inner spot tag s left inside is read = rw is (read_listed inner spot s ∙ rw read refl)

-- what is wrong behind it
pub listed_fails : (inner : Option (PartPlan AnyTree)) (spot : Spot) (tag : Tag) (s : Unread) (fault : Fault) → tag ≡ Listed → read_by part_at last_spot (list_plan inner spot) s ≡ Err fault →
    read_by part_at last_spot (tagged_plan inner spot (Some tag)) s ≡ Err fault
listed_fails inner spot tag s fault is failed = rw is (read_listed inner spot s ∙ rw failed refl)

-- what reading behind that tag gives
pub paired_given : (inner : Option (PartPlan AnyTree)) (spot : Spot) (tag : Tag) (s left : Unread) (inside : AnyFields) → tag ≡ Pairs → read_by part_at last_spot (pairs_plan inner spot) s ≡ Ok (inside, left) →
    read_by part_at last_spot (tagged_plan inner spot (Some tag)) s ≡ Ok (pairs inside, left)
paired_given inner spot tag s left inside is read = rw is (read_paired inner spot s ∙ rw read refl)

-- what is wrong behind it
pub paired_fails : (inner : Option (PartPlan AnyTree)) (spot : Spot) (tag : Tag) (s : Unread) (fault : Fault) → tag ≡ Pairs → read_by part_at last_spot (pairs_plan inner spot) s ≡ Err fault →
    read_by part_at last_spot (tagged_plan inner spot (Some tag)) s ≡ Err fault
paired_fails inner spot tag s fault is failed = rw is (read_paired inner spot s ∙ rw failed refl)

-- a byte that is no tag
pub untagged_fails : (most b : ℕ) (s left : Unread) → part_at byte s ≡ Ok (b, left) → tag_of_byte b ≡ None →
    read_by part_at last_spot (any_plan most) s ≡ Err (record { cause = BadTag; spot = last_spot left })
unfolding read_by
untagged_fails most b s left read none = read_any_plan most s ∙ rw (read, none) refl

-- a byte that is a tag
pub tagged_given : (most b : ℕ) (tag : Tag) (s left : Unread) → part_at byte s ≡ Ok (b, left) → tag_of_byte b ≡ Some tag →
    read_by part_at last_spot (any_plan most) s ≡ read_by part_at last_spot (tagged_plan (inner_plan most) (last_spot left) (Some tag)) left
tagged_given most b tag s left read is = read_any_plan most s ∙ rw (read, is) refl
