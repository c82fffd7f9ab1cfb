-- Reading an item by its plan, step by step.
use Rattle.std.proofs.Common.{◌≡◌, ◌∙◌, ◌+◌, ◌^◌, ℕ, Bool, true, false, Option, Result, Ok, Err, nat_lt, if◌then◌else◌, refl}
use Rattle.yd_ids.specs.declared.id.Client.{Client}
use Rattle.yd_ids.specs.declared.id.Id.{Id}
use Rattle.yd_ops.specs.Value as ops
use Rattle.yd_ops.specs.declared.lists.List.{List as DocList}
use Rattle.yd_parts.specs.Fault.{Fault}
use Rattle.yd_fields.specs.Field.{FieldType, FieldValue, FieldPlan}
use Rattle.yd_fields.specs.Field as field
use Rattle.yd_parts.specs.Plan.{give, refuse, and_then, read_by, ◌>>=◌}
use Rattle.yd_fields.specs.StructPlan.{carried_plan, content_plan, ended_plan, has_key, has_left, has_right, item_plan, optional_plan}
use Rattle.yd_parts.specs.declared.fault.Cause.TheVariants as causes
use Rattle.yd_parts.specs.declared.fault.Spot.{Spot}
use Rattle.yd_fields.specs.declared.info.ContentKind.{ContentKind}
use Rattle.yd_parts.proofs.PlanLemmas.{read_by_bind, then_same}

-- a struct that was read, if it ends at a clock
abbrev pub ended : {S : Type 0} → ℕ → Spot → ops.StructValue → S → Result (ops.StructValue × S) Fault
ended clock begin s left = if nat_lt (clock + ops.clocks_of s) (2 ^ 53) then Ok (s, left) else Err (record { cause = causes.ClockTooLarge; spot = begin })

-- judging where a struct ends reads nothing
read_ended : {S : Type 0} (at : (t : FieldType) → S → Result (FieldValue t × S) Fault) (spot_of : S → Spot) (clock : ℕ) (begin : Spot) (s : ops.StructValue) (left : S) →
    read_by at spot_of (ended_plan clock begin s) left ≡ ended clock begin s left
unfolding read_by
read_ended at spot_of clock begin s left = judged (nat_lt (clock + ops.clocks_of s) (2 ^ 53))
  where
    judged : (test : Bool) → read_by at spot_of (if test then give s else refuse causes.ClockTooLarge begin) left ≡ (if test then Ok (s, left) else Err (record { cause = causes.ClockTooLarge; spot = begin }))
    judged true = refl
    judged false = refl

-- an item: its origins, its list, its content, and where it ends
pub read_item_plan : {S : Type 0} (at : (t : FieldType) → S → Result (FieldValue t × S) Fault) (spot_of : S → Spot) (client : Client) (clock info : ℕ) (begin : Spot) (kind : ContentKind) (s : S) →
    read_by at spot_of (item_plan client clock info begin kind) s ≡ and_then (read_by at spot_of (optional_plan field.left (has_left info)) s) (λ left.
    and_then (read_by at spot_of (optional_plan field.right (has_right info)) left.1) (λ right.
    and_then (read_by at spot_of (carried_plan (has_key info) left.0 right.0) right.1) (λ list.
    and_then (read_by at spot_of (content_plan kind begin) list.1) (λ content.
    ended clock begin (ops.item (record { id = record { client = client; clock = clock }; left = left.0; right = right.0; list = list.0; content = content.0 })) content.1))))
unfolding item_plan
read_item_plan {S} at spot_of client clock info begin kind s =
    read_by_bind at spot_of (optional_plan field.left (has_left info)) behind_left s
    ∙ then_same (read_by at spot_of (optional_plan field.left (has_left info)) s) _ _ (λ left.
    read_by_bind at spot_of (optional_plan field.right (has_right info)) (behind_right left.0) left.1
    ∙ then_same (read_by at spot_of (optional_plan field.right (has_right info)) left.1) _ _ (λ right.
    read_by_bind at spot_of (carried_plan (has_key info) left.0 right.0) (behind_list left.0 right.0) right.1
    ∙ then_same (read_by at spot_of (carried_plan (has_key info) left.0 right.0) right.1) _ _ (λ list.
    read_by_bind at spot_of (content_plan kind begin) (λ content. ended_plan clock begin (whole left.0 right.0 list.0 content)) list.1
    ∙ then_same (read_by at spot_of (content_plan kind begin) list.1) _ _ (λ content.
    read_ended at spot_of clock begin (whole left.0 right.0 list.0 content.0) content.1))))
  where
    whole : Option Id → Option Id → Option DocList → ops.ContentValue → ops.StructValue
    whole left right list content = ops.item (record { id = record { client = client; clock = clock }; left = left; right = right; list = list; content = content })

    behind_list : Option Id → Option Id → Option DocList → FieldPlan ops.StructValue
    behind_list left right list = content_plan kind begin >>= λ content. ended_plan clock begin (whole left right list content)

    behind_right : Option Id → Option Id → FieldPlan ops.StructValue
    behind_right left right = carried_plan (has_key info) left right >>= behind_list left right

    behind_left : Option Id → FieldPlan ops.StructValue
    behind_left left = optional_plan field.right (has_right info) >>= behind_right left
