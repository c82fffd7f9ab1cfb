-- What a position points at, as it is read (Yjs 13, encodeRelativePosition).
--
-- first  then
-- 0      a client and a clock: a unit
-- 1      a text: a root's list
-- 2      a client and a clock: the list of a nested type
use Rattle.std.specs.Prelude.{ℕ, Option, Some, None, nat_eq, nat_lt, if◌then◌else◌}
use Rattle.yd_ids.specs.declared.id.Id.{Id}
use Rattle.yd_parts.specs.Part.{PartPlan, text, unsigned}
use Rattle.yd_parts.specs.Plan.{give, want}
use Rattle.yd_position.specs.declared.position.Target.{Target}
use Rattle.yd_position.specs.declared.position.Target.TheVariants.{Unit as UnitOf, Root, Item}

-- what points by an id: at a unit, or at a nested type's list
abbrev pub of_id : ℕ → Id → Target
of_id form id = if nat_eq form 0 then UnitOf id else Item id

-- a client and a clock
abbrev pub id_plan : ℕ → PartPlan (Option Target)
id_plan form = want unsigned (λ client spot. want unsigned (λ clock at. give (Some (of_id form (record { client = record { 0 = client }; clock = clock })))))

-- what stands behind the first number; none where the number is past 2
abbrev pub behind_form : ℕ → PartPlan (Option Target)
behind_form form =
    if nat_eq form 1 then want text (λ name spot. give (Some (Root name)))
    else if nat_lt form 3 then id_plan form
    else give None

-- a number, and what it says
unfoldable pub target_plan : PartPlan (Option Target)
target_plan = want unsigned (λ form spot. behind_form form)
