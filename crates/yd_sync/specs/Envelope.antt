-- What a message begins with (y-websocket, the first number; y-protocols, the second of a sync message): its numbers, and then a body,
-- which is a byte string.
use Rattle.std.specs.Prelude.{ℕ, List, [], nat_eq, if◌then◌else◌}
use Rattle.yd_parts.specs.Part.{PartPlan, blob, unsigned}
use Rattle.yd_parts.specs.Plan.{give, want}
use Rattle.yd_sync.specs.declared.kind.Kind.{Kind}
use Rattle.yd_sync.specs.declared.kind.Kind.TheVariants.{Step1, Step2, Change, Aware, Auth, Query, Other}

-- the kind of a sync message, by its second number
abbrev pub sync_kind : ℕ → Kind
sync_kind inner =
    if nat_eq inner 0 then Step1
    else if nat_eq inner 1 then Step2
    else if nat_eq inner 2 then Change
    else Other inner

-- the kind of any other message, by its first number
abbrev pub outer_kind : ℕ → Kind
outer_kind outer =
    if nat_eq outer 1 then Aware
    else if nat_eq outer 2 then Auth
    else if nat_eq outer 3 then Query
    else Other outer

-- a body, where the kind has one
abbrev pub body_plan : Kind → PartPlan (Kind × List ℕ)
body_plan Step1 = want blob (λ body at. give (Step1, body))
body_plan Step2 = want blob (λ body at. give (Step2, body))
body_plan Change = want blob (λ body at. give (Change, body))
body_plan Aware = want blob (λ body at. give (Aware, body))
body_plan Auth = give (Auth, [])
body_plan Query = give (Query, [])
body_plan (Other number) = give (Other number, [])

-- what stands behind the first number
abbrev pub behind_outer : ℕ → PartPlan (Kind × List ℕ)
behind_outer outer = if nat_eq outer 0 then want unsigned (λ inner at. body_plan (sync_kind inner)) else body_plan (outer_kind outer)

-- the numbers of a message, and its body
unfoldable pub envelope_plan : PartPlan (Kind × List ℕ)
envelope_plan = want unsigned (λ outer spot. behind_outer outer)
