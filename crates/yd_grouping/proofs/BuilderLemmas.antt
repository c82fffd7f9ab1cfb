-- A builder: what it was pushed is gathered, the last group apart and the others in blocks; so at the end it is grouped.
use Rattle.std.proofs.Common.{◌≡◌, Bool, true, false, List, [], ◌∷◌, ◌++◌, ◌⊎◌, Some, inl, inr, refl, sym, ap, ◌∙◌, subst, append_assoc, append-nil}
use Rattle.yd_words.specs.Each.{Each}
use Rattle.yd_words.proofs.MemberLemmas.{in_left_part}
use Rattle.yd_ids.specs.declared.id.Span.{Span}
use Rattle.yd_ops.specs.Operation.{Operation}
use Rattle.yd_ops.specs.Value.{BlockValue}
use Rattle.yd_ops.specs.Received.{IsWritten}
use Rattle.yd_grouping.specs.Building.{Built, all_pushed, blocks_and, finished, nothing_built, with_pushed}
use Rattle.yd_grouping.specs.Grouped.{blocks_of, grouping_of}
use Rattle.yd_grouping.specs.Groups.{Group, IsGroup, gathered, group_joins, joined_group, met, operations_of_group, operations_of_groups}
use Rattle.yd_grouping.specs.Law.{Ascend}
use Rattle.yd_grouping.proofs.BlockLemmas.{written_ascend}
use Rattle.yd_grouping.proofs.BuildingLemmas.{blocks_grow}
use Rattle.yd_grouping.proofs.GatherLemmas.{gathered-append}
use Rattle.yd_grouping.proofs.GroupedLemmas.{groups_units}
use Rattle.yd_grouping.proofs.GroupsLemmas.{gathered-operations, gathered_are}
use Rattle.yd_grouping.proofs.SingleLemmas.{regrouped}
use Rattle.yd_grouping.proofs.ValidLemmas.{each_parts}

met_joins : (groups : List Group) (last group : Group) → group_joins last group ≡ true → met (groups ++ last ∷ []) (group ∷ []) ≡ groups ++ joined_group last group ∷ []
met_joins [] last group e = rw e refl
met_joins (first ∷ []) last group e = ap (λ gs. first ∷ gs) (met_joins [] last group e)
met_joins (first ∷ next ∷ groups) last group e = ap (λ gs. first ∷ gs) (met_joins (next ∷ groups) last group e)

met_apart : (groups : List Group) (last group : Group) → group_joins last group ≡ false → met (groups ++ last ∷ []) (group ∷ []) ≡ groups ++ last ∷ group ∷ []
met_apart [] last group e = rw e refl
met_apart (first ∷ []) last group e = ap (λ gs. first ∷ gs) (met_apart [] last group e)
met_apart (first ∷ next ∷ groups) last group e = ap (λ gs. first ∷ gs) (met_apart (next ∷ groups) last group e)

-- a group that goes on from the last one joins it
push_joins : (pushed groups : List Group) (last group : Group) → gathered pushed ≡ groups ++ last ∷ [] → group_joins last group ≡ true →
    gathered (pushed ++ group ∷ []) ≡ groups ++ joined_group last group ∷ []
push_joins pushed groups last group e joins = gathered-append pushed (group ∷ []) ∙ ap (λ gs. met gs (group ∷ [])) e ∙ met_joins groups last group joins

-- and else stands behind it
push_apart : (pushed groups : List Group) (last group : Group) → gathered pushed ≡ groups ++ last ∷ [] → group_joins last group ≡ false →
    gathered (pushed ++ group ∷ []) ≡ (groups ++ last ∷ []) ++ group ∷ []
push_apart pushed groups last group e apart = gathered-append pushed (group ∷ []) ∙ ap (λ gs. met gs (group ∷ [])) e ∙ met_apart groups last group apart
    ∙ sym (append_assoc groups (last ∷ []) (group ∷ []))

gathered_ascend : (pushed : List Group) → Each IsGroup pushed → IsWritten (operations_of_groups pushed) → Ascend (gathered pushed)
gathered_ascend pushed each w = written_ascend (gathered pushed) (groups_units (gathered pushed) (gathered_are pushed each))
    (subst (λ os. IsWritten os) (sym (gathered-operations pushed each)) w)

-- at the end the last one goes into its block
finishes : (pushed groups : List Group) (last : Group) (deletes : List Span) → Each IsGroup pushed → IsWritten (operations_of_groups pushed) →
    gathered pushed ≡ groups ++ last ∷ [] →
    record { blocks = blocks_and (blocks_of groups) last; deletes = deletes } ≡ grouping_of (operations_of_groups pushed) deletes
finishes pushed groups last deletes each w e = ap (λ bs. record { blocks = bs; deletes = deletes }) (
    sym (blocks_grow groups last (subst (λ gs. Ascend gs) e (gathered_ascend pushed each w)))
    ∙ ap blocks_of (sym (regrouped pushed (groups_units pushed each) ∙ e))
    )

-- a part of what was pushed is in the order of writing too, so what is done is put into blocks at each push
pushes : (pushed groups : List Group) (last : Group) → Each IsGroup pushed → IsWritten (operations_of_groups pushed) → gathered pushed ≡ groups ++ last ∷ [] →
    blocks_of (groups ++ last ∷ []) ≡ blocks_and (blocks_of groups) last
pushes pushed groups last each w e = blocks_grow groups last (subst (λ gs. Ascend gs) e (gathered_ascend pushed each w))

-- ---- all that is pushed

groups-append : (groups others : List Group) → operations_of_groups (groups ++ others) ≡ operations_of_groups groups ++ operations_of_groups others
groups-append [] others = refl
groups-append (group ∷ groups) others = ap (λ ps. operations_of_group group ++ ps) (groups-append groups others)
    ∙ sym (append_assoc (operations_of_group group) (operations_of_groups groups) (operations_of_groups others))

written_front : (os ps : List Operation) → IsWritten (os ++ ps) → IsWritten os
written_front [] ps w = tt
written_front (o ∷ os) ps w = ((λ p i. w.0 p (in_left_part p os ps i)), written_front os ps w.1)

-- the groups that were pushed are gathered: nothing, or the last one apart and the others in blocks
abbrev IsBuiltOf : List Group → Built → Type 0
IsBuiltOf pushed built = ((pushed ≡ []) × (built ≡ nothing_built))
    ⊎ ((groups : List Group) × (last : Group) × (gathered pushed ≡ groups ++ last ∷ []) × (built ≡ record { blocks = blocks_of groups; last = Some last }))

step : (pushed : List Group) (built : Built) (group : Group) → Each IsGroup pushed → IsWritten (operations_of_groups pushed) → IsBuiltOf pushed built →
    IsBuiltOf (pushed ++ group ∷ []) (with_pushed built group)
step pushed built group each w (inl (none, e)) = inr ([], group, ap (λ gs. gathered (gs ++ group ∷ [])) none, ap (λ b. with_pushed b group) e)
step pushed built group each w (inr (groups, last, g, e)) = go (group_joins last group) refl
  where
    go : (t : Bool) → group_joins last group ≡ t → IsBuiltOf (pushed ++ group ∷ []) (with_pushed built group)
    go true j = inr (groups, joined_group last group, push_joins pushed groups last group g j, ap (λ b. with_pushed b group) e ∙ rw j refl)
    go false j = inr (
      groups ++ last ∷ [],
      group,
      push_apart pushed groups last group g j,
      ap (λ b. with_pushed b group) e ∙ rw j (ap (λ (bs : List BlockValue). record { blocks = bs; last = Some group }) (sym (pushes pushed groups last each w g))),
    )

all_built : (pushed : List Group) (built : Built) (more : List Group) → Each IsGroup (pushed ++ more) → IsWritten (operations_of_groups (pushed ++ more)) → IsBuiltOf pushed built →
    IsBuiltOf (pushed ++ more) (all_pushed built more)
all_built pushed built [] each w is = subst (λ gs. IsBuiltOf gs built) (sym (append-nil pushed)) is
all_built pushed built (group ∷ more) each w is = subst (λ gs. IsBuiltOf gs (all_pushed (with_pushed built group) more)) same
    (all_built (pushed ++ group ∷ []) (with_pushed built group) more (subst (λ gs. Each IsGroup gs) (sym same) each) (subst (λ gs. IsWritten (operations_of_groups gs)) (sym same) w)
    (step pushed built group (each_parts IsGroup pushed (group ∷ more) each).0
    (written_front (operations_of_groups pushed) (operations_of_groups (group ∷ more)) (subst (λ os. IsWritten os) (groups-append pushed (group ∷ more)) w)) is))
  where
    same : (pushed ++ group ∷ []) ++ more ≡ pushed ++ group ∷ more
    same = append_assoc pushed (group ∷ []) more

built_finishes : (pushed : List Group) (built : Built) (deletes : List Span) → Each IsGroup pushed → IsWritten (operations_of_groups pushed) → IsBuiltOf pushed built →
    finished built deletes ≡ grouping_of (operations_of_groups pushed) deletes
built_finishes pushed built deletes each w (inl (none, e)) = ap (λ b. finished b deletes) e ∙ ap (λ gs. grouping_of (operations_of_groups gs) deletes) (sym none)
built_finishes pushed built deletes each w (inr (groups, last, g, e)) = ap (λ b. finished b deletes) e ∙ finishes pushed groups last deletes each w g

-- ---- lemmas for callers

pub builder_groups : (groups : List Group) (deletes : List Span) → Each IsGroup groups → IsWritten (operations_of_groups groups) →
    finished (all_pushed nothing_built groups) deletes ≡ grouping_of (operations_of_groups groups) deletes
builder_groups groups deletes each w = built_finishes groups (all_pushed nothing_built groups) deletes each w (all_built [] nothing_built groups each w (inl (refl, refl)))
