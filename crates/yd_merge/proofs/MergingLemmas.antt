-- What is received of updates, one after another.
use Rattle.std.proofs.Common.{◌≡◌, ℕ, ◌+◌, ◌<◌, List, [], ◌∷◌, map, drop, length, get_or, refl, sym, ap, ap₂, ◌∙◌}
use Rattle.std.proofs.lemmas.List.{drop_more}
use Rattle.yd_ids.specs.declared.id.Span.{Span}
use Rattle.yd_ops.specs.declared.updates.Update.{Update}
use Rattle.yd_ops.specs.Operation.{Operation}
use Rattle.yd_ops.specs.Value.{UpdateValue}
use Rattle.yd_ops.specs.View.{update_value}
use Rattle.yd_ops.specs.Received.{Received, groups_of, received_after, received_more, received_set, with_groups}
use Rattle.yd_grouping.specs.Grouped.{grouping_of}
use Rattle.yd_grouping.specs.Merged.{received_grouped}

-- operations with those of more updates
abbrev pub with_updates : List Operation → List UpdateValue → List Operation
with_updates os [] = os
with_updates os (update ∷ updates) = with_updates (with_groups (groups_of update) os) updates

more_operations : (r : Received) (updates : List UpdateValue) → with_updates r.operations updates ≡ (received_more r updates).operations
more_operations r [] = refl
more_operations r (update ∷ updates) = more_operations (received_after r update) updates

-- ---- lemmas for callers

pub set_operations : (updates : List UpdateValue) → with_updates [] updates ≡ (received_set updates).operations
set_operations updates = more_operations (record { operations = []; deletes = [] }) updates

-- one more update is received
pub receive_next : (updates : List Update) (i : ℕ) (update : Update) (old new : List Operation) → i < length updates → update ≡ get_or updates i update →
    new ≡ with_groups (groups_of (update_value update)) old →
    with_updates new (map update_value (drop (i + 1) updates)) ≡ with_updates old (map update_value (drop i updates))
receive_next updates i update old new lt at e = ap (λ os. with_updates os (map update_value (drop (i + 1) updates))) e
    ∙ ap (λ us. with_updates old (map update_value us)) (sym (drop_more updates i update lt ∙ ap (λ (u : Update). u ∷ drop (i + 1) updates) (sym at)))

-- its operations and deletions, grouped
pub received_is : (r : Received) (os : List Operation) (deletes : List Span) → os ≡ r.operations → deletes ≡ r.deletes → grouping_of os deletes ≡ received_grouped r
received_is r os deletes e f = ap₂ (λ a b. grouping_of a b) e f
