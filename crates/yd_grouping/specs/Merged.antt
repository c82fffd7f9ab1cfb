-- Merges, cuts and replies (Yjs 13, mergeUpdates, diffUpdate and encodeStateAsUpdate; that they are grouped, and that a cut keeps pairs whole, is own).
use Rattle.std.specs.Prelude.{ℕ, ◌++◌, Bool, false, ◌&&◌, ◌||◌, List, [], ◌∷◌, filter, nat_eq, nat_le, not}
use Rattle.yd_ids.specs.Set.{union_of}
use Rattle.yd_ids.specs.declared.id.Span.{Span}
use Rattle.yd_ops.specs.Operation.{Operation}
use Rattle.yd_ops.specs.Value.{UpdateValue}
use Rattle.yd_ops.specs.Pairs.{are_partners}
use Rattle.yd_ops.specs.Received.{Received, received_set}
use Rattle.yd_grouping.specs.Grouped.{grouping_of}

-- what is received, as a grouped update
abbrev pub received_grouped : Received → UpdateValue
received_grouped r = grouping_of r.operations r.deletes

-- the merge of updates: what is received of them, grouped
abbrev pub merge_of : List UpdateValue → UpdateValue
merge_of updates = received_grouped (received_set updates)

-- the merge of each of some lists of updates
abbrev pub merges_of : List (List UpdateValue) → List UpdateValue
merges_of [] = []
merges_of (updates ∷ parts) = merge_of updates ∷ merges_of parts

-- the updates of all these lists
abbrev pub updates_of : List (List UpdateValue) → List UpdateValue
updates_of [] = []
updates_of (updates ∷ parts) = updates ++ updates_of parts

-- ---- cuts

-- whether the low half of the pair that an operation begins is there, at this clock
abbrev pub has_partner_at : List Operation → ℕ → Operation → Bool
has_partner_at [] clock o = false
has_partner_at (p ∷ ps) clock o = (are_partners o p && nat_eq p.id.clock clock) || has_partner_at ps clock o

-- whether an operation is in the cut: it is not below the vector, or it is the high half of a pair that the vector parts
abbrev pub is_cut_in : List Operation → (ℕ → ℕ) → Operation → Bool
is_cut_in os vector o = nat_le (vector o.id.client.0) o.id.clock || has_partner_at os (vector o.id.client.0) o

-- the cut: the operations from a vector on
abbrev pub cut_of : List Operation → (ℕ → ℕ) → List Operation
cut_of os vector = filter (is_cut_in os vector) os

-- what lies below the cut: the operations that are not in it
abbrev pub rest_of : List Operation → (ℕ → ℕ) → List Operation
rest_of os vector = filter (λ o. not (is_cut_in os vector o)) os

-- an update that is cut: what it has from a vector on, with all its deletions, grouped
abbrev pub cut_update : UpdateValue → (ℕ → ℕ) → UpdateValue
cut_update update vector = grouping_of (cut_of (received_set (update ∷ [])).operations vector) (received_set (update ∷ [])).deletes

-- ---- replies

-- the reply to a vector: all that is received from there on, held or waiting, grouped. Its deletions are those that are received,
-- waiting ones too, and the replica's own delete set
abbrev pub reply_of : Received → List Span → (ℕ → ℕ) → UpdateValue
reply_of r own vector = grouping_of (cut_of r.operations vector) (union_of own r.deletes)
