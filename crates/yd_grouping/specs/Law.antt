-- The laws of grouping, as statements.
use Rattle.std.specs.Prelude.{◌≡◌, ◌<◌, ◌≤◌, ◌⊎◌, ◌↔◌, ℕ, true, false, List, [], ◌∷◌, ◌++◌, Some, None}
use Rattle.yd_words.specs.Each.{Each}
use Rattle.yd_words.specs.Member.{IsIn}
use Rattle.yd_ids.specs.Ids.{is_smaller}
use Rattle.yd_ids.specs.Set.{AreMaximal, HasId}
use Rattle.yd_ids.specs.Vector.{IsVector, clock_of}
use Rattle.yd_ids.specs.declared.id.Id.{Id}
use Rattle.yd_ids.specs.declared.id.Span.{Span}
use Rattle.yd_ops.specs.Operation.{Operation, operations_of, operations_of_blocks}
use Rattle.yd_ops.specs.Valid.{IsValidUpdate}
use Rattle.yd_ops.specs.Value.{BlockValue, UpdateValue}
use Rattle.yd_ops.specs.Agreement.{Agree, AreAlike, DeleteId, HaveSameContents, operations_of_all}
use Rattle.yd_ops.specs.Deletes.{SpellLess, deletes_of}
use Rattle.yd_ops.specs.ReceivedLaw.{IsReceived}
use Rattle.yd_ops.specs.Pairs.{are_partners}
use Rattle.yd_ops.specs.Received.{IsWritten, Received, has_operation, received_after, received_set}
use Rattle.yd_meaning.specs.Held.{held_clock, held_set}
use Rattle.yd_meaning.specs.Law.{IsCompleted}
use Rattle.yd_grouping.specs.Building.{all_pushed, blocks_and, finished, nothing_built}
use Rattle.yd_grouping.specs.Cover.{AgreeAt, Extent, HasClock, IsCover}
use Rattle.yd_grouping.specs.Disagreement.{BreaksAgreement, disagreement_of}
use Rattle.yd_grouping.specs.Groupable.{AreGroupable}
use Rattle.yd_grouping.specs.Grouped.{IsGrouped, blocks_of, end_of, grouping_of}
use Rattle.yd_grouping.specs.Groups.{AreApart, Group, IsGroup, gathered, group_joins, groups_for, joined_group, met, operations_of_group, operations_of_groups, size_of, start_of}
use Rattle.yd_grouping.specs.Merged.{cut_of, cut_update, is_cut_in, merge_of, merges_of, reply_of, rest_of, updates_of}
use Rattle.yd_grouping.specs.Reach.{reach_of}

-- ---- groups, as a builder makes them

-- each group has a unit
abbrev pub HaveUnits : List Group → Type 0
HaveUnits groups = Each (λ group. 0 < size_of group) groups

-- each group ends before the next one of its client begins
abbrev pub Ascend : List Group → Type 0
Ascend [] = Unit {0}
Ascend (group ∷ []) = Unit {0}
Ascend (group ∷ next ∷ groups) = ((start_of next).client.0 ≡ (start_of group).client.0 → end_of group ≤ (start_of next).clock) × Ascend (next ∷ groups)

-- the groups for two lists of operations, one behind the other, are the groups for each, met at the border, whatever the operations
-- are; operations may come as groups of any size; and of the groups none goes on with the next
pub record GroupsMeet : Type 0 where
  pub border : (os ps : List Operation) → groups_for (os ++ ps) ≡ met (groups_for os) (groups_for ps)
  pub again : (groups : List Group) → HaveUnits groups → groups_for (operations_of_groups groups) ≡ gathered groups
  pub pushed : (groups others : List Group) → gathered (groups ++ others) ≡ met (gathered groups) (gathered others)
  pub apart : (groups : List Group) → AreApart (gathered groups)
  pub stay : (groups : List Group) → AreApart groups → gathered groups ≡ groups
  pub joined : (group next : Group) → IsGroup group → IsGroup next → group_joins group next ≡ true →
      operations_of_group (joined_group group next) ≡ operations_of_group group ++ operations_of_group next

-- blocks may be built from the back or from the front; they have the operations of their groups; and they are a grouped update, where no group goes on with the next
pub record BlocksAreBuilt : Type 0 where
  pub grow : (groups : List Group) (last : Group) → Ascend (groups ++ last ∷ []) → blocks_of (groups ++ last ∷ []) ≡ blocks_and (blocks_of groups) last
  pub operations : (groups : List Group) → Ascend groups → operations_of_blocks (blocks_of groups) ≡ operations_of_groups groups
  pub grouped : (groups : List Group) (deletes : List Span) → HaveUnits groups → Ascend groups → AreApart groups →
      record { blocks = blocks_of groups; deletes = deletes } ≡ grouping_of (operations_of_groups groups) deletes

-- what a builder is pushed is grouped: groups of any size, whose operations are in the order of writing
abbrev pub BuilderGroups : Type 0
BuilderGroups = (groups : List Group) (deletes : List Span) → Each IsGroup groups → IsWritten (operations_of_groups groups) →
    finished (all_pushed nothing_built groups) deletes ≡ grouping_of (operations_of_groups groups) deletes

-- ---- groupings

-- the clients of the blocks descend, so each client has one block
abbrev pub ClientsDescend : List BlockValue → Type 0
ClientsDescend [] = Unit {0}
ClientsDescend (block ∷ []) = Unit {0}
ClientsDescend (block ∷ next ∷ blocks) = (next.client.0 < block.client.0) × ClientsDescend (next ∷ blocks)

-- what can be grouped is grouped to a valid update that has just these operations, is grouped, and has one block for each client
pub record GroupingKeeps : Type 0 where
  pub operations : (os : List Operation) (deletes : List Span) → AreGroupable os → operations_of (grouping_of os deletes) ≡ os
  pub valid : (os : List Operation) (deletes : List Span) → AreGroupable os → AreMaximal deletes → IsValidUpdate (grouping_of os deletes)
  pub grouped : (os : List Operation) (deletes : List Span) → AreGroupable os → IsGrouped (grouping_of os deletes)
  pub clients : (os : List Operation) (deletes : List Span) → AreGroupable os → ClientsDescend (grouping_of os deletes).blocks

-- two grouped updates with the same operations and deletions are one
abbrev pub GroupedIsOne : Type 0
GroupedIsOne = (one other : UpdateValue) → IsGrouped one → IsGrouped other → operations_of one ≡ operations_of other → one.deletes ≡ other.deletes → one ≡ other

-- what is received of valid updates can be grouped, whether they agree or not; and so can the operations of a valid update that are in
-- the order of writing
pub record ReceivedIsGroupable : Type 0 where
  pub set : (updates : List UpdateValue) → Each IsValidUpdate updates → AreGroupable (received_set updates).operations
  pub update : (update : UpdateValue) → IsValidUpdate update → IsWritten (operations_of update) → AreGroupable (operations_of update)
  pub step : (r : Received) (update : UpdateValue) → IsReceived r → AreGroupable r.operations → IsValidUpdate update → AreGroupable (received_after r update).operations

-- what is grouped is received as it is, where its deletions name what it spells less than full; so such an update is its own merge,
-- and a merge is
pub record GroupedIsReceived : Type 0 where
  pub operations : (os : List Operation) (deletes : List Span) → AreGroupable os → AreMaximal deletes → ((x : Id) → SpellLess os x → HasId deletes x) →
      received_set (grouping_of os deletes ∷ []) ≡ record { operations = os; deletes = deletes }
  pub itself : (update : UpdateValue) → IsValidUpdate update → IsWritten (operations_of update) → ((x : Id) → SpellLess (operations_of update) x → HasId update.deletes x) →
      IsGrouped update → merge_of (update ∷ []) ≡ update
  pub merge : (updates : List UpdateValue) → Each IsValidUpdate updates → merge_of (merge_of updates ∷ []) ≡ merge_of updates

-- ---- merges

-- a merge is a valid grouped update, and has just what is received: so the ids and the deletions of all its updates, whether they agree or not
pub record MergeIsReceived : Type 0 where
  pub operations : (updates : List UpdateValue) → Each IsValidUpdate updates → operations_of (merge_of updates) ≡ (received_set updates).operations
  pub deletes : (updates : List UpdateValue) → Each IsValidUpdate updates → (x : Id) → HasId (deletes_of (merge_of updates)) x ↔ DeleteId updates x
  pub valid : (updates : List UpdateValue) → Each IsValidUpdate updates → IsValidUpdate (merge_of updates)
  pub grouped : (updates : List UpdateValue) → Each IsValidUpdate updates → IsGrouped (merge_of updates)
  pub ids : (updates : List UpdateValue) → Each IsValidUpdate updates → (x : Id) →
      has_operation (operations_of (merge_of updates)) x ≡ true ↔ has_operation (operations_of_all updates) x ≡ true

-- to receive a merge is to receive all its updates, also where others come behind. Where operations of one id are alike, the merge is
-- the same in any order; and under agreement updates may be merged in parts, and the merges merged
pub record MergeIsReceivingAll : Type 0 where
  pub alone : (updates : List UpdateValue) → Each IsValidUpdate updates → received_set (merge_of updates ∷ []) ≡ received_set updates
  pub first : (updates others : List UpdateValue) → Each IsValidUpdate updates → received_set (merge_of updates ∷ others) ≡ received_set (updates ++ others)
  pub any_order : (one other : List UpdateValue) → Each IsValidUpdate one → Each IsValidUpdate other → AreAlike (operations_of_all one) → HaveSameContents one other →
      merge_of one ≡ merge_of other
  pub parts : (parts : List (List UpdateValue)) → Each IsValidUpdate (updates_of parts) → Agree (updates_of parts) → received_set (merges_of parts) ≡ received_set (updates_of parts)
  pub parts_merge : (parts : List (List UpdateValue)) → Each IsValidUpdate (updates_of parts) → Agree (updates_of parts) → merge_of (merges_of parts) ≡ merge_of (updates_of parts)

-- ---- cuts

-- the operation is not below the vector, or it is a high half whose low half has the vector's clock
abbrev pub IsFrom : List Operation → (ℕ → ℕ) → Operation → Type 0
IsFrom os vector o = (vector o.id.client.0 ≤ o.id.clock) ⊎ ((p : Operation) × IsIn p os × (are_partners o p ≡ true) × (p.id.clock ≡ vector o.id.client.0))

-- a cut has just these operations; it can be grouped; and from the empty vector on it has all
pub record CutsAreFromVector : Type 0 where
  pub operations : (os : List Operation) (vector : ℕ → ℕ) (o : Operation) → IsIn o (cut_of os vector) ↔ (IsIn o os × IsFrom os vector o)
  pub groupable : (os : List Operation) (vector : ℕ → ℕ) → AreGroupable os → AreGroupable (cut_of os vector)
  pub all : (os : List Operation) → cut_of os (λ client. 0) ≡ os

-- an update is cut to a valid grouped update, which has the cut of what is received of it, and all its deletions; to cut it again changes nothing
pub record UpdatesAreCut : Type 0 where
  pub operations : (update : UpdateValue) (vector : ℕ → ℕ) → IsValidUpdate update → operations_of (cut_update update vector) ≡ cut_of (received_set (update ∷ [])).operations vector
  pub deletes : (update : UpdateValue) (vector : ℕ → ℕ) → IsValidUpdate update → (x : Id) → HasId (deletes_of (cut_update update vector)) x ↔ HasId (deletes_of update) x
  pub valid : (update : UpdateValue) (vector : ℕ → ℕ) → IsValidUpdate update → IsValidUpdate (cut_update update vector)
  pub grouped : (update : UpdateValue) (vector : ℕ → ℕ) → IsValidUpdate update → IsGrouped (cut_update update vector)
  pub again : (update : UpdateValue) (vector : ℕ → ℕ) → IsValidUpdate update → cut_update (cut_update update vector) vector ≡ cut_update update vector

-- each operation is in the cut or below it, and what lies below can be grouped too. An update of what lies below, which deletes no
-- other ids than the whole does, gives with the cut the whole
pub record CutsGiveTheWhole : Type 0 where
  pub operations : (os : List Operation) (vector : ℕ → ℕ) (o : Operation) → IsIn o (rest_of os vector) ↔ (IsIn o os × (is_cut_in os vector o ≡ false))
  pub groupable : (os : List Operation) (vector : ℕ → ℕ) → AreGroupable os → AreGroupable (rest_of os vector)
  pub whole : (update below : UpdateValue) (vector : ℕ → ℕ) → IsValidUpdate update → IsValidUpdate below →
      operations_of below ≡ rest_of (received_set (update ∷ [])).operations vector → ((x : Id) → HasId (deletes_of below) x → HasId (deletes_of update) x) →
      received_set (below ∷ cut_update update vector ∷ []) ≡ received_set (update ∷ [])

-- ---- reach

-- the reach of a valid update is a vector, and has of each client the smallest clock that no operation has
pub record ReachIsGap : Type 0 where
  pub vector : (update : UpdateValue) → IsValidUpdate update → IsVector (reach_of update)
  pub missing : (update : UpdateValue) → IsValidUpdate update → (client : ℕ) →
      has_operation (operations_of update) (record { client = record { 0 = client }; clock = clock_of (reach_of update) client }) ≡ false
  pub there : (update : UpdateValue) → IsValidUpdate update → (client clock : ℕ) → clock < clock_of (reach_of update) client →
      has_operation (operations_of update) (record { client = record { 0 = client }; clock = clock }) ≡ true

-- ---- replies

-- a reply is a valid grouped update, which has the cut of what is received; and its deletions name all that is received less than full
pub record RepliesAreValid : Type 0 where
  pub operations : (r : Received) (own : List Span) (vector : ℕ → ℕ) → AreGroupable r.operations → operations_of (reply_of r own vector) ≡ cut_of r.operations vector
  pub valid : (r : Received) (own : List Span) (vector : ℕ → ℕ) → AreGroupable r.operations → AreMaximal own → AreMaximal r.deletes → IsValidUpdate (reply_of r own vector)
  pub grouped : (r : Received) (own : List Span) (vector : ℕ → ℕ) → AreGroupable r.operations → IsGrouped (reply_of r own vector)
  pub named : (r : Received) (own : List Span) (vector : ℕ → ℕ) → IsReceived r → (x : Id) → SpellLess r.operations x → HasId (reply_of r own vector).deletes x

-- after a reply the asker has each id and each deletion that the answerer has, the derived deletions too, and says no more than the
-- answerer of what is not below the vector. The vector is nowhere above the asker's own. The asker may have received anything before,
-- and neither of them needs to agree with the other
pub record RepliesComplete : Type 0 where
  pub completes : (answerer asker : Received) (own : List Span) (vector : ℕ → ℕ) → AreGroupable answerer.operations → IsReceived asker →
      ((client : ℕ) → vector client ≤ held_clock (held_set asker.operations) client) → IsCompleted answerer (received_after asker (reply_of answerer own vector)) vector
  pub own : (answerer asker : Received) (own : List Span) (vector : ℕ → ℕ) (x : Id) → HasId own x → HasId (received_after asker (reply_of answerer own vector)).deletes x

-- ---- disagreement

-- where updates agree, and only there, there is no disagreement; else it is at the smallest id that breaks agreement
pub record DisagreementIsSmallest : Type 0 where
  pub none : (updates : List UpdateValue) → disagreement_of updates ≡ None ↔ Agree updates
  pub some : (updates : List UpdateValue) (x : Id) → disagreement_of updates ≡ Some x ↔ (BreaksAgreement updates x × ((y : Id) → BreaksAgreement updates y → is_smaller y x ≡ false))

-- extents come in the order of their starts. Where those so far agree at a clock, the next one agrees there with all of them exactly
-- where it agrees with the one that ends last. So to find the smallest clock of a disagreement, each is compared with that one alone
abbrev pub CoverIsEnough : Type 0
CoverIsEnough = (extents : List Extent) (cover next : Extent) → IsCover extents cover next → (clock : ℕ) → AgreeAt extents clock →
    AgreeAt (next ∷ extents) clock ↔ (HasClock next clock → HasClock cover clock → next.at clock ≡ cover.at clock)
