-- The laws of what is received of updates, as statements.
use Rattle.std.specs.Prelude.{◌≡◌, ◌≤◌, ◌⊎◌, ◌↔◌, true, false, List, [], ◌∷◌}
use Rattle.yd_words.specs.Each.{Each}
use Rattle.yd_words.specs.Member.{IsIn}
use Rattle.yd_ids.specs.declared.id.Id.{Id}
use Rattle.yd_ids.specs.Set.{HasId, AreMaximal}
use Rattle.yd_ops.specs.Operation.{Operation, gone_operation, level_of, operations_of}
use Rattle.yd_ops.specs.Valid.{IsValidUpdate}
use Rattle.yd_ops.specs.Value.{UpdateValue}
use Rattle.yd_ops.specs.Pairs.{is_high, is_low, is_text_and, are_partners, as_torn}
use Rattle.yd_ops.specs.Received.{has_operation, IsWritten, lowered, all_taken, mended, with_group, with_groups, groups_of, Received, nothing_received, received_after, received_set}
use Rattle.yd_ops.specs.Deletes.{deletes_of, SpellLess}
use Rattle.yd_ops.specs.Agreement.{operations_of_all, AreAlike, Agree, SaysLeast, DeleteId, HaveSameContents, SayTheSame}

-- pairs are whole: the partner of each half is there, behind a high one and before a low one
pub record ArePaired (os : List Operation) : Type 0 where
  pub high : (o : Operation) → IsIn o os → is_text_and is_high o.content ≡ true → (p : Operation) × IsIn p os × (are_partners o p ≡ true)
  pub low : (o : Operation) → IsIn o os → is_text_and is_low o.content ≡ true → (p : Operation) × IsIn p os × (are_partners p o ≡ true)

-- partners have one right origin, so one run may hold both
abbrev pub HaveOneRight : List Operation → Type 0
HaveOneRight os = (high low : Operation) → IsIn high os → IsIn low os → are_partners high low ≡ true → high.right_origin ≡ low.right_origin

-- the operations stand in the order of writing, with whole pairs, and gone ones have their ids alone; the deletions are
-- maximal spans, and name all ids that are spelled less than full
pub record IsReceived (r : Received) : Type 0 where
  pub written : IsWritten r.operations
  pub paired : ArePaired r.operations
  pub rights : HaveOneRight r.operations
  pub bare : (o : Operation) → IsIn o r.operations → level_of o.content ≡ 0 → o ≡ gone_operation o.id
  pub maximal : AreMaximal r.deletes
  pub named : (x : Id) → SpellLess r.operations x → HasId r.deletes x

-- what is received of valid updates is so, whatever they are: nothing is so, and one update more keeps it
pub record ReceivedKeepsPairs : Type 0 where
  pub start : IsReceived nothing_received
  pub step : (r : Received) (update : UpdateValue) → IsReceived r → IsValidUpdate update → IsReceived (received_after r update)

-- an operation is there after a struct, before halves are torn: it was there, and the struct has none of its id; or it is of
-- the struct, and none of its id was there; or it is what is left of one that was there, by the struct's one of its id
abbrev pub IsTakenWith : List Operation → List Operation → Operation → Type 0
IsTakenWith group taken q =
    (IsIn q taken × (has_operation group q.id ≡ false))
    ⊎ ((IsIn q group × (has_operation taken q.id ≡ false))
    ⊎ ((p : Operation) × (o : Operation) × IsIn p taken × IsIn o group × (p.id ≡ o.id) × (q ≡ lowered p o)))

-- the two are one pair, in either order
abbrev pub AreAPair : Operation → Operation → Type 0
AreAPair o p = (are_partners o p ≡ true) ⊎ (are_partners p o ≡ true)

-- a half is torn: it was there, and its partner is lowered; or it comes with its partner, and the id of that one was there
abbrev pub IsTornWith : List Operation → List Operation → Operation → Type 0
IsTornWith group taken q =
    ((p : Operation) × IsIn q taken × IsIn p taken × AreAPair q p × SpellLess group p.id)
    ⊎ ((p : Operation) × IsIn q group × (has_operation taken q.id ≡ false) × IsIn p group × AreAPair q p × (has_operation taken p.id ≡ true))

-- after a struct that comes to whole pairs there is just what was said: what is taken and lowered, as it is or torn. The order
-- of writing stays, pairs are whole, and each struct of a valid update is in the order of writing and has whole pairs. To
-- mend once, when all operations of an update are taken in, gives the same as to mend after each struct
pub record StructsAreTaken : Type 0 where
  pub written : (group taken : List Operation) → IsWritten taken → IsWritten (with_group group taken)
  pub paired : (group taken : List Operation) → ArePaired (with_group group taken)
  pub operations : (group taken : List Operation) → IsWritten group → ArePaired group → IsWritten taken → ArePaired taken → (q : Operation) →
      IsIn q (with_group group taken) ↔ ((IsTakenWith group taken q × (IsTornWith group taken q → ⊥))
      ⊎ ((o : Operation) × IsTakenWith group taken o × IsTornWith group taken o × (q ≡ as_torn true o)))
  pub groups : (update : UpdateValue) → IsValidUpdate update → Each (λ group. IsWritten group × ArePaired group) (groups_of update)
  pub once : (update : UpdateValue) (taken : List Operation) → IsValidUpdate update → IsWritten taken → ArePaired taken →
      with_groups (groups_of update) taken ≡ mended (all_taken (operations_of update) taken)

-- under agreement, what says least of each id is received, as it was handed in. In every case all deletions are received, and
-- no others; and an update deletes the ids that its deletions name, and those that it spells less than full
pub record ReceivedIsAll : Type 0 where
  pub operations : (updates : List UpdateValue) → Each IsValidUpdate updates → Agree updates → (o : Operation) →
      IsIn o (received_set updates).operations ↔ (IsIn o (operations_of_all updates) × SaysLeast (operations_of_all updates) o)
  pub deletes : (updates : List UpdateValue) → Each IsValidUpdate updates → (x : Id) → HasId (received_set updates).deletes x ↔ DeleteId updates x
  pub named : (update : UpdateValue) (x : Id) → HasId (deletes_of update) x ↔ (SpellLess (operations_of update) x ⊎ HasId update.deletes x)

-- where operations of one id are alike, neither the order in which updates come nor a repeat changes what is received. Under
-- agreement it does not matter either that some of them were merged
pub record ReceivedIsOne : Type 0 where
  pub any_order : (one other : List UpdateValue) → Each IsValidUpdate one → Each IsValidUpdate other → AreAlike (operations_of_all one) →
      HaveSameContents one other → received_set one ≡ received_set other
  pub merged : (one other : List UpdateValue) → Each IsValidUpdate one → Each IsValidUpdate other → Agree one → Agree other →
      SayTheSame one other → received_set one ≡ received_set other

-- a valid update that has just what is received, as a merge has, gives it again, whether the updates agree or not
abbrev pub MergingKeeps : Type 0
MergingKeeps = (updates : List UpdateValue) (merged : UpdateValue) → Each IsValidUpdate updates → IsValidUpdate merged →
    operations_of merged ≡ (received_set updates).operations → merged.deletes ≡ (received_set updates).deletes → received_set (merged ∷ []) ≡ received_set updates

-- an update that is received again changes nothing, whether it agrees with the others or not
abbrev pub RepeatsChangeNothing : Type 0
RepeatsChangeNothing = (r : Received) (update : UpdateValue) → IsReceived r → IsValidUpdate update →
    received_after (received_after r update) update ≡ received_after r update

-- an operation of its id is there, and says no more
abbrev pub IsCovered : List Operation → Operation → Type 0
IsCovered taken o = (q : Operation) × IsIn q taken × (q.id ≡ o.id) × (level_of q.content ≤ level_of o.content)

-- an update changes no operation exactly where each of its operations is covered
abbrev pub NothingNew : Type 0
NothingNew = (r : Received) (update : UpdateValue) → IsReceived r →
    (received_after r update).operations ≡ r.operations ↔ ((o : Operation) → IsIn o (operations_of update) → IsCovered r.operations o)
