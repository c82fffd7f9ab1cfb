-- Structs and blocks of which some are joined say the same, and so does their update.
use Rattle.std.proofs.Common.{◌≡◌, ◌∙◌, ℕ, ◌+◌, List, [], ◌∷◌, ◌++◌, inl, inr, refl, sym, ap, ap₂, subst, arith, append_assoc}
use Rattle.std.specs.Prelude.{Option, Some, None, true}
use Rattle.yd_ids.specs.Id.{IsClock}
use Rattle.yd_ids.specs.Set.{HasId}
use Rattle.yd_ids.specs.declared.id.Client.{Client}
use Rattle.yd_ids.specs.declared.id.Id.{Id}
use Rattle.yd_ids.proofs.IdLemmas.{same_itself}
use Rattle.yd_ids.proofs.UnionLemmas.{sets_same}
use Rattle.yd_ops.specs.Operation.{later_id, operations_of, operations_of_blocks, operations_of_struct, operations_of_structs}
use Rattle.yd_ops.specs.Received.{all_taken, groups_of, mended, received_set, with_groups}
use Rattle.yd_ops.specs.Deletes.{SpellLess, deletes_of}
use Rattle.yd_ops.specs.Valid.{AreStructsFrom, CarriesList, IsStructAt, IsValidBlock, IsValidUpdate}
use Rattle.yd_ops.specs.Value.{BlockValue, StructValue, UpdateValue, clocks_of, gone, item, skip}
use Rattle.yd_ops.specs.declared.lists.List.{List as DocList}
use Rattle.yd_ops.proofs.CutLemmas.{joined_valid}
use Rattle.yd_ops.proofs.GroupLemmas.{deletes_of-ids, deletes_of-maximal}
use Rattle.yd_ops.proofs.JoinLemmas.{runs_have, runs_long}
use Rattle.yd_ops.proofs.OnceLemmas.{update_once}
use Rattle.yd_ops.proofs.ReceivedLemmas.{nothing_is_received}
use Rattle.yd_grouping.specs.Groups.{of_gone}
use Rattle.yd_grouping.proofs.GroupsLemmas.{joined-operations}
use Rattle.yd_merge.specs.Joining.{BlocksSaySame, IsPut, SaySame, SaysSame, joined_struct, struct_joins}

-- ---- two structs as one

-- a run behind a left origin carries no list
no_list : (left right : Option Id) (list : Option DocList) → CarriesList left right list → (y : Id) → left ≡ Some y → list ≡ None
no_list None right list carries y is = absurd cc
no_list (Some left) right None carries y is = refl
no_list (Some left) right (Some list) carries y is = absurd carries

-- they take as many clocks
joined_long : (last s : StructValue) → struct_joins last s ≡ true → clocks_of (joined_struct last s) ≡ clocks_of last + clocks_of s
joined_long (item run) (item next) joins = runs_long run next joins
joined_long (gone count) (gone more) joins = refl
joined_long (item run) (skip count) joins = absurd cc
joined_long (item run) (gone count) joins = absurd cc
joined_long (gone count) (item run) joins = absurd cc
joined_long (gone count) (skip more) joins = absurd cc
joined_long (skip count) s joins = absurd cc

-- they are valid
joined_is : (client : Client) (clock : ℕ) (last s : StructValue) → struct_joins last s ≡ true → IsStructAt client clock last → IsStructAt client (clock + clocks_of last) s →
    IsStructAt client clock (joined_struct last s)
joined_is client clock (item run) (item next) joins is at = joined_valid client clock run next joins is at.content
joined_is client clock (gone count) (gone more) joins is at = omega (arith, is)
joined_is client clock (item run) (skip count) joins is at = absurd cc
joined_is client clock (item run) (gone count) joins is at = absurd cc
joined_is client clock (gone count) (item run) joins is at = absurd cc
joined_is client clock (gone count) (skip more) joins is at = absurd cc
joined_is client clock (skip count) s joins is at = absurd cc

-- they have the operations of both
joined_have : (client : Client) (clock : ℕ) (last s : StructValue) → struct_joins last s ≡ true → IsStructAt client clock last → IsStructAt client (clock + clocks_of last) s →
    operations_of_struct client clock (joined_struct last s) ≡ operations_of_struct client clock last ++ operations_of_struct client (clock + clocks_of last) s
joined_have client clock (item run) (item next) joins is at = runs_have run next is.has_units joins (no_list next.left next.right next.list at.list)
joined_have client clock (gone count) (gone more) joins is at =
    let id : Id = record { client = client; clock = clock } in
    joined-operations (of_gone id count) (of_gone (later_id id count) more) is at (same_itself (later_id id count))
joined_have client clock (item run) (skip count) joins is at = absurd cc
joined_have client clock (item run) (gone count) joins is at = absurd cc
joined_have client clock (gone count) (item run) joins is at = absurd cc
joined_have client clock (gone count) (skip more) joins is at = absurd cc
joined_have client clock (skip count) s joins is at = absurd cc

-- ---- structs in a row

same_more : (ss ts us : List StructValue) → SaySame ss ts → SaySame ts us → SaySame ss us
same_more ss ts us a b = record {
  valid = λ client clock v. b.valid client clock (a.valid client clock v);
  operations = λ client clock v. b.operations client clock (a.valid client clock v) ∙ a.operations client clock v;
}

same_behind : (s : StructValue) (ss ts : List StructValue) → SaySame ss ts → SaySame (s ∷ ss) (s ∷ ts)
same_behind s ss ts a = record {
  valid = λ client clock v. (v.0, v.1, a.valid client (clock + clocks_of s) v.2);
  operations = λ client clock v. ap (λ os. operations_of_struct client clock s ++ os) (a.operations client (clock + clocks_of s) v.2);
}

same_front : (front ss ts : List StructValue) → SaySame ss ts → SaySame (front ++ ss) (front ++ ts)
same_front [] ss ts a = a
same_front (s ∷ front) ss ts a = same_behind s (front ++ ss) (front ++ ts) (same_front front ss ts a)

same_joined : (last s : StructValue) (rest : List StructValue) → struct_joins last s ≡ true → SaySame (last ∷ s ∷ rest) (joined_struct last s ∷ rest)
same_joined last s rest joins = record {
  valid = λ client clock v.
      (joined_is client clock last s joins v.0 v.2.0, subst IsClock (sym (sums clock)) v.2.1, subst (λ k. AreStructsFrom client k rest) (sym (sums clock)) v.2.2);
  operations = λ client clock v.
      ap₂ (λ os k. os ++ operations_of_structs client k rest) (joined_have client clock last s joins v.0 v.2.0) (sums clock)
      ∙ append_assoc (operations_of_struct client clock last) (operations_of_struct client (clock + clocks_of last) s) (operations_of_structs client ((clock + clocks_of last) + clocks_of s) rest);
}
  where
    sums : (clock : ℕ) → clock + clocks_of (joined_struct last s) ≡ (clock + clocks_of last) + clocks_of s
    sums clock = omega (arith, joined_long last s joins)

-- ---- blocks

same_structs : (block other : BlockValue) → SaysSame block other → IsValidBlock block → IsValidBlock other
same_structs block other same is = record {
  client = rw same.client is.client;
  clock = rw same.clock is.clock;
  structs = rw (same.client, same.clock) (same.structs.valid block.client block.clock is.structs);
}

same_have : (block other : BlockValue) → SaysSame block other → IsValidBlock block →
    operations_of_structs other.client other.clock other.structs ≡ operations_of_structs block.client block.clock block.structs
same_have block other same is = rw (same.client, same.clock) (same.structs.operations block.client block.clock is.structs)

-- one of them in place of another
blocks_other : (front rest : List BlockValue) (block other : BlockValue) → SaysSame block other → BlocksSaySame (front ++ block ∷ rest) (front ++ other ∷ rest)
blocks_other [] rest block other same = record {
  valid = λ v. (same_structs block other same v.0, v.1);
  operations = λ v. ap (λ os. os ++ operations_of_blocks rest) (same_have block other same v.0);
}
blocks_other (b ∷ front) rest block other same =
    let more = blocks_other front rest block other same in
    record {
      valid = λ v. (v.0, more.valid v.1);
      operations = λ v. ap (λ os. operations_of_structs b.client b.clock b.structs ++ os) (more.operations v.1);
    }

blocks_more : (bs cs ds : List BlockValue) → BlocksSaySame bs cs → BlocksSaySame cs ds → BlocksSaySame bs ds
blocks_more bs cs ds a b = record {
  valid = λ v. b.valid (a.valid v);
  operations = λ v. b.operations (a.valid v) ∙ a.operations v;
}

-- ---- lemmas for callers

-- nothing is joined yet
pub same_all : (ss : List StructValue) → SaySame ss ss
same_all ss = record { valid = λ client clock v. v; operations = λ client clock v. refl }

pub blocks_all : (bs : List BlockValue) → BlocksSaySame bs bs
blocks_all bs = record { valid = λ v. v; operations = λ v. refl }

-- one struct more is put
pub same_put : (all old new rest : List StructValue) (s : StructValue) → IsPut old s new → SaySame all (old ++ s ∷ rest) → SaySame all (new ++ rest)
same_put all old new rest s (inl e) same = subst (SaySame all) (sym (ap (λ l. l ++ rest) e ∙ append_assoc old (s ∷ []) rest)) same
same_put all old new rest s (inr j) same =
    let was : old ++ s ∷ rest ≡ j.front ++ j.last ∷ s ∷ rest = ap (λ l. l ++ s ∷ rest) j.there ∙ append_assoc j.front (j.last ∷ []) (s ∷ rest) in
    let is : new ++ rest ≡ j.front ++ joined_struct j.last s ∷ rest = ap (λ l. l ++ rest) j.joined ∙ append_assoc j.front (joined_struct j.last s ∷ []) rest in
    subst (SaySame all) (sym is) (same_more all (j.front ++ j.last ∷ s ∷ rest) (j.front ++ joined_struct j.last s ∷ rest) (subst (SaySame all) was same)
    (same_front j.front (j.last ∷ s ∷ rest) (joined_struct j.last s ∷ rest) (same_joined j.last s rest j.joins)))

-- one block more is joined
pub blocks_put : (all joined rest : List BlockValue) (block other : BlockValue) → SaysSame block other → BlocksSaySame all (joined ++ block ∷ rest) → BlocksSaySame all ((joined ++ other ∷ []) ++ rest)
blocks_put all joined rest block other same so_far = subst (BlocksSaySame all) (sym (append_assoc joined (other ∷ []) rest))
    (blocks_more all (joined ++ block ∷ rest) (joined ++ other ∷ rest) so_far (blocks_other joined rest block other same))

-- valid updates with the same operations and deletions are received as the same
pub same_received : (one other : UpdateValue) → IsValidUpdate one → IsValidUpdate other → operations_of other ≡ operations_of one → other.deletes ≡ one.deletes →
    received_set (other ∷ []) ≡ received_set (one ∷ [])
same_received one other valid valid_other os ds = λ i. record { operations = taken i; deletes = deleted i }
  where
    taken : with_groups (groups_of other) [] ≡ with_groups (groups_of one) []
    taken = update_once other [] valid_other tt nothing_is_received.paired ∙ ap (λ ops. mended (all_taken ops [])) os ∙ sym (update_once one [] valid tt nothing_is_received.paired)

    deleted : deletes_of other ≡ deletes_of one
    deleted = sets_same (deletes_of other) (deletes_of one) (deletes_of-maximal other valid_other) (deletes_of-maximal one valid) (λ x. (
      (λ h. elim ((deletes_of-ids other x).0 h) [
        | inl less ↦ (deletes_of-ids one x).1 (inl (subst (λ ops. SpellLess ops x) os less))
        | inr d ↦ (deletes_of-ids one x).1 (inr (subst (λ set. HasId set x) ds d))
      ]),
      (λ h. elim ((deletes_of-ids one x).0 h) [
        | inl less ↦ (deletes_of-ids other x).1 (inl (subst (λ ops. SpellLess ops x) (sym os) less))
        | inr d ↦ (deletes_of-ids other x).1 (inr (subst (λ set. HasId set x) (sym ds) d))
      ]),
    ))
