-- What is deleted: what a deletion names, what is overwritten under its key, and what lies under a deleted item (Yjs 13, the
-- deletions that an integration makes; that the origin order tells what is overwritten is own).
use Rattle.std.specs.Prelude.{◌≡◌, ◌≢◌, Bool, true, List, [], ◌∷◌, Option, Some, None}
use Rattle.yd_ids.specs.declared.id.Id.{Id}
use Rattle.yd_origins.specs.Sorted.{origin_order}
use Rattle.yd_origins.specs.Operations.{ListNames, OperationSet, list_of_operation, parent_item, table_of_list}

-- the id that stands last
abbrev pub last_of : List Id → Option Id
last_of [] = None
last_of (x ∷ []) = Some x
last_of (x ∷ y ∷ rest) = last_of (y ∷ rest)

-- the operation's list is that of one key, and the operation does not stand last there
pub record IsOverwritten {Name : Type 0} {names : ListNames Name} (set : OperationSet names) (x : Id) : Type 0 where
  pub keyed : names.has_key (list_of_operation set x) ≡ true
  pub not_last : last_of (origin_order (table_of_list set (list_of_operation set x))) ≢ Some x

-- an operation is deleted where a deletion names it, where it is overwritten, and where the item of its list is deleted
pub data IsDeleted {Name : Type 0} {names : ListNames Name} (set : OperationSet names) (named : Id → Bool) : Id → Type 0 where
  by_name : {x : Id} → named x ≡ true → IsDeleted set named x
  by_key : {x : Id} → IsOverwritten set x → IsDeleted set named x
  by_item : {x y : Id} → parent_item set x ≡ Some y → IsDeleted set named y → IsDeleted set named x
