-- The laws of the order from origins over sets of operations, for every type of the names of lists.
use Rattle.std.specs.Prelude.{◌≡◌, ◌≢◌, ◌↔◌, ◌⊎◌, Bool, true, false, List, ◌∷◌, ◌++◌, Some}
use Rattle.yd_words.specs.Member.{IsIn}
use Rattle.yd_ids.specs.declared.id.Id.{Id}
use Rattle.yd_origins.specs.Table.{Row, ids_of, left_of, right_of, IsTable}
use Rattle.yd_origins.specs.Before.{is_before, IsBefore, IsInOrder, Fits}
use Rattle.yd_origins.specs.Sorted.{origin_order}
use Rattle.yd_origins.specs.Growing.{GrowsByScan, IsClosed}
use Rattle.yd_origins.specs.Law.{IsFrontOfOrder}
use Rattle.yd_origins.specs.Deleted.{IsDeleted}
use Rattle.yd_origins.specs.Operations.{ListNames, OperationSet, list_by_origins, list_of_operation, table_of_all, table_of_list, IsHonest, IsClosedPart, AgreeOnPasts, with_operation, HasParents, IsMade}
use Rattle.yd_origins.specs.Parts.{up_to, behind}

-- ---- lists

-- the list of an operation is that of its left origin, else of its right origin, else the one that it carries; and the
-- table of a list has the operations of that list
pub record ListsFollowOrigins (Name : Type 0) : Type 0 where
  pub list : (names : ListNames Name) (set : OperationSet names) (x : Id) → IsTable set.origins → IsIn x (ids_of set.origins) →
      list_of_operation set x ≡ list_by_origins (left_of set.origins x) (right_of set.origins x) (set.carried x) (list_of_operation set)
  pub members : (names : ListNames Name) (set : OperationSet names) (name : Name) (x : Id) → IsTable set.origins →
      IsIn x (ids_of (table_of_list set name)) ↔ (IsIn x (ids_of set.origins) × (list_of_operation set x ≡ name))

-- the operations of a list are a table with the order of all; where the set is honest it fits, and has the origins as they are
pub record IsListTable {Name : Type 0} {names : ListNames Name} (set : OperationSet names) (name : Name) : Type 0 where
  pub is_table : IsTable (table_of_list set name)
  pub same : (a b : Id) → IsIn a (ids_of (table_of_list set name)) → IsIn b (ids_of (table_of_list set name)) →
      is_before (table_of_list set name) a b ≡ is_before (table_of_all set) a b
  pub lefts : (x : Id) → IsIn x (ids_of (table_of_list set name)) → left_of (table_of_list set name) x ≡ left_of set.origins x
  pub rights : IsHonest set → (x : Id) → IsIn x (ids_of (table_of_list set name)) → right_of (table_of_list set name) x ≡ right_of set.origins x
  pub fits : IsHonest set → Fits (table_of_list set name)

-- so are the operations of each list of a set
abbrev pub HonestListsFit : Type 0 → Type 0
HonestListsFit Name = (names : ListNames Name) (set : OperationSet names) (name : Name) → IsTable set.origins → IsListTable set name

-- ---- the order of an honest set

-- in each list the order never holds both ways, what is before an operation is before all that stand behind it, and each
-- operation stands after its left origin and before its right origin
pub record HasStrictLists {Name : Type 0} {names : ListNames Name} (set : OperationSet names) : Type 0 where
  pub one_way : (a b : Id) → IsIn a (ids_of set.origins) → IsIn b (ids_of set.origins) → list_of_operation set a ≡ list_of_operation set b →
      IsBefore (table_of_all set) a b → is_before (table_of_all set) b a ≡ false
  pub through : (a b c : Id) → IsIn a (ids_of set.origins) → IsIn b (ids_of set.origins) → IsIn c (ids_of set.origins) →
      list_of_operation set a ≡ list_of_operation set b → list_of_operation set b ≡ list_of_operation set c →
      IsBefore (table_of_all set) a b → IsBefore (table_of_all set) b c → IsBefore (table_of_all set) a c
  pub after_left_origin : (x y : Id) → IsIn x (ids_of set.origins) → left_of set.origins x ≡ Some y → IsBefore (table_of_all set) y x
  pub before_right_origin : (x y : Id) → IsIn x (ids_of set.origins) → right_of set.origins x ≡ Some y → IsBefore (table_of_all set) x y

-- of two operations one is before the other, and on an honest set the order of each list is strict
pub record HonestOrderIsStrict (Name : Type 0) : Type 0 where
  pub one_is_before : (names : ListNames Name) (set : OperationSet names) (a b : Id) → IsTable set.origins → IsIn a (ids_of set.origins) →
      IsIn b (ids_of set.origins) → a ≢ b →
      IsBefore (table_of_all set) a b ⊎ IsBefore (table_of_all set) b a
  pub strict : (names : ListNames Name) (set : OperationSet names) → IsTable set.origins → IsHonest set → HasStrictLists set

-- the placement by scans: on an honest set a closed list in order stays so as it grows by scans, in any arrangement, and
-- once it has all operations of the list it is the origin order
abbrev pub HonestListsGrowInOrder : Type 0 → Type 0
HonestListsGrowInOrder Name = (names : ListNames Name) (set : OperationSet names) (name : Name) (old new : List Id) → IsTable set.origins → IsHonest set →
    IsClosed (table_of_list set name) old → IsInOrder (is_before (table_of_list set name)) old → GrowsByScan (table_of_list set name) old new →
    IsFrontOfOrder (table_of_list set name) new

-- two sets have one order of two operations, and the same list of each
pub record PlaceAlike {Name : Type 0} {names : ListNames Name} (one other : OperationSet names) (a b : Id) : Type 0 where
  pub order : is_before (table_of_all one) a b ≡ is_before (table_of_all other) a b
  pub first_list : list_of_operation one a ≡ list_of_operation other a
  pub second_list : list_of_operation one b ≡ list_of_operation other b

-- the order of two operations depends on no operation outside their pasts: two sets that agree on these place both alike
abbrev pub OrderIsOfPasts : Type 0 → Type 0
OrderIsOfPasts Name = (names : ListNames Name) (one other : OperationSet names) (a b : Id) → IsTable one.origins → IsTable other.origins →
    IsIn a (ids_of one.origins) → IsIn b (ids_of one.origins) → AgreeOnPasts one other a b → PlaceAlike one other a b

-- ---- parts of a set, and one operation more

-- the part is a table, honest where the set is, and its operations are of the same lists in the same order
pub record StaysHonest {Name : Type 0} {names : ListNames Name} (part set : OperationSet names) : Type 0 where
  pub is_table : IsTable part.origins
  pub honest : IsHonest set → IsHonest part
  pub same_list : (x : Id) → IsIn x (ids_of part.origins) → list_of_operation part x ≡ list_of_operation set x
  pub same_order : (a b : Id) → IsIn a (ids_of part.origins) → IsIn b (ids_of part.origins) →
      is_before (table_of_all part) a b ≡ is_before (table_of_all set) a b

-- a closed part of an honest set stays honest
abbrev pub ClosedPartStaysHonest : Type 0 → Type 0
ClosedPartStaysHonest Name = (names : ListNames Name) (part set : OperationSet names) → IsTable set.origins → IsClosedPart part set → StaysHonest part set

-- the set deletes what the part deletes, where the part's deletions are among the set's; and naming in the set what the
-- part deletes changes nothing
pub record DeletesNoMore {Name : Type 0} {names : ListNames Name} (part set : OperationSet names) : Type 0 where
  pub deletes : (named all : Id → Bool) → ((x : Id) → named x ≡ true → all x ≡ true) →
      (x : Id) → IsIn x (ids_of part.origins) → IsDeleted part named x → IsDeleted set all x
  pub naming : (named all more : Id → Bool) → ((x : Id) → named x ≡ true → all x ≡ true) → ((x : Id) → all x ≡ true → more x ≡ true) →
      ((x : Id) → more x ≡ true → (all x ≡ true) ⊎ (IsIn x (ids_of part.origins) × IsDeleted part named x)) →
      (x : Id) → IsDeleted set more x ↔ IsDeleted set all x

-- a closed part of an honest set deletes no more than the set
abbrev pub ClosedPartDeletesNoMore : Type 0 → Type 0
ClosedPartDeletesNoMore Name = (names : ListNames Name) (part set : OperationSet names) → IsTable set.origins → IsHonest set → IsClosedPart part set →
    DeletesNoMore part set

-- the set with the new operation is honest; the operation is of the list, where it stands directly behind its left origin;
-- and no other list has changed
pub record AddsBehindLeft {Name : Type 0} {names : ListNames Name} (set : OperationSet names) (made : Row) (name : Name) : Type 0 where
  pub is_table : IsTable (with_operation set made name).origins
  pub honest : IsHonest (with_operation set made name)
  pub parents : HasParents (with_operation set made name)
  pub of_list : list_of_operation (with_operation set made name) made.id ≡ name
  pub place : origin_order (table_of_list (with_operation set made name) name)
      ≡ up_to made.left (origin_order (table_of_list set name)) ++ made.id ∷ behind made.left (origin_order (table_of_list set name))
  pub others : (other : Name) → other ≢ name → table_of_list (with_operation set made name) other ≡ table_of_list set other

-- an operation that is made between two neighbours of a list keeps the set honest and stands there
abbrev pub MadeStaysHonest : Type 0 → Type 0
MadeStaysHonest Name = (names : ListNames Name) (set : OperationSet names) (made : Row) (name : Name) → IsTable set.origins → IsHonest set → HasParents set →
    IsMade set made name → AddsBehindLeft set made name
