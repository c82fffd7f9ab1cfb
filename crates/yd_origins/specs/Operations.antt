-- Sets of operations of any lists: the list of each, the table of each list, and the edit rules (own).
use Rattle.std.specs.Prelude.{◌≡◌, ◌<◌, ◌⊎◌, ℕ, zero, suc, Bool, Decides, [], ◌∷◌, Option, Some, None, IfSome, filter, length, if◌then◌else◌}
use Rattle.yd_words.specs.Member.{IsIn}
use Rattle.yd_ids.specs.declared.id.Id.{Id}
use Rattle.yd_ids.specs.Ids.{is_same, HasSmallerClock}
use Rattle.yd_origins.specs.Table.{Row, OriginTable, ids_of, left_of, right_of, IsPart}
use Rattle.yd_origins.specs.Before.{is_before, IsLeftFirst, IsBetween}
use Rattle.yd_origins.specs.Sorted.{origin_order}
use Rattle.yd_origins.specs.Parts.{first_of, behind}

-- ---- lists of operations

-- what is known of the names of lists: when two are one, the item that a list belongs to, if there is one, and whether it
-- is the list of one key
pub record ListNames (Name : Type 0) : Type 0 where
  pub is_same : Name → Name → Bool
  pub decides : (a b : Name) → Decides (is_same a b) (a ≡ b)
  pub item_of : Name → Option Id
  pub has_key : Name → Bool

-- what the order sees of some operations: their origins, and the list that each carries, which counts where both origins
-- are absent
pub record OperationSet {Name : Type 0} (names : ListNames Name) : Type 0 where
  pub origins : OriginTable
  pub carried : Id → Name

-- the list of the left origin, else of the right origin, else the one that is carried
abbrev pub list_by_origins : {Name : Type 0} → Option Id → Option Id → Name → (Id → Name) → Name
list_by_origins (Some p) right carried list = list p
list_by_origins None (Some r) carried list = list r
list_by_origins None None carried list = carried

-- the list of an operation, by at most so many steps from an operation to an origin
abbrev pub list_within : {Name : Type 0} {names : ListNames Name} → OperationSet names → ℕ → Id → Name
list_within set zero x = set.carried x
list_within set (suc n) x = list_by_origins (left_of set.origins x) (right_of set.origins x) (set.carried x) (list_within set n)

-- the list of an operation; as many steps as there are operations are never too few
abbrev pub list_of_operation : {Name : Type 0} {names : ListNames Name} → OperationSet names → Id → Name
list_of_operation set = list_within set (suc (length (ids_of set.origins)))

-- the item that the operation's list belongs to, if there is one
abbrev pub parent_item : {Name : Type 0} {names : ListNames Name} → OperationSet names → Id → Option Id
parent_item {Name} {names} set x = names.item_of (list_of_operation set x)

-- a right origin that is in the operation's list; one of another list counts as absent
abbrev pub kept_right : {Name : Type 0} {names : ListNames Name} → OperationSet names → Id → Option Id → Option Id
kept_right {Name} {names} set x None = None
kept_right {Name} {names} set x (Some r) = if names.is_same (list_of_operation set r) (list_of_operation set x) then Some r else None

-- rows with other rights
abbrev pub with_rights : (Id → Option Id) → OriginTable → OriginTable
with_rights right [] = []
with_rights right (row ∷ rows) = record { id = row.id; left = row.left; right = right row.id } ∷ with_rights right rows

-- the operations of all lists as one table
abbrev pub table_of_all : {Name : Type 0} {names : ListNames Name} → OperationSet names → OriginTable
table_of_all set = with_rights (λ x. kept_right set x (right_of set.origins x)) set.origins

-- the operations of one list as a table
abbrev pub table_of_list : {Name : Type 0} {names : ListNames Name} → OperationSet names → Name → OriginTable
table_of_list {Name} {names} set name = filter (λ (row : Row). names.is_same (list_of_operation set row.id) name) (table_of_all set)

-- ---- the edit rules

-- the past of an operation: its origins, its parent item, the smaller clocks of its client, and the pasts of all these
pub data past_of {Name : Type 0} {names : ListNames Name} (set : OperationSet names) : Id → Id → Type 0 where
  of_left : {x y : Id} → left_of set.origins x ≡ Some y → past_of set x y
  of_right : {x y : Id} → right_of set.origins x ≡ Some y → past_of set x y
  of_parent : {x y : Id} → parent_item set x ≡ Some y → past_of set x y
  of_clock : {x y : Id} → IsIn y (ids_of set.origins) → HasSmallerClock y x → past_of set x y
  of_past : {x y z : Id} → past_of set x y → past_of set y z → past_of set x z

-- an operation's origins are of one list, the left one is before the right one, and nothing of its list that its maker
-- had stands strictly between them
pub record MeetsRules {Name : Type 0} {names : ListNames Name} (set : OperationSet names) (x : Id) : Type 0 where
  pub one_list : (p r : Id) → left_of set.origins x ≡ Some p → right_of set.origins x ≡ Some r →
      list_of_operation set p ≡ list_of_operation set r
  pub left_first : IsLeftFirst (is_before (table_of_all set)) (left_of set.origins x) (right_of set.origins x)
  pub past_outside : (y : Id) → IsIn y (ids_of set.origins) → past_of set x y → list_of_operation set y ≡ list_of_operation set x →
      IsBetween (is_before (table_of_all set)) (left_of set.origins x) (right_of set.origins x) y → ⊥

-- every operation of the set meets the edit rules
abbrev pub IsHonest : {Name : Type 0} {names : ListNames Name} → OperationSet names → Type 0
IsHonest set = (x : Id) → IsIn x (ids_of set.origins) → MeetsRules set x

-- ---- parts of a set, and one operation more

-- some operations of a set, each with its origins, its parent item and the smaller clocks of its client
pub record IsClosedPart {Name : Type 0} {names : ListNames Name} (part set : OperationSet names) : Type 0 where
  pub rows : IsPart part.origins set.origins
  pub has_parent : (x : Id) → IsIn x (ids_of part.origins) → IfSome (parent_item part x) (λ y. IsIn y (ids_of part.origins))
  pub has_clocks : (x y : Id) → IsIn x (ids_of part.origins) → IsIn y (ids_of set.origins) → HasSmallerClock y x →
      IsIn y (ids_of part.origins)
  pub same_carried : (x : Id) → IsIn x (ids_of part.origins) → part.carried x ≡ set.carried x

-- the operation is one of two, or of the past of one of them
abbrev pub IsOfPasts : {Name : Type 0} {names : ListNames Name} → OperationSet names → Id → Id → Id → Type 0
IsOfPasts set a b x = (x ≡ a) ⊎ ((x ≡ b) ⊎ (past_of set a x ⊎ past_of set b x))

-- two sets have two operations, and all that one of them has of their pasts, alike
pub record AgreeOnPasts {Name : Type 0} {names : ListNames Name} (one other : OperationSet names) (a b : Id) : Type 0 where
  pub has_both : (x : Id) → IsIn x (ids_of one.origins) → IsOfPasts one a b x → IsIn x (ids_of other.origins)
  pub same_left : (x : Id) → IsIn x (ids_of one.origins) → IsOfPasts one a b x → left_of one.origins x ≡ left_of other.origins x
  pub same_right : (x : Id) → IsIn x (ids_of one.origins) → IsOfPasts one a b x → right_of one.origins x ≡ right_of other.origins x
  pub same_carried : (x : Id) → IsIn x (ids_of one.origins) → IsOfPasts one a b x → one.carried x ≡ other.carried x

-- the parent item of each operation is there
abbrev pub HasParents : {Name : Type 0} {names : ListNames Name} → OperationSet names → Type 0
HasParents set = (x : Id) → IsIn x (ids_of set.origins) → IfSome (parent_item set x) (λ y. IsIn y (ids_of set.origins))

-- the set with one operation more, and the list that it carries
abbrev pub with_operation : {Name : Type 0} {names : ListNames Name} → OperationSet names → Row → Name → OperationSet names
with_operation set made name = record {
  origins = made ∷ set.origins;
  carried = λ x. if is_same made.id x then name else set.carried x;
}

-- what a new operation of a list is made with: a clock greater than those of its client, a left origin that is absent or
-- of the list, the right origin that stands directly behind it in the origin order, and a parent item that is there
pub record IsMade {Name : Type 0} {names : ListNames Name} (set : OperationSet names) (made : Row) (name : Name) : Type 0 where
  pub is_new : IsIn made.id (ids_of set.origins) → ⊥
  pub clocks : (x : Id) → IsIn x (ids_of set.origins) → x.client ≡ made.id.client → x.clock < made.id.clock
  pub left_of_list : IfSome made.left (λ y. IsIn y (ids_of (table_of_list set name)))
  pub right_is_next : made.right ≡ first_of (behind made.left (origin_order (table_of_list set name)))
  pub parent_there : IfSome (names.item_of name) (λ y. IsIn y (ids_of set.origins))
