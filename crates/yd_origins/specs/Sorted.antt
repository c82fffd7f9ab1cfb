-- The origin order: the rows of a table, sorted by how many are before each (own).
use Rattle.std.specs.Prelude.{◌≡◌, ◌<◌, ℕ, ◌+◌, Bool, ◌||◌, ◌&&◌, List, [], ◌∷◌, IfSome, nat_lt, nat_eq, if◌then◌else◌}
use Rattle.yd_words.specs.Member.{IsIn}
use Rattle.yd_words.specs.Test.{one_if}
use Rattle.yd_ids.specs.declared.id.Id.{Id}
use Rattle.yd_ids.specs.Ids.{is_smaller}
use Rattle.yd_origins.specs.Table.{Row, OriginTable, ids_of}
use Rattle.yd_origins.specs.Before.{is_before}
use Rattle.yd_origins.specs.Parts.{first_of, behind}

-- how many of the ids are before one
abbrev pub count_before : (Id → Id → Bool) → List Id → Id → ℕ
count_before before [] x = 0
count_before before (y ∷ ys) x = one_if (before y x) + count_before before ys x

-- whether fewer rows are before the first than before the second, or as many and its id is smaller
abbrev pub goes_first : OriginTable → Id → Id → Bool
goes_first table a b =
    nat_lt (count_before (is_before table) (ids_of table) a) (count_before (is_before table) (ids_of table) b)
    || (nat_eq (count_before (is_before table) (ids_of table) a) (count_before (is_before table) (ids_of table) b) && is_smaller a b)

-- a list with an id more, in front of the first that it goes before
abbrev pub with_id : (Id → Id → Bool) → Id → List Id → List Id
with_id first x [] = x ∷ []
with_id first x (y ∷ ys) = if first x y then x ∷ y ∷ ys else y ∷ with_id first x ys

-- a list sorted by a test of which goes first
abbrev pub sorted : (Id → Id → Bool) → List Id → List Id
sorted first [] = []
sorted first (x ∷ xs) = with_id first x (sorted first xs)

-- the ids of a table, sorted by how many rows are before each, ties by id
abbrev pub origin_order : OriginTable → List Id
origin_order table = sorted (goes_first table) (ids_of table)

-- what a new row is made with: a clock greater than those of its client, a left that is absent or a row, and the right
-- that stands directly behind it in the origin order
pub record IsNext (table : OriginTable) (new : Row) : Type 0 where
  pub is_new : IsIn new.id (ids_of table) → ⊥
  pub clocks : (x : Id) → IsIn x (ids_of table) → x.client ≡ new.id.client → x.clock < new.id.clock
  pub left_there : IfSome new.left (λ y. IsIn y (ids_of table))
  pub right_is_next : new.right ≡ first_of (behind new.left (origin_order table))
