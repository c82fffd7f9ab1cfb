-- Where runs differ in what they spell of an id (own).
use Rattle.std.specs.Prelude.{◌≡◌, ℕ, ◌+◌, ◌<◌, Bool, ◌&&◌, List, Option, Some, None}
use Rattle.yd_words.specs.Member.{IsIn}
use Rattle.yd_ids.specs.Id.{IsClock}
use Rattle.yd_ids.specs.Ids.{is_same_neighbour}
use Rattle.yd_ids.specs.declared.id.Id.{Id}
use Rattle.yd_ops.specs.Operation.{Operation, UnitContent, operations_of_run}
use Rattle.yd_ops.specs.Value.{ContentValue, RunValue, len_of}
use Rattle.yd_ops.specs.declared.lists.List.{List as DocList}
use Rattle.yd_meaning.specs.Names.{same_carried}
use Rattle.yd_entries.specs.Taking.{left_at, list_from}
use Rattle.yd_agreement.specs.Units.{unit_of}

-- two runs have operations with this id that differ in what is told of them
pub record Differ {V : Type 0} (told : Operation → V) (r s : RunValue) (x : Id) : Type 0 where
  pub one : Operation
  pub other : Operation
  pub one_there : IsIn one (operations_of_run r)
  pub other_there : IsIn other (operations_of_run s)
  pub id : one.id ≡ x
  pub other_id : other.id ≡ x
  pub differ : told one ≡ told other → ⊥

-- two of some runs do
pub record DifferAmong {V : Type 0} (told : Operation → V) (runs : List RunValue) (x : Id) : Type 0 where
  pub one : RunValue
  pub other : RunValue
  pub one_there : IsIn one runs
  pub other_there : IsIn other runs
  pub differ : Differ told one other x

-- the neighbours that an operation had, and its list
pub record Place : Type 0 where
  pub left : Option Id
  pub right : Option Id
  pub list : Option DocList

-- what an operation tells of its unit
abbrev pub content_of : Operation → UnitContent
content_of o = o.content

-- where an operation was put
abbrev pub place_of : Operation → Place
place_of o = record { left = o.left_origin; right = o.right_origin; list = o.list }

-- ---- two runs, of which the second begins no sooner

-- the clocks of a run are in range, and it has some
pub record HasRange (run : RunValue) : Type 0 where
  pub some : 0 < len_of run.content
  pub end : IsClock (run.id.clock + len_of run.content)

-- units of the second content are as those of the first one so many units further behind; or this one is the first that is not
abbrev pub IsOther : ContentValue → ℕ → ContentValue → Option ℕ → Type 0
IsOther a from b None = (k : ℕ) → k < len_of b → from + k < len_of a → unit_of a (from + k) ≡ unit_of b k
IsOther a from b (Some k) = (k < len_of b) × (from + k < len_of a) × (unit_of a (from + k) ≡ unit_of b k → ⊥) × ((j : ℕ) → j < k → unit_of a (from + j) ≡ unit_of b j)

-- whether unit n of a run has the place of the first unit of the next one
abbrev pub is_placed : RunValue → ℕ → RunValue → Bool
is_placed run n next = is_same_neighbour (left_at run.id run.left n) next.left && is_same_neighbour run.right next.right && same_carried (list_from run.list n) next.list
