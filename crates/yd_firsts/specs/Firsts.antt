-- The order of a list, told by the first and the last units of its pieces (own).
use Rattle.std.specs.Prelude.{◌≡◌, ◌<◌, ◌≤◌, ℕ, Bool, true, false, List, Some, length, slice_get}
use Rattle.yd_words.specs.Member.{IsIn}
use Rattle.yd_ids.specs.declared.id.Id.{Id}
use Rattle.yd_origins.specs.Before.{is_before}
use Rattle.yd_origins.specs.Table.{OriginTable, ids_of, left_of, right_of}
use Rattle.yd_order.specs.Comparing.{HasCells, is_told_before}
use Rattle.yd_order.specs.declared.stretch.Stretch.{Stretch}

-- a unit has a first: of its client, with no greater clock, behind each last that the unit is behind, and in front of each first
-- that the unit is in front of
pub record HasFirst (table : OriginTable) (firsts lasts : List Id) (y : Id) : Type 0 where
  pub first : Id
  pub there : IsIn first firsts
  pub client : first.client ≡ y.client
  pub clock : first.clock ≤ y.clock
  pub behind : (p : Id) → IsIn p lasts → is_before table p y ≡ true → is_before table p first ≡ true
  pub ahead : (q : Id) → IsIn q firsts → is_before table y q ≡ true → is_before table first q ≡ true

-- the ids are the first and the last units of pieces: each two are told as the table has them, each left of a first is a last
-- and each right a first, and each unit has a first; a strict order holds one way, and in another each unit is a first
pub record ComparesFirsts (table : OriginTable) (firsts lasts : List Id) (is_strict : Bool) (cells : List Bool) : Type 0 where
  pub size : HasCells is_strict cells (length firsts)
  pub as_many : length lasts ≡ length firsts
  pub member : (x : Id) → IsIn x firsts → IsIn x (ids_of table)
  pub before : (a b : ℕ) (x y : Id) → slice_get firsts a ≡ Some x → slice_get firsts b ≡ Some y → is_before table x y ≡ is_told_before is_strict cells (length firsts) a b
  pub behind : (a b : ℕ) (x y : Id) → slice_get lasts a ≡ Some x → slice_get firsts b ≡ Some y → is_before table x y ≡ is_told_before is_strict cells (length firsts) a b
  pub left : (x p : Id) → IsIn x firsts → left_of table x ≡ Some p → IsIn p lasts
  pub right : (x q : Id) → IsIn x firsts → right_of table x ≡ Some q → IsIn q firsts
  pub first : (y : Id) → IsIn y (ids_of table) → HasFirst table firsts lasts y
  pub one_way : is_strict ≡ true → (x y : Id) → IsIn x (ids_of table) → IsIn y (ids_of table) → is_before table x y ≡ true → is_before table y x ≡ false
  pub single : is_strict ≡ false → (x : Id) → IsIn x (ids_of table) → IsIn x firsts

-- each stretch that has units begins with one of the ids
abbrev pub HaveStarts : List Stretch → List Id → Type 0
HaveStarts stretches firsts = (s : Stretch) → IsIn s stretches → 0 < s.len → IsIn s.id firsts
