-- The laws of the order of every table, whether it fits or not.
use Rattle.std.specs.Prelude.{◌≡◌, ◌↔◌, ℕ, List, nat_lt}
use Rattle.yd_words.specs.Member.{IsIn}
use Rattle.yd_ids.specs.declared.id.Id.{Id}
use Rattle.yd_origins.specs.Table.{Row, OriginTable, ids_of, IsTable}
use Rattle.yd_origins.specs.Before.{IsInOrder}
use Rattle.yd_origins.specs.Sorted.{goes_first, origin_order}
use Rattle.yd_order.specs.Line.{AreInLine}

-- in the order of a table a row stands in front of another where fewer rows are before it, or as many and its id is
-- smaller; no other list of the rows is so, and their arrangement in the table makes no difference
pub record CountsDecide : Type 0 where
  pub in_order : (table : OriginTable) → IsTable table → IsInOrder (goes_first table) (origin_order table)
  pub alone : (table : OriginTable) (list : List Id) → IsTable table → IsInOrder (goes_first table) list → ((x : Id) → IsIn x list ↔ IsIn x (ids_of table)) →
      list ≡ origin_order table
  pub any_arrangement : (table other : OriginTable) → IsTable table → IsTable other → ((row : Row) → IsIn row table ↔ IsIn row other) →
      origin_order other ≡ origin_order table

-- a list of all rows by seats in which they stand as their lefts and rights ask is the order of the table
abbrev pub SeatsDecide : Type 0
SeatsDecide = (table : OriginTable) (seat : Id → ℕ) (end : ℕ) (list : List Id) → IsTable table → AreInLine table seat end →
    IsInOrder (λ x y. nat_lt (seat x) (seat y)) list → ((x : Id) → IsIn x list ↔ IsIn x (ids_of table)) → list ≡ origin_order table
