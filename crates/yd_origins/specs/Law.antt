-- The laws of the order from origins and of the integration scan, over tables: what is said first, and then of which tables.
use Rattle.std.specs.Prelude.{◌≡◌, ◌≢◌, ◌<◌, ◌↔◌, ◌⊎◌, false, List, ◌∷◌, ◌++◌, Option, Some, IfSome}
use Rattle.yd_words.specs.Member.{IsIn, AreDistinct}
use Rattle.yd_ids.specs.declared.id.Id.{Id}
use Rattle.yd_origins.specs.Table.{Row, OriginTable, ids_of, left_of, right_of, IsTable, IsPart}
use Rattle.yd_origins.specs.Before.{by_lines, is_before, IsBefore, IsInOrder, Fits}
use Rattle.yd_origins.specs.Sorted.{origin_order, IsNext}
use Rattle.yd_origins.specs.Scan.{verdict, walk, scan_place, after_scan, after_scans}
use Rattle.yd_origins.specs.Growing.{IsReadyFor, GrowsByScan, IsClosed, IsRun, IsNotAmong, run_walk}
use Rattle.yd_origins.specs.Parts.{up_to, behind}

-- ---- the order

-- of two rows the first line that applies decides, and no row is before itself
pub record LinesDecide : Type 0 where
  pub two_rows : (table : OriginTable) (a b : Id) → IsTable table → IsIn a (ids_of table) → IsIn b (ids_of table) → a ≢ b →
      is_before table a b ≡ by_lines (left_of table) (right_of table) (is_before table) a b
  pub one_row : (table : OriginTable) (a : Id) → is_before table a a ≡ false

-- of two rows of a table one is before the other
abbrev pub OneIsBefore : Type 0
OneIsBefore = (table : OriginTable) (a b : Id) → IsTable table → IsIn a (ids_of table) → IsIn b (ids_of table) → a ≢ b →
    IsBefore table a b ⊎ IsBefore table b a

-- the order never holds both ways, what is before a row is before all that stand behind it, and each row stands after its
-- left and before its right
pub record IsStrict (table : OriginTable) : Type 0 where
  pub one_way : (a b : Id) → IsIn a (ids_of table) → IsIn b (ids_of table) → IsBefore table a b → is_before table b a ≡ false
  pub through : (a b c : Id) → IsIn a (ids_of table) → IsIn b (ids_of table) → IsIn c (ids_of table) →
      IsBefore table a b → IsBefore table b c → IsBefore table a c
  pub after_left : (x y : Id) → IsIn x (ids_of table) → left_of table x ≡ Some y → IsBefore table y x
  pub before_right : (x y : Id) → IsIn x (ids_of table) → right_of table x ≡ Some y → IsBefore table x y

-- the order of a table that fits is strict
abbrev pub OrderIsStrict : Type 0
OrderIsStrict = (table : OriginTable) → IsTable table → Fits table → IsStrict table

-- a part is a table with the order of the whole, and it fits where the whole does
pub record KeepsOrder (part table : OriginTable) : Type 0 where
  pub is_table : IsTable part
  pub same : (a b : Id) → IsIn a (ids_of part) → IsIn b (ids_of part) → is_before part a b ≡ is_before table a b
  pub fits : Fits table → Fits part

-- a part that has the lefts and rights of its rows keeps the order
abbrev pub PartKeepsOrder : Type 0
PartKeepsOrder = (part table : OriginTable) → IsTable table → IsPart part table → KeepsOrder part table

-- the sorted rows are in order, no other list of the rows is, and their arrangement in the table makes no difference
pub record IsSortedOneWay (table : OriginTable) : Type 0 where
  pub in_order : IsInOrder (is_before table) (origin_order table)
  pub alone : (list : List Id) → IsInOrder (is_before table) list → ((x : Id) → IsIn x list ↔ IsIn x (ids_of table)) → list ≡ origin_order table
  pub any_arrangement : (other : OriginTable) → IsTable other → ((row : Row) → IsIn row table ↔ IsIn row other) → origin_order other ≡ origin_order table

-- the sorted rows are the rows, and where the table fits they are the one list of them in order
pub record SortingGivesOrder : Type 0 where
  pub members : (table : OriginTable) (x : Id) → IsIn x (origin_order table) ↔ IsIn x (ids_of table)
  pub sorted : (table : OriginTable) → IsTable table → Fits table → IsSortedOneWay table

-- with the new row the table fits, and the row stands directly behind its left
pub record FitsBehindLeft (table : OriginTable) (new : Row) : Type 0 where
  pub is_table : IsTable (new ∷ table)
  pub fits : Fits (new ∷ table)
  pub place : origin_order (new ∷ table) ≡ up_to new.left (origin_order table) ++ new.id ∷ behind new.left (origin_order table)

-- a new row between two neighbours of the order fits there
abbrev pub NextRowFits : Type 0
NextRowFits = (table : OriginTable) (new : Row) → IsTable table → Fits table → IsNext table new → FitsBehindLeft table new

-- ---- the scan

-- for every table and every list: the scan puts the new row in, and moves no other
pub record ScanMovesNone : Type 0 where
  pub puts_in : (table : OriginTable) (list : List Id) (new : Id) → after_scan (left_of table) (right_of table) list new
      ≡ (scan_place (left_of table) (right_of table) list new).0 ++ new ∷ (scan_place (left_of table) (right_of table) list new).1
  pub keeps : (table : OriginTable) (list : List Id) (new : Id) →
      (scan_place (left_of table) (right_of table) list new).0 ++ (scan_place (left_of table) (right_of table) list new).1 ≡ list

-- in a table that fits a list in order that is ready for a new row is in order after the scan; so the scan of a part's
-- sorted rows gives the sorted rows of the part with the new row
pub record ScanKeepsOrder : Type 0 where
  pub in_order : (table : OriginTable) (list : List Id) (new : Id) → IsTable table → Fits table → IsReadyFor table list new →
      IsInOrder (is_before table) list → IsInOrder (is_before table) (after_scan (left_of table) (right_of table) list new)
  pub sorted : (part table : OriginTable) (new : Row) → IsTable table → Fits table → IsPart part table → IsPart (new ∷ part) table →
      IfSome new.left (λ y. IsIn y (ids_of part)) → IfSome new.right (λ y. IsIn y (ids_of part)) →
      ((x : Id) → IsIn x (ids_of part) → x.client ≡ new.id.client → x.clock < new.id.clock) →
      after_scan (left_of table) (right_of table) (origin_order part) new.id ≡ origin_order (new ∷ part)

-- the list is closed and in order, and once it has all rows it is the origin order
pub record IsFrontOfOrder (table : OriginTable) (list : List Id) : Type 0 where
  pub closed : IsClosed table list
  pub in_order : IsInOrder (is_before table) list
  pub whole : ((x : Id) → IsIn x (ids_of table) → IsIn x list) → list ≡ origin_order table

-- in a table that fits a closed list in order stays so as it grows by scans, in any arrangement
abbrev pub ScansGiveOrder : Type 0
ScansGiveOrder = (table : OriginTable) (old new : List Id) → IsTable table → Fits table → IsClosed table old → IsInOrder (is_before table) old →
    GrowsByScan table old new → IsFrontOfOrder table new

-- ---- runs in the scan, for all lefts and rights

-- a scanned run goes as its first unit goes, where neither neighbour of the new row parts it
abbrev pub ScannedRunGoesWhole : Type 0
ScannedRunGoesWhole = (left right : Id → Option Id) (new first : Id) (units passed conflicting rest : List Id) →
    IsRun left first units → IsNotAmong (right new) units → IsNotAmong (left new) (first ∷ units) →
    walk left right new passed conflicting (first ∷ units ++ rest)
    ≡ run_walk left right new passed conflicting (first ∷ units) rest (verdict left right new passed conflicting first)

-- a row goes directly behind its left where no row has that left, so a new run stands as one where its first unit goes
pub record NewRunStaysWhole : Type 0 where
  pub behind_left : (left right : Id → Option Id) (list : List Id) (new p : Id) → left new ≡ Some p → ((x : Id) → IsIn x list → left x ≢ Some p) →
      after_scan left right list new ≡ up_to (Some p) list ++ new ∷ behind (Some p) list
  pub as_one : (left right : Id → Option Id) (list : List Id) (first : Id) (units : List Id) → IsRun left first units →
      AreDistinct (first ∷ units) → ((x : Id) → IsIn x (first ∷ units) → IsIn x list → ⊥) →
      ((x : Id) → IsIn x (first ∷ list) → IsNotAmong (left x) (first ∷ units)) →
      after_scans left right list (first ∷ units) ≡ (scan_place left right list first).0 ++ (first ∷ units ++ (scan_place left right list first).1)
