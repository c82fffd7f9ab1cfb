-- Which operations can be grouped: those that a valid update can hold in the order of writing. All that is received can.
use Rattle.std.specs.Prelude.{◌≡◌, ◌+◌, ◌<◌, ◌^◌, List, IfSome, IsTrue}
use Rattle.yd_words.specs.Each.{Each}
use Rattle.yd_any.specs.Valid.{is_valid_any, is_valid_json}
use Rattle.yd_ids.specs.Id.{IsClient, IsClock, IsId}
use Rattle.yd_ops.specs.Operation.{Operation, UnitContent, any_unit, embedded, gone_operation, json_unit, level_of, mark, text_unit}
use Rattle.yd_ops.specs.Valid.{CarriesList, IsValidUnit}
use Rattle.yd_ops.specs.ReceivedLaw.{ArePaired, HaveOneRight}
use Rattle.yd_ops.specs.Received.{IsWritten}

-- what one unit holds is valid; a half may be without its partner
abbrev pub IsValidUnitContent : UnitContent → Type 0
IsValidUnitContent (text_unit unit) = unit < 2 ^ 16
IsValidUnitContent (any_unit value) = IsTrue (is_valid_any value)
IsValidUnitContent (json_unit value) = IsValidUnit value
IsValidUnitContent (embedded value) = IsTrue (is_valid_json value)
IsValidUnitContent (mark key value) = IsTrue (is_valid_json value)
IsValidUnitContent content = Unit {0}

-- the operation's ids are in range, and its content is valid; it carries a list exactly where both origins are absent, and has its id alone if it is gone
pub record IsValidOperation (o : Operation) : Type 0 where
  pub client : IsClient o.id.client
  pub end : IsClock (o.id.clock + 1)
  pub left : IfSome o.left_origin IsId
  pub right : IfSome o.right_origin IsId
  pub list : 0 < level_of o.content → CarriesList o.left_origin o.right_origin o.list
  pub bare : level_of o.content ≡ 0 → o ≡ gone_operation o.id
  pub content : IsValidUnitContent o.content

-- valid operations in the order of writing; pairs are whole, and partners have one right origin
pub record AreGroupable (os : List Operation) : Type 0 where
  pub written : IsWritten os
  pub valid : Each IsValidOperation os
  pub paired : ArePaired os
  pub rights : HaveOneRight os
