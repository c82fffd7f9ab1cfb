-- What was held, once more is held: each unit stands or is lost as before, and may hold less (own).
use Rattle.std.specs.Prelude.{◌≡◌, true, List}
use Rattle.yd_words.specs.Member.{IsIn}
use Rattle.yd_ids.specs.declared.id.Id.{Id}
use Rattle.yd_ids.specs.Ids.{HasSmallerClock}
use Rattle.yd_ops.specs.Operation.{Operation}
use Rattle.yd_ops.specs.Received.{has_operation, IsWritten}
use Rattle.yd_meaning.specs.Held.{standing, is_lost}

-- two operations differ in nothing but what they hold
pub record AreSeenAlike (one other : Operation) : Type 0 where
  pub id : other.id ≡ one.id
  pub left : other.left_origin ≡ one.left_origin
  pub right : other.right_origin ≡ one.right_origin
  pub list : other.list ≡ one.list

-- what a part has is held, with all smaller clocks; what stands in it stands, with its origins and its list; and what is
-- lost in it is lost
pub record StaysHeld (part held : List Operation) : Type 0 where
  pub written : IsWritten part
  pub ids : (x : Id) → has_operation part x ≡ true → has_operation held x ≡ true
  pub clocks : (x y : Id) → has_operation part x ≡ true → HasSmallerClock y x → has_operation part y ≡ true
  pub stands : (o : Operation) → IsIn o (standing part) → (q : Operation) × IsIn q (standing held) × AreSeenAlike o q
  pub lost : (x : Id) → is_lost part x ≡ true → is_lost held x ≡ true
