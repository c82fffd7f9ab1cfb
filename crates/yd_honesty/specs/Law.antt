-- The laws of the edit rules as they are judged, as statements.
use Rattle.std.specs.Prelude.{◌≡◌, ◌↔◌, false, List, Some, None}
use Rattle.yd_ids.specs.Ids.{is_smaller}
use Rattle.yd_ids.specs.declared.id.Id.{Id}
use Rattle.yd_ops.specs.Operation.{Operation, later_id}
use Rattle.yd_origins.specs.Law.{IsStrict}
use Rattle.yd_origins.specs.Operations.{table_of_list}
use Rattle.yd_ops.specs.Received.{IsWritten}
use Rattle.yd_words.specs.Member.{IsIn}
use Rattle.yd_meaning.specs.Held.{held_set, standing}
use Rattle.yd_meaning.specs.Order.{operation_set, list_of, MeetsRules, AreHonest}
use Rattle.yd_honesty.specs.Dishonest.{BreaksRules, dishonest_of}

-- where what is held keeps the edit rules, and only there, no id breaks them; else it is the smallest one that does
pub record DishonestIsSmallest : Type 0 where
  pub none : (received : List Operation) → IsWritten received → dishonest_of (held_set received) ≡ None ↔ AreHonest (held_set received)
  pub some : (received : List Operation) → IsWritten received → (x : Id) → dishonest_of (held_set received) ≡ Some x ↔
      (BreaksRules (held_set received) x × ((y : Id) → BreaksRules (held_set received) y → is_smaller y x ≡ false))

-- the second operation follows the first in a run: it has the client's next clock, the first as its left origin, the same right
-- origin, and carries no list
pub record FollowsInRun (first second : Operation) : Type 0 where
  pub next_clock : second.id ≡ later_id first.id 1
  pub behind : second.left_origin ≡ Some first.id
  pub same_right : second.right_origin ≡ first.right_origin
  pub no_list : second.list ≡ None

-- where the order of its list is strict, an operation that follows another in a run meets the edit rules if that one does; so of a
-- run it is enough to judge the first unit
abbrev pub LaterUnitsKeep : Type 0
LaterUnitsKeep = (received : List Operation) → IsWritten received → (first second : Operation) → IsIn first (standing (held_set received)) →
    IsIn second (standing (held_set received)) → FollowsInRun first second →
    IsStrict (table_of_list (operation_set (standing (held_set received))) (list_of (standing (held_set received)) first.id)) →
    MeetsRules (held_set received) first → MeetsRules (held_set received) second
