-- What an edit of one list leaves of every other list (own).
use Rattle.std.specs.Prelude.{◌≡◌, ◌≢◌, ◌||◌}
use Rattle.yd_words.specs.Member.{IsIn}
use Rattle.yd_words.specs.Test.{is_some_and}
use Rattle.yd_ops.specs.declared.lists.List.{List as DocList}
use Rattle.yd_ops.specs.Operation.{Operation}
use Rattle.yd_meaning.specs.Names.{item_of_list}
use Rattle.yd_meaning.specs.Document.{Document}

-- every other list has the units that it had. A unit of it is deleted then where it was before, or where the item to which
-- the list belongs is deleted then, and only there
pub record OtherListsStay (old new : Document) (name : DocList) : Type 0 where
  pub units : (other : DocList) → other ≢ name → new.units other ≡ old.units other
  pub deleted : (other : DocList) → other ≢ name → (o : Operation) → IsIn o (old.units other) →
      new.deleted o.id ≡ (old.deleted o.id || is_some_and new.deleted (item_of_list other))
