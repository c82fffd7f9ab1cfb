-- Updates that say in turn what others say: the same operations one after another, and the same deletions (own).
use Rattle.std.specs.Prelude.{◌≡◌, ◌↔◌, ◌⊎◌, List, []}
use Rattle.yd_words.specs.Each.{Each}
use Rattle.yd_ids.specs.Id.{IsSpan}
use Rattle.yd_ids.specs.Set.{HasId}
use Rattle.yd_ids.specs.declared.id.Id.{Id}
use Rattle.yd_ids.specs.declared.id.Span.{Span}
use Rattle.yd_ops.specs.Agreement.{DeleteId, operations_of_all}
use Rattle.yd_ops.specs.Valid.{IsValidUpdate}
use Rattle.yd_ops.specs.Value.{BlockValue, UpdateValue}

-- both are valid, have the same operations in the same order, and delete the same ids; how the operations are parted into updates is all that differs
pub record SaysInTurn (taken kept : List UpdateValue) : Type 0 where
  pub taken_valid : Each IsValidUpdate taken
  pub valid : Each IsValidUpdate kept
  pub operations : operations_of_all kept ≡ operations_of_all taken
  pub deletes : (x : Id) → DeleteId kept x ↔ DeleteId taken x

-- an update of blocks alone
abbrev pub update_of : List BlockValue → UpdateValue
update_of blocks = record { blocks = blocks; deletes = [] }

-- so it is while some deletions are apart from what is kept, as spans in any order
pub record SayWith (taken kept : List UpdateValue) (names : List Span) : Type 0 where
  pub taken_valid : Each IsValidUpdate taken
  pub valid : Each IsValidUpdate kept
  pub spans : Each IsSpan names
  pub operations : operations_of_all kept ≡ operations_of_all taken
  pub deletes : (x : Id) → (DeleteId kept x ⊎ HasId names x) ↔ DeleteId taken x
