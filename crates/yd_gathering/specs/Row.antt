-- What a row has of the updates that it took (own).
use Rattle.std.specs.Prelude.{◌≡◌, ◌++◌, List, [], ◌∷◌, map}
use Rattle.yd_ops.specs.Value.{BlockValue, UpdateValue}
use Rattle.yd_ops.specs.View.{update_value}
use Rattle.yd_gathering.specs.Blocks.{IsSound, blocks_of}
use Rattle.yd_gathering.specs.Said.{SayWith, update_of}
use Rattle.yd_gathering.specs.declared.row.Row.{Row}

-- the updates that it keeps, and behind them one of the blocks that it gathered
abbrev pub kept_of : Row → List UpdateValue
kept_of row = map update_value row.kept ++ update_of (blocks_of row.blocks) ∷ []

-- it took these updates: what it keeps says them in turn with the deletions that it noted, and its blocks are valid
pub record HasRow (row : Row) (taken : List UpdateValue) : Type 0 where
  pub say : SayWith taken (kept_of row) row.names.items
  pub sound : IsSound row.blocks

-- an update of the blocks, if there are any
abbrev pub updates_of : List BlockValue → List UpdateValue
updates_of [] = []
updates_of (block ∷ blocks) = update_of (block ∷ blocks) ∷ []

-- the blocks that it gathered are kept now, and it has no others
pub record Closes (old new : Row) : Type 0 where
  pub kept : map update_value new.kept ≡ map update_value old.kept ++ updates_of (blocks_of old.blocks)
  pub none : blocks_of new.blocks ≡ []
  pub sound : IsSound new.blocks
  pub names : new.names ≡ old.names
