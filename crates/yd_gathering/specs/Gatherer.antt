-- What a gatherer has of the updates that it took (own).
use Rattle.std.specs.Prelude.{◌≡◌, ◌++◌, List}
use Rattle.yd_ops.specs.Value.{UpdateValue}
use Rattle.yd_gathering.specs.Late.{AreBodies, updates_late}
use Rattle.yd_gathering.specs.Row.{HasRow}
use Rattle.yd_gathering.specs.declared.gatherer.Gatherer.{Gatherer}

-- it took these updates: the first of them into its row, and those that it put off behind them
pub record Gathers (g : Gatherer) (taken : List UpdateValue) : Type 0 where
  pub front : List UpdateValue
  pub row : HasRow g.row front
  pub bodies : AreBodies g.late
  pub all : taken ≡ front ++ updates_late g.late
