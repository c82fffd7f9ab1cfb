-- The laws of positions, as statements.
use Rattle.std.specs.Prelude.{◌≡◌, ◌↔◌, ℕ, List, Ok, Err}
use Rattle.yd_position.specs.declared.fault.PositionFault.{PositionFault}
use Rattle.yd_position.specs.declared.position.Position.{Position}
use Rattle.yd_position.specs.Grammar.{HasFirstDeviation, StandsForPosition}
use Rattle.yd_position.specs.Reading.{position_reading}

-- bytes stand for the position that is read of them, and their first deviation is the one that is read
pub record PositionsAreRead : Type 0 where
  pub positions : (bytes : List ℕ) (p : Position) → (position_reading bytes ≡ Ok p) ↔ StandsForPosition bytes p
  pub faults : (bytes : List ℕ) (fault : PositionFault) → (position_reading bytes ≡ Err fault) ↔ HasFirstDeviation bytes fault

-- no bytes stand for two positions, none have two first deviations, and none have both a position and a deviation
pub record PositionsAreOne : Type 0 where
  pub positions : (bytes : List ℕ) (p other : Position) → StandsForPosition bytes p → StandsForPosition bytes other → p ≡ other
  pub faults : (bytes : List ℕ) (fault other : PositionFault) → HasFirstDeviation bytes fault → HasFirstDeviation bytes other → fault ≡ other
  pub apart : (bytes : List ℕ) (p : Position) (fault : PositionFault) → StandsForPosition bytes p → HasFirstDeviation bytes fault → ⊥
