-- Covers: to find where what is spelled of one client differs, each extent of clocks is compared with one other alone (own).
use Rattle.std.specs.Prelude.{◌≡◌, ◌<◌, ◌≤◌, ℕ, List}
use Rattle.yd_words.specs.Member.{IsIn}
use Rattle.yd_ops.specs.Operation.{Operation}

-- an extent: clocks of one client in a row, and the operation that is spelled at each. Contents are compared by extents of full
-- operations; origins and lists by extents of all that are not gone, each taken as if it were deleted
pub record Extent : Type 0 where
  pub start : ℕ
  pub end : ℕ
  pub at : ℕ → Operation

-- the extent has the clock
abbrev pub HasClock : Extent → ℕ → Type 0
HasClock extent clock = (extent.start ≤ clock) × (clock < extent.end)

-- all extents with the clock have the same operation there
abbrev pub AgreeAt : List Extent → ℕ → Type 0
AgreeAt extents clock = (s t : Extent) → IsIn s extents → IsIn t extents → HasClock s clock → HasClock t clock → s.at clock ≡ t.at clock

-- no extent begins behind the next one, and the cover is one of them that ends last
pub record IsCover (extents : List Extent) (cover next : Extent) : Type 0 where
  pub there : IsIn cover extents
  pub starts : (s : Extent) → IsIn s extents → s.start ≤ next.start
  pub ends : (s : Extent) → IsIn s extents → s.end ≤ cover.end
