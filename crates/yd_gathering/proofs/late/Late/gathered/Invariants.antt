use Rattle.std.proofs.Common.{map, take}
use Rattle.yd_gathering.specs.Late.{update_at}
use Rattle.yd_gathering.specs.Row.{HasRow}
use Rattle.yd_gathering.proofs.late.Late.gathered.Given as goal

-- so many of the updates are gathered
abbrev pub invariant-loop-place : goal.invariant-loop-place
invariant-loop-place l = HasRow l.row (map (update_at l.self.bytes.items) (take l.place-index l.places))
