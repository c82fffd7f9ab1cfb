-- What is read of the rest is in range.
use Rattle.std.proofs.Common.{◌≡◌, ◌<◌, ◌^◌, ℕ, Ok}
use Rattle.yd_parts.proofs.PartFitLemmas.{part_fits}
use Rattle.yd_parts.specs.Part.{Unread, part_at}
use Rattle.yd_parts.specs.Part as part

pub unsigned_small : (left : Unread) (v : ℕ) (next : Unread) → part_at part.unsigned left ≡ Ok (v, next) → v < 2 ^ 53
unsigned_small left v next is = part_fits part.unsigned left v next is
