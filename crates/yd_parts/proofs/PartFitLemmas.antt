-- What is read of a part fits it.
use Rattle.std.proofs.Common.{◌≡◌, ◌<◌, ◌^◌, ℕ, List, Result, Ok, Err, IsUtf8, ap}
use Rattle.yd_num.proofs.BlobLemmas.{text_found}
use Rattle.yd_num.proofs.NumberLemmas.{unsigned_found}
use Rattle.yd_num.proofs.ReadingLemmas.{ok_value}
use Rattle.yd_num.specs.Number.{unsigned_at}
use Rattle.yd_num.specs.Reading.{Cause as NumCause}
use Rattle.yd_num.specs.Text.{text_at}
use Rattle.yd_parts.proofs.GivenLemmas.{StaysSound}
use Rattle.yd_parts.specs.Part.{Part, PartValue, Unread, behind, part_at, placed}
use Rattle.yd_parts.specs.Part as part

-- numbers are below 2^53, and texts are UTF-8
abbrev pub FitsPart : (t : Part) → PartValue t → Type 0
FitsPart part.byte b = Unit {0}
FitsPart part.unsigned v = v < 2 ^ 53
FitsPart part.signed n = Unit {0}
FitsPart part.text text = IsUtf8 text
FitsPart part.blob bytes = Unit {0}
FitsPart (part.raw count) bytes = Unit {0}

-- what was read at a place
placed_ok : {X : Type 0} (left : Unread) (read : Result (X × List ℕ) NumCause) (x : X) (next : Unread) → placed left read ≡ Ok (x, next) → (rest : List ℕ) × (read ≡ Ok (x, rest))
placed_ok left (Ok found) x next is = (found.1, ap (λ y. Ok (y, found.1)) (ap (λ pair. pair.0) (ok_value (found.0, behind left found.1) (x, next) is)))
placed_ok left (Err cause) x next is = absurd cc

-- what is read of a part fits it
pub part_fits : (t : Part) (left : Unread) (v : PartValue t) (next : Unread) → part_at t left ≡ Ok (v, next) → FitsPart t v
part_fits part.byte left v next is = tt
part_fits part.unsigned left v next is = let read = placed_ok left (unsigned_at left.bytes) v next is in (unsigned_found left.bytes v read.0 read.1).is_front.in_range
part_fits part.signed left v next is = tt
part_fits part.text left v next is = let read = placed_ok left (text_at left.bytes) v next is in (text_found left.bytes v read.0 read.1).is_front.is_utf8
part_fits part.blob left v next is = tt
part_fits (part.raw count) left v next is = tt

-- what is read of parts fits them, whatever is left
pub parts_fit : StaysSound part_at FitsPart (λ left. Unit {0})
parts_fit t left v next sound is = (part_fits t left v next is, tt)
