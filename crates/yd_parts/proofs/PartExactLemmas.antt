-- Parts are read exactly.
use Rattle.std.proofs.Common.{◌≡◌, ◌++◌, ◌∙◌, ℕ, List, Result, Ok, Err, refl, ap, subst, sym}
use Rattle.yd_num.specs.Grammar.{Joins}
use Rattle.yd_num.specs.Law.{Fails}
use Rattle.yd_num.specs.Number.{byte_at, unsigned_at}
use Rattle.yd_num.specs.Reading.{Cause as NumCause, short_input, number_too_large, bad_utf8}
use Rattle.yd_num.specs.Signed.{signed_at}
use Rattle.yd_num.specs.Text.{bytes_at, blob_at, text_at}
use Rattle.yd_num.proofs.BlobFaultLemmas.{blob_fails, text_fails}
use Rattle.yd_num.proofs.BlobLemmas.{byte_found, byte_only, bytes_front, bytes_again, blob_found, blob_only, text_found, text_only}
use Rattle.yd_num.proofs.FaultLemmas.{byte_fails, bytes_fails}
use Rattle.yd_num.proofs.NumberFaultLemmas.{unsigned_fails}
use Rattle.yd_num.proofs.NumberLemmas.{unsigned_found, unsigned_only}
use Rattle.yd_num.proofs.ReadingLemmas.{ok_value}
use Rattle.yd_num.proofs.SignedFaultLemmas.{signed_fails}
use Rattle.yd_num.proofs.SignedLemmas.{signed_found, signed_only}
use Rattle.yd_parts.specs.Fault.{Fault, of_number}
use Rattle.yd_parts.specs.Part.{Part, PartValue, Unread, behind, here, last_spot, part_at, placed}
use Rattle.yd_parts.specs.Part as part
use Rattle.yd_parts.specs.PartGrammar.{FailsPart, LacksPart, SpellsPart, StandsPart}
use Rattle.yd_parts.specs.declared.fault.Spot.{Spot}
use Rattle.yd_parts.specs.Exact.{ReadsExactly}

-- bytes of a part, and behind it these
abbrev Begins : (t : Part) → PartValue t → List ℕ → List ℕ → Type 0
Begins t v rest bytes = Joins (λ front. SpellsPart t v front) (λ back. back ≡ rest) bytes

-- what reading at the front gives, with places
placed_stands : (t : Part) (left : Unread) (read : Result (PartValue t × List ℕ) NumCause) (v : PartValue t) (next : Unread) → ((x : PartValue t) (rest : List ℕ) → read ≡ Ok (x, rest) → Begins t x rest left.bytes) →
    placed left read ≡ Ok (v, next) → StandsPart left (record { type = t; value = v; spot = last_spot next }) next
placed_stands t left (Ok got) v next found is =
    let same = ok_value (got.0, behind left got.1) (v, next) is in
    let stands = found got.0 got.1 refl in
    let next_is : next ≡ behind left got.1 = sym (ap (λ pair. pair.1) same) in
    record {
      front = stands.front;
      rest = got.1;
      spells = subst (λ x. SpellsPart t x stands.front) (ap (λ pair. pair.0) same) stands.is_front;
      joined = stands.joined ∙ ap (λ back. stands.front ++ back) stands.is_back;
      spot = ap last_spot next_is;
      next_is = next_is;
    }
placed_stands t left (Err cause) v next found is = absurd cc

-- what stands at the front is read
stands_placed : (t : Part) (read : List ℕ → Result (PartValue t × List ℕ) NumCause) (left : Unread) (v : PartValue t) (spot : Spot) (next : Unread) → ((front : List ℕ) (x : PartValue t) (rest : List ℕ) → SpellsPart t x front → read (front ++ rest) ≡ Ok (x, rest)) →
    StandsPart left (record { type = t; value = v; spot = spot }) next → (placed left (read left.bytes) ≡ Ok (v, next)) × (spot ≡ last_spot next)
stands_placed t read left v spot next only stands =
    let there : read left.bytes ≡ Ok (v, stands.rest) = ap read stands.joined ∙ only stands.front v stands.rest stands.spells in
    (ap (placed left) there ∙ ap (λ more. Ok (v, more)) (sym stands.next_is), stands.spot ∙ ap last_spot (sym stands.next_is))

-- where reading at the front fails, the part fails
placed_fails : (t : Part) (left : Unread) (read : Result (PartValue t × List ℕ) NumCause) (fault : Fault) → ((cause : NumCause) → read ≡ Err cause → LacksPart t left.bytes cause) →
    placed left read ≡ Err fault → FailsPart t left fault
placed_fails t left (Ok got) fault lacks is = absurd cc
placed_fails t left (Err cause) fault lacks is =
    let same : record { cause = of_number cause; spot = here left } ≡ fault = cc in
    record { cause = cause; lacks = lacks cause refl; fault_is = sym same }

-- where the part fails, reading at the front fails
fails_placed : (t : Part) (left : Unread) (read : Result (PartValue t × List ℕ) NumCause) (fault : Fault) → ((cause : NumCause) → LacksPart t left.bytes cause → read ≡ Err cause) →
    FailsPart t left fault → placed left read ≡ Err fault
fails_placed t left read fault lacks fails = ap (placed left) (lacks fails.cause fails.lacks) ∙ ap Err (sym fails.fault_is)

-- the faults of a reading, one by one
lacks_of : (t : Part) (read : List ℕ → Result (PartValue t × List ℕ) NumCause) (bytes : List ℕ) → Fails read (λ b. LacksPart t b short_input) (λ b. LacksPart t b number_too_large) (λ b. LacksPart t b bad_utf8) →
    (cause : NumCause) → read bytes ≡ Err cause → LacksPart t bytes cause
lacks_of t read bytes fails short_input is = (fails.short bytes).0 is
lacks_of t read bytes fails number_too_large is = (fails.large bytes).0 is
lacks_of t read bytes fails bad_utf8 is = (fails.bad bytes).0 is

-- and back
fault_of : (t : Part) (read : List ℕ → Result (PartValue t × List ℕ) NumCause) (bytes : List ℕ) → Fails read (λ b. LacksPart t b short_input) (λ b. LacksPart t b number_too_large) (λ b. LacksPart t b bad_utf8) →
    (cause : NumCause) → LacksPart t bytes cause → read bytes ≡ Err cause
fault_of t read bytes fails short_input lacks = (fails.short bytes).1 lacks
fault_of t read bytes fails number_too_large lacks = (fails.large bytes).1 lacks
fault_of t read bytes fails bad_utf8 lacks = (fails.bad bytes).1 lacks

-- what is read of a part stands there
part_found : (t : Part) (left : Unread) (v : PartValue t) (next : Unread) → part_at t left ≡ Ok (v, next) → StandsPart left (record { type = t; value = v; spot = last_spot next }) next
part_found part.byte left v next is = placed_stands part.byte left (byte_at left.bytes) v next (λ x rest. byte_found left.bytes x rest) is
part_found part.unsigned left v next is = placed_stands part.unsigned left (unsigned_at left.bytes) v next (λ x rest. unsigned_found left.bytes x rest) is
part_found part.signed left v next is = placed_stands part.signed left (signed_at left.bytes) v next (λ x rest. signed_found left.bytes x rest) is
part_found part.text left v next is = placed_stands part.text left (text_at left.bytes) v next (λ x rest. text_found left.bytes x rest) is
part_found part.blob left v next is = placed_stands part.blob left (blob_at left.bytes) v next (λ x rest. blob_found left.bytes x rest) is
part_found (part.raw count) left v next is = placed_stands (part.raw count) left (bytes_at count left.bytes) v next (λ x rest. bytes_front count left.bytes x rest) is

-- a part that stands there is read
part_only : (t : Part) (left : Unread) (v : PartValue t) (spot : Spot) (next : Unread) → StandsPart left (record { type = t; value = v; spot = spot }) next → (part_at t left ≡ Ok (v, next)) × (spot ≡ last_spot next)
part_only part.byte left v spot next stands = stands_placed part.byte byte_at left v spot next (λ front x rest. byte_only front x rest) stands
part_only part.unsigned left v spot next stands = stands_placed part.unsigned unsigned_at left v spot next (λ front x rest. unsigned_only front x rest) stands
part_only part.signed left v spot next stands = stands_placed part.signed signed_at left v spot next (λ front x rest. signed_only front x rest) stands
part_only part.text left v spot next stands = stands_placed part.text text_at left v spot next (λ front x rest. text_only front x rest) stands
part_only part.blob left v spot next stands = stands_placed part.blob blob_at left v spot next (λ front x rest. blob_only front x rest) stands
part_only (part.raw count) left v spot next stands = stands_placed (part.raw count) (bytes_at count) left v spot next (λ front x rest. bytes_again count front x rest) stands

-- where reading a part fails, it fails
part_fails : (t : Part) (left : Unread) (fault : Fault) → part_at t left ≡ Err fault → FailsPart t left fault
part_fails part.byte left fault is = placed_fails part.byte left (byte_at left.bytes) fault (lacks_of part.byte byte_at left.bytes byte_fails) is
part_fails part.unsigned left fault is = placed_fails part.unsigned left (unsigned_at left.bytes) fault (lacks_of part.unsigned unsigned_at left.bytes unsigned_fails) is
part_fails part.signed left fault is = placed_fails part.signed left (signed_at left.bytes) fault (lacks_of part.signed signed_at left.bytes signed_fails) is
part_fails part.text left fault is = placed_fails part.text left (text_at left.bytes) fault (lacks_of part.text text_at left.bytes text_fails) is
part_fails part.blob left fault is = placed_fails part.blob left (blob_at left.bytes) fault (lacks_of part.blob blob_at left.bytes blob_fails) is
part_fails (part.raw count) left fault is = placed_fails (part.raw count) left (bytes_at count left.bytes) fault (lacks_of (part.raw count) (bytes_at count) left.bytes (bytes_fails count)) is

-- where a part fails, reading it does
part_fails_only : (t : Part) (left : Unread) (fault : Fault) → FailsPart t left fault → part_at t left ≡ Err fault
part_fails_only part.byte left fault fails = fails_placed part.byte left (byte_at left.bytes) fault (fault_of part.byte byte_at left.bytes byte_fails) fails
part_fails_only part.unsigned left fault fails = fails_placed part.unsigned left (unsigned_at left.bytes) fault (fault_of part.unsigned unsigned_at left.bytes unsigned_fails) fails
part_fails_only part.signed left fault fails = fails_placed part.signed left (signed_at left.bytes) fault (fault_of part.signed signed_at left.bytes signed_fails) fails
part_fails_only part.text left fault fails = fails_placed part.text left (text_at left.bytes) fault (fault_of part.text text_at left.bytes text_fails) fails
part_fails_only part.blob left fault fails = fails_placed part.blob left (blob_at left.bytes) fault (fault_of part.blob blob_at left.bytes blob_fails) fails
part_fails_only (part.raw count) left fault fails = fails_placed (part.raw count) left (bytes_at count left.bytes) fault (fault_of (part.raw count) (bytes_at count) left.bytes (bytes_fails count)) fails

-- parts are read exactly
pub parts_exact : ReadsExactly part_at last_spot StandsPart FailsPart
parts_exact = record { found = part_found; only = part_only; fails = part_fails; fails_only = part_fails_only }
