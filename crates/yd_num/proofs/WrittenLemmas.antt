-- Fields as they are written: read again, in the fewest bytes, and never two for the same bytes.
use Rattle.std.proofs.Common.{◌≡◌, ℕ, ◌^◌, ◌<◌, List, [], ◌++◌, length, Result, Ok, refl, sym, ap, ◌∙◌, arith, length-append}
use Rattle.std.specs.Prelude.{IsUtf8}
use Rattle.yd_num.specs.Law.{IsReadAgain, IsShortest, SpellsOne}
use Rattle.yd_num.specs.Reading.{Cause}
use Rattle.yd_num.specs.Text.{SpellsBlob, SpellsText}
use Rattle.yd_num.specs.Writing.{shortest, shortest_blob}
use Rattle.yd_num.proofs.ReadingLemmas.{ok_value}
use Rattle.yd_num.proofs.ShortestLemmas.{unsigned_spells, unsigned_least}

-- ---- byte strings and texts

pub blob_spells : (blob : List ℕ) → length blob < 2 ^ 53 → SpellsBlob (shortest_blob blob) blob
blob_spells blob lt = record { front = shortest (length blob); back = blob; is_front = unsigned_spells (length blob) lt; is_back = refl; joined = refl }

pub blob_least : IsShortest SpellsBlob shortest_blob
blob_least bytes blob spells =
    omega (arith, length-append (shortest (length blob)) blob, unsigned_least spells.front (length blob) spells.is_front, length-append spells.front spells.back, ap length spells.joined, ap length spells.is_back)

pub text_spells : (text : List ℕ) → (length text < 2 ^ 53) × IsUtf8 text → SpellsText (shortest_blob text) text
text_spells text fits = record { is_blob = blob_spells text fits.0; is_utf8 = fits.1 }

pub text_least : IsShortest SpellsText shortest_blob
text_least bytes text spells = blob_least bytes text spells.is_blob

-- ---- every field

-- what all spellings are read as, one spelling is
pub read_again : {X : Type 0} (read : List ℕ → Result (X × List ℕ) Cause) (Spells : List ℕ → X → Type 0) (IsInRange : X → Type 0) (written : X → List ℕ)
    → ((field : List ℕ) (x : X) (rest : List ℕ) → Spells field x → read (field ++ rest) ≡ Ok (x, rest))
    → ((x : X) → IsInRange x → Spells (written x) x)
    → IsReadAgain read Spells IsInRange written
read_again read Spells IsInRange written only spells = record { spells = spells; again = λ x rest fits. only (written x) x rest (spells x fits) }

-- what is read is one value
pub spells_one : {X : Type 0} (read : List ℕ → Result (X × List ℕ) Cause) (Spells : List ℕ → X → Type 0)
    → ((field : List ℕ) (x : X) (rest : List ℕ) → Spells field x → read (field ++ rest) ≡ Ok (x, rest))
    → SpellsOne Spells
spells_one {X} read Spells only bytes x y is_x is_y =
    ap (λ (z : X × List ℕ). z.0) (ok_value {E = Cause} (x, []) (y, []) (sym (only bytes x [] is_x) ∙ only bytes y [] is_y))
