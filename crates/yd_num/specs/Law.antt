-- The laws that tie the grammar of fields to reading and to writing them.
use Rattle.std.specs.Prelude.{◌≡◌, ◌↔◌, ℕ, ◌^◌, ◌<◌, ◌≤◌, List, [], ◌∷◌, ◌++◌, length, Result, Ok, Err, IsUtf8}
use Rattle.yd_num.specs.Grammar.{Joins, EndsInside}
use Rattle.yd_num.specs.Number.{SpellsUnsigned, IsTooLong, IsTooLarge, byte_at, unsigned_at}
use Rattle.yd_num.specs.Reading.{Cause, short_input, number_too_large, bad_utf8}
use Rattle.yd_num.specs.Signed.{SpellsSigned, signed_at}
use Rattle.yd_num.specs.Text.{SpellsBlob, SpellsText, IsOtherBlob, bytes_at, blob_at, text_at}
use Rattle.yd_num.specs.Writing.{shortest, shortest_signed, shortest_blob}

-- ---- reading

-- what is read stands at the front, spelled by the grammar, and what the grammar spells is read whatever follows
pub record Skips {X : Type 0} (read : List ℕ → Result (X × List ℕ) Cause) (Spells : List ℕ → X → Type 0) : Type 0 where
  pub found : (bytes : List ℕ) (x : X) (rest : List ℕ) → read bytes ≡ Ok (x, rest) → Joins (λ front. Spells front x) (λ back. back ≡ rest) bytes
  pub only : (field : List ℕ) (x : X) (rest : List ℕ) → Spells field x → read (field ++ rest) ≡ Ok (x, rest)

-- bytes, numbers, byte strings and texts are read as the grammar spells them
pub record FieldsAreRead : Type 0 where
  pub one_byte : Skips byte_at (λ field b. field ≡ b ∷ [])
  pub some_bytes : (count : ℕ) → Skips (bytes_at count) (λ field bytes. (field ≡ bytes) × (length bytes ≡ count))
  pub numbers : Skips unsigned_at SpellsUnsigned
  pub signed_numbers : Skips signed_at SpellsSigned
  pub blobs : Skips blob_at SpellsBlob
  pub texts : Skips text_at SpellsText

-- reading fails as short, too large or bad at just the bytes that are said to be so
pub record Fails {X : Type 0} (read : List ℕ → Result (X × List ℕ) Cause) (IsShort IsLarge IsBad : List ℕ → Type 0) : Type 0 where
  pub short : (bytes : List ℕ) → (read bytes ≡ Err short_input) ↔ IsShort bytes
  pub large : (bytes : List ℕ) → (read bytes ≡ Err number_too_large) ↔ IsLarge bytes
  pub bad : (bytes : List ℕ) → (read bytes ≡ Err bad_utf8) ↔ IsBad bytes

-- no bytes have the fault
abbrev pub Never : List ℕ → Type 0
Never bytes = ⊥

-- which faults a reading has, and where; a text is short where its byte string is, UTF-8 or not
pub record FaultsAreExact : Type 0 where
  pub one_byte : Fails byte_at (λ bytes. bytes ≡ []) Never Never
  pub some_bytes : (count : ℕ) → Fails (bytes_at count) (λ bytes. length bytes < count) Never Never
  pub numbers : Fails unsigned_at (EndsInside SpellsUnsigned) IsTooLarge Never
  pub signed_numbers : Fails signed_at (EndsInside SpellsSigned) IsTooLong Never
  pub blobs : Fails blob_at (EndsInside SpellsBlob) IsTooLarge Never
  pub texts : Fails text_at (EndsInside SpellsBlob) IsTooLarge IsOtherBlob

-- ---- writing

-- what is written of a value in range spells it, and is read again whatever follows
pub record IsReadAgain {X : Type 0} (read : List ℕ → Result (X × List ℕ) Cause) (Spells : List ℕ → X → Type 0) (IsInRange : X → Type 0) (written : X → List ℕ) : Type 0 where
  pub spells : (x : X) → IsInRange x → Spells (written x) x
  pub again : (x : X) (rest : List ℕ) → IsInRange x → read (written x ++ rest) ≡ Ok (x, rest)

-- numbers, byte strings and texts are read as they were written
pub record WrittenIsRead : Type 0 where
  pub numbers : IsReadAgain unsigned_at SpellsUnsigned (λ v. v < 2 ^ 53) shortest
  pub signed_numbers : IsReadAgain signed_at SpellsSigned (λ s. s.size < 2 ^ 55) shortest_signed
  pub blobs : IsReadAgain blob_at SpellsBlob (λ blob. length blob < 2 ^ 53) shortest_blob
  pub texts : IsReadAgain text_at SpellsText (λ text. (length text < 2 ^ 53) × IsUtf8 text) shortest_blob

-- no bytes that spell a value are fewer than those that are written of it
abbrev pub IsShortest : {X : Type 0} → (List ℕ → X → Type 0) → (X → List ℕ) → Type 0
IsShortest {X} Spells written = (bytes : List ℕ) (x : X) → Spells bytes x → length (written x) ≤ length bytes

-- numbers, byte strings and texts are written in the fewest bytes
pub record WrittenIsShortest : Type 0 where
  pub numbers : IsShortest SpellsUnsigned shortest
  pub signed_numbers : IsShortest SpellsSigned shortest_signed
  pub blobs : IsShortest SpellsBlob shortest_blob
  pub texts : IsShortest SpellsText shortest_blob

-- the same bytes never spell two values
abbrev pub SpellsOne : {X : Type 0} → (List ℕ → X → Type 0) → Type 0
SpellsOne {X} Spells = (bytes : List ℕ) (x y : X) → Spells bytes x → Spells bytes y → x ≡ y

-- no bytes spell two numbers, two byte strings or two texts
pub record SpelledIsOne : Type 0 where
  pub numbers : SpellsOne SpellsUnsigned
  pub signed_numbers : SpellsOne SpellsSigned
  pub blobs : SpellsOne SpellsBlob
  pub texts : SpellsOne SpellsText
