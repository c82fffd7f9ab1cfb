-- Texts and byte strings: a length, and then so many bytes (lib0, varString and varUint8Array).
use Rattle.std.specs.Prelude.{◌≡◌, ℕ, List, length, take, drop, Result, Ok, Err, nat_lt, if◌then◌else◌, IsUtf8}
use Rattle.std.specs.Str.{is_utf8}
use Rattle.yd_num.specs.Reading.{Cause, short_input, bad_utf8, ◌>>=◌}
use Rattle.yd_num.specs.Grammar.{Joins, Begins}
use Rattle.yd_num.specs.Number.{SpellsUnsigned, unsigned_at}

-- ---- the grammar

-- a number that says how many bytes follow, and these bytes
abbrev pub SpellsBlob : List ℕ → List ℕ → Type 0
SpellsBlob bytes blob = Joins (λ front. SpellsUnsigned front (length blob)) (λ back. back ≡ blob) bytes

-- the same, where the bytes are UTF-8
pub record SpellsText (bytes text : List ℕ) : Type 0 where
  pub is_blob : SpellsBlob bytes text
  pub is_utf8 : IsUtf8 text

-- a byte string whose bytes are not UTF-8 stands at the front
abbrev pub IsOtherBlob : List ℕ → Type 0
IsOtherBlob bytes = (blob : List ℕ) × ¬ (IsUtf8 blob) × Begins (λ front. SpellsBlob front blob) bytes

-- ---- reading

-- so many bytes, as they stand
unfoldable pub bytes_at : ℕ → List ℕ → Result (List ℕ × List ℕ) Cause
bytes_at count bytes = if nat_lt (length bytes) count then Err short_input else Ok (take count bytes, drop count bytes)

-- the byte string at the front
unfoldable pub blob_at : List ℕ → Result (List ℕ × List ℕ) Cause
blob_at bytes = do
  size ← unsigned_at bytes
  bytes_at size.0 size.1

-- the text at the front
unfoldable pub text_at : List ℕ → Result (List ℕ × List ℕ) Cause
text_at bytes = do
  blob ← blob_at bytes
  if is_utf8 blob.0 then Ok blob else Err bad_utf8
