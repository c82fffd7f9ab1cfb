-- The test for UTF-8 in reading a text.
use Rattle.std.proofs.Common.{◌≡◌, List, ℕ, Bool, true, false, Ok, Err, refl}
use Rattle.std.specs.Prelude.{IsUtf8}
use Rattle.std.specs.Str.{is_utf8}
use Rattle.std.proofs.lemmas.Str.{IsUtf8-from_is_utf8, is_utf8-from_IsUtf8}
use Rattle.yd_num.specs.Reading.{bad_utf8}
use Rattle.yd_num.specs.Text.{blob_at, text_at}

falls_out : (b : Bool) → (b ≡ true → ⊥) → b ≡ false
falls_out true never = absurd (never refl)
falls_out false never = refl

-- what is no UTF-8 fails the test
pub is_utf8-fails : (bytes : List ℕ) → ¬ (IsUtf8 bytes) → is_utf8 bytes ≡ false
is_utf8-fails bytes never = falls_out (is_utf8 bytes) (λ e. never (IsUtf8-from_is_utf8 bytes e))

-- a byte string of UTF-8 is a text
pub text_at-utf8 : (bytes blob text rest : List ℕ) → blob_at bytes ≡ Ok (blob, rest) → text ≡ blob → IsUtf8 blob → text_at bytes ≡ Ok (text, rest)
unfolding text_at
text_at-utf8 bytes blob text rest is same utf8 = rw (is, is_utf8-from_IsUtf8 blob utf8, same) refl

-- and another byte string is none
pub text_at-other : (bytes blob rest : List ℕ) → blob_at bytes ≡ Ok (blob, rest) → ¬ (IsUtf8 blob) → text_at bytes ≡ Err bad_utf8
unfolding text_at
text_at-other bytes blob rest is never = rw (is, is_utf8-fails blob never) refl
