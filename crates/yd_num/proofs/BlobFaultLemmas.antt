-- Byte strings and texts: each fault comes for just the bytes that have it.
use Rattle.std.proofs.Common.{◌≡◌, ℕ, ◌-◌, ◌<◌, ◌≤◌, Bool, true, false, List, ◌++◌, length, take, drop, replicate, Ok, Err, refl, sym, ap, subst, ◌∙◌, inl, inr, append_assoc, arith, length-append, length-drop}
use Rattle.std.specs.Prelude.{IsUtf8}
use Rattle.std.specs.Str.{is_utf8}
use Rattle.std.proofs.Math.Seq.{take-append_seam}
use Rattle.std.proofs.lemmas.Bool.{cases_lt}
use Rattle.std.proofs.lemmas.List.{take-append-le, take-append-drop, length-replicate}
use Rattle.std.proofs.lemmas.Str.{is_utf8-from_IsUtf8}
use Rattle.yd_num.specs.Grammar.{EndsInside}
use Rattle.yd_num.specs.Law.{Fails, Never}
use Rattle.yd_num.specs.Number.{SpellsUnsigned, IsTooLarge, unsigned_at}
use Rattle.yd_num.specs.Reading.{Cause, short_input, number_too_large, bad_utf8}
use Rattle.yd_num.specs.Text.{SpellsBlob, IsOtherBlob, bytes_at, blob_at, text_at}
use Rattle.yd_num.proofs.BlobLemmas.{blob_found, blob_only}
use Rattle.yd_num.proofs.FaultLemmas.{Finds, value, short, large, bad, fails_from, bytes_short, bytes_finds}
use Rattle.yd_num.proofs.NumberFaultLemmas.{NumberFinds, unsigned_short, unsigned_large, unsigned_finds}
use Rattle.yd_num.proofs.NumberLemmas.{unsigned_found, unsigned_only}
use Rattle.yd_num.proofs.TextLemmas.{text_at-other}

-- of two fronts of one list, the shorter is a front of the longer
front_within : (xs ys zs ws : List ℕ) → xs ++ ys ≡ zs ++ ws → length zs ≤ length xs → xs ≡ zs ++ drop (length zs) xs
front_within xs ys zs ws e le =
    let same : take (length zs) xs ≡ zs = sym (take-append-le (length zs) xs ys le) ∙ ap (λ (l : List ℕ). take (length zs) l) e ∙ take-append_seam zs ws in
    sym (take-append-drop (length zs) xs) ∙ ap (λ (l : List ℕ). l ++ drop (length zs) xs) same

-- a fault of the length is the byte string's
length_fault : (bytes : List ℕ) (cause : Cause) → unsigned_at bytes ≡ Err cause → blob_at bytes ≡ Err cause
unfolding blob_at
length_fault bytes cause e = rw e refl

-- behind the length too few bytes are left
few_left : (bytes : List ℕ) (size : ℕ) (rest : List ℕ) → unsigned_at bytes ≡ Ok (size, rest) → length rest < size → blob_at bytes ≡ Err short_input
unfolding blob_at
few_left bytes size rest e lt = rw e (bytes_short size rest lt)

-- the bytes end inside a byte string: within its length, or behind it
short_joined : (bytes more front blob : List ℕ) → 0 < length more → SpellsUnsigned front (length blob) → bytes ++ more ≡ front ++ blob → blob_at bytes ≡ Err short_input
short_joined bytes more front blob some spells joined =
    elim (cases_lt (length bytes) (length front)) [
      | inl lt ↦
          let parts : front ≡ bytes ++ drop (length bytes) front = front_within front blob bytes more (sym joined) (omega arith) in
          length_fault bytes short_input (unsigned_short bytes (drop (length bytes) front, length blob, omega (arith, length-drop (length bytes) front), subst (λ (l : List ℕ). SpellsUnsigned l (length blob)) parts spells))
      | inr le ↦
          let parts : bytes ≡ front ++ drop (length front) bytes = front_within bytes more front blob joined le in
          let read : unsigned_at bytes ≡ Ok (length blob, drop (length front) bytes) = ap unsigned_at parts ∙ unsigned_only front (length blob) (drop (length front) bytes) spells in
          few_left bytes (length blob) (drop (length front) bytes) read (omega (arith, length-drop (length front) bytes, length-append bytes more, length-append front blob, ap length joined))
    ]

-- so many bytes 0
abbrev zeros : ℕ → List ℕ
zeros n = replicate n 0

length-zeros : (n : ℕ) → length (zeros n) ≡ n
length-zeros n = length-replicate {A = ℕ} n 0

-- with as many bytes 0 as are missing, a byte string is whole
inside_content : (bytes : List ℕ) (size : ℕ) (rest : List ℕ) → unsigned_at bytes ≡ Ok (size, rest) → length rest < size → EndsInside SpellsBlob bytes
inside_content bytes size rest e lt =
    let head = unsigned_found bytes size rest e in
    let missing = zeros (size - length rest) in
    let many = length-zeros (size - length rest) in
    let enough : size ≡ length (rest ++ missing) = omega (arith, length-append rest missing, many) in (
      missing,
      rest ++ missing,
      omega (arith, many),
      record {
        front = head.front;
        back = rest ++ missing;
        is_front = subst (λ (n : ℕ). SpellsUnsigned head.front n) enough head.is_front;
        is_back = refl;
        joined = ap (λ (l : List ℕ). l ++ missing) (head.joined ∙ ap (λ (l : List ℕ). head.front ++ l) head.is_back) ∙ append_assoc head.front rest missing;
      },
    )

inside_length : (bytes : List ℕ) → EndsInside SpellsUnsigned bytes → EndsInside SpellsBlob bytes
inside_length bytes inside =
    let content = zeros inside.1 in (
      inside.0 ++ content,
      content,
      omega (arith, length-append inside.0 content, inside.2),
      record {
        front = bytes ++ inside.0;
        back = content;
        is_front = subst (λ (n : ℕ). SpellsUnsigned (bytes ++ inside.0) n) (sym (length-zeros inside.1)) inside.3;
        is_back = refl;
        joined = sym (append_assoc bytes inside.0 content);
      },
    )

blob_short : (bytes : List ℕ) → EndsInside SpellsBlob bytes → blob_at bytes ≡ Err short_input
blob_short bytes inside =
    let parts = inside.3 in
    short_joined bytes inside.0 parts.front inside.1 inside.2 parts.is_front (parts.joined ∙ ap (λ (l : List ℕ). parts.front ++ l) parts.is_back)

blob_large : (bytes : List ℕ) → IsTooLarge bytes → blob_at bytes ≡ Err number_too_large
blob_large bytes over = length_fault bytes number_too_large (unsigned_large bytes over)

-- what reading a byte string finds
abbrev BlobFinds : List ℕ → Type 0
BlobFinds bytes = Finds (blob_at bytes) (EndsInside SpellsBlob bytes) (IsTooLarge bytes) ⊥

content_finds : (bytes : List ℕ) (size : ℕ) (rest : List ℕ) → unsigned_at bytes ≡ Ok (size, rest) → Finds (bytes_at size rest) (length rest < size) ⊥ ⊥ → BlobFinds bytes
unfolding blob_at
content_finds bytes size rest e (value x is) = value x (rw e is)
content_finds bytes size rest e (short lt is) = short (inside_content bytes size rest e lt) (rw e is)
content_finds bytes size rest e (large why is) = absurd why
content_finds bytes size rest e (bad why is) = absurd why

length_finds : (bytes : List ℕ) → NumberFinds bytes → BlobFinds bytes
length_finds bytes (value x is) = content_finds bytes x.0 x.1 is (bytes_finds x.0 x.1)
length_finds bytes (short inside is) = short (inside_length bytes inside) (length_fault bytes short_input is)
length_finds bytes (large why is) = large why (length_fault bytes number_too_large is)
length_finds bytes (bad why is) = absurd why

blob_finds : (bytes : List ℕ) → BlobFinds bytes
blob_finds bytes = length_finds bytes (unsigned_finds bytes)

-- ---- texts

-- a fault of the byte string is the text's
blob_fault : (bytes : List ℕ) (cause : Cause) → blob_at bytes ≡ Err cause → text_at bytes ≡ Err cause
unfolding text_at
blob_fault bytes cause e = rw e refl

text_bad : (bytes : List ℕ) → IsOtherBlob bytes → text_at bytes ≡ Err bad_utf8
text_bad bytes other =
    let parts = other.2 in
    text_at-other bytes other.0 parts.back (ap blob_at parts.joined ∙ blob_only parts.front other.0 parts.back parts.is_front) other.1

other_blob : (bytes blob rest : List ℕ) → blob_at bytes ≡ Ok (blob, rest) → ¬ (IsUtf8 blob) → IsOtherBlob bytes
other_blob bytes blob rest e never =
    let found = blob_found bytes blob rest e in
    (blob, never, record { front = found.front; back = found.back; is_front = found.is_front; is_back = tt; joined = found.joined })

-- what reading a text finds
abbrev TextFinds : List ℕ → Type 0
TextFinds bytes = Finds (text_at bytes) (EndsInside SpellsBlob bytes) (IsTooLarge bytes) (IsOtherBlob bytes)

utf8_finds : (bytes blob rest : List ℕ) → blob_at bytes ≡ Ok (blob, rest) → (b : Bool) → is_utf8 blob ≡ b → TextFinds bytes
unfolding text_at
utf8_finds bytes blob rest e true test = value (blob, rest) (rw (e, test) refl)
utf8_finds bytes blob rest e false test =
    let never : ¬ (IsUtf8 blob) = λ utf8. let passes = is_utf8-from_IsUtf8 blob utf8 in absurd cc in
    bad (other_blob bytes blob rest e never) (text_at-other bytes blob rest e never)

content_text : (bytes : List ℕ) → BlobFinds bytes → TextFinds bytes
content_text bytes (value x is) = utf8_finds bytes x.0 x.1 is (is_utf8 x.0) refl
content_text bytes (short inside is) = short inside (blob_fault bytes short_input is)
content_text bytes (large why is) = large why (blob_fault bytes number_too_large is)
content_text bytes (bad why is) = absurd why

-- ---- lemmas for callers

pub blob_fails : Fails blob_at (EndsInside SpellsBlob) IsTooLarge Never
blob_fails = fails_from blob_at (EndsInside SpellsBlob) IsTooLarge Never blob_finds blob_short blob_large (λ bytes. absurd)

pub text_fails : Fails text_at (EndsInside SpellsBlob) IsTooLarge IsOtherBlob
text_fails = fails_from text_at (EndsInside SpellsBlob) IsTooLarge IsOtherBlob
    (λ bytes. content_text bytes (blob_finds bytes))
    (λ bytes inside. blob_fault bytes short_input (blob_short bytes inside))
    (λ bytes over. blob_fault bytes number_too_large (blob_large bytes over))
    text_bad
