-- Byte strings and texts: what reading takes is what the grammar spells.
use Rattle.std.proofs.Common.{◌≡◌, ℕ, ◌≤◌, false, cond, ltb, List, [], ◌∷◌, ◌++◌, length, take, drop, Ok, Err, refl, sym, ap, subst, ◌∙◌, append_assoc, arith}
use Rattle.std.specs.Prelude.{IsUtf8}
use Rattle.std.specs.Str.{is_utf8}
use Rattle.std.proofs.lemmas.Bool.{le-ltb, ltb-false}
use Rattle.std.proofs.lemmas.List.{take_at, drop_at, take-append-drop, length-append, length-take}
use Rattle.std.proofs.lemmas.Str.{IsUtf8-from_is_utf8}
use Rattle.yd_num.specs.Grammar.{Joins}
use Rattle.yd_num.specs.Number.{unsigned_at, byte_at}
use Rattle.yd_num.specs.Reading.{Cause, short_input, bad_utf8}
use Rattle.yd_num.specs.Text.{SpellsBlob, SpellsText, bytes_at, blob_at, text_at}
use Rattle.yd_num.proofs.ReadingLemmas.{bind_ok, ok_value, passed, reached}
use Rattle.yd_num.proofs.NumberLemmas.{unsigned_found, unsigned_only}
use Rattle.yd_num.proofs.TextLemmas.{text_at-utf8}

bytes_found : (count : ℕ) (bytes blob rest : List ℕ) → bytes_at count bytes ≡ Ok (blob, rest) → (length blob ≡ count) × (bytes ≡ blob ++ rest)
unfolding bytes_at
bytes_found count bytes blob rest e =
    let h = reached (ltb (length bytes) count) (take count bytes, drop count bytes) (blob, rest) short_input e in
    let enough : count ≤ length bytes = ltb-false (length bytes) count h.0 in
    subst (λ (y : List ℕ × List ℕ). (length y.0 ≡ count) × (bytes ≡ y.0 ++ y.1)) h.1 (omega (arith, length-take count bytes), sym (take-append-drop count bytes))

pub bytes_only : (count : ℕ) (blob rest : List ℕ) → length blob ≡ count → bytes_at count (blob ++ rest) ≡ Ok (blob, rest)
unfolding bytes_at
bytes_only count blob rest len =
    let enough : ltb (length (blob ++ rest)) count ≡ false = le-ltb (length (blob ++ rest)) count (omega (arith, length-append blob rest)) in
    rw (enough, take_at blob rest count len, drop_at blob rest count len) refl

pub byte_found : (bytes : List ℕ) (b : ℕ) (rest : List ℕ) → byte_at bytes ≡ Ok (b, rest) → Joins (λ front. front ≡ b ∷ []) (λ back. back ≡ rest) bytes
byte_found [] b rest e = absurd cc
byte_found (first ∷ others) b rest e =
    let same = ok_value {E = Cause} (first, others) (b, rest) e in
    record { front = b ∷ []; back = rest; is_front = refl; is_back = refl; joined = ap (λ (y : ℕ × List ℕ). y.0 ∷ y.1) same }

pub byte_only : (field : List ℕ) (b : ℕ) (rest : List ℕ) → field ≡ b ∷ [] → byte_at (field ++ rest) ≡ Ok (b, rest)
byte_only field b rest e = rw e refl

pub bytes_front : (count : ℕ) (bytes blob rest : List ℕ) → bytes_at count bytes ≡ Ok (blob, rest) → Joins (λ front. (front ≡ blob) × (length blob ≡ count)) (λ back. back ≡ rest) bytes
bytes_front count bytes blob rest e = let found = bytes_found count bytes blob rest e in record { front = blob; back = rest; is_front = (refl, found.0); is_back = refl; joined = found.1 }

pub bytes_again : (count : ℕ) (field blob rest : List ℕ) → (field ≡ blob) × (length blob ≡ count) → bytes_at count (field ++ rest) ≡ Ok (blob, rest)
bytes_again count field blob rest h = rw h.0 (bytes_only count blob rest h.1)

pub blob_found : (bytes blob rest : List ℕ) → blob_at bytes ≡ Ok (blob, rest) → Joins (λ front. SpellsBlob front blob) (λ back. back ≡ rest) bytes
unfolding blob_at
blob_found bytes blob rest e =
    let h = bind_ok (unsigned_at bytes) (λ size. bytes_at size.0 size.1) (blob, rest) e in
    let size = unsigned_found bytes h.0.0 h.0.1 h.1 in
    let content = bytes_found h.0.0 h.0.1 blob rest h.2 in
    record {
      front = size.front ++ blob;
      back = rest;
      is_front = record { front = size.front; back = blob; is_front = rw content.0 size.is_front; is_back = refl; joined = refl };
      is_back = refl;
      joined = size.joined ∙ ap (λ (l : List ℕ). size.front ++ l) (size.is_back ∙ content.1) ∙ sym (append_assoc size.front blob rest);
    }

pub blob_only : (field blob rest : List ℕ) → SpellsBlob field blob → blob_at (field ++ rest) ≡ Ok (blob, rest)
unfolding blob_at
blob_only field blob rest spells =
    let parts : field ++ rest ≡ spells.front ++ (blob ++ rest) = ap (λ (l : List ℕ). l ++ rest) (spells.joined ∙ ap (λ (l : List ℕ). spells.front ++ l) spells.is_back) ∙ append_assoc spells.front blob rest in
    rw (parts, unsigned_only spells.front (length blob) (blob ++ rest) spells.is_front) (bytes_only (length blob) blob rest refl)

pub text_found : (bytes text rest : List ℕ) → text_at bytes ≡ Ok (text, rest) → Joins (λ front. SpellsText front text) (λ back. back ≡ rest) bytes
unfolding text_at
text_found bytes text rest e =
    let h = bind_ok (blob_at bytes) (λ blob. cond (is_utf8 blob.0) (Ok blob) (Err bad_utf8)) (text, rest) e in
    let valid = passed (is_utf8 h.0.0) h.0 (text, rest) bad_utf8 h.2 in
    let blob = blob_found bytes text rest (h.1 ∙ ap (λ (y : List ℕ × List ℕ). Ok y) valid.1) in
    record {
      front = blob.front;
      back = blob.back;
      is_front = record { is_blob = blob.is_front; is_utf8 = subst (λ (y : List ℕ × List ℕ). IsUtf8 y.0) valid.1 (IsUtf8-from_is_utf8 h.0.0 valid.0) };
      is_back = blob.is_back;
      joined = blob.joined;
    }

pub text_only : (field text rest : List ℕ) → SpellsText field text → text_at (field ++ rest) ≡ Ok (text, rest)
text_only field text rest spells = text_at-utf8 (field ++ rest) text text rest (blob_only field text rest spells.is_blob) refl spells.is_utf8
