-- Files that were added one after another: what one more of them changes.
use Rattle.std.proofs.Common.{◌≡◌, ◌≢◌, ℕ, ◌+◌, ◌-◌, ◌<◌, zero, suc, List, [], ◌∷◌, ◌++◌, length, take, drop, min, get_or, Bool, true, false, Option, Some, None, refl, ap, sym, ◌∙◌, arith, length-append, add-one, subst, length-take}
use Rattle.std.proofs.Math.Seq.{take-suc}
use Rattle.std.specs.Str.{bytes_eq}
use Rattle.std.proofs.lemmas.Slice.Eq.{bytes_eq-Decides}
use Rattle.std.proofs.lemmas.List.{drop-drop, take-append-drop, nil_from_length, length-drop}
use Rattle.yd_world.specs.declared.memory_library.Stored.{Stored}
use Rattle.yd_world.specs.declared.memory_library.Place.{Place}
use Rattle.yd_world.specs.MemoryLibrary.{LibraryState, Adds, begun_at, bytes_under, bytes_at, name_at, unread_at, IsFile, IsPlace, IsLast}

-- a test that cannot be true is false
false_of : (test : Bool) → (test ≡ true → ⊥) → test ≡ false
false_of true never = absurd (never refl)
false_of false never = refl

-- equal bytes pass the test
pub bytes_eq-is : (a b : List ℕ) → a ≡ b → bytes_eq a b ≡ true
bytes_eq-is a b e = (bytes_eq-Decides a b).1 e

-- other bytes do not
pub bytes_eq-not : (a b : List ℕ) → a ≢ b → bytes_eq a b ≡ false
bytes_eq-not a b ne = false_of (bytes_eq a b) (λ t. ne ((bytes_eq-Decides a b).0 t))

-- a file that is added stands under its name
pub bytes_under-same : (files : List Stored) (file : Stored) (name : List ℕ) → bytes_eq file.name name ≡ true → bytes_under (files ++ file ∷ []) name ≡ Some file.bytes
bytes_under-same [] file name e = rw e
bytes_under-same (first ∷ files) file name e = rw (bytes_under-same files file name e)

-- and changes nothing under another name
pub bytes_under-other : (files : List Stored) (file : Stored) (name : List ℕ) → bytes_eq file.name name ≡ false → bytes_under (files ++ file ∷ []) name ≡ bytes_under files name
bytes_under-other [] file name e = rw e
bytes_under-other (first ∷ files) file name e = rw (bytes_under-other files file name e)

-- files that are added leave the bytes of the earlier ones
pub bytes_at-append : (files more : List Stored) (at : ℕ) → at < length files → bytes_at (files ++ more) at ≡ bytes_at files at
bytes_at-append [] more at h = absurd (omega arith)
bytes_at-append (file ∷ files) more zero h = refl
bytes_at-append (file ∷ files) more (suc at) h = bytes_at-append files more at (omega arith)

-- and their names
name_at-append : (files more : List Stored) (at : ℕ) → at < length files → name_at (files ++ more) at ≡ name_at files at
name_at-append [] more at h = absurd (omega arith)
name_at-append (file ∷ files) more zero h = refl
name_at-append (file ∷ files) more (suc at) h = name_at-append files more at (omega arith)

-- the bytes of the file with this number
pub bytes_at-get_or : (files : List Stored) (at : ℕ) (d : Stored) → at < length files → bytes_at files at ≡ (get_or files at d).bytes
bytes_at-get_or [] at d h = absurd (omega arith)
bytes_at-get_or (file ∷ files) zero d h = refl
bytes_at-get_or (file ∷ files) (suc at) d h = bytes_at-get_or files at d (omega arith)

-- what follows a place in the file with this number
pub drop-bytes_at : (files : List Stored) (file at : ℕ) (d : Stored) (bytes rest : List ℕ) → file < length files → bytes ≡ (get_or files file d).bytes → rest ≡ drop at bytes → rest ≡ drop at (bytes_at files file)
drop-bytes_at files file at d bytes rest h is_bytes is_rest = is_rest ∙ ap (drop at) (is_bytes ∙ sym (bytes_at-get_or files file d h))

-- the file that is added stands behind the others
pub bytes_at-last : (files : List Stored) (file : Stored) → bytes_at (files ++ file ∷ []) (length files) ≡ file.bytes
bytes_at-last [] file = refl
bytes_at-last (first ∷ files) file = bytes_at-last files file

-- with its name
name_at-last : (files : List Stored) (file : Stored) → name_at (files ++ file ∷ []) (length files) ≡ file.name
name_at-last [] file = refl
name_at-last (first ∷ files) file = name_at-last files file

-- a file stays one
pub IsFile-append : (files more : List Stored) (begun : Option ℕ) → IsFile files begun → IsFile (files ++ more) begun
IsFile-append files more None h = tt
IsFile-append files more (Some at) h = omega (arith, length-append files more, h)

-- with the same name
pub begun_at-append : (files more : List Stored) (begun : Option ℕ) → IsFile files begun → begun_at (files ++ more) begun ≡ begun_at files begun
begun_at-append files more None h = refl
begun_at-append files more (Some at) h = rw (name_at-append files more at h)

-- a place stays one
pub IsPlace-append : (files more : List Stored) (place : Option Place) → IsPlace files place → IsPlace (files ++ more) place
IsPlace-append files more None h = tt
IsPlace-append files more (Some place) h = (omega (arith, length-append files more, h.0), rw (bytes_at-append files more place.file h.0) h.1)

-- with the same unread
pub unread_at-append : (files more : List Stored) (place : Option Place) → IsPlace files place → unread_at (files ++ more) place ≡ unread_at files place
unread_at-append files more None h = refl
unread_at-append files more (Some place) h = rw (bytes_at-append files more place.file h.0)

-- one file more, which has the name
pub IsLast-same : (files : List Stored) (file : Stored) (name : List ℕ) → bytes_eq file.name name ≡ true → IsLast (files ++ file ∷ []) name (Some (length files))
IsLast-same files file name e = (omega (arith, length-append files (file ∷ [])), bytes_under-same files file name e ∙ ap Some (sym (bytes_at-last files file)), name_at-last files file ∙ (bytes_eq-Decides file.name name).0 e)

-- one file more, which has another name
pub IsLast-other : (files : List Stored) (file : Stored) (name : List ℕ) (found : Option ℕ) → bytes_eq file.name name ≡ false → IsLast files name found → IsLast (files ++ file ∷ []) name found
IsLast-other files file name None e h = bytes_under-other files file name e ∙ h
IsLast-other files file name (Some at) e h = (omega (arith, length-append files (file ∷ []), h.0), bytes_under-other files file name e ∙ h.1 ∙ ap Some (sym (bytes_at-append files (file ∷ []) at h.0)), name_at-append files (file ∷ []) at h.0 ∙ h.2)

-- ---- what adding does

-- the file that is added has its bytes alone, and another name keeps its own
pub Adds-added : (old new : LibraryState) (file : Stored) (name bytes : List ℕ) → file.name ≡ name → file.bytes ≡ bytes → new.files ≡ old.files ++ file ∷ [] → new.begun ≡ old.begun → new.unread ≡ old.unread → new.piece ≡ old.piece → new.plan ≡ old.plan → Adds old new name bytes
Adds-added old new file name bytes is_name is_bytes is_files begun unread piece plan = record {
  this_name = rw is_files (bytes_under-same old.files file name (bytes_eq-is file.name name is_name) ∙ ap Some is_bytes);
  other_names = λ other ne. rw is_files (bytes_under-other old.files file other (bytes_eq-not file.name other (λ e. ne (sym e ∙ is_name))));
  begun = begun;
  unread = unread;
  piece = piece;
  plan = plan;
}

-- ---- what a read gives

-- the front that was read and the rest are the unread, and nothing is read only at the end
pub Gives-front : (bytes into : List ℕ) (at most count : ℕ) → count ≡ min (length bytes - at) (min most (length into)) → take count into ≡ take count (drop at bytes) → 0 < most
    → (drop at bytes ≡ take count into ++ drop (at + count) bytes) × (count ≡ 0 → 0 < length into → drop at bytes ≡ [])
Gives-front bytes into at most count is same some = (
  rw (same, ← drop-drop count at bytes, take-append-drop count (drop at bytes)) refl,
  λ zero_read room. nil_from_length (drop at bytes) (omega (arith, length-drop at bytes)),
)

-- ---- a turn of the search

-- the next file has the name
pub IsLast-turn-same : (files : List Stored) (at : ℕ) (file : Stored) (name : List ℕ) → at < length files → file ≡ get_or files at file → bytes_eq file.name name ≡ true → IsLast (take (at + 1) files) name (Some at)
IsLast-turn-same files at file name h is e =
    let more : take (at + 1) files ≡ take at files ++ file ∷ [] = rw (add-one, take-suc files at file h, ← is) refl in
    let long : length (take at files) ≡ at = omega (arith, length-take at files) in
    rw more (subst (λ n. IsLast (take at files ++ file ∷ []) name (Some n)) long (IsLast-same (take at files) file name e))

-- the next file has another name
pub IsLast-turn-other : (files : List Stored) (at : ℕ) (file : Stored) (name : List ℕ) (found : Option ℕ) → at < length files → file ≡ get_or files at file → bytes_eq file.name name ≡ false → IsLast (take at files) name found → IsLast (take (at + 1) files) name found
IsLast-turn-other files at file name found h is e before =
    let more : take (at + 1) files ≡ take at files ++ file ∷ [] = rw (add-one, take-suc files at file h, ← is) refl in
    rw more (IsLast-other (take at files) file name found e before)
