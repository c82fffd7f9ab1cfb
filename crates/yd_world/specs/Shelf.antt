-- What a library tells: the bytes under each name, the name last begun, and what is unread (own).
use Rattle.std.specs.Prelude.{◌≡◌, ℕ, ◌<◌, List, [], ◌++◌, length, take, Option, Some, None, Result, Ok, Err, is_none, if◌then◌else◌}

-- a library as it is told: the bytes under each name, the name of the last `begin` where there are bytes under it, and what is unread
pub record Shelf : Type 0 where
  pub bytes_under : List ℕ → Option (List ℕ)
  pub begun : Option (List ℕ)
  pub unread : List ℕ

-- the name, where there are bytes under it
abbrev pub held_name : Shelf → List ℕ → Option (List ℕ)
held_name shelf name = if is_none (shelf.bytes_under name) then None else Some name

-- the library tells, and has bytes under the name
abbrev pub HasName : Option Shelf → List ℕ → Type 0
HasName None name = ⊥
HasName (Some shelf) name = (bytes : List ℕ) × (shelf.bytes_under name ≡ Some bytes)

-- Ok stands before the first byte under the name; an error changes nothing but which name was last begun
abbrev pub Begins : {X E : Type 0} → Option Shelf → Option Shelf → List ℕ → Result X E → Type 0
Begins None new name result = Unit {0}
Begins (Some old) None name result = ⊥
Begins (Some old) (Some new) name (Ok x) = (new.bytes_under ≡ old.bytes_under) × (old.bytes_under name ≡ Some new.unread) × (new.begun ≡ Some name)
Begins (Some old) (Some new) name (Err e) = (new.bytes_under ≡ old.bytes_under) × (new.unread ≡ old.unread) × (new.begun ≡ held_name old name)

-- Ok gives so many of the unread bytes, and none into a buffer with room only at the end; an error changes nothing
abbrev pub Gives : {E : Type 0} → Option Shelf → Option Shelf → List ℕ → Result ℕ E → Type 0
Gives None new into result = Unit {0}
Gives (Some old) None into result = ⊥
Gives (Some old) (Some new) into (Ok count) =
    (new.bytes_under ≡ old.bytes_under) × (old.unread ≡ take count into ++ new.unread) × (count ≡ 0 → 0 < length into → old.unread ≡ []) × (new.begun ≡ old.begun)
Gives (Some old) (Some new) into (Err e) = new ≡ old
