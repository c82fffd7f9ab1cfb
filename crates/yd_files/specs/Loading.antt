-- What loading a file says of the bytes under its name (own).
use Rattle.std.specs.Prelude.{◌≡◌, ◌⊎◌, ℕ, ◌+◌, ◌^◌, ◌<◌, ◌≤◌, List, [], ◌++◌, length, take, drop, Option, Some, None, Result, Ok, Err, IfOk}
use Rattle.std.specs.Global.{Vec}
use Rattle.yd_world.specs.Shelf.{Shelf, Gives, held_name}
use Rattle.yd_world.specs.declared.fault.Failed.{Failed}
use Rattle.yd_files.specs.declared.fault.LoadFault.{LoadFault}
use Rattle.yd_files.specs.declared.fault.LoadFault.TheVariants.{NoMemory, ReadFault, TooLarge}

-- nothing was read, or of the name's bytes at most one more than a file may have
abbrev pub ReadsWithin : Shelf → Shelf → List ℕ → Type 0
ReadsWithin old new name = (new.unread ≡ old.unread) ⊎ ((read : List ℕ) × (length read ≤ 2 ^ 28 + 1) × (old.bytes_under name ≡ Some (read ++ new.unread)))

-- Ok has the bytes under the name, all of them, which are at most 2^28; TooLarge comes where they
-- are more, and no call reads past the first byte that is too many
abbrev pub Loads : Option Shelf → Option Shelf → List ℕ → Result (Vec ℕ) LoadFault → Type 0
Loads None new name result = Unit {0}
Loads (Some old) None name result = ⊥
Loads (Some old) (Some new) name (Ok bytes) = (old.bytes_under name ≡ Some bytes.items) × (length bytes.items ≤ 2 ^ 28) × (new.unread ≡ [])
Loads (Some old) (Some new) name (Err TooLarge) =
    (bytes : List ℕ) × (old.bytes_under name ≡ Some bytes) × (2 ^ 28 < length bytes) × (new.unread ≡ drop (2 ^ 28 + 1) bytes)
Loads (Some old) (Some new) name (Err NoMemory) = ReadsWithin old new name
Loads (Some old) (Some new) name (Err ReadFault) = ReadsWithin old new name

-- the files are as they were
abbrev pub KeepsFiles : Option Shelf → Option Shelf → Type 0
KeepsFiles None new = Unit {0}
KeepsFiles (Some old) None = ⊥
KeepsFiles (Some old) (Some new) = new.bytes_under ≡ old.bytes_under

-- the name was begun last, where there are bytes under it
abbrev pub BeginsLast : Option Shelf → Option Shelf → List ℕ → Type 0
BeginsLast None new name = Unit {0}
BeginsLast (Some old) None name = ⊥
BeginsLast (Some old) (Some new) name = new.begun ≡ held_name old name

-- these bytes were read of the name, which was begun last, and the others are unread
abbrev pub IsReading : Option Shelf → Option Shelf → List ℕ → List ℕ → Type 0
IsReading None now name read = Unit {0}
IsReading (Some old) None name read = ⊥
IsReading (Some old) (Some now) name read = (now.bytes_under ≡ old.bytes_under) × (old.bytes_under name ≡ Some (read ++ now.unread)) × (now.begun ≡ Some name)

-- one reading call filled the buffer behind its front
pub record ReadsInto (told told_now : Option Shelf) (old new : List ℕ) (filled : ℕ) (result : Result ℕ Failed) : Type 0 where
  pub into : List ℕ
  pub buffer : new ≡ take filled old ++ into
  pub length_of : length into + filled ≡ length old
  pub within : IfOk result (λ count. count ≤ length into)
  pub gives : Gives told told_now into result
