-- What a library in memory is: its files, which was begun last, what is unread, and its plan (own).
use Rattle.std.specs.Prelude.{◌≡◌, ◌≢◌, ℕ, ◌-◌, ◌^◌, ◌<◌, ◌≤◌, Bool, ◌||◌, List, [], ◌∷◌, length, drop, Option, Some, None, is_none, if◌then◌else◌, zero, suc}
use Rattle.std.specs.Option.{option_or}
use Rattle.std.specs.Str.{bytes_eq}
use Rattle.yd_world.specs.declared.memory_library.Stored.{Stored}
use Rattle.yd_world.specs.declared.memory_library.Place.{Place}
use Rattle.yd_world.specs.Plan.{PlanState, is_due, no_calls}
use Rattle.yd_world.specs.Shelf.{Shelf}

-- the files as they were added, the name last begun, what is unread, at most how many bytes a read gives, and the plan
pub record LibraryState : Type 0 where
  pub files : List Stored
  pub begun : Option (List ℕ)
  pub unread : List ℕ
  pub piece : ℕ
  pub plan : PlanState

-- no file, no call that is to fail, and no limit to a read
abbrev pub no_files : LibraryState
no_files = record { files = []; begun = None; unread = []; piece = 2 ^ 64 - 1; plan = no_calls }

-- the bytes that were added last under the name
abbrev pub bytes_under : List Stored → List ℕ → Option (List ℕ)
bytes_under [] name = None
bytes_under (file ∷ later) name = option_or (bytes_under later name) (if bytes_eq file.name name then Some file.bytes else None)

-- the bytes of the file with this number, from 0 on
abbrev pub bytes_at : List Stored → ℕ → List ℕ
bytes_at [] at = []
bytes_at (file ∷ later) zero = file.bytes
bytes_at (file ∷ later) (suc at) = bytes_at later at

-- the name of the file with this number
abbrev pub name_at : List Stored → ℕ → List ℕ
name_at [] at = []
name_at (file ∷ later) zero = file.name
name_at (file ∷ later) (suc at) = name_at later at

-- the name of the file that was begun, if one was
abbrev pub begun_at : List Stored → Option ℕ → Option (List ℕ)
begun_at files None = None
begun_at files (Some at) = Some (name_at files at)

-- nothing is under the name, or the file with this number has the name and the bytes that are
abbrev pub IsLast : List Stored → List ℕ → Option ℕ → Type 0
IsLast files name None = bytes_under files name ≡ None
IsLast files name (Some at) = (at < length files) × (bytes_under files name ≡ Some (bytes_at files at)) × (name_at files at ≡ name)

-- what is unread at a place, and nothing before the first
abbrev pub unread_at : List Stored → Option Place → List ℕ
unread_at files None = []
unread_at files (Some place) = drop place.at (bytes_at files place.file)

-- the place is in one of the files
abbrev pub IsPlace : List Stored → Option Place → Type 0
IsPlace files None = Unit {0}
IsPlace files (Some place) = (place.file < length files) × (place.at ≤ length (bytes_at files place.file))

-- the number is that of a file
abbrev pub IsFile : List Stored → Option ℕ → Type 0
IsFile files None = Unit {0}
IsFile files (Some at) = at < length files

-- what the library tells
abbrev pub shelf_of : LibraryState → Shelf
shelf_of library = record { bytes_under = bytes_under library.files; begun = library.begun; unread = library.unread }

-- the call is to fail, or nothing is under the name
abbrev pub fails_to_begin : LibraryState → List ℕ → Bool
fails_to_begin library name = is_due library.plan || is_none (bytes_under library.files name)

-- the name has these bytes alone, and all else is as it was
pub record Adds (old new : LibraryState) (name bytes : List ℕ) : Type 0 where
  pub this_name : bytes_under new.files name ≡ Some bytes
  pub other_names : (other : List ℕ) → other ≢ name → bytes_under new.files other ≡ bytes_under old.files other
  pub begun : new.begun ≡ old.begun
  pub unread : new.unread ≡ old.unread
  pub piece : new.piece ≡ old.piece
  pub plan : new.plan ≡ old.plan
