-- What the library tells, before and after a file is read.
use Rattle.std.proofs.Common.{◌≡◌, ◌-◌, ◌^◌, ◌≤◌, ℕ, List, Option, Some, None, Err, refl, sym, ap, ◌∙◌, inl, inr, arith}
use Rattle.std.specs.Prelude.{is_none, if◌then◌else◌}
use Rattle.std.proofs.lemmas.Bool.{cases_lt}
use Rattle.yd_world.specs.Faults.{Rose}
use Rattle.yd_world.specs.Shelf.{HasName, Shelf}
use Rattle.yd_files.specs.Counts.{count_of}
use Rattle.yd_files.specs.Files.{File}
use Rattle.yd_files.specs.Loading.{BeginsLast, KeepsFiles, Loads}
use Rattle.yd_files.specs.Reading.{StopsReading}
use Rattle.yd_files.specs.Verdict.{Content, HasVerdict, IsReached, IsTold, IsTooLarge, LacksName, NoneIsMissing, Verdict, WhereTold, accepted, missing, refused, too_large}
use Rattle.yd_files.specs.declared.fault.FileFault.{FileFault}
use Rattle.yd_files.specs.declared.fault.FileFault.TheVariants.{Refused, ReadFault, TooLarge, NoMemory}
use Rattle.yd_files.specs.declared.fault.LoadFault.TheVariants as faults

-- ---- what the library tells

-- a file that was too large to load has too many bytes
pub loads_too_large : (told now : Option Shelf) (name : List ℕ) → Loads told now name (Err faults.TooLarge) → WhereTold told name IsTooLarge
loads_too_large None now name l = tt
loads_too_large (Some told) None name l = absurd l
loads_too_large (Some told) (Some now) name l = (l.0, l.1, l.2)

-- what is told of a name was told before
told_before : (told now : Option Shelf) (name : List ℕ) (Holds : List ℕ → Type 0) → KeepsFiles told now → WhereTold now name Holds → WhereTold told name Holds
told_before None now name Holds keeps w = tt
told_before (Some told) None name Holds keeps w = absurd keeps
told_before (Some told) (Some now) name Holds keeps w = (w.0, sym (ap (λ (f : List ℕ → Option (List ℕ)). f name) keeps) ∙ w.1, w.2)

-- and so what a file is
pub verdict_before : (told now : Option Shelf) (file : File) (verdict : Verdict) → KeepsFiles told now → HasVerdict now file verdict → HasVerdict told file verdict
verdict_before told now file (accepted content) keeps has = told_before told now file.name _ keeps has
verdict_before told now file (refused why) keeps has = told_before told now file.name _ keeps has
verdict_before told now file too_large keeps has = told_before told now file.name IsTooLarge keeps has
verdict_before None now file missing keeps has = tt
verdict_before (Some told) None file missing keeps has = absurd keeps
verdict_before (Some told) (Some now) file missing keeps has = sym (ap (λ (f : List ℕ → Option (List ℕ)). f file.name) keeps) ∙ has

-- a name that the library lacks
pub lacks : (told : Option Shelf) (name : List ℕ) → (HasName told name → ⊥) → IsTold told → LacksName told name
lacks None name never is_told = absurd is_told
lacks (Some shelf) name never is_told = by_bytes (shelf.bytes_under name) refl
  where
    by_bytes : (found : Option (List ℕ)) → shelf.bytes_under name ≡ found → shelf.bytes_under name ≡ None
    by_bytes None is = is
    by_bytes (Some bytes) is = absurd (never (bytes, is))

pub keeps_all : (told : Option Shelf) → KeepsFiles told told
keeps_all None = tt
keeps_all (Some shelf) = refl

pub keeps_more : (told now next : Option Shelf) → KeepsFiles told now → KeepsFiles now next → KeepsFiles told next
keeps_more None now next k l = tt
keeps_more (Some told) None next k l = absurd k
keeps_more (Some told) (Some now) None k l = absurd l
keeps_more (Some told) (Some now) (Some next) k l = l ∙ k

-- a file that is reached is there, where none is missing
pub named_here : (told now : Option Shelf) (files : List File) (file : File) → KeepsFiles told now → IsTold told → NoneIsMissing told files → IsReached told files file → HasName now file.name
named_here None now files file keeps is_told none reached = absurd is_told
named_here (Some told) None files file keeps is_told none reached = absurd keeps
named_here (Some told) (Some now) files file keeps is_told none reached = by_bytes (told.bytes_under file.name) refl
  where
    by_bytes : (found : Option (List ℕ)) → told.bytes_under file.name ≡ found → HasName (Some now) file.name
    by_bytes None is = absurd (none file (record { reached = reached; not_accepted = tt; verdict_is = is }))
    by_bytes (Some bytes) is = (bytes, ap (λ (f : List ℕ → Option (List ℕ)). f file.name) keeps ∙ is)

-- where the library tells, it goes on to tell
tells_on : (told now : Option Shelf) → KeepsFiles told now → IsTold told → IsTold now
tells_on None now keeps is_told = absurd is_told
tells_on (Some told) None keeps is_told = absurd keeps
tells_on (Some told) (Some now) keeps is_told = tt

-- a file that is accepted is there
pub accepted_here : (told now : Option Shelf) (file : File) (content : Content) → KeepsFiles told now → IsTold told → HasVerdict now file (accepted content) → HasName now file.name
accepted_here None now file content keeps is_told has = absurd is_told
accepted_here (Some told) None file content keeps is_told has = absurd keeps
accepted_here (Some told) (Some now) file content keeps is_told has = (has.0, has.1)

-- the name that is begun last is so from the start
begins_before : (told now next : Option Shelf) (name : List ℕ) → KeepsFiles told now → BeginsLast now next name → BeginsLast told next name
begins_before None now next name keeps b = tt
begins_before (Some told) None next name keeps b = absurd keeps
begins_before (Some told) (Some now) None name keeps b = absurd b
begins_before (Some told) (Some now) (Some next) name keeps b = b ∙ ap (λ (f : List ℕ → Option (List ℕ)). if is_none (f name) then None else Some name) keeps

-- a count that rose later rose
rose_before : (before now later : ℕ) → before ≤ now → now ≤ later → Rose now later → Rose before later
rose_before before now later le more (inl lt) = inl (omega (arith, le, lt))
rose_before before now later le more (inr full) =
    elim (cases_lt before (2 ^ 64 - 1)) [
      | inl below ↦ inl (omega (arith, below, full, more))
      | inr above ↦ inr above
    ]

-- why reading a file stopped, told from the start
pub stops_before : (Calm CalmNow : Type 0) (told now next : Option Shelf) (file : File) (before faults later : ℕ) (fault : FileFault) → KeepsFiles told now → before ≤ faults → faults ≤ later → (Calm → IsTold told → CalmNow)
    → StopsReading CalmNow now next file (count_of faults later) fault → StopsReading Calm told next file (count_of before later) fault
stops_before Calm CalmNow told now next file before faults later (Refused other cause spot) keeps le more calm s = (s.0, verdict_before told now file (refused (record { cause = cause; spot = spot })) keeps s.1)
stops_before Calm CalmNow told now next file before faults later (ReadFault other) keeps le more calm s =
    (s.0, rose_before before faults later le more s.1, begins_before told now next file.name keeps s.2, λ calmly is_told. verdict_before told now file missing keeps (s.3 (calm calmly is_told) (tells_on told now keeps is_told)))
stops_before Calm CalmNow told now next file before faults later (TooLarge other) keeps le more calm s = (s.0, verdict_before told now file too_large keeps s.1)
stops_before Calm CalmNow told now next file before faults later NoMemory keeps le more calm s = tt
