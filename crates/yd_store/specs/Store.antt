-- A store: runs in an arena, their marks of deletion, and what they hold (Yjs 13, the struct store).
use Rattle.std.specs.Prelude.{◌≡◌, ◌⊎◌, ◌<◌, ◌+◌, ◌^◌, ◌++◌, ◌∷◌, [], ℕ, true, false, List, Option, Some, None, IfSome, min, length, get_or}
use Rattle.yd_ids.specs.declared.id.Id.{Id}
use Rattle.yd_ids.specs.declared.id.Span.{Span}
use Rattle.yd_words.specs.Member.{IsIn}
use Rattle.yd_ops.specs.Value.{len_of, RunValue}
use Rattle.yd_scan.specs.declared.stretch.Stretch.{Stretch}
use Rattle.yd_scan.specs.Stretches.{stretch_at}
use Rattle.yd_arena.specs.Arena.{Placed, runs_of, places_in, room_for, HasUnit, IsSame, CutsAt, GrowsByRun, AddsLoose}
use Rattle.yd_arena.specs.declared.mark.Mark.{Mark}
use Rattle.yd_arena.specs.Marks.{Marked, mark_at, live_of, with_more, AreCounted}
use Rattle.yd_store.specs.Contents.{Contented, told_of, run_at, cut_runs, counts, is_lowered}

-- the runs with their lists and their index, the marks, and what the runs hold
pub record Stored : Type 0 where
  pub placed : Placed
  pub marks : Marked
  pub contents : Contented

-- the run is the one at a place: the same units with the same origins, but a right origin in another list is absent there
pub record IsRunOf (stretch : Stretch) (run : RunValue) : Type 0 where
  pub id_is : run.id ≡ stretch.id
  pub len_is : len_of run.content ≡ stretch.len
  pub left_is : run.left ≡ stretch.left
  pub right_is : (stretch.right ≡ run.right) ⊎ (stretch.right ≡ None)

-- each place has what its run holds, or nothing where it is gone
pub record AreTold (runs : List Stretch) (told : List (Option RunValue)) : Type 0 where
  pub each : length told ≡ length runs
  pub fits : (i : ℕ) → i < length runs → IfSome (run_at told i) (λ run. IsRunOf (stretch_at runs i) run)

-- the mark of a run that is live says of its units what its content says, whether they count in lengths; once the run is told less, no content says it
abbrev pub IsNoted : Mark → Option RunValue → Type 0
IsNoted mark None = Unit {0}
IsNoted mark (Some run) = mark.deleted ≡ false → is_lowered run.content ≡ false → mark.counted ≡ counts run.content

-- so does the mark of each run
abbrev pub AreNoted : List Mark → List (Option RunValue) → Type 0
AreNoted rows told = (i : ℕ) → i < length told → IsNoted (mark_at rows i) (run_at told i)

-- the parts of a store are of the same runs
pub record IsStore (placed : Placed) (marks : Marked) (contents : Contented) : Type 0 where
  pub counted : AreCounted placed.linked marks.rows marks.live
  pub told : AreTold (runs_of placed) (told_of contents)
  pub noted : AreNoted marks.rows (told_of contents)

-- how many more runs of a client cannot fail
abbrev pub spare_of : Stored → ℕ → ℕ
spare_of it client = min (room_for it.placed client) (min it.marks.room it.contents.room)

-- the list has fewer than 2^64 live units with those of a run
abbrev pub CanCount : Stored → ℕ → RunValue → Type 0
CanCount it list run = get_or it.marks.live list 0 + len_of run.content < 2 ^ 64

-- all is as before but the room
pub record IsKept (old new : Stored) : Type 0 where
  pub placed : IsSame old.placed new.placed
  pub rows : new.marks.rows ≡ old.marks.rows
  pub live : new.marks.live ≡ old.marks.live
  pub runs : told_of new.contents ≡ told_of old.contents

-- the three parts are as before but for their room
pub record KeepsParts (placed : Placed) (marks : Marked) (contents : Contented) (more : Placed) (noted : Marked) (held : Contented) : Type 0 where
  pub arena : IsSame placed more
  pub rows : noted.rows ≡ marks.rows
  pub live : noted.live ≡ marks.live
  pub runs : held.rows ≡ contents.rows

-- the runs, their entries and their marks are as before, and so is the room for them
pub record KeepsRuns (placed : Placed) (marks : Marked) (more : Placed) (noted : Marked) : Type 0 where
  pub runs : runs_of more ≡ runs_of placed
  pub lines : more.lines ≡ placed.lines
  pub room : more.linked.room ≡ placed.linked.room
  pub rows : noted.rows ≡ marks.rows
  pub marks_room : noted.room ≡ marks.room

-- the run of a unit is cut in front of it, with its mark and what it holds
pub record SplitsAt (old new : Stored) (id : Id) : Type 0 where
  pub cuts : CutsAt old.placed new.placed id
  pub rows : new.marks.rows ≡ old.marks.rows ++ mark_at old.marks.rows cuts.place ∷ []
  pub live : new.marks.live ≡ old.marks.live
  pub runs : told_of new.contents ≡ cut_runs (told_of old.contents) cuts.place cuts.before

-- a unit with the id stands in the list
pub record StandsIn (placed : Placed) (list : ℕ) (id : Id) : Type 0 where
  pub place : ℕ
  pub before : ℕ
  pub has : HasUnit (runs_of placed) place before id
  pub member : IsIn place (places_in placed list)

-- the right origin counts where it stands in the list, and is else absent
abbrev pub IsKeptRight : Placed → ℕ → Option Id → Option Id → Type 0
IsKeptRight placed list right None = IfSome right (λ id. StandsIn placed list id → ⊥)
IsKeptRight placed list right (Some id) = (right ≡ Some id) × StandsIn placed list id

-- the run as the order sees it in a list
abbrev pub stretch_of : RunValue → Option Id → Stretch
stretch_of run right = record { id = run.id; len = len_of run.content; left = run.left; right = right }

-- a run goes into a list where the integration scan puts it, live, and the list has grown by its units
pub record AddsRun (old new : Stored) (list : ℕ) (run : RunValue) : Type 0 where
  pub right : Option Id
  pub kept : IsKeptRight old.placed list run.right right
  pub grows : GrowsByRun old.placed new.placed list (stretch_of run right)
  pub rows : new.marks.rows ≡ old.marks.rows ++ record { deleted = false; counted = counts run.content } ∷ []
  pub live : new.marks.live ≡ with_more old.marks.live (Some list) (live_of (record { deleted = false; counted = counts run.content }) (len_of run.content))
  pub runs : told_of new.contents ≡ told_of old.contents ++ Some run ∷ []

-- a run goes into no list, deleted
pub record AddsOutside (old new : Stored) (stretch : Stretch) (run : Option RunValue) : Type 0 where
  pub adds : AddsLoose old.placed new.placed stretch
  pub rows : new.marks.rows ≡ old.marks.rows ++ record { deleted = true; counted = false } ∷ []
  pub live : new.marks.live ≡ old.marks.live
  pub runs : told_of new.contents ≡ told_of old.contents ++ run ∷ []

-- the units of a span that are gone
abbrev pub gone_stretch : Span → Stretch
gone_stretch span = record { id = record { client = span.client; clock = span.clock }; len = span.len; left = None; right = None }
