-- Marks of deletion by place, and the live units of each list (Yjs 13, `deleted` and `countable` of an item).
use Rattle.std.specs.Prelude.{◌≡◌, ◌⊎◌, ◌<◌, ◌≤◌, ◌+◌, ◌-◌, ◌*◌, ◌^◌, ℕ, true, false, List, [], ◌∷◌, Option, Some, None, length, get_or, set, if◌then◌else◌}
use Rattle.yd_ids.specs.declared.id.Id.{Id}
use Rattle.yd_ids.specs.declared.id.Span.{Span}
use Rattle.yd_scan.specs.declared.stretch.Stretch.{Stretch}
use Rattle.yd_scan.specs.Stretches.{stretch_at}
use Rattle.yd_arena.specs.Lists.{Linked, list_at}
use Rattle.yd_arena.specs.Arena.{HasUnit}
use Rattle.yd_arena.specs.declared.mark.Mark.{Mark}

-- the marks of the runs by place, how many units of each list are live, and how many more marks cannot fail
pub record Marked : Type 0 where
  pub rows : List Mark
  pub live : List ℕ
  pub room : ℕ

-- the mark of a place without a run
abbrev pub no_mark : Mark
no_mark = record { deleted = false; counted = false }

-- the mark of the run at a place
abbrev pub mark_at : List Mark → ℕ → Mark
mark_at rows i = get_or rows i no_mark

-- a mark that says deleted
abbrev pub as_deleted : Mark → Mark
as_deleted mark = record { deleted = true; counted = mark.counted }

-- how many of so many units are live
abbrev pub live_of : Mark → ℕ → ℕ
live_of mark len = if mark.deleted then 0 else if mark.counted then len else 0

-- how many units of the run at a place are live
abbrev pub live_at : List Stretch → List Mark → ℕ → ℕ
live_at runs rows place = live_of (mark_at rows place) (stretch_at runs place).len

-- the sum of a number for each place
abbrev pub total : (ℕ → ℕ) → List ℕ → ℕ
total f [] = 0
total f (place ∷ places) = f place + total f places

-- with so many live units more in a list
abbrev pub with_more : List ℕ → Option ℕ → ℕ → List ℕ
with_more live None n = live
with_more live (Some list) n = set live list (get_or live list 0 + n)

-- with so many live units less in a list
abbrev pub with_less : List ℕ → Option ℕ → ℕ → List ℕ
with_less live None n = live
with_less live (Some list) n = set live list (get_or live list 0 - n)

-- each run has a mark, and each list as many live units as the runs at its places together
pub record AreCounted (linked : Linked) (rows : List Mark) (live : List ℕ) : Type 0 where
  pub each : length rows ≡ length linked.stretches
  pub lists : length live ≡ length linked.lists
  pub sums : (k : ℕ) → k < length linked.lists → get_or live k 0 ≡ total (live_at linked.stretches rows) (list_at linked k)

-- the run has units of the client, and the clock of the first is one of those from the first clock to the end
pub record BeginsIn (run : Stretch) (client first end : ℕ) : Type 0 where
  pub filled : 0 < run.len
  pub own : run.id.client.0 ≡ client
  pub from : first ≤ run.id.clock
  pub below : run.id.clock < end

-- no run of the client has units on both sides of a clock
abbrev pub IsBorder : List Stretch → ℕ → ℕ → Type 0
IsBorder runs client clock = (i : ℕ) → i < length runs → (stretch_at runs i).id.client.0 ≡ client →
    ((stretch_at runs i).id.clock + (stretch_at runs i).len ≤ clock) ⊎ (clock ≤ (stretch_at runs i).id.clock)

-- the marks are the old ones, but those of the runs that begin among some clocks of a client say deleted
pub record MarksClocks (runs : List Stretch) (old new : List Mark) (client first end : ℕ) : Type 0 where
  pub count : length new ≡ length old
  pub counted : (i : ℕ) → (mark_at new i).counted ≡ (mark_at old i).counted
  pub within : (i : ℕ) → i < length runs → BeginsIn (stretch_at runs i) client first end → (mark_at new i).deleted ≡ true
  pub others : (i : ℕ) → (BeginsIn (stretch_at runs i) client first end → ⊥) → mark_at new i ≡ mark_at old i

-- the same for the clocks of a span
abbrev pub MarksSpan : List Stretch → List Mark → List Mark → Span → Type 0
MarksSpan runs old new span = MarksClocks runs old new span.client.0 span.clock (span.clock + span.len)

-- the unit with an id stands in a run whose mark says deleted
pub record IsMarked (runs : List Stretch) (rows : List Mark) (id : Id) : Type 0 where
  pub place : ℕ
  pub before : ℕ
  pub has : HasUnit runs place before id
  pub deleted : (mark_at rows place).deleted ≡ true
