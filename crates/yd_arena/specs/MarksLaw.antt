-- Which units are marked as deleted, where a span is marked, a run is cut, or one is added (own).
use Rattle.std.specs.Prelude.{◌≡◌, ◌↔◌, ◌⊎◌, ◌<◌, ◌≤◌, ◌+◌, ◌++◌, ℕ, true, List, [], ◌∷◌, length}
use Rattle.yd_ids.specs.declared.id.Id.{Id}
use Rattle.yd_ids.specs.declared.id.Span.{Span}
use Rattle.yd_ids.specs.Span.{InSpan}
use Rattle.yd_words.specs.Member.{IsIn}
use Rattle.yd_scan.specs.declared.stretch.Stretch.{Stretch}
use Rattle.yd_scan.specs.Stretches.{stretch_at, units_of}
use Rattle.yd_index.specs.Line.{Lined}
use Rattle.yd_index.specs.Lines.{next_of}
use Rattle.yd_index.specs.Holding.{cut_stretches}
use Rattle.yd_arena.specs.Arena.{IsArena, HasUnit}
use Rattle.yd_arena.specs.declared.mark.Mark.{Mark}
use Rattle.yd_arena.specs.Marks.{mark_at, IsBorder, MarksSpan, IsMarked}

-- where a span is marked that is held and that parts no run, the marked units are those that were marked, and those of the span
abbrev pub MarksAreUnits : Type 0
MarksAreUnits = (lines : List Lined) (runs : List Stretch) (old new : List Mark) (span : Span) → IsArena lines runs → IsBorder runs span.client.0 span.clock → IsBorder runs span.client.0 (span.clock + span.len) →
    span.clock + span.len ≤ next_of lines span.client.0 → MarksSpan runs old new span →
    (id : Id) → IsMarked runs new id ↔ (IsMarked runs old id ⊎ InSpan span id)

-- where a run is cut and both parts have its mark, the marked units are those that were marked
abbrev pub CutsKeepMarks : Type 0
CutsKeepMarks = (runs : List Stretch) (rows : List Mark) (place n : ℕ) → length rows ≡ length runs → place < length runs → n ≤ (stretch_at runs place).len →
    (id : Id) → IsMarked (cut_stretches runs place n) (rows ++ mark_at rows place ∷ []) id ↔ IsMarked runs rows id

-- where a run is added, its units are marked just where its mark says deleted, and the others as before
abbrev pub AddsKeepMarks : Type 0
AddsKeepMarks = (runs : List Stretch) (rows : List Mark) (run : Stretch) (mark : Mark) → length rows ≡ length runs →
    (id : Id) → IsMarked (runs ++ run ∷ []) (rows ++ mark ∷ []) id ↔ (IsMarked runs rows id ⊎ ((mark.deleted ≡ true) × IsIn id (units_of run)))

-- no run has units on both sides of the clock where one begins, or of those from the client's next one on, and a cut leaves it so
pub record BordersAre : Type 0 where
  pub at_run : (lines : List Lined) (runs : List Stretch) (place : ℕ) (id : Id) → IsArena lines runs → HasUnit runs place 0 id → IsBorder runs id.client.0 id.clock
  pub at_end : (lines : List Lined) (runs : List Stretch) (client clock : ℕ) → IsArena lines runs → next_of lines client ≤ clock → IsBorder runs client clock
  pub kept : (runs : List Stretch) (place n client clock : ℕ) → place < length runs → n ≤ (stretch_at runs place).len → IsBorder runs client clock → IsBorder (cut_stretches runs place n) client clock
