-- How units of a store are told less: deleted or gone (Yjs 13, ContentDeleted and GC).
use Rattle.std.specs.Prelude.{◌≡◌, ◌↔◌, ◌<◌, ◌+◌, ℕ, Bool, ◌&&◌, not, nat_eq, nat_lt, List, Option, Some, None, length, map, if◌then◌else◌}
use Rattle.yd_ids.specs.declared.id.Id.{Id}
use Rattle.yd_ids.specs.declared.id.Span.{Span}
use Rattle.yd_ids.specs.Span.{InSpan}
use Rattle.yd_ops.specs.Value.{RunValue, deleted, len_of}
use Rattle.yd_ops.specs.Operation.{Operation, level_of, as_level}
use Rattle.yd_scan.specs.declared.stretch.Stretch.{Stretch}
use Rattle.yd_scan.specs.Stretches.{stretch_at}
use Rattle.yd_arena.specs.Arena.{runs_of, count_of, units_in, next_clock}
use Rattle.yd_arena.specs.Rows.{rows_in}
use Rattle.yd_arena.specs.Marks.{BeginsIn, IsBorder}
use Rattle.yd_store.specs.declared.level.Level.{Level}
use Rattle.yd_store.specs.declared.level.Level.TheVariants.{Gone, Deleted}
use Rattle.yd_store.specs.Contents.{run_at}
use Rattle.yd_store.specs.Store.{Stored}
use Rattle.yd_store.specs.Units.{operations_in, HasOperation, HasMarked}
use Rattle.yd_store.specs.Halves.{LosesPartner, torn}

-- the level of what is gone, and of what is deleted
abbrev pub number_of : Level → ℕ
number_of Gone = 0
number_of Deleted = 1

-- what a place tells then: of a gone run nothing, and of a deleted one all but its content
abbrev pub told_down : Level → Option RunValue → Option RunValue
told_down Gone z = None
told_down Deleted None = None
told_down Deleted (Some run) = Some (record { id = run.id; left = run.left; right = run.right; list = run.list; content = deleted (len_of run.content) })

-- what the places tell is the old, but the runs that begin among some clocks of a client are told down to a level
pub record LowersClocks (runs : List Stretch) (level : Level) (old new : List (Option RunValue)) (client first end : ℕ) : Type 0 where
  pub count : length new ≡ length old
  pub within : (i : ℕ) → i < length runs → BeginsIn (stretch_at runs i) client first end → run_at new i ≡ told_down level (run_at old i)
  pub others : (i : ℕ) → (BeginsIn (stretch_at runs i) client first end → ⊥) → run_at new i ≡ run_at old i

-- the same for the clocks of a span
abbrev pub LowersSpan : List Stretch → Level → List (Option RunValue) → List (Option RunValue) → Span → Type 0
LowersSpan runs level old new span = LowersClocks runs level old new span.client.0 span.clock (span.clock + span.len)

-- an operation down to a level, if it says more
abbrev pub lowered_to : ℕ → Operation → Operation
lowered_to level o = if nat_lt level (level_of o.content) then as_level level o else o

-- whether an id is one of a span's
abbrev pub is_in_span : Span → Id → Bool
is_in_span span id = nat_eq span.client.0 id.client.0 && (not (nat_lt id.clock span.clock) && nat_lt id.clock (span.clock + span.len))

-- an operation down to a level where it is of a span; each other one is as it was
abbrev pub lowered_in : Span → ℕ → Operation → Operation
lowered_in span level o = if is_in_span span o.id then lowered_to level o else o

-- each operation is told anew, at its place in its list; what the order sees, marks, counts and clocks are the old ones; and where no run was parted, none is
pub record MapsUnits (old new : Stored) (told : Operation → Operation) : Type 0 where
  pub count : count_of new.placed ≡ count_of old.placed
  pub lists : (list : ℕ) → list < count_of old.placed → operations_in new list ≡ map told (operations_in old list)
  pub units : (list : ℕ) → list < count_of old.placed → units_in new.placed list ≡ units_in old.placed list
  pub rows : (list : ℕ) → list < count_of old.placed → rows_in new.placed list ≡ rows_in old.placed list
  pub was : (o : Operation) → HasOperation new o → (p : Operation) × HasOperation old p × (o ≡ told p)
  pub is : (p : Operation) → HasOperation old p → HasOperation new (told p)
  pub marks : (id : Id) → HasMarked new id ↔ HasMarked old id
  pub live : new.marks.live ≡ old.marks.live
  pub nexts : (client : ℕ) → next_clock new.placed client ≡ next_clock old.placed client
  pub borders : (client clock : ℕ) → IsBorder (runs_of old.placed) client clock → IsBorder (runs_of new.placed) client clock

-- what is told of an operation, where a span is told less: of the span, it is told down to a level; where its partner is of the span, it is U+FFFD;
-- and each other is as it was
pub record TellsLess (old : Stored) (span : Span) (level : ℕ) (o told : Operation) : Type 0 where
  pub inside : InSpan span o.id → told ≡ lowered_to level o
  pub parted : LosesPartner old span o.id → told ≡ torn o
  pub others : (InSpan span o.id → ⊥) → (LosesPartner old span o.id → ⊥) → told ≡ o

-- the operations of a span are told down to a level, and halves that lose their partners by it are U+FFFD; each other operation is as it was, and so is all else
pub record LowersUnits (old new : Stored) (span : Span) (level : ℕ) : Type 0 where
  pub told : Operation → Operation
  pub tells : (o : Operation) → HasOperation old o → TellsLess old span level o (told o)
  pub maps : MapsUnits old new told
