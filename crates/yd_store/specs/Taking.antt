-- What is left of a store where a client's last units are taken out again (own).
use Rattle.std.specs.Prelude.{◌≡◌, ◌≢◌, ◌↔◌, ◌⊎◌, ◌<◌, ℕ, Bool, ◌||◌, not, nat_eq, nat_lt, true, filter, length}
use Rattle.yd_ids.specs.declared.id.Id.{Id}
use Rattle.yd_ops.specs.Operation.{Operation}
use Rattle.yd_scan.specs.Stretches.{stretch_at}
use Rattle.yd_origins.specs.Table.{Row}
use Rattle.yd_arena.specs.Arena.{runs_of, count_of, next_clock}
use Rattle.yd_arena.specs.Rows.{rows_in}
use Rattle.yd_arena.specs.Marks.{mark_at, BeginsIn, IsBorder}
use Rattle.yd_store.specs.Store.{Stored}
use Rattle.yd_store.specs.Units.{operations_in, HasOperation, HasMarked}

-- whether an id is another client's, or has a lower clock
abbrev pub is_id_left : ℕ → ℕ → Id → Bool
is_id_left client clock id = not (nat_eq id.client.0 client) || nat_lt id.clock clock

-- the same of an operation
abbrev pub is_left : ℕ → ℕ → Operation → Bool
is_left client clock o = is_id_left client clock o.id

-- the id is another client's, or has a lower clock
abbrev pub IsLeft : ℕ → ℕ → Id → Type 0
IsLeft client clock id = (id.client.0 ≢ client) ⊎ (id.clock < clock)

-- the client's units from a clock on are there no more, and this is its next clock; all others stand where they stood, with the rights that the order
-- sees, and are marked as they were; and where no run was parted, none is
pub record TakesBack (old new : Stored) (client clock : ℕ) : Type 0 where
  pub count : count_of new.placed ≡ count_of old.placed
  pub lists : (list : ℕ) → list < count_of old.placed → operations_in new list ≡ filter (is_left client clock) (operations_in old list)
  pub rows : (list : ℕ) → list < count_of old.placed → rows_in new.placed list ≡ filter (λ (row : Row). is_id_left client clock row.id) (rows_in old.placed list)
  pub operations : (o : Operation) → HasOperation new o ↔ (HasOperation old o × IsLeft client clock o.id)
  pub marks : (id : Id) → HasMarked new id ↔ (HasMarked old id × IsLeft client clock id)
  pub next : next_clock new.placed client ≡ clock
  pub other_nexts : (k : ℕ) → k ≢ client → next_clock new.placed k ≡ next_clock old.placed k
  pub borders : (k c : ℕ) → IsBorder (runs_of old.placed) k c → IsBorder (runs_of new.placed) k c

-- the client's runs from a clock on are marked as deleted
abbrev pub AreDead : Stored → ℕ → ℕ → Type 0
AreDead it client clock = (i : ℕ) → i < length (runs_of it.placed) → BeginsIn (stretch_at (runs_of it.placed) i) client clock (next_clock it.placed client) → (mark_at it.marks.rows i).deleted ≡ true
