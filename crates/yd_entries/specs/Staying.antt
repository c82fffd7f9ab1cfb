-- Where units stand while entries are cut, lowered and added, and what of them is told as it was (own).
use Rattle.std.specs.Prelude.{◌≡◌, ℕ, ◌≤◌, ◌⊎◌, Bool, ◌&&◌, not, nat_lt, List, [], ◌∷◌, length, filter, if◌then◌else◌}
use Rattle.yd_words.specs.Member.{IsIn}
use Rattle.yd_ids.specs.declared.id.Id.{Id}
use Rattle.yd_ops.specs.declared.runs.Run.{Run}
use Rattle.yd_ops.specs.Operation.{Operation, text_unit, level_of}
use Rattle.yd_entries.specs.declared.entry.Entry.{Entry}
use Rattle.yd_entries.specs.declared.place.Place.{Place}
use Rattle.yd_entries.specs.declared.place.Place.TheVariants.{Waits}
use Rattle.yd_entries.specs.Entries.{operations_in, is_held, covers}

-- the place of the units with an id; those that were not taken wait
abbrev pub place_at : List Entry → Id → Place
place_at [] x = Waits
place_at (t ∷ ts) x = if covers t x then t.place else place_at ts x

-- whether the units are told by one of the first runs
abbrev pub is_told_by_first : ℕ → Entry → Bool
is_told_by_first count t = not t.is_gone && nat_lt t.run count

-- whether the units are held, and told by a later run
abbrev pub is_held_by_later : ℕ → Entry → Bool
is_held_by_later count t = is_held t && (not t.is_gone && not (nat_lt t.run count))

-- an operation is deleted, or is U+FFFD
abbrev pub IsLess : Operation → Type 0
IsLess o = (level_of o.content ≡ 1) ⊎ (o.content ≡ text_unit 0xFFFD)

-- units stay at their places; what one of the first runs tells was told by one of them before; and what a later run tells
-- of held units was told so before, or is deleted, or U+FFFD
pub record KeepsPlaces (old_runs : List Run) (old : List Entry) (runs : List Run) (taken : List Entry) : Type 0 where
  pub placed : (x : Id) → place_at taken x ≡ place_at old x
  pub told : (count : ℕ) → count ≤ length old_runs → (o : Operation) → IsIn o (operations_in runs (filter (is_told_by_first count) taken)) →
      IsIn o (operations_in old_runs (filter (is_told_by_first count) old))
  pub less : (count : ℕ) → count ≤ length old_runs → (o : Operation) → IsIn o (operations_in runs (filter (is_held_by_later count) taken)) →
      IsIn o (operations_in old_runs (filter (is_held_by_later count) old)) ⊎ IsLess o
