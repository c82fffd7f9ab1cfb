-- Where an id stands among what was taken (own).
use Rattle.std.specs.Prelude.{◌≡◌, ◌<◌, ◌≤◌, ℕ, Bool, true, false, ◌&&◌, ◌||◌, nat_eq, nat_le, nat_lt, List, get_or, length}
use Rattle.yd_ids.specs.declared.id.Id.{Id}
use Rattle.yd_entries.specs.declared.entry.Entry.{Entry}
use Rattle.yd_entries.specs.declared.lookup.Bounds.{Bounds}

-- whether the units begin at the id, or before it in the order of writing
abbrev pub begins_by : Entry → Id → Bool
begins_by t x = nat_lt x.client.0 t.id.client.0 || (nat_eq t.id.client.0 x.client.0 && nat_le t.id.clock x.clock)

-- all entries below the first bound begin by the id, and none from the second on
pub record PartsAt (taken : List Entry) (x : Id) (bounds : Bounds) : Type 0 where
  pub before : (k : ℕ) (d : Entry) → k < bounds.low → begins_by (get_or taken k d) x ≡ true
  pub behind : (k : ℕ) (d : Entry) → bounds.high ≤ k → k < length taken → begins_by (get_or taken k d) x ≡ false
