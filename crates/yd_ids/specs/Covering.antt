-- When a set has all ids of another (own).
use Rattle.std.specs.Prelude.{◌+◌, Bool, ◌&&◌, List, nat_eq, nat_le}
use Rattle.yd_ids.specs.declared.id.Id.{Id}
use Rattle.yd_ids.specs.declared.id.Span.{Span}
use Rattle.yd_ids.specs.Set.{HasId}

-- the spans have each id of the others
abbrev pub HasAll : List Span → List Span → Type 0
HasAll spans others = (id : Id) → HasId others id → HasId spans id

-- whether each id of the second span is one of the first, where the second has any
abbrev pub covers : Span → Span → Bool
covers span other = nat_eq span.client.0 other.client.0 && nat_le span.clock other.clock && nat_le (other.clock + other.len) (span.clock + span.len)
