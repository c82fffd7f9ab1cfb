-- Ids: which are one, which is smaller, which is written first, and which stand in a list (YATA, the tie of two items at one place; Yjs 13, the order in which structs are written).
use Rattle.std.specs.Prelude.{◌≡◌, ◌<◌, Bool, true, false, ◌||◌, ◌&&◌, List, [], ◌∷◌, Option, Some, None, nat_eq, nat_lt}
use Rattle.yd_ids.specs.declared.id.Id.{Id}

-- whether two ids are one
abbrev pub is_same : Id → Id → Bool
is_same a b = nat_eq a.client.0 b.client.0 && nat_eq a.clock b.clock

-- whether the first has the smaller client, or of one client the smaller clock
abbrev pub is_smaller : Id → Id → Bool
is_smaller a b = nat_lt a.client.0 b.client.0 || (nat_eq a.client.0 b.client.0 && nat_lt a.clock b.clock)

-- whether the first id is written before the second: clients descending, and of one client clocks ascending
abbrev pub is_written_before : Id → Id → Bool
is_written_before a b = nat_lt b.client.0 a.client.0 || (nat_eq a.client.0 b.client.0 && nat_lt a.clock b.clock)

-- the first is of the second's client, with a smaller clock
abbrev pub HasSmallerClock : Id → Id → Type 0
HasSmallerClock a b = (a.client ≡ b.client) × (a.clock < b.clock)

-- whether both are absent, or both are there and one
abbrev pub is_same_neighbour : Option Id → Option Id → Bool
is_same_neighbour None None = true
is_same_neighbour None (Some b) = false
is_same_neighbour (Some a) None = false
is_same_neighbour (Some a) (Some b) = is_same a b

-- whether the list has the id
abbrev pub has_id : List Id → Id → Bool
has_id [] x = false
has_id (y ∷ ys) x = is_same y x || has_id ys x
