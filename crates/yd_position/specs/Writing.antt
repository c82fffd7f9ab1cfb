-- How positions are written, in the fewest bytes (Yjs 13, encodeRelativePosition).
use Rattle.std.specs.Prelude.{ℕ, List, ◌∷◌, ◌++◌}
use Rattle.yd_ids.specs.Id.{IsId}
use Rattle.yd_num.specs.Writing.{shortest, shortest_signed, shortest_blob}
use Rattle.yd_parts.specs.AnyBytes.{IsWritableText, signed_of}
use Rattle.yd_position.specs.declared.position.Position.{Position}
use Rattle.yd_position.specs.declared.position.Target.{Target}
use Rattle.yd_position.specs.declared.position.Target.TheVariants.{Unit as UnitOf, Root, Item}

-- what is pointed at: its number, and then its id or name
abbrev pub bytes_of_target : Target → List ℕ
bytes_of_target (UnitOf id) = 0 ∷ shortest id.client.0 ++ shortest id.clock
bytes_of_target (Root name) = 1 ∷ shortest_blob name
bytes_of_target (Item id) = 2 ∷ shortest id.client.0 ++ shortest id.clock

-- the bytes of a position; its association is always written
abbrev pub bytes_of_position : Position → List ℕ
bytes_of_position p = bytes_of_target p.target ++ shortest_signed (signed_of p.assoc)

-- the id, where there is one, is in range
abbrev pub HasIds : Target → Type 0
HasIds (UnitOf id) = IsId id
HasIds (Root name) = Unit {0}
HasIds (Item id) = IsId id

-- the id is in range, or the name is of less than 2^53 bytes
abbrev pub IsWritableTarget : Target → Type 0
IsWritableTarget (UnitOf id) = IsId id
IsWritableTarget (Root name) = IsWritableText name
IsWritableTarget (Item id) = IsId id
