-- The fields in which a state vector is written (Yjs 13, writeStateVector): how many clients there are, and each with its clock, clients descending.
use Rattle.std.specs.Prelude.{ℕ, List, [], ◌∷◌, length, reverse}
use Rattle.yd_ids.specs.declared.id.Client.{Client}
use Rattle.yd_fields.specs.Field.{Field}
use Rattle.yd_fields.specs.Field as field

-- clients with their clocks, one after another
abbrev pub fields_of_entries : List (Client × ℕ) → List Field
fields_of_entries [] = []
fields_of_entries (entry ∷ entries) = (field.number, entry.0.0) ∷ (field.number, entry.1) ∷ fields_of_entries entries

-- a state vector
abbrev pub fields_of_vector : List (Client × ℕ) → List Field
fields_of_vector vector = (field.number, length vector) ∷ fields_of_entries (reverse vector)
