-- Worked updates are valid: texts without halves, ids, and structs of one client.
use Rattle.std.proofs.Common.{◌≡◌, ◌<◌, ◌^◌, ℕ, zero, suc, Bool, true, ◌&&◌, nat_lt, List, [], ◌∷◌, slice_index, arith, tests}
use Rattle.yd_words.proofs.TestLemmas.{both_hold}
use Rattle.yd_ids.specs.declared.id.Span.{Span}
use Rattle.yd_ids.specs.Id.{IsId}
use Rattle.yd_ids.specs.Set.{AreMaximal}
use Rattle.yd_units.specs.Half.{AreUnits, IsWhole}
use Rattle.yd_ops.specs.Value.{StructValue}
use Rattle.yd_ops.specs.Valid.{AreStructsFrom, IsValidUpdate}
use Rattle.yd_meaning.specs.Collected.{unit_id}
use Rattle.yd_meaning.proofs.ExampleLemmas.{units_are_whole}
use Rattle.yd_shown.specs.Example.{update_of}

-- whether each unit is below the halves
abbrev are_below : List ℕ → Bool
are_below [] = true
are_below (u ∷ us) = nat_lt u 0xD800 && are_below us

-- each of its units is below the halves
below_all : (us : List ℕ) → are_below us ≡ true → (i : ℕ) → slice_index us i < 0xD800
below_all [] e zero = omega arith
below_all [] e (suc i) = omega arith
below_all (u ∷ us) e zero = let (first, rest) = both_hold (nat_lt u 0xD800) (are_below us) e in grind (arith, tests)
below_all (u ∷ us) e (suc i) = below_all us (both_hold (nat_lt u 0xD800) (are_below us) e).1 i

-- a text in which no unit is a half is whole
pub text_is_whole : (us : List ℕ) → are_below us ≡ true → AreUnits us × IsWhole us
text_is_whole us e = units_are_whole us (below_all us e)

-- small numbers are an id
pub unit_is_id : (client clock : ℕ) → client < 2 ^ 53 → clock < 2 ^ 53 → IsId (unit_id client clock)
unit_is_id client clock small below = record { client = small; clock = below }

-- an update of such structs is valid
pub structs_valid : (client : ℕ) (structs : List StructValue) (deletes : List Span) → client < 2 ^ 53 → AreStructsFrom (record { 0 = client }) 0 structs → AreMaximal deletes →
    IsValidUpdate (update_of client structs deletes)
structs_valid client structs deletes small are maximal = record { blocks = (record { client = small; clock = omega arith; structs = are }, tt); deletes = maximal }
