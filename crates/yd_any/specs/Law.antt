-- The laws of values and their texts.
use Rattle.std.specs.Prelude.{◌≡◌, ℕ, List, IsTrue, option_map}
use Rattle.std.proofs.Common.{Ok}
use Rattle.serde_json.specs.Read.{read as read_text}
use Rattle.yd_any.specs.Tree.{AnyTree, AnyFields, no_fields}
use Rattle.yd_any.specs.Valid.{is_valid_json}
use Rattle.yd_any.specs.Carried.{settled, settled_fields}
use Rattle.yd_any.specs.Keys.{first_at, last_at}
use Rattle.yd_any.specs.Printed.{printed}
use Rattle.yd_any.specs.Outcome.{judged_reading, carried}

-- of equal keys the last one stands
abbrev pub LastKeysStand : Type 0
LastKeysStand = (key : List ℕ) (fs : AnyFields) → first_at key (settled_fields no_fields fs) ≡ option_map settled (last_at key fs)

-- a JSON value, taken as an any-value, is carried by itself
abbrev pub JsonStays : Type 0
JsonStays = (t : AnyTree) → IsTrue (is_valid_json t) → carried t ≡ Ok t

-- the text of a JSON value is read as that value
abbrev pub TextsAreReadBack : Type 0
TextsAreReadBack = (t : AnyTree) → IsTrue (is_valid_json t) → judged_reading (read_text (printed t)) ≡ Ok t
