-- Which units have all that they need, by the state vector (own).
use Rattle.std.specs.Prelude.{◌≡◌, ◌⊎◌, ℕ, Bool, true, not, ◌&&◌, List, Option, Some, None, nat_eq, if◌then◌else◌}
use Rattle.yd_ids.specs.declared.id.Client.{Client}
use Rattle.yd_ids.specs.declared.id.Id.{Id}
use Rattle.yd_ids.specs.Vector.{clock_of}
use Rattle.yd_ops.specs.declared.lists.List.{List as DocList}
use Rattle.yd_ops.specs.declared.runs.Run.{Run}
use Rattle.yd_meaning.specs.Held.{item_carried}
use Rattle.yd_entries.specs.declared.entry.Entry.{Entry}
use Rattle.yd_received.specs.Received.{is_below}
use Rattle.yd_entries.specs.Entries.{carried_of, is_held}

-- the id is an origin, or the item of a list
abbrev pub IsOriginOf : Id → Option Id → Option Id → Option DocList → Type 0
IsOriginOf x left right list = (left ≡ Some x) ⊎ ((right ≡ Some x) ⊎ (item_carried list ≡ Some x))

-- the id, if there is one and its clock is not below its client's
abbrev pub missing_of : List (Client × ℕ) → Option Id → Option Id
missing_of vector None = None
missing_of vector (Some x) = if is_below vector x then None else Some x

-- whether there is no id, or one whose clock is below its client's
abbrev pub is_none_or_below : List (Client × ℕ) → Option Id → Bool
is_none_or_below vector None = true
is_none_or_below vector (Some x) = is_below vector x

-- the one id, or where it is absent the other
abbrev pub first_of : Option Id → Option Id → Option Id
first_of None other = other
first_of (Some x) other = Some x

-- what units at their client's clock lack: an origin, or the item of the list that the first of them carries
abbrev pub lack_of : List (Client × ℕ) → List Run → Entry → Option Id
lack_of vector runs t = first_of (missing_of vector t.left) (first_of (missing_of vector t.right) (missing_of vector (item_carried (carried_of runs t))))

-- whether the units wait, begin at their client's clock, and have their origins and the item of their list below the vector
abbrev pub is_ready : List (Client × ℕ) → List Run → Entry → Bool
is_ready vector runs t =
    not (is_held t) && (nat_eq t.id.clock (clock_of vector t.id.client.0) && (is_none_or_below vector t.left
    && (is_none_or_below vector t.right && is_none_or_below vector (item_carried (carried_of runs t)))))
