-- Runs at places, as stretches, and their units (Yjs 13, an item of several units).
use Rattle.std.specs.Prelude.{◌≡◌, ◌<◌, ◌+◌, ◌-◌, ℕ, zero, suc, List, [], ◌∷◌, Option, Some, None, IfSome, length, get_or, flat_map}
use Rattle.yd_ids.specs.declared.id.Id.{Id}
use Rattle.yd_ids.specs.declared.id.Client.{Client}
use Rattle.yd_words.specs.Member.{IsIn}
use Rattle.yd_origins.specs.Growing.{IsRun, IsNotAmong}
use Rattle.yd_scan.specs.declared.stretch.Stretch.{Stretch}

-- the ids of so many units of a client from a clock on
abbrev pub units_from : Client → ℕ → ℕ → List Id
units_from client clock zero = []
units_from client clock (suc n) = record { client = client; clock = clock } ∷ units_from client (suc clock) n

-- the ids of a run's units
abbrev pub units_of : Stretch → List Id
units_of stretch = units_from stretch.id.client stretch.id.clock stretch.len

-- the ids of those behind the first
abbrev pub later_units : Stretch → List Id
later_units stretch = units_from stretch.id.client (suc stretch.id.clock) (stretch.len - 1)

-- the id of a run's last unit
abbrev pub last_unit : Stretch → Id
last_unit stretch = record { client = stretch.id.client; clock = stretch.id.clock + (stretch.len - 1) }

-- no unit
abbrev pub no_stretch : Stretch
no_stretch = record { id = record { client = record { 0 = 0 }; clock = 0 }; len = 0; left = None; right = None }

-- the run at a place
abbrev pub stretch_at : List Stretch → ℕ → Stretch
stretch_at stretches i = get_or stretches i no_stretch

-- the units of the runs at places
abbrev pub units_at : List Stretch → List ℕ → List Id
units_at stretches places = flat_map (λ i. units_of (stretch_at stretches i)) places

-- of each unit of the runs in a list, and of a new run, the left and the right are those that its run gives
pub record HasOrigins (left right : Id → Option Id) (stretches : List Stretch) (list : List ℕ) (new : Stretch) : Type 0 where
  pub new_left : left new.id ≡ new.left
  pub new_right : right new.id ≡ new.right
  pub first_left : (i : ℕ) → IsIn i list → left (stretch_at stretches i).id ≡ (stretch_at stretches i).left
  pub first_right : (i : ℕ) → IsIn i list → right (stretch_at stretches i).id ≡ (stretch_at stretches i).right
  pub later_left : (i : ℕ) → IsIn i list → IsRun left (stretch_at stretches i).id (later_units (stretch_at stretches i))

-- the left origins of the runs in a list are in the list
abbrev pub HasLefts : List Stretch → List ℕ → Type 0
HasLefts stretches list = (i : ℕ) → IsIn i list → IfSome (stretch_at stretches i).left (λ l. IsIn l (units_at stretches list))

-- the neighbour is no later unit of a run in the list
abbrev pub IsNoLater : List Stretch → List ℕ → Option Id → Type 0
IsNoLater stretches list neighbour = (i : ℕ) → IsIn i list → IsNotAmong neighbour (later_units (stretch_at stretches i))

-- each unit of a run has the run's place, and no other id has one
pub record IsIndex (places : Id → Option ℕ) (stretches : List Stretch) : Type 0 where
  pub found : (i : ℕ) (u : Id) → i < length stretches → IsIn u (units_of (stretch_at stretches i)) → places u ≡ Some i
  pub only : (i : ℕ) (u : Id) → places u ≡ Some i → (i < length stretches) × IsIn u (units_of (stretch_at stretches i))

-- a left origin is the last unit of the run at a place, or absent at the front
abbrev pub EndsLeft : List Stretch → Option Id → Option ℕ → Type 0
EndsLeft stretches None None = Unit {0}
EndsLeft stretches (Some l) (Some p) = (p < length stretches) × (l ≡ last_unit (stretch_at stretches p))
EndsLeft stretches None (Some p) = ⊥
EndsLeft stretches (Some l) None = ⊥
