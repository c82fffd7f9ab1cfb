-- Plans of reading: what was read so far decides what is read next, or that nothing is (own). A grammar is one plan,
-- and each format says how what the plan wants is read.
use Rattle.std.specs.Prelude.{◌≡◌, ℕ, zero, suc, List, [], ◌∷◌, map, Result, Ok, Err}
use Rattle.yd_parts.specs.Fault.{Fault}
use Rattle.yd_parts.specs.declared.fault.Cause.{Cause}
use Rattle.yd_parts.specs.declared.fault.Spot.{Spot}

-- a value is given, or the input is refused, or a thing of a type is wanted, and its value and its spot say how it goes on
pub data Plan {T : Type 0} (V : T → Type 0) (X : Type 0) : Type 0 where
  give : X → Plan V X
  refuse : Cause → Spot → Plan V X
  want : (t : T) → (V t → Spot → Plan V X) → Plan V X

-- what was made without reading, as a plan
abbrev pub of_made : {T : Type 0} {V : T → Type 0} {X : Type 0} → Result X Fault → Plan V X
of_made (Ok x) = give x
of_made (Err fault) = refuse fault.cause fault.spot

-- one plan, and behind it the next one, for the value that it gives
infixl 10 ◌>>=◌
unfoldable pub ◌>>=◌ : {T : Type 0} {V : T → Type 0} {X Y : Type 0} → Plan V X → (X → Plan V Y) → Plan V Y
(give x) >>= next = next x
(refuse cause spot) >>= next = refuse cause spot
(want t go) >>= next = want t (λ v spot. go v spot >>= next)

-- a step so many times, each from what the one before gave
unfoldable pub repeated : {T : Type 0} {V : T → Type 0} {A : Type 0} → (A → Plan V A) → ℕ → A → Plan V A
repeated step zero found = give found
repeated step (suc count) found = step found >>= λ more. repeated step count more

-- ---- reading by a plan

-- one reading, and behind it the next one, where the first gives something
abbrev pub and_then : {A B E : Type 0} → Result A E → (A → Result B E) → Result B E
and_then (Ok x) next = next x
and_then (Err fault) next = Err fault

-- what is read by a plan: the value that it gives and what is left then, or the first fault
unfoldable pub read_by : {T : Type 0} {V : T → Type 0} {S X : Type 0} → ((t : T) → S → Result (V t × S) Fault) → (S → Spot) → Plan V X → S → Result (X × S) Fault
read_by at spot_of (give x) s = Ok (x, s)
read_by at spot_of (refuse cause spot) s = Err (record { cause = cause; spot = spot })
read_by at spot_of (want t next) s = and_then (at t s) (λ read. read_by at spot_of (next read.0 (spot_of read.1)) read.1)

-- ---- what a plan wants

-- a plan that wants these things, wherever they stand, and then gives the value
abbrev pub Expects : {T : Type 0} {V : T → Type 0} {X : Type 0} → Plan V X → List ((t : T) × V t) → X → Type 0
Expects (give y) [] x = y ≡ x
Expects (give y) (thing ∷ things) x = ⊥
Expects (refuse cause spot) things x = ⊥
Expects (want t next) [] x = ⊥
Expects {T} {V} (want t next) (thing ∷ things) x = (v : V t) × (thing ≡ (t, v)) × ((spot : Spot) → Expects (next v spot) things x)

-- a thing that was read: its type, what it holds, and where it stands
pub record Found {T : Type 0} (V : T → Type 0) : Type 0 where
  pub type : T
  pub value : V type
  pub spot : Spot

-- the things that were found, wherever they stand
abbrev pub things_in : {T : Type 0} {V : T → Type 0} → List (Found V) → List ((t : T) × V t)
things_in found = map (λ thing. (thing.type, thing.value)) found

-- these things, one after another, lead a plan to what is left of it
abbrev pub LeadsTo : {T : Type 0} {V : T → Type 0} {X : Type 0} → Plan V X → List (Found V) → Plan V X → Type 0
LeadsTo plan [] rest = plan ≡ rest
LeadsTo (give x) (thing ∷ things) rest = ⊥
LeadsTo (refuse cause spot) (thing ∷ things) rest = ⊥
LeadsTo {V = V} (want t next) (thing ∷ things) rest = (v : V t) × (spot : Spot) × (thing ≡ record { type = t; value = v; spot = spot }) × LeadsTo (next v spot) things rest

-- these things stand one after another, from one place to another
abbrev pub StandInTurn : {T : Type 0} {V : T → Type 0} {S : Type 0} → (S → Found V → S → Type 0) → S → List (Found V) → S → Type 0
StandInTurn Stands s [] end = s ≡ end
StandInTurn {S = S} Stands s (thing ∷ things) end = (next : S) × Stands s thing next × StandInTurn Stands next things end

-- the plan gives the value: things that stand there lead it so
pub record PlanGives {T : Type 0} {V : T → Type 0} {S X : Type 0} (Stands : S → Found V → S → Type 0) (plan : Plan V X) (s : S) (x : X) (end : S) : Type 0 where
  pub things : List (Found V)
  pub leads : LeadsTo plan things (give x)
  pub stand : StandInTurn Stands s things end

-- what is left of a plan ends in the fault: it is refused, or what is wanted fails
abbrev pub StopsAt : {T : Type 0} {V : T → Type 0} {S X : Type 0} → (T → S → Fault → Type 0) → Plan V X → S → Fault → Type 0
StopsAt Fails (give x) s fault = ⊥
StopsAt Fails (refuse cause spot) s fault = fault ≡ record { cause = cause; spot = spot }
StopsAt Fails (want t next) s fault = Fails t s fault

-- the plan fails: things that stand there lead it to where it ends in the fault
pub record PlanFails {T : Type 0} {V : T → Type 0} {S X : Type 0} (Stands : S → Found V → S → Type 0) (Fails : T → S → Fault → Type 0) (plan : Plan V X) (s : S) (fault : Fault) : Type 0 where
  pub things : List (Found V)
  pub rest : Plan V X
  pub place : S
  pub leads : LeadsTo plan things rest
  pub stand : StandInTurn Stands s things place
  pub stops : StopsAt Fails rest place fault
