-- Plans that want parts, one after another, and what is read by them.
use Rattle.std.proofs.Common.{◌≡◌, ◌++◌, [], ◌∷◌, List, Result, Ok, map, refl, sym, ap, subst}
use Rattle.yd_parts.specs.Fault.{Fault}
use Rattle.yd_parts.specs.Part.{PartPlan}
use Rattle.yd_parts.specs.Plan.{Expects, give, refuse, want, of_made, ◌>>=◌, read_by}
use Rattle.yd_parts.specs.declared.fault.Spot.{Spot}
use Rattle.yd_v2.proofs.StandingLemmas.{part_given}
use Rattle.yd_v2.specs.Part.{V2Part, V2Plan, V2Turn, V2Value, rest, v2_last, v2_part_at}
use Rattle.yd_v2.specs.Plan.{in_rest}
use Rattle.yd_v2.specs.Standing.{PartsStand, RestThing, V2Thing}

-- the plan wants these parts, wherever they stand, and then gives a value of which this holds
abbrev pub Wants : {X : Type 0} → V2Plan X → List V2Thing → (X → Type 0) → Type 0
Wants (give x) [] Holds = Holds x
Wants (give x) (thing ∷ things) Holds = ⊥
Wants (refuse cause spot) things Holds = ⊥
Wants (want t next) [] Holds = ⊥
Wants (want t next) (thing ∷ things) Holds = (v : V2Value t) × (thing ≡ (t, v)) × ((spot : Spot) → Wants (next v spot) things Holds)

-- ---- what a plan wants

-- a part of the rest, among parts of a file
abbrev pub in_file : RestThing → V2Thing
in_file thing = (rest thing.0, thing.1)

-- a plan of parts that is followed in the rest, and what is made of its value
pub rest_wants : {X Y : Type 0} (plan : PartPlan X) (next : X → V2Plan Y) (things : List RestThing) (x : X) (Holds : Y → Type 0) → Expects plan things x → Wants (next x) [] Holds → Wants (in_rest plan >>= next) (map in_file things) Holds
unfolding in_rest ◌>>=◌
rest_wants (give z) next [] x Holds first later = subst (λ u. Wants (next u) [] Holds) (sym first) later
rest_wants (give z) next (thing ∷ things) x Holds first later = absurd first
rest_wants (refuse cause spot) next things x Holds first later = absurd first
rest_wants (want t go) next [] x Holds first later = absurd first
rest_wants (want t go) next (thing ∷ things) x Holds first later = (first.0, ap in_file first.1, λ spot. rest_wants (go first.0 spot) next things x Holds (first.2 spot) later)

-- what was made without reading wants nothing
pub made_wants : {X Y : Type 0} (made : Result X Fault) (next : X → V2Plan Y) (x : X) (Holds : Y → Type 0) → made ≡ Ok x → Wants (next x) [] Holds → Wants (of_made made >>= next) [] Holds
unfolding ◌>>=◌
made_wants made next x Holds is later = rw is later

-- ---- what is read

-- the plan reads such a value, and leaves these parts
pub record ReadsParts {X : Type 0} (plan : V2Plan X) (now : V2Turn) (Holds : X → Type 0) (others : List V2Thing) : Type 0 where
  pub value : X
  pub end : V2Turn
  pub read : read_by v2_part_at v2_last plan now ≡ Ok (value, end)
  pub holds : Holds value
  pub stand : PartsStand end.left others

-- one more part is read first
reads_first : {X : Type 0} (t : V2Part) (v : V2Value t) (next : V2Value t → Spot → V2Plan X) (now behind : V2Turn) (Holds : X → Type 0) (others : List V2Thing) → v2_part_at t now ≡ Ok (v, behind) → ReadsParts (next v (v2_last behind)) behind Holds others → ReadsParts (want t next) now Holds others
unfolding read_by
reads_first t v next now behind Holds others first later = record { value = later.value; end = later.end; read = rw first later.read; holds = later.holds; stand = later.stand }

-- where the parts that a plan wants are left, it reads them
pub wants_read : {X : Type 0} (plan : V2Plan X) (things others : List V2Thing) (now : V2Turn) (Holds : X → Type 0) → Wants plan things Holds → PartsStand now.left (things ++ others) → ReadsParts plan now Holds others
unfolding read_by
wants_read (give x) [] others now Holds wants stand = record { value = x; end = now; read = refl; holds = wants; stand = stand }
wants_read (give x) (thing ∷ things) others now Holds wants stand = absurd wants
wants_read (refuse cause spot) things others now Holds wants stand = absurd wants
wants_read (want t next) [] others now Holds wants stand = absurd wants
wants_read (want t next) (thing ∷ things) others now Holds wants stand =
    let got = part_given t wants.0 (things ++ others) now (subst (λ (one : V2Thing). PartsStand now.left (one ∷ (things ++ others))) wants.1 stand) in
    reads_first t wants.0 next now got.next Holds others got.read (wants_read (next wants.0 (v2_last got.next)) things others got.next Holds (wants.2 (v2_last got.next)) got.stand)
