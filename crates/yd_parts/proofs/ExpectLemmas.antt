-- What plans want, one behind the other.
use Rattle.std.proofs.Common.{◌≡◌, ◌<◌, ◌++◌, [], ◌∷◌, ℕ, zero, suc, false, List, Result, Ok, nat_eq, sym, subst, arith}
use Rattle.std.proofs.lemmas.Bool.Decides.{nat_tests}
use Rattle.yd_parts.specs.Fault.{Fault}
use Rattle.yd_parts.specs.Plan.{Plan, give, refuse, want, of_made, ◌>>=◌, Expects, repeated}

-- two plans in a row want their things in a row
pub expects_bind : {T : Type 0} {V : T → Type 0} {X Y : Type 0} (plan : Plan V X) (next : X → Plan V Y) (things others : List ((t : T) × V t)) (x : X) (y : Y) →
    Expects plan things x → Expects (next x) others y → Expects (plan >>= next) (things ++ others) y
unfolding ◌>>=◌
expects_bind (give z) next [] others x y first later = subst (λ u. Expects (next u) others y) (sym first) later
expects_bind (give z) next (thing ∷ things) others x y first later = absurd first
expects_bind (refuse cause spot) next things others x y first later = absurd first
expects_bind (want t go) next [] others x y first later = absurd first
expects_bind (want t go) next (thing ∷ things) others x y first later = (first.0, first.1, λ spot. expects_bind (go first.0 spot) next things others x y (first.2 spot) later)

-- a plan behind which nothing more is wanted
pub expects_last : {T : Type 0} {V : T → Type 0} {X Y : Type 0} (plan : Plan V X) (next : X → Plan V Y) (things : List ((t : T) × V t)) (x : X) (y : Y) →
    Expects plan things x → Expects (next x) [] y → Expects (plan >>= next) things y
unfolding ◌>>=◌
expects_last (give z) next [] x y first later = subst (λ u. Expects (next u) [] y) (sym first) later
expects_last (give z) next (thing ∷ things) x y first later = absurd first
expects_last (refuse cause spot) next things x y first later = absurd first
expects_last (want t go) next [] x y first later = absurd first
expects_last (want t go) next (thing ∷ things) x y first later = (first.0, first.1, λ spot. expects_last (go first.0 spot) next things x y (first.2 spot) later)

-- what was made without reading wants nothing
pub expects_made : {T : Type 0} {V : T → Type 0} {X Y : Type 0} (made : Result X Fault) (next : X → Plan V Y) (x : X) (y : Y) → made ≡ Ok x → Expects (next x) [] y → Expects (of_made made >>= next) [] y
unfolding ◌>>=◌
expects_made made next x y is later = rw is later

-- a step more
pub expects_step : {T : Type 0} {V : T → Type 0} {A : Type 0} (step : A → Plan V A) (count : ℕ) (now more last : A) (things others : List ((t : T) × V t)) →
    Expects (step now) things more → Expects (repeated step count more) others last → Expects (repeated step (suc count) now) (things ++ others) last
unfolding repeated
expects_step step count now more last things others first later = expects_bind (step now) (λ a. repeated step count a) things others more last first later

-- no step more
pub expects_none : {T : Type 0} {V : T → Type 0} {A : Type 0} (step : A → Plan V A) (now last : A) → now ≡ last → Expects (repeated step 0 now) [] last
unfolding repeated
expects_none step now last same = same

-- the count of what is not empty
pub count_some : (count : ℕ) → 0 < count → nat_eq count 0 ≡ false
count_some zero some = absurd (omega arith)
count_some (suc count) some = grind (arith, nat_tests)
