-- Plans that want the same things, wherever these stand.
use Rattle.std.proofs.Common.{◌≡◌, ◌++◌, ℕ, zero, suc, Bool, true, false, List, [], ◌∷◌, if◌then◌else◌, refl, sym, ap, subst}
use Rattle.std.proofs.lemmas.List.{map-append}
use Rattle.yd_parts.specs.Plan.{Plan, give, refuse, want, ◌>>=◌, repeated, Expects, Found, things_in, LeadsTo}
use Rattle.yd_parts.specs.declared.fault.Cause.{Cause}
use Rattle.yd_parts.specs.declared.fault.Spot.{Spot}
use Rattle.yd_parts.proofs.ExpectLemmas.{expects_bind}

-- things that lead the one plan to a value are those that the other wants for it, wherever they stand
pub record AreAlike {T : Type 0} {V : T → Type 0} {X : Type 0} (plan other : Plan V X) : Type 0 where
  pub expected : (found : List (Found V)) (x : X) → LeadsTo plan found (give x) → Expects other (things_in found) x

-- ---- two plans in a row

-- things that lead through two plans in a row: those of the one, and behind them those of the next
record LeadThrough {T : Type 0} {V : T → Type 0} {X Y : Type 0} (plan : Plan V X) (next : X → Plan V Y) (found : List (Found V)) (y : Y) : Type 0 where
  front : List (Found V)
  back : List (Found V)
  between : X
  parts : found ≡ front ++ back
  first : LeadsTo plan front (give between)
  later : LeadsTo (next between) back (give y)

-- what leads to a value leads through both plans
lead_through : {T : Type 0} {V : T → Type 0} {X Y : Type 0} (plan : Plan V X) (next : X → Plan V Y) (found : List (Found V)) (y : Y) → LeadsTo (plan >>= next) found (give y) → LeadThrough plan next found y
unfolding ◌>>=◌
lead_through (give x) next found y leads = record { front = []; back = found; between = x; parts = refl; first = refl; later = leads }
lead_through (refuse cause spot) next [] y leads = absurd cc
lead_through (refuse cause spot) next (thing ∷ found) y leads = absurd leads
lead_through (want t go) next [] y leads = absurd cc
lead_through (want t go) next (thing ∷ found) y leads =
    let rest = lead_through (go leads.0 leads.1) next found y leads.3 in
    record {
      front = thing ∷ rest.front;
      back = rest.back;
      between = rest.between;
      parts = ap (λ things. thing ∷ things) rest.parts;
      first = (leads.0, leads.1, leads.2, rest.first);
      later = rest.later;
    }

-- ---- lemmas for callers

-- a value that is given
pub alike_give : {T : Type 0} {V : T → Type 0} {X : Type 0} (x : X) → AreAlike {V = V} (give x) (give x)
alike_give {T} {V} {X} x = record { expected = given_here }
  where
    given_here : (found : List (Found V)) (y : X) → LeadsTo (give x) found (give y) → Expects (give x) (things_in found) y
    given_here [] y leads = cc
    given_here (thing ∷ found) y leads = absurd leads

-- what is refused leads to no value
pub alike_refuse : {T : Type 0} {V : T → Type 0} {X : Type 0} {cause : Cause} {spot : Spot} {other : Plan V X} → AreAlike (refuse cause spot) other
alike_refuse {T} {V} {X} {cause} {spot} {other} = record { expected = none_here }
  where
    none_here : (found : List (Found V)) (x : X) → LeadsTo (refuse cause spot) found (give x) → Expects other (things_in found) x
    none_here [] x leads = absurd cc
    none_here (thing ∷ found) x leads = absurd leads

-- a thing that is wanted, wherever it stands
pub alike_want : {T : Type 0} {V : T → Type 0} {X : Type 0} {t : T} {next following : V t → Spot → Plan V X} → ((v : V t) (spot place : Spot) → AreAlike (next v spot) (following v place)) → AreAlike (want t next) (want t following)
alike_want {T} {V} {X} {t} {next} {following} each = record { expected = wanted_here }
  where
    wanted_here : (found : List (Found V)) (x : X) → LeadsTo (want t next) found (give x) → Expects (want t following) (things_in found) x
    wanted_here [] x leads = absurd cc
    wanted_here (thing ∷ found) x leads = (leads.0, ap (λ (one : Found V). (one.type, one.value)) leads.2, λ place. (each leads.0 leads.1 place).expected found x leads.3)

-- a choice by a test
pub alike_if : {T : Type 0} {V : T → Type 0} {X : Type 0} {plan other apart away : Plan V X} (test : Bool) → AreAlike plan apart → AreAlike other away → AreAlike (if test then plan else other) (if test then apart else away)
alike_if true first second = first
alike_if false first second = second

-- two plans in a row
pub alike_bind : {T : Type 0} {V : T → Type 0} {X Y : Type 0} {plan other : Plan V X} {next following : X → Plan V Y} → AreAlike plan other → ((x : X) → AreAlike (next x) (following x)) → AreAlike (plan >>= next) (other >>= following)
alike_bind {T} {V} {X} {Y} {plan} {other} {next} {following} first each = record { expected = through }
  where
    through : (found : List (Found V)) (y : Y) → LeadsTo (plan >>= next) found (give y) → Expects (other >>= following) (things_in found) y
    through found y leads =
        let both = lead_through plan next found y leads in
        let things = expects_bind other following (things_in both.front) (things_in both.back) both.between y (first.expected both.front both.between both.first) ((each both.between).expected both.back y both.later) in
        subst (λ (one : List (Found V)). Expects (other >>= following) (things_in one) y) (sym both.parts)
        (subst (λ (one : List ((t : T) × V t)). Expects (other >>= following) one y) (sym (map-append (λ (thing : Found V). (thing.type, thing.value)) both.front both.back)) things)

-- a step so many times
pub alike_repeated : {T : Type 0} {V : T → Type 0} {A : Type 0} {step other : A → Plan V A} → ((a : A) → AreAlike (step a) (other a)) → (count : ℕ) (now : A) → AreAlike (repeated step count now) (repeated other count now)
unfolding repeated
alike_repeated each zero now = alike_give now
alike_repeated each (suc count) now = alike_bind (each now) (λ more. alike_repeated each count more)

-- what a plan wants leads it to the value, wherever it stands
pub expected_leads : {T : Type 0} {V : T → Type 0} {X : Type 0} (plan : Plan V X) (found : List (Found V)) (x : X) → Expects plan (things_in found) x → LeadsTo plan found (give x)
expected_leads (give y) [] x wants = ap give wants
expected_leads (give y) (thing ∷ found) x wants = absurd wants
expected_leads (refuse cause spot) [] x wants = absurd wants
expected_leads (refuse cause spot) (thing ∷ found) x wants = absurd wants
expected_leads (want t next) [] x wants = absurd wants
expected_leads (want t next) (thing ∷ found) x wants =
    (wants.0, thing.spot, ap (λ one. record { type = one.0; value = one.1; spot = thing.spot }) wants.1, expected_leads (next wants.0 thing.spot) found x (wants.2 thing.spot))
