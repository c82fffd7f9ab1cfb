-- A plan is read exactly: what it gives, and how it fails.
use Rattle.std.proofs.Common.{◌≡◌, ◌∙◌, List, [], ◌∷◌, Result, Ok, Err, refl, ap, subst, sym}
use Rattle.yd_num.proofs.ReadingLemmas.{ok_value}
use Rattle.yd_parts.specs.Fault.{Fault}
use Rattle.yd_parts.specs.Plan.{Plan, give, refuse, want, and_then, read_by, Found, LeadsTo, StandInTurn, StopsAt, PlanGives, PlanFails}
use Rattle.yd_parts.specs.Exact.{ReadsExactly}
use Rattle.yd_parts.specs.declared.fault.Spot.{Spot}

-- one more thing before those that lead to a value
first_gives : {T : Type 0} {V : T → Type 0} {S X : Type 0} (Stands : S → Found V → S → Type 0) (t : T) (next : V t → Spot → Plan V X) (v : V t) (spot : Spot) (s here : S) (x : X) (end : S) →
    Stands s (record { type = t; value = v; spot = spot }) here → PlanGives Stands (next v spot) here x end → PlanGives Stands (want t next) s x end
first_gives Stands t next v spot s here x end first later = record {
  things = record { type = t; value = v; spot = spot } ∷ later.things;
  leads = (v, spot, refl, later.leads);
  stand = (here, first, later.stand);
}

-- one more thing before those that lead to a fault
first_fails : {T : Type 0} {V : T → Type 0} {S X : Type 0} (Stands : S → Found V → S → Type 0) (Fails : T → S → Fault → Type 0) (t : T) (next : V t → Spot → Plan V X) (v : V t) (spot : Spot) (s here : S) (fault : Fault) →
    Stands s (record { type = t; value = v; spot = spot }) here → PlanFails Stands Fails (next v spot) here fault → PlanFails Stands Fails (want t next) s fault
first_fails Stands Fails t next v spot s here fault first later = record {
  things = record { type = t; value = v; spot = spot } ∷ later.things;
  rest = later.rest;
  place = later.place;
  leads = (v, spot, refl, later.leads);
  stand = (here, first, later.stand);
  stops = later.stops;
}

-- what is read is given
pub plan_gives : {T : Type 0} {V : T → Type 0} {S X : Type 0} (at : (t : T) → S → Result (V t × S) Fault) (spot_of : S → Spot) (Stands : S → Found V → S → Type 0) (Fails : T → S → Fault → Type 0) → ReadsExactly at spot_of Stands Fails →
    (plan : Plan V X) (s : S) (x : X) (end : S) → read_by at spot_of plan s ≡ Ok (x, end) → PlanGives Stands plan s x end
unfolding read_by
plan_gives at spot_of Stands Fails exact (give y) s x end read =
    let same = ok_value (y, s) (x, end) read in
    record { things = []; leads = ap (λ pair. give pair.0) same; stand = ap (λ pair. pair.1) same }
plan_gives at spot_of Stands Fails exact (refuse cause spot) s x end read = absurd cc
plan_gives {T} {V} {S} {X} at spot_of Stands Fails exact (want t next) s x end read =
    behind (at t s) refl (λ v spot here. plan_gives at spot_of Stands Fails exact (next v spot) here x end) read
  where
    behind : (first : Result (V t × S) Fault) → at t s ≡ first → ((v : V t) (spot : Spot) (here : S) → read_by at spot_of (next v spot) here ≡ Ok (x, end) → PlanGives Stands (next v spot) here x end) →
        and_then first (λ got. read_by at spot_of (next got.0 (spot_of got.1)) got.1) ≡ Ok (x, end) → PlanGives Stands (want t next) s x end
    behind (Ok got) is later there = first_gives Stands t next got.0 (spot_of got.1) s got.1 x end (exact.found t s got.0 got.1 is) (later got.0 (spot_of got.1) got.1 there)
    behind (Err fault) is later there = absurd cc

-- where reading fails, the plan fails so
pub plan_fails : {T : Type 0} {V : T → Type 0} {S X : Type 0} (at : (t : T) → S → Result (V t × S) Fault) (spot_of : S → Spot) (Stands : S → Found V → S → Type 0) (Fails : T → S → Fault → Type 0) → ReadsExactly at spot_of Stands Fails →
    (plan : Plan V X) (s : S) (fault : Fault) → read_by at spot_of plan s ≡ Err fault → PlanFails Stands Fails plan s fault
unfolding read_by
plan_fails at spot_of Stands Fails exact (give y) s fault read = absurd cc
plan_fails at spot_of Stands Fails exact (refuse cause spot) s fault read =
    let same : record { cause = cause; spot = spot } ≡ fault = cc in
    record { things = []; rest = refuse cause spot; place = s; leads = refl; stand = refl; stops = sym same }
plan_fails {T} {V} {S} {X} at spot_of Stands Fails exact (want t next) s fault read =
    behind (at t s) refl (λ v spot here. plan_fails at spot_of Stands Fails exact (next v spot) here fault) read
  where
    behind : (first : Result (V t × S) Fault) → at t s ≡ first → ((v : V t) (spot : Spot) (here : S) → read_by at spot_of (next v spot) here ≡ Err fault → PlanFails Stands Fails (next v spot) here fault) →
        and_then first (λ got. read_by at spot_of (next got.0 (spot_of got.1)) got.1) ≡ Err fault → PlanFails Stands Fails (want t next) s fault
    behind (Ok got) is later there = first_fails Stands Fails t next got.0 (spot_of got.1) s got.1 fault (exact.found t s got.0 got.1 is) (later got.0 (spot_of got.1) got.1 there)
    behind (Err other) is later there =
        let same : other ≡ fault = cc in
        record { things = []; rest = want t next; place = s; leads = refl; stand = refl; stops = exact.fails t s fault (is ∙ ap Err same) }

-- what stands there and leads to a value is read
pub gives_read : {T : Type 0} {V : T → Type 0} {S X : Type 0} (at : (t : T) → S → Result (V t × S) Fault) (spot_of : S → Spot) (Stands : S → Found V → S → Type 0) (Fails : T → S → Fault → Type 0) → ReadsExactly at spot_of Stands Fails →
    (things : List (Found V)) (plan rest : Plan V X) (s place : S) → LeadsTo plan things rest → StandInTurn Stands s things place → read_by at spot_of plan s ≡ read_by at spot_of rest place
unfolding read_by
gives_read at spot_of Stands Fails exact [] plan rest s place leads stand = ap (λ p. read_by at spot_of p s) leads ∙ ap (λ here. read_by at spot_of rest here) stand
gives_read at spot_of Stands Fails exact (thing ∷ things) (give x) rest s place leads stand = absurd leads
gives_read at spot_of Stands Fails exact (thing ∷ things) (refuse cause spot) rest s place leads stand = absurd leads
gives_read at spot_of Stands Fails exact (thing ∷ things) (want t next) rest s place leads stand =
    let first = exact.only t s leads.0 leads.1 stand.0 (subst (λ found. Stands s found stand.0) leads.2 stand.1) in
    let here : read_by at spot_of (want t next) s ≡ read_by at spot_of (next leads.0 (spot_of stand.0)) stand.0 = rw first.0 refl in
    here ∙ ap (λ spot. read_by at spot_of (next leads.0 spot) stand.0) (sym first.1) ∙ gives_read at spot_of Stands Fails exact things (next leads.0 leads.1) rest stand.0 place leads.3 stand.2

-- what a plan gives is read
pub given_read : {T : Type 0} {V : T → Type 0} {S X : Type 0} (at : (t : T) → S → Result (V t × S) Fault) (spot_of : S → Spot) (Stands : S → Found V → S → Type 0) (Fails : T → S → Fault → Type 0) → ReadsExactly at spot_of Stands Fails →
    (plan : Plan V X) (s : S) (x : X) (end : S) → PlanGives Stands plan s x end → read_by at spot_of plan s ≡ Ok (x, end)
unfolding read_by
given_read at spot_of Stands Fails exact plan s x end gives = gives_read at spot_of Stands Fails exact gives.things plan (give x) s end gives.leads gives.stand

-- how a plan fails is read
pub failed_read : {T : Type 0} {V : T → Type 0} {S X : Type 0} (at : (t : T) → S → Result (V t × S) Fault) (spot_of : S → Spot) (Stands : S → Found V → S → Type 0) (Fails : T → S → Fault → Type 0) → ReadsExactly at spot_of Stands Fails →
    (plan : Plan V X) (s : S) (fault : Fault) → PlanFails Stands Fails plan s fault → read_by at spot_of plan s ≡ Err fault
unfolding read_by
failed_read {T} {V} {S} {X} at spot_of Stands Fails exact plan s fault fails =
    gives_read at spot_of Stands Fails exact fails.things plan fails.rest s fails.place fails.leads fails.stand ∙ stopped fails.rest fails.stops
  where
    stopped : (rest : Plan V X) → StopsAt Fails rest fails.place fault → read_by at spot_of rest fails.place ≡ Err fault
    stopped (give x) stops = absurd stops
    stopped (refuse cause spot) stops = ap Err (sym stops)
    stopped (want t next) stops = let failed = exact.fails_only t fails.place fault stops in rw failed refl
