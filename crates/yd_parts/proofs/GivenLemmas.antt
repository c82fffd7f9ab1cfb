-- What a plan gives, whatever is read, and what is left behind it.
use Rattle.std.proofs.Common.{◌≡◌, ℕ, zero, suc, List, [], ◌∷◌, Result, Ok, Err, refl, ap, subst}
use Rattle.yd_num.proofs.ReadingLemmas.{ok_value}
use Rattle.yd_parts.specs.Fault.{Fault}
use Rattle.yd_parts.specs.Plan.{Found, LeadsTo, Plan, give, refuse, want, ◌>>=◌, and_then, read_by, repeated}
use Rattle.yd_parts.specs.declared.fault.Spot.{Spot}

-- each value that the plan gives has P, where each value that is read fits its type
abbrev pub GivesOnly : {T : Type 0} {V : T → Type 0} {X : Type 0} → ((t : T) → V t → Type 0) → (X → Type 0) → Plan V X → Type 0
GivesOnly Fits P (give x) = P x
GivesOnly Fits P (refuse cause spot) = Unit {0}
GivesOnly {T} {V} Fits P (want t next) = (v : V t) (spot : Spot) → Fits t v → GivesOnly Fits P (next v spot)

-- where what is read from is sound, what it gives fits its type, and what is left is sound again
abbrev pub StaysSound : {T : Type 0} {V : T → Type 0} {S : Type 0} → ((t : T) → S → Result (V t × S) Fault) → ((t : T) → V t → Type 0) → (S → Type 0) → Type 0
StaysSound {T} {V} {S} at Fits IsSound = (t : T) (now : S) (v : V t) (next : S) → IsSound now → at t now ≡ Ok (v, next) → Fits t v × IsSound next

-- what reading gives has P
pub given : {T : Type 0} {V : T → Type 0} {S X : Type 0} (at : (t : T) → S → Result (V t × S) Fault) (spot_of : S → Spot) (Fits : (t : T) → V t → Type 0) (IsSound : S → Type 0) (P : X → Type 0) (plan : Plan V X) (s : S) (x : X) (left : S) →
    StaysSound at Fits IsSound → GivesOnly Fits P plan → IsSound s → read_by at spot_of plan s ≡ Ok (x, left) → P x
unfolding read_by
given at spot_of Fits IsSound P (give y) s x left fits only sound read = subst P (ap (λ read. read.0) (ok_value (y, s) (x, left) read)) only
given at spot_of Fits IsSound P (refuse cause spot) s x left fits only sound read = absurd cc
given {T} {V} {S} {X} at spot_of Fits IsSound P (want t next) s x left fits only sound read =
    behind (at t s) refl (λ v spot now. given at spot_of Fits IsSound P (next v spot) now x left fits) read
  where
    behind : (first : Result (V t × S) Fault) → at t s ≡ first → ((v : V t) (spot : Spot) (now : S) → GivesOnly Fits P (next v spot) → IsSound now → read_by at spot_of (next v spot) now ≡ Ok (x, left) → P x) →
        and_then first (λ got. read_by at spot_of (next got.0 (spot_of got.1)) got.1) ≡ Ok (x, left) → P x
    behind (Ok got) is later there =
        let has = fits t s got.0 got.1 sound is in
        later got.0 (spot_of got.1) got.1 (only got.0 (spot_of got.1) has.0) has.1 there
    behind (Err fault) is later there = absurd cc

-- what is left behind a plan is sound
pub keeps : {T : Type 0} {V : T → Type 0} {S X : Type 0} (at : (t : T) → S → Result (V t × S) Fault) (spot_of : S → Spot) (Fits : (t : T) → V t → Type 0) (IsSound : S → Type 0) (plan : Plan V X) (s : S) (x : X) (left : S) →
    StaysSound at Fits IsSound → IsSound s → read_by at spot_of plan s ≡ Ok (x, left) → IsSound left
unfolding read_by
keeps at spot_of Fits IsSound (give y) s x left fits sound read = subst IsSound (ap (λ read. read.1) (ok_value (y, s) (x, left) read)) sound
keeps at spot_of Fits IsSound (refuse cause spot) s x left fits sound read = absurd cc
keeps {T} {V} {S} {X} at spot_of Fits IsSound (want t next) s x left fits sound read =
    behind (at t s) refl (λ v spot now. keeps at spot_of Fits IsSound (next v spot) now x left fits) read
  where
    behind : (first : Result (V t × S) Fault) → at t s ≡ first → ((v : V t) (spot : Spot) (now : S) → IsSound now → read_by at spot_of (next v spot) now ≡ Ok (x, left) → IsSound left) →
        and_then first (λ got. read_by at spot_of (next got.0 (spot_of got.1)) got.1) ≡ Ok (x, left) → IsSound left
    behind (Ok got) is later there = later got.0 (spot_of got.1) got.1 (fits t s got.0 got.1 sound is).1 there
    behind (Err fault) is later there = absurd cc

-- two plans in a row
pub gives_only_bind : {T : Type 0} {V : T → Type 0} {X Y : Type 0} (Fits : (t : T) → V t → Type 0) (P : X → Type 0) (Q : Y → Type 0) (plan : Plan V X) (next : X → Plan V Y) →
    GivesOnly Fits P plan → ((x : X) → P x → GivesOnly Fits Q (next x)) → GivesOnly Fits Q (plan >>= next)
unfolding ◌>>=◌
gives_only_bind Fits P Q (give x) next first later = later x first
gives_only_bind Fits P Q (refuse cause spot) next first later = tt
gives_only_bind Fits P Q (want t go) next first later = λ v spot fits. gives_only_bind Fits P Q (go v spot) next (first v spot fits) later

-- a step so many times
pub gives_only_repeated : {T : Type 0} {V : T → Type 0} {A : Type 0} (Fits : (t : T) → V t → Type 0) (P : A → Type 0) (step : A → Plan V A) (count : ℕ) (now : A) →
    P now → ((a : A) → P a → GivesOnly Fits P (step a)) → GivesOnly Fits P (repeated step count now)
unfolding repeated
gives_only_repeated Fits P step zero now first each = first
gives_only_repeated Fits P step (suc count) now first each = gives_only_bind Fits P P (step now) (λ a. repeated step count a) (each now first) (λ a has. gives_only_repeated Fits P step count a has each)

-- whatever is found, what it leads to has P
pub leads_only : {T : Type 0} {V : T → Type 0} {X : Type 0} (P : X → Type 0) (plan : Plan V X) (found : List (Found V)) (x : X) → GivesOnly (λ t v. Unit {0}) P plan → LeadsTo plan found (give x) → P x
leads_only P (give y) [] x only leads = let same : y ≡ x = cc in subst P same only
leads_only P (refuse cause spot) [] x only leads = absurd cc
leads_only P (want t next) [] x only leads = absurd cc
leads_only P (give y) (thing ∷ found) x only leads = absurd leads
leads_only P (refuse cause spot) (thing ∷ found) x only leads = absurd leads
leads_only P (want t next) (thing ∷ found) x only leads = leads_only P (next leads.0 leads.1) found x (only leads.0 leads.1 tt) leads.3
