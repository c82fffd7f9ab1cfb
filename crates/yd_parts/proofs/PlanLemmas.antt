-- Reading by a plan, step by step.
use Rattle.std.proofs.Common.{◌≡◌, ◌<◌, ◌≤◌, ◌+◌, ◌-◌, ◌∙◌, ℕ, suc, Result, Ok, Err, refl, arith}
use Rattle.yd_parts.specs.Fault.{Fault}
use Rattle.yd_parts.specs.Plan.{Plan, give, refuse, want, ◌>>=◌, and_then, read_by, repeated}
use Rattle.yd_parts.specs.declared.fault.Spot.{Spot}

-- two plans in a row are read one after the other
pub read_by_bind : {T : Type 0} {V : T → Type 0} {S X Y : Type 0} (at : (t : T) → S → Result (V t × S) Fault) (spot_of : S → Spot) (plan : Plan V X) (next : X → Plan V Y) (s : S) →
    read_by at spot_of (plan >>= next) s ≡ and_then (read_by at spot_of plan s) (λ read. read_by at spot_of (next read.0) read.1)
unfolding ◌>>=◌ read_by
read_by_bind at spot_of (give x) next s = refl
read_by_bind at spot_of (refuse cause spot) next s = refl
read_by_bind {T} {V} {S} {X} {Y} at spot_of (want t go) next s = go_on (at t s) (λ v spot left. read_by_bind at spot_of (go v spot) next left)
  where
    go_on : (first : Result (V t × S) Fault) → ((v : V t) (spot : Spot) (left : S) → read_by at spot_of (go v spot >>= next) left ≡ and_then (read_by at spot_of (go v spot) left) (λ read. read_by at spot_of (next read.0) read.1)) →
        and_then first (λ read. read_by at spot_of (go read.0 (spot_of read.1) >>= next) read.1) ≡ and_then (and_then first (λ read. read_by at spot_of (go read.0 (spot_of read.1)) read.1)) (λ read. read_by at spot_of (next read.0) read.1)
    go_on (Ok read) later = later read.0 (spot_of read.1) read.1
    go_on (Err fault) later = refl

-- the steps that are left, after one more
pub repeated_more : {T : Type 0} {V : T → Type 0} {S A : Type 0} (at : (t : T) → S → Result (V t × S) Fault) (spot_of : S → Spot) (step : A → Plan V A) (count i : ℕ) (now more : A) (s next : S) →
    i < count → read_by at spot_of (step now) s ≡ Ok (more, next) →
    read_by at spot_of (repeated step (count - i) now) s ≡ read_by at spot_of (repeated step (count - (i + 1)) more) next
unfolding repeated
repeated_more at spot_of step count i now more s next within read =
    let left : count - i ≡ suc (count - (i + 1)) = omega arith in
    rw left (read_by_bind at spot_of (step now) (λ a. repeated step (count - (i + 1)) a) s ∙ rw read refl)

-- the steps that are left, where the next one fails
pub repeated_fails : {T : Type 0} {V : T → Type 0} {S A : Type 0} (at : (t : T) → S → Result (V t × S) Fault) (spot_of : S → Spot) (step : A → Plan V A) (count i : ℕ) (now : A) (s : S) (fault : Fault) →
    i < count → read_by at spot_of (step now) s ≡ Err fault →
    read_by at spot_of (repeated step (count - i) now) s ≡ Err fault
unfolding repeated
repeated_fails at spot_of step count i now s fault within read =
    let left : count - i ≡ suc (count - (i + 1)) = omega arith in
    rw left (read_by_bind at spot_of (step now) (λ a. repeated step (count - (i + 1)) a) s ∙ rw read refl)

-- no step is left
pub repeated_done : {T : Type 0} {V : T → Type 0} {S A : Type 0} (at : (t : T) → S → Result (V t × S) Fault) (spot_of : S → Spot) (step : A → Plan V A) (count i : ℕ) (now : A) (s : S) → count ≤ i →
    read_by at spot_of (repeated step (count - i) now) s ≡ Ok (now, s)
unfolding repeated read_by
repeated_done at spot_of step count i now s all =
    let none : count - i ≡ 0 = omega arith in
    rw none refl

-- readings behind one that go on alike
pub then_same : {A B E : Type 0} (first : Result A E) (next other : A → Result B E) → ((x : A) → next x ≡ other x) → and_then first next ≡ and_then first other
then_same (Ok x) next other alike = alike x
then_same (Err fault) next other alike = refl
