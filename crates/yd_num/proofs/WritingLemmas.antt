-- Numbers as they are written: one group after the other, as a loop does.
use Rattle.std.proofs.Common.{◌≡◌, ℕ, zero, suc, ◌+◌, ◌/◌, ◌%◌, ◌^◌, ◌<◌, ◌≤◌, List, [], ◌∷◌, ◌++◌, refl, sym, ap, ◌∙◌, append_assoc, append-nil, arith}
use Rattle.std.proofs.Math.Nat.{pow-suc}
use Rattle.std.proofs.lemmas.Bool.{lt-ltb, le-ltb}
use Rattle.yd_num.specs.Writing.{shortest, shortest_groups}

pub groups-last : (most v : ℕ) → v < 128 → shortest_groups (suc most) v ≡ v ∷ []
unfolding shortest_groups
groups-last most v lt = rw (lt-ltb v 128 lt) refl

pub shortest_one : (v : ℕ) → v < 128 → shortest v ≡ v ∷ []
unfolding shortest
shortest_one v lt = groups-last 7 v lt

pub groups-more : (most v : ℕ) → 128 ≤ v → shortest_groups (suc most) v ≡ (v % 128 + 128) ∷ shortest_groups most (v / 128)
unfolding shortest_groups
groups-more most v le = rw (le-ltb v 128 le) refl

-- without its lowest seven bits, a number fits into one group less
pub rest_fits : (left v : ℕ) → v < 128 ^ suc left → v / 128 < 128 ^ left
rest_fits left v fits = omega (arith, pow-suc 128 left)

-- ---- a loop that writes

-- behind the old bytes stand the groups so far, and with those of the rest they are the whole number's
pub record SoFar (old bytes : List ℕ) (v rest : ℕ) : Type 0 where
  pub left : ℕ
  pub groups : List ℕ
  pub fits : rest < 128 ^ suc left
  pub stand : bytes ≡ old ++ groups
  pub joins : groups ++ shortest_groups (suc left) rest ≡ shortest v

pub so_far-init : (old : List ℕ) (v : ℕ) → v < 2 ^ 56 → SoFar old old v v
unfolding shortest
so_far-init old v lt = record { left = 7; groups = []; fits = omega arith; stand = sym (append-nil old); joins = refl }

-- one group that says more follow
more_joins : (groups all : List ℕ) (left rest : ℕ) → 128 ≤ rest → groups ++ shortest_groups (suc left) rest ≡ all → (groups ++ (rest % 128 + 128) ∷ []) ++ shortest_groups left (rest / 128) ≡ all
more_joins groups all left rest le joins =
    append_assoc groups ((rest % 128 + 128) ∷ []) (shortest_groups left (rest / 128)) ∙ ap (λ (l : List ℕ). groups ++ l) (sym (groups-more left rest le)) ∙ joins

more_stand : (old bytes groups : List ℕ) (b : ℕ) → bytes ≡ old ++ groups → bytes ++ b ∷ [] ≡ old ++ (groups ++ b ∷ [])
more_stand old bytes groups b stand = ap (λ (l : List ℕ). l ++ b ∷ []) stand ∙ append_assoc old groups (b ∷ [])

more_left : (old bytes : List ℕ) (v rest left : ℕ) (groups : List ℕ) → 128 ≤ rest → rest < 128 ^ suc left → bytes ≡ old ++ groups → groups ++ shortest_groups (suc left) rest ≡ shortest v
    → SoFar old (bytes ++ (rest % 128 + 128) ∷ []) v (rest / 128)
more_left old bytes v rest zero groups le fits stand joins = absurd (omega arith)
more_left old bytes v rest (suc left) groups le fits stand joins = record {
  left = left;
  groups = groups ++ (rest % 128 + 128) ∷ [];
  fits = rest_fits (suc left) rest fits;
  stand = more_stand old bytes groups (rest % 128 + 128) stand;
  joins = more_joins groups (shortest v) (suc left) rest le joins;
}

pub so_far-more : (old bytes : List ℕ) (v rest : ℕ) → 128 ≤ rest → SoFar old bytes v rest → SoFar old (bytes ++ (rest % 128 + 128) ∷ []) v (rest / 128)
so_far-more old bytes v rest le so_far = more_left old bytes v rest so_far.left so_far.groups le so_far.fits so_far.stand so_far.joins

-- the last group
pub so_far-last : (old bytes : List ℕ) (v rest : ℕ) → rest < 128 → SoFar old bytes v rest → bytes ++ rest ∷ [] ≡ old ++ shortest v
so_far-last old bytes v rest lt so_far =
    more_stand old bytes so_far.groups rest so_far.stand ∙ ap (λ (l : List ℕ). old ++ (so_far.groups ++ l)) (sym (groups-last so_far.left rest lt)) ∙ ap (λ (l : List ℕ). old ++ l) so_far.joins
