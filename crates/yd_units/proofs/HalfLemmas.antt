-- Whole units, one behind the other.
use Rattle.std.proofs.Common.{◌≡◌, ◌↔◌, ℕ, zero, suc, ◌+◌, ◌-◌, ◌<◌, ◌≤◌, List, [], ◌∷◌, length, get_or, drop, inl, inr, add-one, arith}
use Rattle.std.proofs.Math.ListN.{get_or-eq_default}
use Rattle.std.proofs.lemmas.Bool.{cases_lt}
use Rattle.std.proofs.lemmas.List.{drop_all, drop_more}
use Rattle.yd_units.specs.Half.{IsHigh, IsLow, IsCut, IsWhole}

-- whole behind this unit: a low half stands just where the unit before it is a high one
abbrev pub WholeAfter : ℕ → List ℕ → Type 0
WholeAfter u [] = ¬ (IsHigh u)
WholeAfter u (v ∷ us) = (IsHigh u ↔ IsLow v) × WholeAfter v us

-- the same, place by place
abbrev pub AreMatched : ℕ → List ℕ → Type 0
AreMatched u us = (i : ℕ) → IsHigh (get_or (u ∷ us) i 0) ↔ IsLow (get_or us i 0)

no_high : (u : ℕ) → IsLow u → ¬ (IsHigh u)
no_high u low high = absurd (omega arith)

after_matched : (u : ℕ) (us : List ℕ) → AreMatched u us → WholeAfter u us
after_matched u [] m = λ high. absurd (omega (arith, (m 0).0 high))
after_matched u (v ∷ us) m = (m 0, after_matched v us (λ i. m (suc i)))

matched_after : (u : ℕ) (us : List ℕ) → WholeAfter u us → AreMatched u us
matched_after u [] w zero = (λ high. absurd (w high), λ low. absurd (omega arith))
matched_after u [] w (suc i) = (λ high. absurd (omega arith), λ low. absurd (omega arith))
matched_after u (v ∷ us) w zero = w.0
matched_after u (v ∷ us) w (suc i) = matched_after v us w.1 i

pub low_within : (us : List ℕ) (i : ℕ) → IsLow (get_or us i 0) → i < length us
low_within us i low = elim (cases_lt i (length us)) [
  | inl lt ↦ lt
  | inr le ↦ absurd (omega (arith, get_or-eq_default us 0 {n = i} le))
]

matched_whole : (us : List ℕ) → IsWhole us → AreMatched 0 us
matched_whole us w zero = (λ high. absurd (omega arith), λ low. absurd (omega (arith, (w.lows 0 low).inside.0)))
matched_whole us w (suc i) = (
  λ high. rw add-one at (w.highs i high).low,
  λ low. let before : suc i - 1 ≡ i = omega arith in rw before at (w.lows (suc i) low).high,
)

whole_matched : (us : List ℕ) → AreMatched 0 us → IsWhole us
whole_matched us m = record {
  highs = λ i high. let low : IsLow (get_or us (i + 1) 0) = rw add-one ((m (suc i)).0 high) in let before : i + 1 - 1 ≡ i = omega arith in record { inside = (omega arith, low_within us (i + 1) low); high = rw before high; low = low };
  lows = at;
} where
  at : (i : ℕ) → IsLow (get_or us i 0) → IsCut us i
  at zero low = absurd (omega (arith, (m 0).1 low))
  at (suc i) low = let before : suc i - 1 ≡ i = omega arith in record { inside = (omega arith, low_within us (suc i) low); high = rw before ((m (suc i)).1 low); low = low }

-- ---- lemmas for callers

-- whole units are whole behind a unit that is no half
pub whole_after : (us : List ℕ) → IsWhole us → WholeAfter 0 us
whole_after us w = after_matched 0 us (matched_whole us w)

pub after_whole : (us : List ℕ) → WholeAfter 0 us → IsWhole us
after_whole us w = whole_matched us (matched_after 0 us w)

-- behind a unit that is no high half they are whole by themselves
pub calm : (u : ℕ) (us : List ℕ) → WholeAfter u us → ¬ (IsHigh u) → WholeAfter 0 us
calm u [] w quiet = λ high. absurd (omega arith)
calm u (v ∷ us) w quiet = ((λ high. absurd (omega arith), λ low. absurd (quiet (w.0.1 low))), w.1)

-- a walk over the units, of which some are left: one more, and none
pub walk_more : (P : Type 0) (us : List ℕ) (b i : ℕ) → i < length us → (P ↔ WholeAfter b (drop i us)) → (IsHigh b ↔ IsLow (get_or us i 0)) → P ↔ WholeAfter (get_or us i 0) (drop (i + 1) us)
walk_more P us b i lt h m = (λ p. (rw (drop_more us i 0 lt) at (h.0 p)).1, λ w. h.1 (rw (drop_more us i 0 lt) (m, w)))

pub walk_end : (P : Type 0) (us : List ℕ) (b i : ℕ) → length us ≤ i → (P ↔ WholeAfter b (drop i us)) → P ↔ ¬ (IsHigh b)
walk_end P us b i le h = rw (drop_all i us le) at h
