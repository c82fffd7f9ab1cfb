-- Where units are cut: what stands at the cut, and what stays whole.
use Rattle.std.proofs.Common.{◌≡◌, ℕ, suc, ◌+◌, ◌-◌, ◌≤◌, List, [], ◌∷◌, ◌++◌, length, get_or, take, drop, refl, append_assoc, arith, length-append}
use Rattle.std.proofs.lemmas.List.{take-append-drop, length-take-le}
use Rattle.yd_units.specs.Half.{IsHigh, IsLow, IsCut, IsWhole}
use Rattle.yd_units.proofs.HalfLemmas.{WholeAfter, whole_after, after_whole, calm, low_within}

-- the last of some units behind a unit
abbrev pub last_of : ℕ → List ℕ → ℕ
last_of u [] = u
last_of u (v ∷ us) = last_of v us

-- a pair stands where the lists meet
abbrev pub Meet : List ℕ → List ℕ → Type 0
Meet xs ys = IsHigh (last_of 0 xs) × IsLow (get_or ys 0 0)

last_at : (u : ℕ) (xs ys : List ℕ) → get_or (u ∷ xs ++ ys) (length xs) 0 ≡ last_of u xs
last_at u [] ys = refl
last_at u (v ∷ xs) ys = last_at v xs ys

next_at : (xs ys : List ℕ) → get_or (xs ++ ys) (length xs) 0 ≡ get_or ys 0 0
next_at [] ys = refl
next_at (x ∷ xs) ys = next_at xs ys

last_of-push : (v : ℕ) (xs : List ℕ) (u : ℕ) → last_of v (xs ++ u ∷ []) ≡ u
last_of-push v [] u = refl
last_of-push v (x ∷ xs) u = last_of-push x xs u

quiet_end : (u : ℕ) (ys : List ℕ) → WholeAfter u ys → ¬ (IsHigh u × IsLow (get_or ys 0 0)) → ¬ (IsHigh u)
quiet_end u [] w apart = w
quiet_end u (y ∷ ys) w apart = λ high. apart (high, w.0.0 high)

front_after : (u : ℕ) (xs ys : List ℕ) → WholeAfter u (xs ++ ys) → ¬ (IsHigh (last_of u xs) × IsLow (get_or ys 0 0)) → WholeAfter u xs
front_after u [] ys w apart = quiet_end u ys w apart
front_after u (x ∷ xs) ys w apart = (w.0, front_after x xs ys w.1 apart)

back_after : (u : ℕ) (xs ys : List ℕ) → WholeAfter u (xs ++ ys) → ¬ (IsHigh (last_of u xs) × IsLow (get_or ys 0 0)) → WholeAfter 0 ys
back_after u [] ys w apart = calm u ys w (quiet_end u ys w apart)
back_after u (x ∷ xs) ys w apart = back_after x xs ys w.1 apart

joined_after : (u : ℕ) (xs ys : List ℕ) → WholeAfter u xs → WholeAfter 0 ys → WholeAfter u (xs ++ ys)
joined_after u [] [] w v = w
joined_after u [] (y ∷ ys) w v = ((λ high. absurd (w high), λ low. absurd (omega (arith, v.0.1 low))), v.1)
joined_after u (x ∷ xs) ys w v = (w.0, joined_after x xs ys w.1 v)

-- ---- lemmas for callers

-- where a pair stands at the seam, a cut there parts it
pub cut_at_seam : (xs ys : List ℕ) → Meet xs ys → IsCut (xs ++ ys) (length xs)
cut_at_seam [] ys m = absurd (omega (arith, m.0))
cut_at_seam (x ∷ xs) ys m =
    let before : suc (length xs) - 1 ≡ length xs = omega arith in
    record {
      inside = (omega arith, omega (arith, low_within ys 0 m.1, length-append (x ∷ xs) ys));
      high = rw (before, last_at x xs ys) m.0;
      low = rw (next_at xs ys) m.1;
    }

-- the same one unit further on
pub next_cut : (xs : List ℕ) (u : ℕ) (ys : List ℕ) → IsHigh u × IsLow (get_or ys 0 0) → IsCut (xs ++ u ∷ ys) (length xs + 1)
next_cut xs u ys m =
    let joined : (xs ++ u ∷ []) ++ ys ≡ xs ++ u ∷ ys = append_assoc xs (u ∷ []) ys in
    let longer : length (xs ++ u ∷ []) ≡ length xs + 1 = omega (arith, length-append xs (u ∷ [])) in
    rw (joined, longer) at (cut_at_seam (xs ++ u ∷ []) ys (rw (last_of-push 0 xs u) m))

-- where a cut parts no pair, no pair stands at the seam
pub seam_apart : (us : List ℕ) (n : ℕ) → n ≤ length us → ¬ (IsCut us n) → ¬ (Meet (take n us) (drop n us))
seam_apart us n le uncut = λ m. uncut (rw (take-append-drop n us, length-take-le n us le) at (cut_at_seam (take n us) (drop n us) m))

pub front_whole : (us : List ℕ) (n : ℕ) → n ≤ length us → IsWhole us → ¬ (IsCut us n) → IsWhole (take n us)
front_whole us n le w uncut = after_whole (take n us) (front_after 0 (take n us) (drop n us) (rw (take-append-drop n us) (whole_after us w)) (seam_apart us n le uncut))

pub back_whole : (us : List ℕ) (n : ℕ) → n ≤ length us → IsWhole us → ¬ (IsCut us n) → IsWhole (drop n us)
back_whole us n le w uncut = after_whole (drop n us) (back_after 0 (take n us) (drop n us) (rw (take-append-drop n us) (whole_after us w)) (seam_apart us n le uncut))

pub joined_whole : (before after : List ℕ) → IsWhole before → IsWhole after → IsWhole (before ++ after)
joined_whole before after w v = after_whole (before ++ after) (joined_after 0 before after (whole_after before w) (whole_after after v))
