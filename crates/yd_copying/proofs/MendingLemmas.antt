-- Halves that are alone become U+FFFD, from the front on.
use Rattle.std.proofs.Common.{◌≡◌, ℕ, zero, suc, ◌+◌, ◌<◌, ◌≤◌, ◌&&◌, true, false, List, [], ◌∷◌, ◌++◌, length, drop, get_or, refl, sym, ap, ◌∙◌, arith, true≢false, append_assoc, append-nil}
use Rattle.std.proofs.lemmas.List.{drop_all, get_or_default}
use Rattle.yd_ops.specs.Pairs.{is_high, is_low}
use Rattle.yd_copying.specs.Content.{alone, whole_units}
use Rattle.yd_copying.specs.Mending.{is_pair_at}

-- ---- pairs

pub no_pair : (us : List ℕ) (at : ℕ) → length us ≤ at + 1 → false ≡ is_pair_at us at
no_pair [] at le = refl
no_pair (u ∷ []) zero le = refl
no_pair (u ∷ v ∷ us) zero le = absurd (omega (arith, le))
no_pair (u ∷ []) (suc at) le = refl
no_pair (u ∷ v ∷ us) (suc at) le = no_pair (v ∷ us) at (omega (arith, le))

pub pair_read : (us : List ℕ) (at u v : ℕ) → at + 1 < length us → u ≡ get_or us at u → v ≡ get_or us (at + 1) v → (is_high u && is_low v) ≡ is_pair_at us at
pair_read [] at u v lt e f = absurd (omega (arith, lt))
pair_read (x ∷ []) at u v lt e f = absurd (omega (arith, lt))
pair_read (x ∷ y ∷ us) zero u v lt e f = (λ i. is_high (e i) && is_low (f i))
pair_read (x ∷ y ∷ us) (suc at) u v lt e f = pair_read (y ∷ us) at u v (omega (arith, lt)) e (f ∙ ap (λ k. get_or (x ∷ y ∷ us) k v) next)
  where
    next : suc at + 1 ≡ suc (at + 1)
    next = omega arith

pub pair_inside : (us : List ℕ) (at : ℕ) → is_pair_at us at ≡ true → at + 1 < length us
pair_inside [] at e = absurd (true≢false (sym e))
pair_inside (u ∷ []) zero e = absurd (true≢false (sym e))
pair_inside (u ∷ v ∷ us) zero e = omega arith
pair_inside (u ∷ []) (suc at) e = absurd (true≢false (sym e))
pair_inside (u ∷ v ∷ us) (suc at) e = omega (arith, pair_inside (v ∷ us) at e)

-- ---- from a place on

whole_pair : (us : List ℕ) (at d : ℕ) → is_pair_at us at ≡ true → whole_units (drop at us) ≡ get_or us at d ∷ get_or us (at + 1) d ∷ whole_units (drop (at + 2) us)
whole_pair [] at d e = absurd (true≢false (sym e))
whole_pair (u ∷ []) zero d e = absurd (true≢false (sym e))
whole_pair (u ∷ v ∷ us) zero d e = rw e refl
whole_pair (u ∷ []) (suc at) d e = absurd (true≢false (sym e))
whole_pair (u ∷ v ∷ us) (suc at) d e = whole_pair (v ∷ us) at d e ∙ (λ i. get_or (v ∷ us) at d ∷ get_or (u ∷ v ∷ us) (one i) d ∷ whole_units (drop (two i) (u ∷ v ∷ us)))
  where
    one : suc (at + 1) ≡ suc at + 1
    one = omega arith

    two : suc (at + 2) ≡ suc at + 2
    two = omega arith

whole_one : (us : List ℕ) (at d : ℕ) → at < length us → is_pair_at us at ≡ false → whole_units (drop at us) ≡ alone (get_or us at d) ∷ whole_units (drop (at + 1) us)
whole_one [] at d lt e = absurd (omega (arith, lt))
whole_one (u ∷ []) zero d lt e = refl
whole_one (u ∷ v ∷ us) zero d lt e = rw e refl
whole_one (u ∷ []) (suc at) d lt e = absurd (omega (arith, lt))
whole_one (u ∷ v ∷ us) (suc at) d lt e = whole_one (v ∷ us) at d (omega (arith, lt)) e ∙ (λ i. alone (get_or (v ∷ us) at d) ∷ whole_units (drop (one i) (u ∷ v ∷ us)))
  where
    one : suc (at + 1) ≡ suc at + 1
    one = omega arith

-- ---- lemmas for callers

pub pair_next : (us old mid new : List ℕ) (at u v : ℕ) → is_pair_at us at ≡ true → u ≡ get_or us at u → v ≡ get_or us (at + 1) v → mid ≡ old ++ u ∷ [] → new ≡ mid ++ v ∷ [] →
    new ++ whole_units (drop (at + 2) us) ≡ old ++ whole_units (drop at us)
pair_next us old mid new at u v e a b m n =
    ap (λ ns. ns ++ rest) (n ∙ ap (λ ns. ns ++ v ∷ []) m ∙ append_assoc old (u ∷ []) (v ∷ [])) ∙ append_assoc old (u ∷ v ∷ []) rest
    ∙ ap (λ ns. old ++ ns) ((λ i. here i ∷ there i ∷ rest) ∙ sym (whole_pair us at u e))
  where
    rest : List ℕ
    rest = whole_units (drop (at + 2) us)

    here : u ≡ get_or us at u
    here = a

    there : v ≡ get_or us (at + 1) u
    there = b ∙ get_or_default us (at + 1) v u (pair_inside us at e)

pub one_next : (us old new : List ℕ) (at u w : ℕ) → at < length us → is_pair_at us at ≡ false → u ≡ get_or us at u → w ≡ alone u → new ≡ old ++ w ∷ [] →
    new ++ whole_units (drop (at + 1) us) ≡ old ++ whole_units (drop at us)
one_next us old new at u w lt e a m n =
    ap (λ ns. ns ++ rest) n ∙ append_assoc old (w ∷ []) rest ∙ ap (λ ns. old ++ ns) ((λ i. (m ∙ ap alone a) i ∷ rest) ∙ sym (whole_one us at u lt e))
  where
    rest : List ℕ
    rest = whole_units (drop (at + 1) us)

pub whole_ends : (us whole : List ℕ) (at : ℕ) → length us ≤ at → whole ++ whole_units (drop at us) ≡ whole_units us → whole ≡ whole_units us
whole_ends us whole at le e = sym (append-nil whole) ∙ ap (λ ns. whole ++ whole_units ns) (sym (drop_all at us le)) ∙ e

pub pair_at : (us : List ℕ) (at : ℕ) → at + 1 < length us → (is_high (get_or us at 0) && is_low (get_or us (at + 1) 0)) ≡ is_pair_at us at
pair_at us at lt = pair_read us at (get_or us at 0) (get_or us (at + 1) 0) lt (get_or_default us at 0 (get_or us at 0) (omega (arith, lt))) (get_or_default us (at + 1) 0 (get_or us (at + 1) 0) lt)
