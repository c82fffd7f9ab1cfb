-- Sums over the places of a list.
use Rattle.std.proofs.Common.{◌≡◌, ◌≢◌, ℕ, ◌+◌, ◌≤◌, inl, inr, List, [], ◌∷◌, ◌++◌, Option, refl, sym, ap, ◌∙◌, subst, arith}
use Rattle.yd_words.specs.Member.{IsIn, AreDistinct}
use Rattle.yd_chains.specs.Chain.{up_to, behind, put_behind}
use Rattle.yd_chains.proofs.ChainLemmas.{parts_are}
use Rattle.yd_arena.specs.Marks.{total}

pub total_append : (f : ℕ → ℕ) (xs ys : List ℕ) → total f (xs ++ ys) ≡ total f xs + total f ys
total_append f [] ys = omega arith
total_append f (x ∷ xs) ys = omega (arith, total_append f xs ys)

pub total_same : (f g : ℕ → ℕ) (xs : List ℕ) → ((i : ℕ) → IsIn i xs → f i ≡ g i) → total f xs ≡ total g xs
total_same f g [] same = refl
total_same f g (x ∷ xs) same = omega (arith, same x (inl refl), total_same f g xs (λ i m. same i (inr m)))

-- what one place has is not more than the sum
pub total_has : (f : ℕ → ℕ) (p : ℕ) (xs : List ℕ) → IsIn p xs → f p ≤ total f xs
total_has f p [] m = absurd m
total_has f p (x ∷ xs) (inl e) = omega (arith, ap f e)
total_has f p (x ∷ xs) (inr m) = omega (arith, total_has f p xs m)

-- where one place has less, so has the sum
pub total_less : (f g : ℕ → ℕ) (p d : ℕ) (xs : List ℕ) → AreDistinct xs → IsIn p xs → f p ≡ g p + d → ((i : ℕ) → i ≢ p → IsIn i xs → f i ≡ g i) → total f xs ≡ total g xs + d
total_less f g p d [] dist m at others = absurd m
total_less f g p d (x ∷ xs) dist (inl e) at others =
    omega (arith, at, ap f e, ap g e, total_same f g xs (λ i m. others i (λ is. dist.0 (subst (λ y. IsIn y xs) (is ∙ e) m)) (inr m)))
total_less f g p d (x ∷ xs) dist (inr m) at others =
    omega (arith, others x (λ is. dist.0 (subst (λ y. IsIn y xs) (sym is) m)) (inl refl), total_less f g p d xs dist.1 m at (λ i ne h. others i ne (inr h)))

-- one place more
pub total_put : (f : ℕ → ℕ) (after : Option ℕ) (new : ℕ) (xs : List ℕ) → total f (put_behind after new xs) ≡ f new + total f xs
total_put f after new xs =
    let parts : total f (up_to after xs ++ behind after xs) ≡ total f xs = ap (total f) (parts_are after xs) in
    omega (arith, parts, total_append f (up_to after xs) (behind after xs), total_append f (up_to after xs) (new ∷ behind after xs))
