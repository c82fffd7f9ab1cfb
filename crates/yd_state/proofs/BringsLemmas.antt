-- Two answers together tell whether something is brought.
use Rattle.std.proofs.Common.{◌⊎◌, inl, inr, true, false, ◌||◌, Bool, IsTrue, refl, sym, true≢false}
use Rattle.std.specs.Prelude.{◌↔◌}

pub either_tells : {A B : Type 0} (one more : Bool) → IsTrue one ↔ A → IsTrue more ↔ B → IsTrue (one || more) ↔ (A ⊎ B)
either_tells {A} {B} one more a b = (to one a, from one a)
  where
    to : (one : Bool) → IsTrue one ↔ A → IsTrue (one || more) → A ⊎ B
    to true a t = inl (a.0 refl)
    to false a t = inr (b.0 t)

    from : (one : Bool) → IsTrue one ↔ A → A ⊎ B → IsTrue (one || more)
    from true a e = refl
    from false a (inl x) = absurd (true≢false (sym (a.1 x)))
    from false a (inr y) = b.1 y
