-- When all ids of a list are among operations.
use Rattle.std.proofs.Common.{◌≡◌, true, List, [], ◌∷◌, inl, inr, refl, sym, subst}
use Rattle.yd_words.specs.Member.{IsIn}
use Rattle.yd_words.proofs.TestLemmas.{both_hold}
use Rattle.yd_ids.specs.declared.id.Id.{Id}
use Rattle.yd_ops.specs.Operation.{Operation}
use Rattle.yd_ops.specs.Received.{has_operation}
use Rattle.yd_meaning.specs.Held.{has_all}

-- each id is there, where all are
pub all_has : (os : List Operation) (xs : List Id) → has_all os xs ≡ true → (x : Id) → IsIn x xs → has_operation os x ≡ true
all_has os [] e x i = absurd i
all_has os (y ∷ ys) e x (inl g) = subst (λ z. has_operation os z ≡ true) (sym g) (both_hold (has_operation os y) (has_all os ys) e).0
all_has os (y ∷ ys) e x (inr i) = all_has os ys (both_hold (has_operation os y) (has_all os ys) e).1 x i

-- all are there, where each is
pub has_each : (os : List Operation) (xs : List Id) → ((x : Id) → IsIn x xs → has_operation os x ≡ true) → has_all os xs ≡ true
has_each os [] f = refl
has_each os (y ∷ ys) f = rw (f y (inl refl)) (has_each os ys (λ x i. f x (inr i)))
