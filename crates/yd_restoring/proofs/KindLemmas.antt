-- Which contents can be made again, by their kinds.
use Rattle.std.proofs.Common.{◌≡◌, ℕ, ◌<◌, true, List, [], ◌∷◌, refl, arith}
use Rattle.yd_words.specs.Each.{Each}
use Rattle.yd_ops.specs.Operation.{UnitContent, text_unit, any_unit, json_unit, bytes, embedded, mark, nested_type, deleted_unit, gone_unit, Operation}
use Rattle.yd_copying.specs.Content.{can_be_made, kind_of}
use Rattle.yd_restoring.specs.Again.{contents}
use Rattle.yd_restoring.proofs.AgainLemmas.{IsOf}

pub kind_made : (u : UnitContent) → 0 < kind_of u → can_be_made u ≡ true
kind_made (text_unit unit) some = refl
kind_made (any_unit value) some = refl
kind_made (json_unit value) some = refl
kind_made (bytes blob) some = refl
kind_made (embedded value) some = refl
kind_made (mark key value) some = refl
kind_made (nested_type kind) some = absurd (omega (arith, some))
kind_made deleted_unit some = absurd (omega (arith, some))
kind_made gone_unit some = absurd (omega (arith, some))

pub kinds_of : (kind : ℕ) (os : List Operation) → Each (λ (o : Operation). IsOf kind o.content) os → Each (IsOf kind) (contents os)
kinds_of kind [] each = tt
kinds_of kind (o ∷ os) each = (each.0, kinds_of kind os each.1)
