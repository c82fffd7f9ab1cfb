-- What is made again of units: each as it was, but half of a pair that stands alone, which is made as U+FFFD (own).
use Rattle.std.specs.Prelude.{◌≡◌, ◌⊎◌, List, [], ◌∷◌, map}
use Rattle.yd_ops.specs.Operation.{UnitContent, text_unit, any_unit, json_unit, bytes, embedded, mark, nested_type, deleted_unit, gone_unit, Operation}
use Rattle.yd_copying.specs.Content.{alone}

-- what units hold
abbrev pub contents : List Operation → List UnitContent
contents os = map (λ (o : Operation). o.content) os

-- a unit that stands alone
abbrev pub plain : UnitContent → UnitContent
plain (text_unit unit) = text_unit (alone unit)
plain (any_unit value) = any_unit value
plain (json_unit value) = json_unit value
plain (bytes blob) = bytes blob
plain (embedded value) = embedded value
plain (mark key value) = mark key value
plain (nested_type kind) = nested_type kind
plain deleted_unit = deleted_unit
plain gone_unit = gone_unit

-- one unit holds what another held, or what this is alone
abbrev pub IsAgain : UnitContent → UnitContent → Type 0
IsAgain new old = (new ≡ old) ⊎ (new ≡ plain old)

-- so it is of as many units, one by one
abbrev pub AreAgain : List UnitContent → List UnitContent → Type 0
AreAgain [] [] = Unit {0}
AreAgain [] (old ∷ olds) = ⊥
AreAgain (new ∷ news) [] = ⊥
AreAgain (new ∷ news) (old ∷ olds) = IsAgain new old × AreAgain news olds
