-- The law of comparing runs, as a statement.
use Rattle.std.specs.Prelude.{List, ◌++◌, ◌∷◌, [], Option}
use Rattle.yd_words.specs.Each.{Each}
use Rattle.yd_ids.specs.declared.id.Id.{Id}
use Rattle.yd_ops.specs.Value.{RunValue}
use Rattle.yd_agreement.specs.Differing.{Differ, DifferAmong, content_of, place_of}
use Rattle.yd_agreement.specs.First.{IsFirst, first_of}
use Rattle.yd_agreement.specs.Runs.{ComesBy, IsCover}

-- runs come in the order of their first ids. With one more, the first id on which two of them differ in content is that of before, or the
-- first one on which the next run and the one that ends last do; and so it is with their places
pub record NextIsComparedWithCover : Type 0 where
  pub contents : (runs : List RunValue) (cover next : RunValue) (best found : Option Id) → IsCover runs cover → Each (λ (s : RunValue). ComesBy s.id next.id) runs →
      IsFirst (DifferAmong content_of runs) best → IsFirst (Differ content_of cover next) found → IsFirst (DifferAmong content_of (runs ++ next ∷ [])) (first_of best found)
  pub places : (runs : List RunValue) (cover next : RunValue) (best found : Option Id) → IsCover runs cover → Each (λ (s : RunValue). ComesBy s.id next.id) runs →
      IsFirst (DifferAmong place_of runs) best → IsFirst (Differ place_of cover next) found → IsFirst (DifferAmong place_of (runs ++ next ∷ [])) (first_of best found)
