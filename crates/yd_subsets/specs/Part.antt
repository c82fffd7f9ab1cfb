-- Parts of a set of ids: those of its ids that pass a test (own).
use Rattle.std.specs.Prelude.{◌≡◌, ◌↔◌, ℕ, zero, suc, ◌+◌, Bool, true, ◌⊎◌, List, [], ◌∷◌, ◌++◌, filter, map}
use Rattle.yd_words.specs.Each.{Each}
use Rattle.yd_ids.specs.declared.id.Client.{Client}
use Rattle.yd_ids.specs.declared.id.Id.{Id}
use Rattle.yd_ids.specs.declared.id.Span.{Span}
use Rattle.yd_ids.specs.Id.{IsSpan}
use Rattle.yd_ids.specs.Set.{HasId, AreMaximal, set_of}
use Rattle.yd_ids.specs.Span.{InSpan}

-- so many ids of a client in a row, from a clock on
abbrev pub ids_from : Client → ℕ → ℕ → List Id
ids_from client clock zero = []
ids_from client clock (suc len) = record { client = client; clock = clock } ∷ ids_from client (clock + 1) len

-- the ids of spans, one by one
abbrev pub ids_in : List Span → List Id
ids_in [] = []
ids_in (span ∷ spans) = ids_from span.client span.clock span.len ++ ids_in spans

-- the span of one id
abbrev pub span_of_one : Id → Span
span_of_one id = record { client = id.client; clock = id.clock; len = 1 }

-- the set of those ids of some spans that pass a test
abbrev pub part_that : (Id → Bool) → List Span → List Span
part_that test spans = set_of (map span_of_one (filter test (ids_in spans)))

-- a part is a set, has those of the ids that pass the test, and nothing else has them as a set
pub record PartsAreTheirIds : Type 0 where
  pub maximal : (test : Id → Bool) (spans : List Span) → Each IsSpan spans → AreMaximal (part_that test spans)
  pub ids : (test : Id → Bool) (spans : List Span) (x : Id) → HasId (part_that test spans) x ↔ (HasId spans x × (test x ≡ true))
  pub alone : (test : Id → Bool) (spans part : List Span) → Each IsSpan spans → AreMaximal part →
      ((x : Id) → HasId part x ↔ (HasId spans x × (test x ≡ true))) → part ≡ part_that test spans

-- ---- as they are made

-- the new spans have the ids of the old ones, and those of the span that the others lack
abbrev pub HasRest : List Span → Span → List Span → List Span → Type 0
HasRest old span others new = (x : Id) → HasId new x ↔ (HasId old x ⊎ (InSpan span x × (HasId others x → ⊥)))
