-- An insertion step by step: the span's place, and what it is joined with (own).
use Rattle.std.specs.Prelude.{◌↔◌, ℕ, ◌<◌, ◌≤◌, ◌⊎◌, List, ◌∷◌, ◌++◌, length, take, drop}
use Rattle.yd_words.specs.Each.{Each}
use Rattle.yd_ids.specs.declared.id.Id.{Id}
use Rattle.yd_ids.specs.declared.id.Span.{Span}
use Rattle.yd_ids.specs.Id.{IsSpan}
use Rattle.yd_ids.specs.Set.{HasId}
use Rattle.yd_ids.specs.Span.{InSpan, EndsBefore, Reaches}

-- the spans before the place end before this one, and those behind it do not
pub record IsPlace (spans : List Span) (at : ℕ) (span : Span) : Type 0 where
  pub before : Each (λ front. EndsBefore front span) (take at spans)
  pub behind : Each (λ next. Reaches next span.client.0 span.clock) (drop at spans)

-- the span, joined with those between two places, is another that they do not touch on either side
pub record JoinsUpTo (spans : List Span) (from : ℕ) (span : Span) (to : ℕ) (whole : Span) : Type 0 where
  pub bound : (from ≤ to) × (to ≤ length spans)
  pub is_span : IsSpan whole × (0 < whole.len)
  pub before : Each (λ front. EndsBefore front whole) (take from spans)
  pub behind : Each (EndsBefore whole) (drop to spans)
  pub ids : (id : Id) → (InSpan whole id ⊎ HasId (drop to spans) id) ↔ (InSpan span id ⊎ HasId (drop from spans) id)

-- the spans with one in place of those between two places
abbrev pub with_between : List Span → ℕ → ℕ → Span → List Span
with_between spans from to span = take from spans ++ span ∷ drop to spans
