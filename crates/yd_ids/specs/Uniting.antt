-- A union step by step: which span comes next, and one span more behind others (own).
use Rattle.std.specs.Prelude.{◌≡◌, ◌⊎◌, List, [], ◌∷◌, Option, Some, None, if◌then◌else◌}
use Rattle.yd_words.specs.Each.{Each}
use Rattle.yd_ids.specs.declared.id.Span.{Span}
use Rattle.yd_ids.specs.Span.{BeginsBy, ends_below, joined}

-- the span begins where each of the others does, or before
abbrev pub BeginsAll : List Span → Span → Type 0
BeginsAll others span = Each (BeginsBy span) others

-- the first of the spans begins where each of the others does, or before
abbrev pub BeginsFirst : List Span → List Span → Type 0
BeginsFirst [] others = ⊥
BeginsFirst (span ∷ rest) others = BeginsAll others span

-- a span is taken from the front of the one list, and it begins by those of the other
abbrev pub Takes : List Span → List Span → List Span → Span → Type 0
Takes old new others span = BeginsAll others span × (old ≡ span ∷ new)

-- the span that begins first is taken from one of two lists, and none where both are at their ends
abbrev pub TakesNext : List Span → List Span → List Span → List Span → Option Span → Type 0
TakesNext left right left_new right_new None = (left ≡ []) × (right ≡ [])
TakesNext left right left_new right_new (Some span) = (Takes left left_new right span × (right ≡ right_new)) ⊎ (Takes right right_new left span × (left ≡ left_new))

-- the spans and one more, which is joined with the last where they touch
abbrev pub with_last : List Span → Span → List Span
with_last [] span = span ∷ []
with_last (last ∷ []) span = if ends_below last span.client.0 span.clock then last ∷ span ∷ [] else joined last span ∷ []
with_last (first ∷ next ∷ rest) span = first ∷ with_last (next ∷ rest) span
