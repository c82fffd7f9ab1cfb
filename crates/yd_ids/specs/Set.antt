-- Sets of ids as their maximal spans, in order (Yjs, delete set).
use Rattle.std.specs.Prelude.{◌↔◌, ◌<◌, ◌⊎◌, List, [], ◌∷◌, if◌then◌else◌, nat_eq}
use Rattle.yd_words.specs.Each.{Each}
use Rattle.yd_ids.specs.declared.id.Id.{Id}
use Rattle.yd_ids.specs.declared.id.Span.{Span}
use Rattle.yd_ids.specs.Id.{IsSpan}
use Rattle.yd_ids.specs.Span.{InSpan, EndsBefore, ends_below, joined}

-- the id is in one of the spans
abbrev pub HasId : List Span → Id → Type 0
HasId [] id = ⊥
HasId (span ∷ rest) id = InSpan span id ⊎ HasId rest id

-- two lists of spans have the same ids
abbrev pub HaveSameIds : List Span → List Span → Type 0
HaveSameIds left right = (id : Id) → HasId left id ↔ HasId right id

-- the spans are in order and none is empty, and no two of one client overlap or touch
abbrev pub AreMaximal : List Span → Type 0
AreMaximal [] = Unit {0}
AreMaximal (span ∷ rest) = IsSpan span × (0 < span.len) × Each (EndsBefore span) rest × AreMaximal rest

-- the new spans have the ids of the old ones and those of one span, and no others
abbrev pub AddsSpan : List Span → List Span → Span → Type 0
AddsSpan old new span = (id : Id) → HasId new id ↔ (HasId old id ⊎ InSpan span id)

-- the new spans have the ids of the old ones and those of the others, and no more
abbrev pub AddsSpans : List Span → List Span → List Span → Type 0
AddsSpans old new others = (id : Id) → HasId new id ↔ (HasId old id ⊎ HasId others id)

-- the maximal spans with one span more, which is joined with those that it touches, and left out if it is empty
abbrev pub with_span : Span → List Span → List Span
with_span span [] = if nat_eq span.len 0 then [] else span ∷ []
with_span span (first ∷ rest) =
    if nat_eq span.len 0 then first ∷ rest
    else if ends_below span first.client.0 first.clock then span ∷ first ∷ rest
    else if ends_below first span.client.0 span.clock then first ∷ with_span span rest
    else with_span (joined span first) rest

-- the maximal spans of two sets together, one span after another
abbrev pub union_of : List Span → List Span → List Span
union_of [] others = others
union_of (span ∷ rest) others = union_of rest (with_span span others)

-- the set of the ids of spans, which may overlap, be empty and come in any order, one span after another
abbrev pub set_of : List Span → List Span
set_of [] = []
set_of (span ∷ rest) = with_span span (set_of rest)
