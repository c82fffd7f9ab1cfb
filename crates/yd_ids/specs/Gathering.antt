-- A set of many spans step by step: they are put in the order in which they begin (own).
use Rattle.std.specs.Prelude.{◌<◌, List, [], ◌∷◌}
use Rattle.yd_ids.specs.declared.id.Span.{Span}
use Rattle.yd_ids.specs.Span.{EndsBefore}
use Rattle.yd_ids.specs.Uniting.{BeginsAll}

-- each span begins where those behind it do, or before
abbrev pub AreOrdered : List Span → Type 0
AreOrdered [] = Unit {0}
AreOrdered (span ∷ rest) = BeginsAll rest span × AreOrdered rest

-- the first span has ids, and ends before the next one
abbrev pub IsApart : List Span → Type 0
IsApart [] = ⊥
IsApart (span ∷ []) = 0 < span.len
IsApart (span ∷ next ∷ rest) = (0 < span.len) × EndsBefore span next
