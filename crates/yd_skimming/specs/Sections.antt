-- What sections of updates have, as groups (own).
use Rattle.std.specs.Prelude.{List, [], ◌∷◌, ◌++◌}
use Rattle.yd_ids.specs.declared.id.Span.{Span}
use Rattle.yd_ops.specs.Deletes.{struct_spans}
use Rattle.yd_grouping.specs.Groups.{Group}
use Rattle.yd_merge.specs.Lending.{struct_groups}
use Rattle.yd_reading.specs.Taking.{Section, counted, headed, placed}

-- what a section has: what its struct has, if it has one
abbrev pub groups_of_section : Section → List Group
groups_of_section (counted count) = []
groups_of_section (headed id count) = []
groups_of_section (placed id s) = struct_groups id.client id.clock s

-- what sections have, one after another
abbrev pub groups_of_sections : List Section → List Group
groups_of_sections [] = []
groups_of_sections (section ∷ sections) = groups_of_section section ++ groups_of_sections sections

-- the ids that a section spells deleted or gone
abbrev pub spans_of_section : Section → List Span
spans_of_section (counted count) = []
spans_of_section (headed id count) = []
spans_of_section (placed id s) = struct_spans id.client id.clock s

-- those of sections, one after another
abbrev pub spans_of_sections : List Section → List Span
spans_of_sections [] = []
spans_of_sections (section ∷ sections) = spans_of_section section ++ spans_of_sections sections
