-- What is known of the ids of structs that were taken (own).
use Rattle.std.specs.Prelude.{List}
use Rattle.yd_ids.specs.Set.{HaveSameIds}
use Rattle.yd_ids.specs.declared.id.Span.{Span}
use Rattle.yd_ops.specs.Value.{UpdateValue}
use Rattle.yd_grouping.specs.Groups.{Group}
use Rattle.yd_merge.specs.Lending.{updates_groups}
use Rattle.yd_merge.specs.Reaching.{spans_of}
use Rattle.yd_reading.specs.Taking.{Section}
use Rattle.yd_skimming.specs.Sections.{groups_of_sections}

-- the spans have the ids of the groups, and no others
abbrev pub AreIdsOf : List Span → List Group → Type 0
AreIdsOf spans groups = HaveSameIds spans (spans_of groups)

-- they have the ids of what the sections have: these were taken
abbrev pub HasTakenSections : List Span → List Section → Type 0
HasTakenSections spans sections = AreIdsOf spans (groups_of_sections sections)

-- they have the ids of what the updates have: these were taken
abbrev pub HasTaken : List Span → List UpdateValue → Type 0
HasTaken spans updates = AreIdsOf spans (updates_groups updates)
