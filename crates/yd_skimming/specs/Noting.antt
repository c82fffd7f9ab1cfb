-- How ids are noted, one span after another (own).
use Rattle.std.specs.Prelude.{◌≡◌, ℕ, ◌+◌, List, ◌++◌}
use Rattle.yd_ids.specs.Set.{HaveSameIds}
use Rattle.yd_ids.specs.declared.id.Id.{Id}
use Rattle.yd_ids.specs.declared.id.Span.{Span}
use Rattle.yd_grouping.specs.Groups.{Group}
use Rattle.yd_merge.specs.Reaching.{spans_of}

-- so many ids from one on
abbrev pub span_from : Id → ℕ → Span
span_from id len = record { client = id.client; clock = id.clock; len = len }

-- the id is the one behind the span
abbrev pub IsBehind : Span → Id → Type 0
IsBehind span id = (span.client.0 ≡ id.client.0) × (span.clock + span.len ≡ id.clock)

-- the span, longer by so many ids
abbrev pub grown : Span → ℕ → Span
grown span more = record { client = span.client; clock = span.clock; len = span.len + more }

-- the ids of the groups were noted, and no others
abbrev pub NotesGroups : List Span → List Span → List Group → Type 0
NotesGroups old new groups = HaveSameIds new (old ++ spans_of groups)
