-- Which ids an update deletes by name: those that its deletions name, and those that it spells deleted or gone (Yjs 13, where a unit with a deleted content is marked deleted as it comes, and a gone one counts as deleted).
use Rattle.std.specs.Prelude.{◌≡◌, ◌<◌, ◌+◌, ℕ, List, [], ◌∷◌, ◌++◌}
use Rattle.yd_words.specs.Member.{IsIn}
use Rattle.yd_ids.specs.declared.id.Client.{Client}
use Rattle.yd_ids.specs.declared.id.Id.{Id}
use Rattle.yd_ids.specs.declared.id.Span.{Span}
use Rattle.yd_ids.specs.Set.{union_of}
use Rattle.yd_ops.specs.Operation.{Operation, level_of}
use Rattle.yd_ops.specs.Value.{ContentValue, json, binary, string, embed, format, nested, any, deleted, clocks_of, StructValue, item, skip, gone, BlockValue, UpdateValue}

-- the operations spell the id less than full: one of them has it, and is deleted or gone
abbrev pub SpellLess : List Operation → Id → Type 0
SpellLess os x = (o : Operation) × IsIn o os × (o.id ≡ x) × (level_of o.content < 2)

-- the ids from one on that a content spells deleted; other contents spell none so
abbrev pub content_spans : Id → ContentValue → List Span
content_spans id (deleted count) = record { client = id.client; clock = id.clock; len = count } ∷ []
content_spans id (json values) = []
content_spans id (binary blob) = []
content_spans id (string units) = []
content_spans id (embed t) = []
content_spans id (format key t) = []
content_spans id (nested kind) = []
content_spans id (any ts) = []

-- the ids that a struct spells deleted or gone
abbrev pub struct_spans : Client → ℕ → StructValue → List Span
struct_spans client clock (item run) = content_spans run.id run.content
struct_spans client clock (skip count) = []
struct_spans client clock (gone count) = record { client = client; clock = clock; len = count } ∷ []

-- those that structs spell so, which follow one another from a clock on
abbrev pub structs_spans : Client → ℕ → List StructValue → List Span
structs_spans client clock [] = []
structs_spans client clock (s ∷ structs) = struct_spans client clock s ++ structs_spans client (clock + clocks_of s) structs

-- those that blocks spell so
abbrev pub blocks_spans : List BlockValue → List Span
blocks_spans [] = []
blocks_spans (block ∷ blocks) = structs_spans block.client block.clock block.structs ++ blocks_spans blocks

-- the ids that an update deletes by name; no unit is walked
abbrev pub deletes_of : UpdateValue → List Span
deletes_of update = union_of (blocks_spans update.blocks) update.deletes
