-- Undo entries: the ids that an update inserted, and those that it deleted outside what was noted before (own).
use Rattle.std.specs.Prelude.{ℕ, ◌+◌, not, List, [], ◌∷◌, ◌++◌}
use Rattle.yd_ids.specs.declared.id.Client.{Client}
use Rattle.yd_ids.specs.declared.id.Span.{Span}
use Rattle.yd_ids.specs.Set.{set_of}
use Rattle.yd_ops.specs.Value.{StructValue, item, skip, gone, clocks_of, len_of, BlockValue, UpdateValue}
use Rattle.yd_meaning.specs.Held.{is_named}
use Rattle.yd_subsets.specs.Part.{part_that}
use Rattle.yd_undo.specs.declared.entry.Entry.{Entry}

-- the ids of a struct that begins at a clock of the client; a skip has none
abbrev pub struct_ids : Client → ℕ → StructValue → List Span
struct_ids client clock (item run) = record { client = client; clock = clock; len = len_of run.content } ∷ []
struct_ids client clock (skip count) = []
struct_ids client clock (gone count) = record { client = client; clock = clock; len = count } ∷ []

-- those of structs that follow one another
abbrev pub structs_ids : Client → ℕ → List StructValue → List Span
structs_ids client clock [] = []
structs_ids client clock (s ∷ structs) = struct_ids client clock s ++ structs_ids client (clock + clocks_of s) structs

-- those of blocks
abbrev pub blocks_ids : List BlockValue → List Span
blocks_ids [] = []
blocks_ids (block ∷ blocks) = structs_ids block.client block.clock block.structs ++ blocks_ids blocks

-- the entry of an update. What the update spells deleted or gone has nothing to make again, so only the ids are taken that it deletes by name
abbrev pub undo_entry : List Span → UpdateValue → Entry
undo_entry noted update = record { inserted = set_of (blocks_ids update.blocks); deleted = part_that (λ x. not (is_named noted x)) update.deletes }
