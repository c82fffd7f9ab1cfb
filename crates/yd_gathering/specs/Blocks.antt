-- Blocks of which the last one grows, and what they have of the structs that they took (own).
use Rattle.std.specs.Prelude.{◌≡◌, List, [], ◌∷◌, ◌++◌, map, Option, Some, None, IfSome}
use Rattle.yd_words.specs.Each.{Each}
use Rattle.yd_ids.specs.declared.id.Id.{Id}
use Rattle.yd_ops.specs.Operation.{Operation, operations_of_blocks, operations_of_struct}
use Rattle.yd_ops.specs.Valid.{IsValidBlock}
use Rattle.yd_ops.specs.Value.{BlockValue, StructValue}
use Rattle.yd_ops.specs.View.{block_value}
use Rattle.yd_reading.specs.Taking.{Section, counted, headed, placed}
use Rattle.yd_gathering.specs.Growing.{IsGrown, block_of}
use Rattle.yd_gathering.specs.declared.blocks.Blocks.{Blocks}
use Rattle.yd_gathering.specs.declared.growing.Growing.{Growing}

-- the block that grows, if there is one
abbrev pub last_blocks : Option Growing → List BlockValue
last_blocks None = []
last_blocks (Some last) = block_of last ∷ []

-- the blocks, the one that grows behind the others
abbrev pub blocks_of : Blocks → List BlockValue
blocks_of b = map block_value b.done ++ last_blocks b.last

-- they are valid
pub record IsSound (b : Blocks) : Type 0 where
  pub done : Each IsValidBlock (map block_value b.done)
  pub last : IfSome b.last IsGrown

-- one struct more is there: the blocks are valid still, and have its operations too
pub record HasPut (old new : Blocks) (id : Id) (s : StructValue) : Type 0 where
  pub sound : IsSound new
  pub operations : operations_of_blocks (blocks_of new) ≡ operations_of_blocks (blocks_of old) ++ operations_of_struct id.client id.clock s

-- so it is where the blocks were valid
abbrev pub Puts : Blocks → Blocks → Id → StructValue → Type 0
Puts old new id s = IsSound old → HasPut old new id s

-- ---- sections

-- the operations of a section: of a struct its own; the others have none
abbrev pub operations_of_section : Section → List Operation
operations_of_section (counted count) = []
operations_of_section (headed id count) = []
operations_of_section (placed id s) = operations_of_struct id.client id.clock s

-- the operations of sections, one after another
abbrev pub operations_of_sections : List Section → List Operation
operations_of_sections [] = []
operations_of_sections (section ∷ sections) = operations_of_section section ++ operations_of_sections sections

-- they took these sections: they are valid, and have the operations of these
pub record HasSections (b : Blocks) (sections : List Section) : Type 0 where
  pub sound : IsSound b
  pub operations : operations_of_blocks (blocks_of b) ≡ operations_of_sections sections
