-- Blocks that take structs have their operations.
use Rattle.std.proofs.Common.{◌≡◌, ◌∙◌, ℕ, ◌+◌, List, [], ◌∷◌, ◌++◌, map, refl, sym, ap, subst, append-nil, append_assoc}
use Rattle.std.specs.Prelude.{Option, Some, None, IfSome}
use Rattle.yd_words.specs.Each.{Each}
use Rattle.yd_words.proofs.EachLemmas.{each_append}
use Rattle.yd_ids.specs.declared.id.Client.{Client}
use Rattle.yd_ids.specs.declared.id.Id.{Id}
use Rattle.yd_ops.specs.Operation.{operations_of_blocks, operations_of_struct, operations_of_structs}
use Rattle.yd_ops.specs.Valid.{HasValidContent, IsValidBlock}
use Rattle.yd_ops.specs.Value.{BlockValue, StructValue, clocks_of, gone, item, skip}
use Rattle.yd_ops.specs.View.{block_value}
use Rattle.yd_reading.specs.Taking.{IsPlaced, Section, TakesMore, placed, sections_of_blocks, sections_of_structs}
use Rattle.yd_gathering.specs.Blocks.{HasSections, IsSound, Puts, blocks_of, last_blocks, operations_of_section, operations_of_sections}
use Rattle.yd_gathering.specs.Growing.{Grows, IsGrown, block_from, block_of, end_of}
use Rattle.yd_gathering.specs.declared.blocks.Blocks.{Blocks}
use Rattle.yd_gathering.specs.declared.growing.Growing.{Growing}

-- ---- operations in two lists

blocks-append : (bs cs : List BlockValue) → operations_of_blocks (bs ++ cs) ≡ operations_of_blocks bs ++ operations_of_blocks cs
blocks-append [] cs = refl
blocks-append (b ∷ bs) cs = ap (λ os. operations_of_structs b.client b.clock b.structs ++ os) (blocks-append bs cs)
    ∙ sym (append_assoc (operations_of_structs b.client b.clock b.structs) (operations_of_blocks bs) (operations_of_blocks cs))

-- with one block more
block_more : (bs : List BlockValue) (b : BlockValue) → operations_of_blocks (bs ++ b ∷ []) ≡ operations_of_blocks bs ++ operations_of_structs b.client b.clock b.structs
block_more bs b = blocks-append bs (b ∷ []) ∙ ap (λ os. operations_of_blocks bs ++ os) (append-nil (operations_of_structs b.client b.clock b.structs))

pub sections-append : (xs ys : List Section) → operations_of_sections (xs ++ ys) ≡ operations_of_sections xs ++ operations_of_sections ys
sections-append [] ys = refl
sections-append (x ∷ xs) ys = ap (λ os. operations_of_section x ++ os) (sections-append xs ys)
    ∙ sym (append_assoc (operations_of_section x) (operations_of_sections xs) (operations_of_sections ys))

-- ---- sections of blocks

structs_have : (client : Client) (clock : ℕ) (ss : List StructValue) → operations_of_sections (sections_of_structs client clock ss) ≡ operations_of_structs client clock ss
structs_have client clock [] = refl
structs_have client clock (s ∷ ss) = ap (λ os. operations_of_struct client clock s ++ os) (structs_have client (clock + clocks_of s) ss)

-- they have the operations of the blocks
pub sections_have : (blocks : List BlockValue) → operations_of_sections (sections_of_blocks blocks) ≡ operations_of_blocks blocks
sections_have [] = refl
sections_have (b ∷ bs) = sections-append (sections_of_structs b.client b.clock b.structs) (sections_of_blocks bs)
    ∙ ap (λ os. os ++ operations_of_sections (sections_of_blocks bs)) (structs_have b.client b.clock b.structs) ∙ ap (λ os. operations_of_structs b.client b.clock b.structs ++ os) (sections_have bs)

-- ---- lemmas for callers

-- a struct at an id has a valid content
pub content_valid : (id : Id) (s : StructValue) → IsPlaced id s → HasValidContent s
content_valid id (item run) is = is.is_struct.content
content_valid id (skip count) is = tt
content_valid id (gone count) is = tt

-- the blocks are valid
last_valid : (last : Option Growing) → IfSome last IsGrown → Each IsValidBlock (last_blocks last)
last_valid None grown = tt
last_valid (Some last) grown = (grown.valid, tt)

pub blocks_valid : (b : Blocks) → IsSound b → Each IsValidBlock (blocks_of b)
blocks_valid b sound = each_append IsValidBlock (map block_value b.done) (last_blocks b.last) sound.done (last_valid b.last sound.last)

-- a struct goes into the last block
pub put_last : (old new : Blocks) (last next : Growing) (id : Id) (s : StructValue) → old.last ≡ Some last → new.done ≡ old.done → new.last ≡ Some next → id ≡ end_of last →
    Grows last next s → Puts old new id s
put_last old new last next id s was done now at grows = λ sound.
    let front = map block_value old.done in
    let grown : IsGrown last = subst (λ l. IfSome l IsGrown) was sound.last in
    let e = grows grown in
    let new_blocks : blocks_of new ≡ front ++ block_of next ∷ [] = rw (done, now) refl in
    let old_blocks : blocks_of old ≡ front ++ block_of last ∷ [] = rw was refl in
    record {
      sound = record { done = rw done sound.done; last = rw now e.grown };
      operations = ap operations_of_blocks new_blocks ∙ block_more front (block_of next) ∙ ap (λ os. operations_of_blocks front ++ os) e.operations
          ∙ sym (append_assoc (operations_of_blocks front) (operations_of_structs last.client last.clock (block_of last).structs) (operations_of_struct last.client last.end s))
          ∙ ap (λ os. os ++ operations_of_struct last.client last.end s) (sym (ap operations_of_blocks old_blocks ∙ block_more front (block_of last)))
          ∙ ap (λ (x : Id). operations_of_blocks (blocks_of old) ++ operations_of_struct x.client x.clock s) (sym at);
    }

-- a struct begins a block
pub put_first : (old new : Blocks) (next : Growing) (id : Id) (s : StructValue) → map block_value new.done ≡ blocks_of old → new.last ≡ Some next → block_of next ≡ block_from id (s ∷ []) →
    IsGrown next → Puts old new id s
put_first old new next id s front now alone grown = λ sound.
    let new_blocks : blocks_of new ≡ blocks_of old ++ block_of next ∷ [] = rw (front, now) refl in
    record {
      sound = record { done = rw front (blocks_valid old sound); last = rw now grown };
      operations = ap operations_of_blocks new_blocks ∙ block_more (blocks_of old) (block_of next)
          ∙ ap (λ (b : BlockValue). operations_of_blocks (blocks_of old) ++ operations_of_structs b.client b.clock b.structs) alone
          ∙ ap (λ os. operations_of_blocks (blocks_of old) ++ os) (append-nil (operations_of_struct id.client id.clock s));
    }

-- a section without operations is taken
pub takes_idle : (b : Blocks) (section : Section) → operations_of_section section ≡ [] → TakesMore (HasSections b) (HasSections b) (section ∷ [])
takes_idle b section none = λ before has. record {
  sound = has.sound;
  operations = has.operations ∙ sym (sections-append before (section ∷ []) ∙ ap (λ os. operations_of_sections before ++ os) (append-nil (operations_of_section section) ∙ none)
      ∙ append-nil (operations_of_sections before));
}

-- and a struct is
pub takes_struct : (old new : Blocks) (id : Id) (s : StructValue) → Puts old new id s → TakesMore (HasSections old) (HasSections new) (placed id s ∷ [])
takes_struct old new id s puts = λ before has.
    let put = puts has.sound in record {
      sound = put.sound;
      operations = put.operations ∙ ap (λ os. os ++ operations_of_struct id.client id.clock s) has.operations
          ∙ sym (sections-append before (placed id s ∷ []) ∙ ap (λ os. operations_of_sections before ++ os) (append-nil (operations_of_struct id.client id.clock s)));
    }

-- they have the sections of what they are
pub has_itself : (b : Blocks) → IsSound b → HasSections b (sections_of_blocks (blocks_of b))
has_itself b sound = record { sound = sound; operations = sym (sections_have (blocks_of b)) }
