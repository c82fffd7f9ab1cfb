-- A row says what it took, at each step.
use Rattle.std.proofs.Common.{◌≡◌, ◌∙◌, ℕ, List, [], ◌∷◌, ◌++◌, map, refl, ap, ap₂, inl, inr}
use Rattle.std.proofs.lemmas.List.{map-append}
use Rattle.yd_ids.specs.Set.{set_of}
use Rattle.yd_ids.specs.declared.id.Span.{Span}
use Rattle.yd_ops.specs.Operation.{operations_of, operations_of_blocks}
use Rattle.yd_ops.specs.Valid.{IsValidUpdate}
use Rattle.yd_ops.specs.Value.{BlockValue, UpdateValue}
use Rattle.yd_ops.specs.View.{block_value, update_value}
use Rattle.yd_ops.specs.declared.updates.Update.{Update}
use Rattle.yd_reading.specs.Taking.{TakesMore as TakesSections, sections_of, sections_of_blocks}
use Rattle.yd_v1.specs.Log.{TakesMore, TakesV1}
use Rattle.yd_v1.specs.Taking.{TakesStructsV1}
use Rattle.yd_gathering.specs.Blocks.{HasSections, IsSound, blocks_of}
use Rattle.yd_gathering.specs.Row.{Closes, HasRow, updates_of}
use Rattle.yd_gathering.specs.Said.{SaysInTurn, update_of}
use Rattle.yd_gathering.specs.declared.blocks.Blocks.{Blocks}
use Rattle.yd_gathering.specs.declared.row.Row.{Row}
use Rattle.yd_gathering.proofs.BlocksLemmas.{blocks_valid, has_itself, sections-append, sections_have}
use Rattle.yd_gathering.proofs.SaidLemmas.{SaysBoth, say_all, say_behind, say_both, say_empty, say_full, say_named}

-- ---- an update that is gathered

record MoreBlocks (old new : Blocks) (u : UpdateValue) : Type 0 where
  pub sound : IsSound new
  pub operations : operations_of_blocks (blocks_of new) ≡ operations_of_blocks (blocks_of old) ++ operations_of u

-- blocks that took the sections of an update have its operations too
more_blocks : (old new : Blocks) (u : UpdateValue) → IsSound old → TakesSections (HasSections old) (HasSections new) (sections_of u) → MoreBlocks old new u
more_blocks old new u sound takes =
    let before = sections_of_blocks (blocks_of old) in
    let has = takes before (has_itself old sound) in record {
      sound = has.sound;
      operations = has.operations ∙ sections-append before (sections_of u)
          ∙ ap₂ (λ os ps. os ++ ps) (sections_have (blocks_of old)) (sections_have u.blocks);
    }

says_more : (old new : List BlockValue) (u : UpdateValue) → operations_of_blocks new ≡ operations_of_blocks old ++ operations_of u → SaysBoth (update_of old) (update_of u.blocks) (update_of new)
says_more old new u is = record { operations = is; deletes = λ x. ((λ h. absurd h), (λ h. elim h [ inl n ↦ n | inr n ↦ n ])) }

-- ---- lemmas for callers

-- an update is gathered
gathered : (old new : Row) (u : UpdateValue) → IsValidUpdate u → TakesSections (HasSections old.blocks) (HasSections new.blocks) (sections_of u) → new.kept ≡ old.kept → new.names.items ≡ old.names.items ++ u.deletes →
    TakesMore (HasRow old) (HasRow new) (u ∷ [])
gathered old new u valid takes kept names = λ taken g.
    let more = more_blocks old.blocks new.blocks u g.sound takes in
    let front = map update_value old.kept in
    let both = say_both taken front old.names.items (update_of (blocks_of old.blocks)) (update_of u.blocks) (update_of (blocks_of new.blocks)) (record { blocks = valid.blocks; deletes = tt })
    (record { blocks = blocks_valid new.blocks more.sound; deletes = tt }) (says_more (blocks_of old.blocks) (blocks_of new.blocks) u more.operations) g.say in
    record {
      say = rw (kept, names) (say_named taken (front ++ update_of (blocks_of new.blocks) ∷ []) old.names.items u valid both);
      sound = more.sound;
    }

pub row_gathered : (bytes : List ℕ) (old new : Row) (deletes : List Span) → TakesStructsV1 bytes deletes (HasSections old.blocks) (HasSections new.blocks) → new.kept ≡ old.kept → new.names.items ≡ old.names.items ++ deletes →
    TakesV1 bytes (HasRow old) (HasRow new)
row_gathered bytes old new deletes t kept names = record {
  update = t.update;
  read = t.is_read;
  valid = t.valid;
  taken = gathered old new t.update t.valid t.taken kept (names ∙ ap (λ ds. old.names.items ++ ds) t.deletes_are);
}

-- an update is kept as it is
pub row_kept : (old mid new : Row) (update : Update) → Closes old mid → new.kept ≡ mid.kept ++ update ∷ [] → new.names ≡ mid.names → new.blocks ≡ mid.blocks → IsValidUpdate (update_value update) →
    TakesMore (HasRow old) (HasRow new) (update_value update ∷ [])
row_kept old mid new update closes kept names blocks valid = λ taken g.
    let u = update_value update in
    let before = map update_value old.kept ++ updates_of (blocks_of old.blocks) in
    let kept_are : map update_value new.kept ≡ before ++ u ∷ [] = ap (map update_value) kept ∙ map-append update_value mid.kept (update ∷ []) ∙ ap (λ us. us ++ u ∷ []) closes.kept in
    let none : blocks_of new.blocks ≡ [] = ap blocks_of blocks ∙ closes.none in
    let names_are : new.names ≡ old.names = names ∙ closes.names in
    let full = say_full taken (map update_value old.kept) old.names.items (blocks_of old.blocks) g.say in
    let all = say_empty (taken ++ u ∷ []) (before ++ u ∷ []) old.names.items (say_behind taken before old.names.items u valid full) in
    record {
      say = rw (kept_are, none, names_are) all;
      sound = rw blocks closes.sound;
    }

-- the end
pub row_finished : (g : Row) (list : List Update) (update : Update) (taken : List UpdateValue) → map block_value update.blocks ≡ blocks_of g.blocks → update.deletes ≡ set_of g.names.items → list ≡ g.kept ++ update ∷ [] →
    HasRow g taken → SaysInTurn taken (map update_value list)
row_finished g list update taken blocks deletes is has =
    let last : update_value update ≡ record { blocks = blocks_of g.blocks; deletes = set_of g.names.items } = rw (blocks, deletes) refl in
    let all = ap (map update_value) is ∙ map-append update_value g.kept (update ∷ []) ∙ ap (λ u. map update_value g.kept ++ u ∷ []) last in
    rw all (say_all taken (map update_value g.kept) g.names.items (blocks_of g.blocks) has.say)
