-- What the sections of an update have is what its blocks have.
use Rattle.std.proofs.Common.{◌≡◌, ℕ, ◌+◌, List, [], ◌∷◌, ◌++◌, refl, sym, ap, ap₂, ◌∙◌, append_assoc}
use Rattle.yd_ids.specs.declared.id.Client.{Client}
use Rattle.yd_ops.specs.Deletes.{blocks_spans, struct_spans, structs_spans}
use Rattle.yd_ops.specs.Value.{BlockValue, StructValue, UpdateValue, clocks_of}
use Rattle.yd_merge.specs.Lending.{blocks_groups, struct_groups, structs_groups}
use Rattle.yd_reading.specs.Taking.{Section, sections_of, sections_of_block, sections_of_blocks, sections_of_structs}
use Rattle.yd_skimming.specs.Sections.{groups_of_section, groups_of_sections, spans_of_section, spans_of_sections}

-- ---- lemmas for callers

pub groups-append : (sections more : List Section) → groups_of_sections (sections ++ more) ≡ groups_of_sections sections ++ groups_of_sections more
groups-append [] more = refl
groups-append (s ∷ ss) more = ap (λ gs. groups_of_section s ++ gs) (groups-append ss more) ∙ sym (append_assoc (groups_of_section s) (groups_of_sections ss) (groups_of_sections more))

pub spans-append : (sections more : List Section) → spans_of_sections (sections ++ more) ≡ spans_of_sections sections ++ spans_of_sections more
spans-append [] more = refl
spans-append (s ∷ ss) more = ap (λ gs. spans_of_section s ++ gs) (spans-append ss more) ∙ sym (append_assoc (spans_of_section s) (spans_of_sections ss) (spans_of_sections more))

pub groups_of_structs : (client : Client) (clock : ℕ) (structs : List StructValue) → groups_of_sections (sections_of_structs client clock structs) ≡ structs_groups client clock structs
groups_of_structs client clock [] = refl
groups_of_structs client clock (s ∷ ss) = ap (λ gs. struct_groups client clock s ++ gs) (groups_of_structs client (clock + clocks_of s) ss)

pub spans_of_structs : (client : Client) (clock : ℕ) (structs : List StructValue) → spans_of_sections (sections_of_structs client clock structs) ≡ structs_spans client clock structs
spans_of_structs client clock [] = refl
spans_of_structs client clock (s ∷ ss) = ap (λ spans. struct_spans client clock s ++ spans) (spans_of_structs client (clock + clocks_of s) ss)

pub groups_of_blocks : (blocks : List BlockValue) → groups_of_sections (sections_of_blocks blocks) ≡ blocks_groups blocks
groups_of_blocks [] = refl
groups_of_blocks (block ∷ blocks) = groups-append (sections_of_block block) (sections_of_blocks blocks)
    ∙ ap₂ (λ gs hs. gs ++ hs) (groups_of_structs block.client block.clock block.structs) (groups_of_blocks blocks)

pub spans_of_blocks : (blocks : List BlockValue) → spans_of_sections (sections_of_blocks blocks) ≡ blocks_spans blocks
spans_of_blocks [] = refl
spans_of_blocks (block ∷ blocks) = spans-append (sections_of_block block) (sections_of_blocks blocks)
    ∙ ap₂ (λ ss ts. ss ++ ts) (spans_of_structs block.client block.clock block.structs) (spans_of_blocks blocks)

-- the sections of an update have what its blocks have
pub groups_of_update : (u : UpdateValue) → groups_of_sections (sections_of u) ≡ blocks_groups u.blocks
groups_of_update u = groups_of_blocks u.blocks

-- and spell deleted or gone what these spell so
pub spans_of_update : (u : UpdateValue) → spans_of_sections (sections_of u) ≡ blocks_spans u.blocks
spans_of_update u = spans_of_blocks u.blocks
