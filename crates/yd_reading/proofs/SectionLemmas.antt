-- Sections of an update, and their fields.
use Rattle.std.proofs.Common.{◌≡◌, ℕ, ◌+◌, List, [], ◌∷◌, ◌++◌, refl, sym, ap, ◌∙◌, subst, append-nil, append_assoc}
use Rattle.yd_ids.specs.declared.id.Client.{Client}
use Rattle.yd_ops.specs.Value as ops
use Rattle.yd_fields.specs.Field.{Field}
use Rattle.yd_fields.specs.UpdateFields.{fields_of_blocks, fields_of_deletes, fields_of_struct, fields_of_structs, fields_of_update}
use Rattle.yd_fields.specs.Writes.{Writes}
use Rattle.yd_fields.proofs.WritesLemmas.{writes_then}
use Rattle.yd_reading.specs.Taking.{Section, TakesMore, placed, fields_of_section, fields_of_sections, sections_of, sections_of_block, sections_of_blocks, sections_of_structs}

-- ---- what is taken in turn

-- sections, and then sections
pub taken_then : (Took TookThen TookNow : List Section → Type 0) (xs ys : List Section) → TakesMore Took TookThen xs → TakesMore TookThen TookNow ys → TakesMore Took TookNow (xs ++ ys)
taken_then Took TookThen TookNow xs ys first second = λ before took. subst TookNow (append_assoc before xs ys) (second (before ++ xs) (first before took))

-- ---- sections of one more

-- the clock behind structs that begin at a clock
abbrev pub clock_behind : ℕ → List ops.StructValue → ℕ
clock_behind clock [] = clock
clock_behind clock (s ∷ ss) = clock_behind (clock + ops.clocks_of s) ss

pub clock_behind-last : (clock : ℕ) (structs : List ops.StructValue) (s : ops.StructValue) → clock_behind clock (structs ++ s ∷ []) ≡ clock_behind clock structs + ops.clocks_of s
clock_behind-last clock [] s = refl
clock_behind-last clock (t ∷ ts) s = clock_behind-last (clock + ops.clocks_of t) ts s

pub sections-struct : (client : Client) (clock : ℕ) (structs : List ops.StructValue) (s : ops.StructValue) →
    sections_of_structs client clock structs ++ placed (record { client = client; clock = clock_behind clock structs }) s ∷ [] ≡ sections_of_structs client clock (structs ++ s ∷ [])
sections-struct client clock [] s = refl
sections-struct client clock (t ∷ ts) s = ap (λ (more : List Section). placed (record { client = client; clock = clock }) t ∷ more) (sections-struct client (clock + ops.clocks_of t) ts s)

pub sections-block : (blocks : List ops.BlockValue) (b : ops.BlockValue) → sections_of_blocks blocks ++ sections_of_block b ≡ sections_of_blocks (blocks ++ b ∷ [])
sections-block [] b = sym (append-nil (sections_of_block b))
sections-block (t ∷ ts) b = append_assoc (sections_of_block t) (sections_of_blocks ts) (sections_of_block b) ∙ ap (λ (more : List Section). sections_of_block t ++ more) (sections-block ts b)

-- ---- fields

-- the fields of sections behind sections
pub fields_of_sections-append : (xs ys : List Section) → fields_of_sections (xs ++ ys) ≡ fields_of_sections xs ++ fields_of_sections ys
fields_of_sections-append [] ys = refl
fields_of_sections-append (x ∷ xs) ys = ap (λ (more : List Field). fields_of_section x ++ more) (fields_of_sections-append xs ys) ∙ sym (append_assoc (fields_of_section x) (fields_of_sections xs) (fields_of_sections ys))

-- those of structs
fields_of_placed : (client : Client) (clock : ℕ) (structs : List ops.StructValue) → fields_of_sections (sections_of_structs client clock structs) ≡ fields_of_structs structs
fields_of_placed client clock [] = refl
fields_of_placed client clock (s ∷ ss) = ap (λ (more : List Field). fields_of_struct s ++ more) (fields_of_placed client (clock + ops.clocks_of s) ss)

-- those of blocks
fields_of_headed : (blocks : List ops.BlockValue) → fields_of_sections (sections_of_blocks blocks) ≡ fields_of_blocks blocks
fields_of_headed [] = refl
fields_of_headed (b ∷ bs) =
    fields_of_sections-append (sections_of_block b) (sections_of_blocks bs)
    ∙ rw (fields_of_placed b.client b.clock b.structs, fields_of_headed bs) refl

-- the sections of an update, and its deletions, are written in the fields of the update
pub fields_of_all_sections : (u : ops.UpdateValue) → fields_of_sections (sections_of u) ++ fields_of_deletes u.deletes ≡ fields_of_update u
fields_of_all_sections u = rw (fields_of_headed u.blocks) refl

-- where the fields of a section are written behind those of others, its section is taken behind theirs
pub section_written : {W : Type 0} {put : Field → W → W} {is_spelled : Field → Type 0} {begin old new : W} (section : Section) → Writes put is_spelled (fields_of_section section) old new →
    TakesMore (λ sections. Writes put is_spelled (fields_of_sections sections) begin old) (λ sections. Writes put is_spelled (fields_of_sections sections) begin new) (section ∷ [])
section_written {put = put} {is_spelled} {begin} {new = new} section written = λ before took.
    let behind : fields_of_sections before ++ fields_of_section section ≡ fields_of_sections (before ++ section ∷ []) =
    sym (fields_of_sections-append before (section ∷ []) ∙ ap (λ (more : List Field). fields_of_sections before ++ more) (append-nil (fields_of_section section))) in
    subst (λ (fields : List Field). Writes put is_spelled fields begin new) behind (writes_then took written)
