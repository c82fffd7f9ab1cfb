-- What was taken before stays, and what is taken is known too.
use Rattle.std.proofs.Common.{◌≡◌, ℕ, List, [], ◌∷◌, ◌++◌, refl, sym, ap, ap₂, ◌∙◌, subst, append_assoc, append-nil, length}
use Rattle.yd_units.specs.Text.{units_of}
use Rattle.yd_ids.specs.declared.id.Id.{Id}
use Rattle.yd_ids.specs.declared.id.Span.{Span}
use Rattle.yd_ids.specs.Set.{HaveSameIds}
use Rattle.yd_ids.proofs.SetLemmas.{same_through}
use Rattle.yd_ops.specs.Value.{UpdateValue}
use Rattle.yd_ops.specs.View.{struct_value}
use Rattle.yd_ops.specs.declared.updates.Struct.{Struct}
use Rattle.yd_grouping.specs.Groups.{Group}
use Rattle.yd_merge.specs.Lending.{blocks_groups, struct_groups, updates_groups}
use Rattle.yd_merge.specs.Reaching.{spans_of}
use Rattle.yd_fields.specs.Lent.{lent_struct}
use Rattle.yd_fields.specs.declared.lent.LentRun.{LentRun}
use Rattle.yd_fields.specs.declared.lent.LentStruct.{LentStruct}
use Rattle.yd_fields.specs.declared.lent.LentStruct.TheVariants.{Made, Text}
use Rattle.yd_reading.specs.Taking.{IsPlaced, Section, TakesMore, counted, headed, placed, sections_of}
use Rattle.yd_v1.specs.Log.{TakesMore as TakesUpdates}
use Rattle.yd_skimming.specs.Noting.{NotesGroups, span_from}
use Rattle.yd_skimming.specs.Reaching.{AreIdsOf, HasTaken, HasTakenSections}
use Rattle.yd_skimming.specs.Sections.{groups_of_sections}
use Rattle.yd_skimming.proofs.NotingLemmas.{same_front, spans_of-append}
use Rattle.yd_skimming.proofs.SectionsLemmas.{groups-append, groups_of_update}

-- groups were noted behind others
are_more : (old new : List Span) (groups more : List Group) → NotesGroups old new more → AreIdsOf old groups → AreIdsOf new (groups ++ more)
are_more old new groups more notes are = same_through new (old ++ spans_of more) (spans_of (groups ++ more)) notes
    (subst (HaveSameIds (old ++ spans_of more)) (sym (spans_of-append groups more)) (same_front old (spans_of groups) (spans_of more) are))

-- the sections of updates
abbrev sections_of_all : List UpdateValue → List Section
sections_of_all [] = []
sections_of_all (u ∷ us) = sections_of u ++ sections_of_all us

groups_of_all : (updates : List UpdateValue) → groups_of_sections (sections_of_all updates) ≡ updates_groups updates
groups_of_all [] = refl
groups_of_all (u ∷ us) = groups-append (sections_of u) (sections_of_all us) ∙ ap₂ (λ gs hs. gs ++ hs) (groups_of_update u) (groups_of_all us)

updates_and : (updates : List UpdateValue) (update : UpdateValue) → updates_groups (updates ++ update ∷ []) ≡ updates_groups updates ++ blocks_groups update.blocks
updates_and [] update = append-nil (blocks_groups update.blocks)
updates_and (u ∷ us) update = ap (λ gs. blocks_groups u.blocks ++ gs) (updates_and us update) ∙ sym (append_assoc (blocks_groups u.blocks) (updates_groups us) (blocks_groups update.blocks))

none_noted : (spans : List Span) → NotesGroups spans spans []
none_noted spans = subst (HaveSameIds spans) (sym (append-nil spans)) (λ x. ((λ h. h), (λ h. h)))

-- the groups of sections were noted
sections_taken : (old new : List Span) (more : List Section) → NotesGroups old new (groups_of_sections more) → TakesMore (HasTakenSections old) (HasTakenSections new) more
sections_taken old new more notes before has = subst (AreIdsOf new) (sym (groups-append before more)) (are_more old new (groups_of_sections before) (groups_of_sections more) notes has)

-- ---- lemmas for callers

-- a section of no struct
pub count_taken : (spans : List Span) (count : ℕ) → TakesMore (HasTakenSections spans) (HasTakenSections spans) (counted count ∷ [])
count_taken spans count = sections_taken spans spans (counted count ∷ []) (none_noted spans)

pub head_taken : (spans : List Span) (id : Id) (count : ℕ) → TakesMore (HasTakenSections spans) (HasTakenSections spans) (headed id count ∷ [])
head_taken spans id count = sections_taken spans spans (headed id count ∷ []) (none_noted spans)

-- a struct
pub made_taken : (old new : List Span) (id : Id) (entry : LentStruct) (next : Struct) → entry ≡ Made next → NotesGroups old new (struct_groups id.client id.clock (struct_value next)) →
    TakesMore (HasTakenSections old) (HasTakenSections new) (placed id (lent_struct entry) ∷ [])
made_taken old new id entry next e notes = sections_taken old new (placed id (lent_struct entry) ∷ [])
    (subst (λ gs. NotesGroups old new gs) (sym (append-nil (struct_groups id.client id.clock (lent_struct entry)))) (subst (λ (s : LentStruct). NotesGroups old new (struct_groups id.client id.clock (lent_struct s))) (sym e) notes))

pub text_taken : (old new : List Span) (id : Id) (entry : LentStruct) (run : LentRun) (len : ℕ) → entry ≡ Text run → IsPlaced id (lent_struct entry) → len ≡ length (units_of run.text) →
    HaveSameIds new (old ++ span_from id len ∷ []) → TakesMore (HasTakenSections old) (HasTakenSections new) (placed id (lent_struct entry) ∷ [])
text_taken old new id entry run len e valid same notes = sections_taken old new (placed id (lent_struct entry) ∷ [])
    (subst (λ (s : LentStruct). NotesGroups old new (groups_of_sections (placed id (lent_struct s) ∷ []))) (sym e)
    (subst (λ (n : ℕ). HaveSameIds new (old ++ span_from run.id n ∷ [])) same (subst (λ (x : Id). HaveSameIds new (old ++ span_from x len ∷ [])) (sym begins) notes)))
  where
    begins : run.id ≡ id
    begins = (subst (λ (s : LentStruct). IsPlaced id (lent_struct s)) e valid).is_struct.begins

-- an update, of which the ids of its blocks were noted
pub update_taken : (old new : List Span) (update : UpdateValue) → NotesGroups old new (blocks_groups update.blocks) → TakesUpdates (HasTaken old) (HasTaken new) (update ∷ [])
update_taken old new update notes before has = subst (AreIdsOf new) (sym (updates_and before update)) (are_more old new (updates_groups before) (blocks_groups update.blocks) notes has)

-- an update, of which the sections were taken
pub sections_are_taken : (old new : List Span) (update : UpdateValue) → TakesMore (HasTakenSections old) (HasTakenSections new) (sections_of update) → TakesUpdates (HasTaken old) (HasTaken new) (update ∷ [])
sections_are_taken old new update takes before has = subst (AreIdsOf new) same (takes (sections_of_all before) (subst (AreIdsOf old) (sym (groups_of_all before)) has))
  where
    same : groups_of_sections (sections_of_all before ++ sections_of update) ≡ updates_groups (before ++ update ∷ [])
    same = groups-append (sections_of_all before) (sections_of update) ∙ ap₂ (λ gs hs. gs ++ hs) (groups_of_all before) (groups_of_update update) ∙ sym (updates_and before update)
