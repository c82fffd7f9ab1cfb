-- What a cut has written of the structs that it took, and that at the end it is the cut of the update.
use Rattle.std.proofs.Common.{◌≡◌, ℕ, ◌+◌, ◌≤◌, Bool, true, false, List, [], ◌∷◌, ◌++◌, Option, Some, inl, inr, map, length, refl, sym, ap, ap₂, ◌∙◌, subst, arith, append_assoc, append-nil}
use Rattle.std.specs.Bool.{OnTrue}
use Rattle.std.specs.List.Sorted.{IsPermutation}
use Rattle.std.proofs.lemmas.List.{drop_all, map-append}
use Rattle.std.proofs.lemmas.List.Sorted.{IsPermutation-refl}
use Rattle.yd_words.specs.Each.{Each}
use Rattle.yd_words.proofs.EachLemmas.{each_append}
use Rattle.yd_ids.specs.Id.{IsSpan}
use Rattle.yd_ids.specs.Set.{AreMaximal, HaveSameIds}
use Rattle.yd_ids.specs.Vector.{clock_of}
use Rattle.yd_ids.specs.declared.id.Client.{Client}
use Rattle.yd_ids.specs.declared.id.Id.{Id}
use Rattle.yd_ids.specs.declared.id.Span.{Span}
use Rattle.yd_ops.specs.Deletes.{struct_spans}
use Rattle.yd_ops.specs.Valid.{IsValidUpdate}
use Rattle.yd_ops.specs.Value.{StructValue, UpdateValue, clocks_of, gone, item, skip}
use Rattle.yd_grouping.specs.Building.{Built, all_pushed, finished, nothing_built, with_pushed}
use Rattle.yd_grouping.specs.Groups.{Group, start_of, struct_of}
use Rattle.yd_grouping.specs.Merged.{cut_update}
use Rattle.yd_grouping.proofs.CutLemmas.{cut_valid}
use Rattle.yd_fields.specs.Lent.{lent_struct}
use Rattle.yd_fields.specs.declared.lent.LentStruct.{LentStruct}
use Rattle.yd_merge.specs.Cutting.{cut_lent, cut_lents}
use Rattle.yd_merge.specs.Lending.{AreInTurn, IsLent, blocks_groups, lent_group, struct_groups}
use Rattle.yd_merge.specs.Named.{all_named}
use Rattle.yd_merge.specs.declared.lending.Lent.{Lent}
use Rattle.yd_merge.proofs.CutEntriesLemmas.{pushed-append}
use Rattle.yd_merge.proofs.LentCutLemmas.{all_lent_cut, turn_cut}
use Rattle.yd_merge.proofs.NamedLemmas.{named_are_spans, named_received, one_noted}
use Rattle.yd_merge.proofs.TurnLemmas.{of_update}
use Rattle.yd_reading.specs.Taking.{IsPlaced, Section, placed, sections_of}
use Rattle.yd_skimming.specs.BlockWriting.{IsGroupAt, IsWrittenAs}
use Rattle.yd_skimming.specs.Cutter.{EndsCut, HasCut, HasTaken, IsBehind, TookCut, built_by, end_of_groups}
use Rattle.yd_skimming.specs.GroupWriting.{HasBuilt}
use Rattle.yd_skimming.specs.Parting.{group_at, is_skip, lent_at}
use Rattle.yd_skimming.specs.Sections.{groups_of_section, groups_of_sections, spans_of_section, spans_of_sections}
use Rattle.yd_skimming.specs.Tails.{id_behind}
use Rattle.yd_skimming.specs.declared.cutter.Cutter.{Cutter}
use Rattle.yd_skimming.specs.declared.group_writing.GroupWriter.{GroupWriter}
use Rattle.yd_skimming.proofs.PartingLemmas.{group_behind, group_placed, lent_ahead, lent_at-clocks, lent_at-group, lent_at-id, lent_below, lent_is, part_placed}
use Rattle.yd_skimming.proofs.SectionsLemmas.{groups-append, groups_of_update, spans-append, spans_of_update}

section_group : (id : Id) (s : StructValue) → is_skip s ≡ false → struct_groups id.client id.clock s ++ [] ≡ group_at id s ∷ []
section_group id (item run) units = refl
section_group id (skip count) units = absurd cc
section_group id (gone count) units = refl

groups_placed : (sections : List Section) (id : Id) (s : StructValue) → is_skip s ≡ false → groups_of_sections (sections ++ placed id s ∷ []) ≡ groups_of_sections sections ++ group_at id s ∷ []
groups_placed sections id s units = groups-append sections (placed id s ∷ []) ∙ ap (λ gs. groups_of_sections sections ++ gs) (section_group id s units)

-- ---- one more

lents_more : (vector : ℕ → ℕ) (lents : List Lent) (lent : Lent) → cut_lents vector (lents ++ lent ∷ []) ≡ cut_lents vector lents ++ cut_lent (vector lent.id.client.0) lent
lents_more vector [] lent = append-nil (cut_lent (vector lent.id.client.0) lent)
lents_more vector (l ∷ lents) lent = ap (λ gs. cut_lent (vector l.id.client.0) l ++ gs) (lents_more vector lents lent)
    ∙ sym (append_assoc (cut_lent (vector l.id.client.0) l) (cut_lents vector lents) (cut_lent (vector lent.id.client.0) lent))

turn_more : (groups : List Group) (group : Group) → AreInTurn groups → IsBehind (end_of_groups groups) (start_of group) → AreInTurn (groups ++ group ∷ [])
turn_more [] group turn behind = tt
turn_more (g ∷ []) group turn behind = (behind, tt)
turn_more (g ∷ h ∷ groups) group turn behind = (turn.0, turn_more (h ∷ groups) group turn.1 behind)

end_more : (groups : List Group) (group : Group) → end_of_groups (groups ++ group ∷ []) ≡ Some (id_behind group)
end_more [] group = refl
end_more (g ∷ []) group = refl
end_more (g ∷ h ∷ groups) group = end_more (h ∷ groups) group

-- one more that is lent, behind the others
more_lent : (vector : ℕ → ℕ) (behind : Option Id) (writer new : GroupWriter) (groups : List Group) (group : Group) (lent : Lent) (cut : HasCut vector behind writer groups) →
    IsLent lent → lent_group lent ≡ group → IsBehind behind (start_of group) → HasBuilt new (all_pushed (built_by vector cut.lents) (cut_lent (vector lent.id.client.0) lent)) →
    HasCut vector (Some (id_behind group)) new (groups ++ group ∷ [])
more_lent vector behind writer new groups group lent cut is same turn put = record {
  lents = cut.lents ++ lent ∷ [];
  are = map-append lent_group cut.lents (lent ∷ []) ∙ ap₂ (λ gs g. gs ++ g ∷ []) cut.are same;
  each = each_append IsLent cut.lents (lent ∷ []) cut.each (is, tt);
  in_turn = turn_more groups group cut.in_turn (subst (λ end. IsBehind end (start_of group)) cut.behind_is turn);
  behind_is = sym (end_more groups group);
  built = subst (HasBuilt new) (sym built) put;
}
  where
    built : built_by vector (cut.lents ++ lent ∷ []) ≡ all_pushed (built_by vector cut.lents) (cut_lent (vector lent.id.client.0) lent)
    built = ap (all_pushed nothing_built) (lents_more vector cut.lents lent)
        ∙ pushed-append nothing_built (cut_lents vector cut.lents) (cut_lent (vector lent.id.client.0) lent)

-- ---- lemmas for callers: one more section

-- one without units
pub empty_taken : (vector : List (Client × ℕ)) (cutter : Cutter) (sections : List Section) (section : Section) → groups_of_section section ≡ [] → spans_of_section section ≡ [] →
    TookCut vector cutter sections → TookCut vector cutter (sections ++ section ∷ [])
empty_taken vector cutter sections section none no_spans (inl e) = inl e
empty_taken vector cutter sections section none no_spans (inr taken) = inr (record {
  vector_is = taken.vector_is;
  cut = subst (HasCut (clock_of vector) cutter.behind cutter.writer) (sym groups) taken.cut;
  named = taken.named ∙ sym spans;
})
  where
    groups : groups_of_sections (sections ++ section ∷ []) ≡ groups_of_sections sections
    groups = groups-append sections (section ∷ []) ∙ ap (λ gs. groups_of_sections sections ++ (gs ++ [])) none ∙ append-nil (groups_of_sections sections)

    spans : spans_of_sections (sections ++ section ∷ []) ≡ spans_of_sections sections
    spans = spans-append sections (section ∷ []) ∙ ap (λ ss. spans_of_sections sections ++ (ss ++ [])) no_spans ∙ append-nil (spans_of_sections sections)

pub skip_taken : (vector : List (Client × ℕ)) (cutter : Cutter) (sections : List Section) (id : Id) (s : StructValue) → is_skip s ≡ true →
    TookCut vector cutter sections → TookCut vector cutter (sections ++ placed id s ∷ [])
skip_taken vector cutter sections id (item run) e taken = absurd cc
skip_taken vector cutter sections id (skip count) e taken = empty_taken vector cutter sections (placed id (skip count)) refl refl taken
skip_taken vector cutter sections id (gone count) e taken = absurd cc

pub spans_placed : (sections : List Section) (id : Id) (s : StructValue) (old new : List Span) → old ≡ spans_of_sections sections → new ≡ old ++ struct_spans id.client id.clock s →
    new ≡ spans_of_sections (sections ++ placed id s ∷ [])
spans_placed sections id s old new are noted = noted ∙ ap (λ ss. ss ++ struct_spans id.client id.clock s) are
    ∙ sym (spans-append sections (placed id s ∷ []) ∙ ap (λ ss. spans_of_sections sections ++ ss) (append-nil (struct_spans id.client id.clock s)))

-- one with units: what it has in the cut is written, or it is not treated
pub struct_taken : (vector : List (Client × ℕ)) (old new : Cutter) (sections : List Section) (id : Id) (s : LentStruct) (len clock : ℕ) → HasTaken vector old sections →
    IsPlaced id (lent_struct s) → is_skip (lent_struct s) ≡ false → IsBehind old.behind id → len ≡ clocks_of (lent_struct s) → clock ≡ clock_of old.vector id.client.0 →
    new.vector ≡ old.vector → new.behind ≡ Some (record { client = id.client; clock = id.clock + len }) →
    new.named.items ≡ old.named.items ++ struct_spans id.client id.clock (lent_struct s) →
    OnTrue new.is_plain ((built : Built) → HasBuilt old.writer built → HasBuilt new.writer (all_pushed built (cut_lent clock (lent_at id s)))) →
    TookCut vector new (sections ++ placed id (lent_struct s) ∷ [])
struct_taken vector old new sections id s len clock taken is units turn long at same ends noted put = go new.is_plain refl put
  where
    group : Group
    group = group_at id (lent_struct s)

    end : Some (id_behind group) ≡ new.behind
    end = ap Some (group_behind id (lent_struct s) is units ∙ ap (λ n. record { client = id.client; clock = id.clock + n }) (sym long)) ∙ sym ends

    turns : IsBehind old.behind (start_of group)
    turns = subst (IsBehind old.behind) (sym (group_placed id (lent_struct s) is units).starts) turn

    here : clock ≡ clock_of vector (lent_at id s).id.client.0
    here = at ∙ ap (λ v. clock_of v id.client.0) taken.vector_is ∙ ap (λ (x : Id). clock_of vector x.client.0) (sym (lent_at-id id s))

    go : (b : Bool) → new.is_plain ≡ b → OnTrue b ((built : Built) → HasBuilt old.writer built → HasBuilt new.writer (all_pushed built (cut_lent clock (lent_at id s)))) →
        TookCut vector new (sections ++ placed id (lent_struct s) ∷ [])
    go false e puts = inl e
    go true e puts = inr (record {
      vector_is = same ∙ taken.vector_is;
      cut = subst (HasCut (clock_of vector) new.behind new.writer) (sym (groups_placed sections id (lent_struct s) units))
          (subst (λ x. HasCut (clock_of vector) x new.writer (groups_of_sections sections ++ group ∷ [])) end
          (more_lent (clock_of vector) old.behind old.writer new.writer (groups_of_sections sections) group (lent_at id s) taken.cut (lent_is id s is units) (lent_at-group id s) turns
          (subst (λ k. HasBuilt new.writer (all_pushed (built_by (clock_of vector) taken.cut.lents) (cut_lent k (lent_at id s)))) here
          (puts (built_by (clock_of vector) taken.cut.lents) taken.cut.built))));
      named = spans_placed sections id (lent_struct s) old.named.items new.named.items taken.named noted;
    })

-- ---- lemmas for callers: what of it is written

-- all of it, as one group
pub put_whole : (put : Bool) (old new : GroupWriter) (clock : ℕ) (id : Id) (s : LentStruct) → IsPlaced id (lent_struct s) → is_skip (lent_struct s) ≡ false → clock ≤ id.clock →
    OnTrue put ((built : Built) (group : Group) → IsGroupAt id (lent_struct s) group → HasBuilt old built → HasBuilt new (with_pushed built group)) →
    OnTrue put ((built : Built) → HasBuilt old built → HasBuilt new (all_pushed built (cut_lent clock (lent_at id s))))
put_whole false old new clock id s is units le puts = tt
put_whole true old new clock id s is units le puts = λ built has. subst (λ gs. HasBuilt new (all_pushed built gs)) (sym all)
    (puts built (group_at id (lent_struct s)) (group_placed id (lent_struct s) is units) has)
  where
    all : cut_lent clock (lent_at id s) ≡ group_at id (lent_struct s) ∷ []
    all = lent_ahead clock (lent_at id s) (lent_is id s is units) (omega (arith, le, ap (λ (x : Id). x.clock) (lent_at-id id s))) ∙ ap (λ g. g ∷ []) (lent_at-group id s)

-- nothing of it
pub put_none : (writer : GroupWriter) (clock : ℕ) (id : Id) (s : LentStruct) (built : Built) → IsPlaced id (lent_struct s) → is_skip (lent_struct s) ≡ false →
    id.clock + clocks_of (lent_struct s) ≤ clock → HasBuilt writer built → HasBuilt writer (all_pushed built (cut_lent clock (lent_at id s)))
put_none writer clock id s built is units le has = subst (λ gs. HasBuilt writer (all_pushed built gs)) (sym none) has
  where
    none : cut_lent clock (lent_at id s) ≡ []
    none = lent_below clock (lent_at id s) (lent_is id s is units) (omega (arith, le, lent_at-clocks id s, ap (λ (x : Id). x.clock) (lent_at-id id s)))

-- a part of it, as one group
pub put_part : (put : Bool) (old new : GroupWriter) (clock : ℕ) (id : Id) (s : LentStruct) (first : Id) (part : StructValue) (group : Group) →
    cut_lent clock (lent_at id s) ≡ group ∷ [] → first ≡ start_of group → part ≡ struct_of group →
    OnTrue put ((built : Built) (g : Group) → IsGroupAt first part g → HasBuilt old built → HasBuilt new (with_pushed built g)) →
    OnTrue put ((built : Built) → HasBuilt old built → HasBuilt new (all_pushed built (cut_lent clock (lent_at id s))))
put_part false old new clock id s first part group all begins is puts = tt
put_part true old new clock id s first part group all begins is puts = λ built has. subst (λ gs. HasBuilt new (all_pushed built gs)) (sym all)
    (puts built group (record { starts = sym begins; struct = sym is }) has)

pub part_is_placed : (clock : ℕ) (id : Id) (s : LentStruct) (first : Id) (part : StructValue) (group : Group) → IsPlaced id (lent_struct s) → is_skip (lent_struct s) ≡ false →
    cut_lent clock (lent_at id s) ≡ group ∷ [] → first ≡ start_of group → part ≡ struct_of group → IsPlaced first part
part_is_placed clock id s first part group is units all begins e = subst (λ x. IsPlaced x part) (sym begins) (subst (IsPlaced (start_of group)) (sym e)
    (part_placed clock (lent_at id s) group (lent_is id s is units) all))

-- ---- lemmas for callers: the end

-- the structs name what they spell deleted or gone, and the update deletes the rest by name
pub all_are_named : (vector : List (Client × ℕ)) (cutter : Cutter) (deletes : List Span) (update : UpdateValue) (spans : List Span) → EndsCut vector cutter deletes update →
    spans ≡ cutter.named.items ++ deletes → spans ≡ all_named (update ∷ [])
all_are_named vector cutter deletes update spans end e = one_noted update [] spans refl
    (e ∙ ap₂ (λ ss ds. ss ++ ds) (end.taken.named ∙ spans_of_update update) end.deletes_are)

pub named_spans_are : (vector : List (Client × ℕ)) (cutter : Cutter) (deletes : List Span) (update : UpdateValue) (spans : List Span) → EndsCut vector cutter deletes update →
    spans ≡ cutter.named.items ++ deletes → Each IsSpan spans
named_spans_are vector cutter deletes update spans end e = named_are_spans (update ∷ []) spans (end.valid, tt) (all_are_named vector cutter deletes update spans end e)

-- what is written then is the cut of the update
pub cut_ends : (vector : List (Client × ℕ)) (cutter : Cutter) (deletes : List Span) (update : UpdateValue) (spans set : List Span) → EndsCut vector cutter deletes update →
    spans ≡ cutter.named.items ++ deletes → AreMaximal set → HaveSameIds set spans → (bytes : List ℕ) →
    ((built : Built) → HasBuilt cutter.writer built → IsValidUpdate (finished built set) → IsWrittenAs bytes (finished built set)) → IsWrittenAs bytes (cut_update update (clock_of vector))
cut_ends vector cutter deletes update spans set end e maximal same bytes writes =
    subst (IsWrittenAs bytes) whole (writes built cut.built (subst IsValidUpdate (sym whole) (cut_valid update (clock_of vector) end.valid)))
  where
    cut : HasCut (clock_of vector) cutter.behind cutter.writer (groups_of_sections (sections_of update))
    cut = end.taken.cut

    built : Built
    built = built_by (clock_of vector) end.taken.cut.lents

    are : map lent_group cut.lents ≡ blocks_groups update.blocks
    are = cut.are ∙ groups_of_update update

    turn : AreInTurn (map lent_group cut.lents)
    turn = subst AreInTurn (sym cut.are) cut.in_turn

    whole : finished built set ≡ cut_update update (clock_of vector)
    whole = all_lent_cut (clock_of vector) cut.lents (length cut.lents) built set cut.each turn (omega arith)
        (ap (λ ls. all_pushed built (cut_lents (clock_of vector) ls)) (drop_all (length cut.lents) cut.lents (omega arith)))
        ∙ turn_cut update (map lent_group cut.lents) (clock_of vector) set end.valid (of_update cut.lents cut.each)
        (subst (IsPermutation (blocks_groups update.blocks)) (sym are) (IsPermutation-refl (blocks_groups update.blocks))) turn
        (named_received (update ∷ []) spans set (end.valid, tt) (all_are_named vector cutter deletes update spans end e) maximal same)
