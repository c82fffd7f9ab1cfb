-- Entries as groups: they have the entries' operations, and can be grouped.
use Rattle.std.proofs.Common.{◌≡◌, ℕ, ◌+◌, ◌<◌, ◌≤◌, Bool, true, false, List, [], ◌∷◌, ◌++◌, Option, Some, None, map, take, drop, length, get_or, refl, sym, ap, ap₂, ◌∙◌, subst, arith}
use Rattle.std.specs.Prelude.{IfSome, slice_get}
use Rattle.std.proofs.lemmas.List.{drop_more, length-take-le, length-drop}
use Rattle.yd_words.specs.Each.{Each}
use Rattle.yd_ids.specs.declared.id.Id.{Id}
use Rattle.yd_ids.specs.declared.id.Span.{Span}
use Rattle.yd_ops.specs.declared.lists.List.{List as DocList}
use Rattle.yd_ops.specs.declared.runs.Run.{Run}
use Rattle.yd_ops.specs.Operation.{operations_from, units_of_content}
use Rattle.yd_ops.specs.Valid.{CarriesList, IsValidContent}
use Rattle.yd_ops.specs.Value.{ContentValue}
use Rattle.yd_ops.specs.View.{content_value}
use Rattle.yd_ops.proofs.OperationLemmas.{length-units_of_content}
use Rattle.yd_ops.specs.Received.{IsWritten}
use Rattle.yd_grouping.specs.Building.{Built, all_pushed, finished, nothing_built, with_pushed}
use Rattle.yd_grouping.specs.Grouped.{grouping_of}
use Rattle.yd_grouping.specs.Groups.{IsGroup, operations_of_group, operations_of_groups}
use Rattle.yd_grouping.proofs.BuilderLemmas.{builder_groups}
use Rattle.yd_entries.specs.declared.entry.Entry.{Entry}
use Rattle.yd_entries.specs.Entries.{AreInOrder, IsTakenOf, IsTold, TellsRight, list_at, operations_in, operations_of_taken, operations_told, units_of}
use Rattle.yd_entries.proofs.TakenLemmas.{in_written}
use Rattle.yd_merge.specs.Told.{IsPartOf, content_part, group_of_run, group_told, group_of_entry}
use Rattle.yd_merge.proofs.ContentLemmas.{part-units}

-- ---- one entry

told-operations : (t : Entry) (run : Option Run) → 0 < t.len → t.offset + t.len ≤ length (units_of run) →
    operations_of_group (group_of_run t run) ≡ operations_from t.id t.left t.right (list_at run t.offset) (take t.len (drop t.offset (units_of run)))
told-operations t None some le = absurd (omega (arith, some, le))
told-operations t (Some run) some le = ap (operations_from t.id t.left t.right (list_at (Some run) t.offset))
    (part-units t.offset t.len (content_value run.content) some (omega (arith, le, length-units_of_content (content_value run.content))))

-- the group of an entry has its operations
pub entry-operations : (runs : List Run) (t : Entry) → IsTakenOf runs t → operations_of_group (group_of_entry runs t) ≡ operations_of_taken runs t
entry-operations runs t is = go t.is_gone is.told
  where
    go : (gone : Bool) → TellsRight gone runs t → operations_of_group (group_told gone runs t) ≡ operations_told gone runs t
    go true told = refl
    go false told = told-operations t (slice_get runs t.run) is.has_units told.within

pub carries_none : (left right : Option Id) (list : Option DocList) → CarriesList left right list → (y : Id) → left ≡ Some y → list ≡ None
carries_none left right None carries y e = refl
carries_none None right (Some list) carries y e = absurd cc
carries_none (Some x) right (Some list) carries y e = absurd carries

told_group : (t : Entry) (run : Option Run) → 0 < t.len → t.offset + t.len ≤ length (units_of run) → CarriesList t.left t.right (list_at run t.offset) → IsGroup (group_of_run t run)
told_group t None some le carries = some
told_group t (Some run) some le carries = (
  omega (arith, some, le, sym (length-units_of_content (content_part t.offset t.len content)), ap length units, long),
  carries_none t.left t.right (list_at (Some run) t.offset) carries,
)
  where
    content : ContentValue
    content = content_value run.content

    units : units_of_content (content_part t.offset t.len content) ≡ take t.len (drop t.offset (units_of_content content))
    units = part-units t.offset t.len content some (omega (arith, le, length-units_of_content content))

    long : length (take t.len (drop t.offset (units_of_content content))) ≡ t.len
    long = length-take-le t.len (drop t.offset (units_of_content content)) (omega (arith, le, length-drop t.offset (units_of_content content)))

entry_group : (runs : List Run) (t : Entry) → IsTakenOf runs t → IsGroup (group_of_entry runs t)
entry_group runs t is = go t.is_gone is.told
  where
    go : (gone : Bool) → TellsRight gone runs t → IsGroup (group_told gone runs t)
    go true told = is.has_units
    go false told = told_group t (slice_get runs t.run) is.has_units told.within told.list

-- ---- all entries

pub entries-operations : (runs : List Run) (ts : List Entry) → Each (IsTakenOf runs) ts → operations_of_groups (map (group_of_entry runs) ts) ≡ operations_in runs ts
entries-operations runs [] each = refl
entries-operations runs (t ∷ ts) each = ap₂ (λ os ps. os ++ ps) (entry-operations runs t each.0) (entries-operations runs ts each.1)

pub entries_groups : (runs : List Run) (ts : List Entry) → Each (IsTakenOf runs) ts → Each IsGroup (map (group_of_entry runs) ts)
entries_groups runs [] each = tt
entries_groups runs (t ∷ ts) each = (entry_group runs t each.0, entries_groups runs ts each.1)

-- ---- lemmas for callers

-- a told entry has a part of its run
pub is_part : (runs : List Run) (t : Entry) (run : Run) → IsTakenOf runs t → t.is_gone ≡ false → slice_get runs t.run ≡ Some run → IsPartOf (content_value run.content) t
is_part runs t run is told here = part (subst (λ gone. TellsRight gone runs t) told is.told)
  where
    part : IsTold runs t → IsPartOf (content_value run.content) t
    part tells = record {
      some = is.has_units;
      within = omega (arith, tells.within, ap (λ r. length (units_of r)) here, length-units_of_content (content_value run.content));
      fits = tells.fits;
      valid = subst (λ r. IfSome r (λ (run : Run). IsValidContent (content_value run.content))) here tells.content;
    }

pub told_is : (runs : List Run) (t : Entry) (run : Run) → t.is_gone ≡ false → slice_get runs t.run ≡ Some run → group_of_run t (Some run) ≡ group_of_entry runs t
told_is runs t run told here = ap (λ r. group_of_run t r) (sym here) ∙ ap (λ gone. group_told gone runs t) (sym told)

-- one more entry is pushed
pub write_next : (runs : List Run) (ts : List Entry) (i : ℕ) (t : Entry) (old new : Built) → i < length ts → t ≡ get_or ts i t → new ≡ with_pushed old (group_of_entry runs t) →
    all_pushed new (map (group_of_entry runs) (drop (i + 1) ts)) ≡ all_pushed old (map (group_of_entry runs) (drop i ts))
write_next runs ts i t old new lt at e = ap (λ b. all_pushed b (map (group_of_entry runs) (drop (i + 1) ts))) e
    ∙ ap (λ us. all_pushed old (map (group_of_entry runs) us)) (sym (drop_more ts i t lt ∙ ap (λ (s : Entry). s ∷ drop (i + 1) ts) (sym at)))

-- all entries pushed are the grouping of their operations
pub writes : (runs : List Run) (ts : List Entry) (deletes : List Span) → Each (IsTakenOf runs) ts → AreInOrder ts →
    finished (all_pushed nothing_built (map (group_of_entry runs) ts)) deletes ≡ grouping_of (operations_in runs ts) deletes
writes runs ts deletes each order = builder_groups (map (group_of_entry runs) ts) deletes (entries_groups runs ts each)
    (subst (λ os. IsWritten os) (sym (entries-operations runs ts each)) (in_written runs ts each order))
    ∙ ap (λ os. grouping_of os deletes) (entries-operations runs ts each)

-- at the end no entry is left
pub all_written : (runs : List Run) (ts rest : List Entry) (built : Built) (deletes : List Span) → Each (IsTakenOf runs) ts → AreInOrder ts → rest ≡ [] →
    all_pushed built (map (group_of_entry runs) rest) ≡ all_pushed nothing_built (map (group_of_entry runs) ts) →
    finished built deletes ≡ grouping_of (operations_in runs ts) deletes
all_written runs ts rest built deletes each order none e = ap (λ b. finished b deletes) (sym (ap (λ us. all_pushed built (map (group_of_entry runs) us)) none) ∙ e)
    ∙ writes runs ts deletes each order
