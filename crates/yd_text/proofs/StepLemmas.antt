-- The steps of the edits of a map, by what is told of the unit that stands last under the key.
use Rattle.std.proofs.Common.{◌≡◌, ℕ, Bool, true, false, ◌&&◌, not, List, [], ◌∷◌, Option, Some, None, option_map, refl, ap, ◌∙◌}
use Rattle.std.specs.Prelude.{if◌then◌else◌}
use Rattle.yd_ids.specs.declared.id.Id.{Id}
use Rattle.yd_ids.specs.declared.id.Span.{Span}
use Rattle.yd_ops.specs.declared.lists.List.{List as DocList}
use Rattle.yd_ops.specs.declared.lists.Parent.{Parent}
use Rattle.yd_ops.specs.Operation.{Operation}
use Rattle.yd_ops.specs.Value.{ContentValue}
use Rattle.yd_meaning.specs.Document.{Document}
use Rattle.yd_shown.specs.Shown.{is_counted, if_shown, key_list, last_unit}
use Rattle.yd_editing.specs.MapEdit.{id_of_unit, listed, if_live, set_steps}
use Rattle.yd_editing.specs.Step.{make, remove}
use Rattle.yd_editing.specs.TextEdit.{ids_of_units}
use Rattle.yd_text.specs.declared.last.LastUnit.{LastUnit}
use Rattle.yd_text.specs.Last.{told_of, id_told, live_told, shown_told, set_of_one}

-- ---- lemmas for callers

pub id_same : (d : Document) (unit : Option Operation) → id_told (option_map (told_of d) unit) ≡ id_of_unit unit
id_same d None = refl
id_same d (Some o) = refl

pub live_same : (d : Document) (unit : Option Operation) → set_of_one (live_told (option_map (told_of d) unit)) ≡ ids_of_units (listed (if_live d.deleted unit))
live_same d None = refl
live_same d (Some o) = go (not (d.deleted o.id))
  where
    go : (t : Bool) → set_of_one (if t then Some o.id else None) ≡ ids_of_units (listed (if t then Some o else None))
    go true = refl
    go false = refl

pub shown_same : (d : Document) (unit : Option Operation) → shown_told (option_map (told_of d) unit) ≡ id_of_unit (if_shown d.deleted unit)
shown_same d None = refl
shown_same d (Some o) = go (shown o)
  where
    shown : Operation → Bool
    shown p = not (d.deleted p.id) && is_counted p.content

    go : (t : Bool) → (if t then Some o.id else None) ≡ id_of_unit (if t then Some o else None)
    go true = refl
    go false = refl

pub set_of_unit : (unit : Option Operation) → set_of_one (id_of_unit unit) ≡ ids_of_units (listed unit)
set_of_unit None = refl
set_of_unit (Some o) = refl

-- the steps of what is set, by what is told of the last unit under the key
pub set_steps_are : (d : Document) (parent : Parent) (key : List ℕ) (content : ContentValue) (last : Option LastUnit) (list : DocList) (after live : Option Id) (ids : List Span) →
    list ≡ key_list parent key → last ≡ option_map (told_of d) (last_unit (d.units list)) → after ≡ id_told last → live ≡ live_told last → ids ≡ set_of_one live →
    make list after content ∷ remove ids ∷ [] ≡ set_steps d parent key content
set_steps_are d parent key content last list after live ids is told behind lives removed =
    ap (λ l. make l after content ∷ remove ids ∷ []) is
    ∙ ap (λ a. make (key_list parent key) a content ∷ remove ids ∷ []) (behind ∙ ap id_told told_there ∙ id_same d unit)
    ∙ ap (λ s. make (key_list parent key) (id_of_unit unit) content ∷ remove s ∷ []) (removed ∙ ap set_of_one (lives ∙ ap live_told told_there) ∙ live_same d unit)
  where
    unit : Option Operation
    unit = last_unit (d.units (key_list parent key))

    told_there : last ≡ option_map (told_of d) unit
    told_there = told ∙ ap (λ l. option_map (told_of d) (last_unit (d.units l))) is
