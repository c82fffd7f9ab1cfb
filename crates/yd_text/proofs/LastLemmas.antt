-- What is told of the unit that stands last in a list.
use Rattle.std.proofs.Common.{◌≡◌, ◌+◌, ℕ, zero, suc, Bool, true, false, ◌&&◌, not, nat_eq, List, [], ◌∷◌, ◌++◌, Option, Some, None, option_map, refl, sym, ap, ◌∙◌, subst, arith}
use Rattle.std.specs.Prelude.{if◌then◌else◌}
use Rattle.yd_ids.specs.declared.id.Id.{Id}
use Rattle.yd_ids.specs.Id.{IsId, IsClock}
use Rattle.yd_ops.specs.declared.lists.List.{List as DocList}
use Rattle.yd_meaning.specs.Document.{Document}
use Rattle.yd_shown.specs.Shown.{is_counted, last_unit}
use Rattle.yd_state.specs.declared.listing.RunView.{RunView}
use Rattle.yd_state.specs.Lent.{Lent, lent_units, units_of_view, IsWithin}
use Rattle.yd_doc.specs.Counted.{counted_ids, ids_from}
use Rattle.yd_doc.specs.Last.{unit_of_view}
use Rattle.yd_doc.proofs.LastLemmas.{last_is_lent, none_lent, view_one}
use Rattle.yd_text.specs.declared.last.LastUnit.{LastUnit}
use Rattle.yd_text.specs.Last.{told_of, IsUnitId}

-- one unit counts exactly where one id is counted
counted_one : (u : Lent) (id : Id) (n : ℕ) → counted_ids (u ∷ []) ≡ ids_from id n → nat_eq n 1 ≡ (not u.is_deleted && is_counted u.content)
counted_one u id n e = go (not u.is_deleted && is_counted u.content) n e
  where
    go : (t : Bool) (m : ℕ) → (if t then u.id ∷ [] else []) ≡ ids_from id m → nat_eq m 1 ≡ t
    go true zero f = absurd cc
    go true (suc zero) f = refl
    go true (suc (suc m)) f = absurd cc
    go false zero f = refl
    go false (suc m) f = absurd cc

-- ---- lemmas for callers

-- a list that lends nothing has no last unit
pub nothing_told : (d : Document) (name : DocList) (left : List Lent) → left ≡ lent_units d name → left ≡ [] → None ≡ option_map (told_of d) (last_unit (d.units name))
nothing_told d name left lends none = sym (ap (λ os. option_map (told_of d) (last_unit os)) (none_lent d (d.units name) (sym lends ∙ none)))

-- the last piece tells of the last unit
pub last_told : (d : Document) (name : DocList) (view : RunView) (left front : List Lent) (n : ℕ) → IsWithin view → view.len ≡ 1 → left ≡ lent_units d name →
    left ≡ front ++ units_of_view view → counted_ids (units_of_view view) ≡ ids_from view.id n →
    ◌≡◌ {A = Option LastUnit} (Some (record { id = view.id; live = not view.deleted; shown = nat_eq n 1 })) (option_map (told_of d) (last_unit (d.units name)))
last_told d name view left front n within one lends last counts =
    let (o, e, f) = last_is_lent d name view left front within one lends last in
    ap (λ t. Some (record { id = view.id; live = not view.deleted; shown = t })) (counted_one (unit_of_view view) view.id n (sym (ap counted_ids (view_one view within one)) ∙ counts))
    ∙ ap (λ (u : Lent). Some (record { id = u.id; live = not u.is_deleted; shown = not u.is_deleted && is_counted u.content })) (sym f)
    ∙ ap (option_map (told_of d)) (sym e)

-- its id is that of a unit
pub id_within : (view : RunView) → IsWithin view → view.len ≡ 1 → IsUnitId view.id
id_within view within one = record { client = within.client; end = subst (λ n. IsClock (view.id.clock + n)) one within.ids }

-- and so in range
pub unit_in_range : (id : Id) → IsUnitId id → IsId id
unit_in_range id unit = record { client = unit.client; clock = omega (arith, unit.end) }
