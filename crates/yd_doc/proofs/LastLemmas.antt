-- The unit that stands last in a list: what is lent of it is what the document has.
use Rattle.std.proofs.Common.{◌≡◌, ℕ, zero, suc, ◌<◌, List, [], ◌∷◌, ◌++◌, Some, map, length, take, drop, get_or, refl, sym, ap, ◌∙◌, arith}
use Rattle.std.specs.Prelude.{slice_get}
use Rattle.std.proofs.lemmas.Option.{slice_get-get_or}
use Rattle.yd_ops.specs.Operation.{UnitContent, gone_unit, Operation, units_of_content}
use Rattle.yd_ops.specs.View.{content_value}
use Rattle.yd_ops.proofs.OperationLemmas.{length-units_of_content}
use Rattle.yd_ops.specs.declared.lists.List.{List as DocList}
use Rattle.yd_meaning.specs.Document.{Document}
use Rattle.yd_shown.specs.Shown.{last_unit}
use Rattle.yd_state.specs.declared.listing.RunView.{RunView}
use Rattle.yd_state.specs.Lent.{Lent, lent, lent_from, lent_units, units_of_view, IsWithin}
use Rattle.yd_doc.specs.Last.{unit_of_view}

-- the last unit that is lent is that of the last operation
abbrev pub IsLast : Document → List Operation → Lent → Type 0
IsLast d os u = (o : Operation) × (last_unit os ≡ Some o) × (lent d.deleted o ≡ u)

last_lent : (d : Document) (os : List Operation) (front : List Lent) (u : Lent) → map (lent d.deleted) os ≡ front ++ u ∷ [] → IsLast d os u
last_lent d [] [] u e = absurd cc
last_lent d [] (x ∷ front) u e = absurd cc
last_lent d (o ∷ []) [] u e = (o, refl, cc)
last_lent d (o ∷ []) (x ∷ []) u e = absurd cc
last_lent d (o ∷ []) (x ∷ y ∷ front) u e = absurd cc
last_lent d (o ∷ p ∷ os) [] u e = absurd cc
last_lent d (o ∷ p ∷ os) (x ∷ front) u e = last_lent d (p ∷ os) front u cc

one_of_part : (us : List UnitContent) (k : ℕ) (d : UnitContent) → k < length us → take 1 (drop k us) ≡ get_or us k d ∷ []
one_of_part [] k d less = absurd (omega arith)
one_of_part (u ∷ us) zero d less = refl
one_of_part (u ∷ us) (suc k) d less = one_of_part us k d (omega arith)

inside_view : (view : RunView) → IsWithin view → view.len ≡ 1 → view.offset < length (units_of_content (content_value view.content.now))
inside_view view within one = omega (arith, within.units, one, length-units_of_content (content_value view.content.now))

-- ---- lemmas for callers

-- a piece of one unit
pub view_one : (view : RunView) → IsWithin view → view.len ≡ 1 → units_of_view view ≡ unit_of_view view ∷ []
view_one view within one =
    ap (λ n. lent_from view.id view.deleted (take n (drop view.offset (units_of_content (content_value view.content.now))))) one
    ∙ ap (lent_from view.id view.deleted) (one_of_part (units_of_content (content_value view.content.now)) view.offset gone_unit (inside_view view within one))

-- the unit is one of the content
pub unit_got : (view : RunView) → IsWithin view → view.len ≡ 1 → slice_get (units_of_content (content_value view.content.now)) view.offset ≡ Some (unit_of_view view).content
unit_got view within one = slice_get-get_or (units_of_content (content_value view.content.now)) view.offset gone_unit (inside_view view within one)

-- the last piece of a list has the unit of the last operation
pub last_is_lent : (d : Document) (name : DocList) (view : RunView) (left front : List Lent) → IsWithin view → view.len ≡ 1 → left ≡ lent_units d name →
    left ≡ front ++ units_of_view view → IsLast d (d.units name) (unit_of_view view)
last_is_lent d name view left front within one lends last =
    last_lent d (d.units name) front (unit_of_view view) (sym lends ∙ last ∙ ap (λ (us : List Lent). front ++ us) (view_one view within one))

-- a list that lends nothing has no unit
pub none_lent : (d : Document) (os : List Operation) → map (lent d.deleted) os ≡ [] → os ≡ []
none_lent d [] f = refl
none_lent d (o ∷ os) f = absurd cc
