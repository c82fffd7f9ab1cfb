-- Units that came one after another.
use Rattle.std.proofs.Common.{◌≡◌, ◌≢◌, ℕ, zero, suc, ◌+◌, ◌<◌, ◌≤◌, true, false, List, [], ◌∷◌, ◌++◌, Some, length, take, drop, map, get_or, refl, sym, ap, ◌∙◌, subst, arith, append_assoc, length-drop}
use Rattle.std.specs.Prelude.{slice_get}
use Rattle.std.proofs.lemmas.List.{take_more, get_or-drop, length-take-le}
use Rattle.std.proofs.lemmas.Option.{slice_get-get_or}
use Rattle.yd_words.specs.Each.{Each}
use Rattle.yd_any.specs.Tree.{AnyTree}
use Rattle.yd_ids.specs.declared.id.Id.{Id}
use Rattle.yd_ops.specs.Operation.{UnitContent, text_unit, Operation, later_id, units_of_content}
use Rattle.yd_any.specs.declared.json_value.Json.{Json}
use Rattle.yd_ops.specs.declared.kinds.Kind.{Kind}
use Rattle.yd_ops.specs.declared.contents.Content.{Content}
use Rattle.yd_ops.specs.declared.contents.Content.TheVariants.{Json as JsonUnits, Binary, Str, Embed, Format, Nested, Any, Deleted}
use Rattle.yd_ops.proofs.OperationLemmas.{length-units_of_content}
use Rattle.yd_ops.specs.View.{content_value}
use Rattle.yd_state.specs.declared.listing.RunView.{RunView}
use Rattle.yd_state.specs.Lent.{Lent, lent_from, units_of_view, IsWithin}
use Rattle.yd_modes.specs.declared.gathering.Gathering.{Gathering}
use Rattle.yd_modes.specs.Roles.{Way, role_of, is_idle, AreIdle, AreIdleUnits, IsOther, live_lent}
use Rattle.yd_modes.specs.Gathering.{gathered, live, IsSettled, Gathers}

-- ---- one after another

pub gathers_none : (way : Way) (show : Operation → AnyTree) (a : Gathering) → IsSettled a → Gathers way show a a []
gathers_none way show a settled = record { pieces = λ us. refl; settled = settled }

pub gathers_both : (way : Way) (show : Operation → AnyTree) (a b c : Gathering) (xs ys : List Lent) → Gathers way show a b xs → Gathers way show b c ys → Gathers way show a c (xs ++ ys)
gathers_both way show a b c xs ys first second = record {
  pieces = λ us. second.pieces us ∙ first.pieces (ys ++ us) ∙ ap (gathered way show a) (sym (append_assoc xs ys us));
  settled = second.settled;
}

-- ---- units in a row

from-append : (id : Id) (us vs : List UnitContent) → lent_from id false (us ++ vs) ≡ lent_from id false us ++ lent_from (later_id id (length us)) false vs
from-append id [] vs = same_from (id.clock) (id.clock + 0) (omega arith)
  where
    same_from : (c k : ℕ) → c ≡ k → lent_from (record { client = id.client; clock = c }) false vs ≡ lent_from (record { client = id.client; clock = k }) false vs
    same_from c k e = ap (λ (n : ℕ). lent_from (record { client = id.client; clock = n }) false vs) e
from-append id (u ∷ us) vs = ap (λ (l : List Lent). live id u ∷ l) (from-append (later_id id 1) us vs
    ∙ same_from (id.clock + 1 + length us) (id.clock + length (u ∷ us)) (omega arith))
  where
    same_from : (c k : ℕ) → c ≡ k → lent_from (later_id id 1) false us ++ lent_from (record { client = id.client; clock = c }) false vs
        ≡ lent_from (later_id id 1) false us ++ lent_from (record { client = id.client; clock = k }) false vs
    same_from c k e = ap (λ (n : ℕ). lent_from (later_id id 1) false us ++ lent_from (record { client = id.client; clock = n }) false vs) e

-- the unit at a place of a part
pub unit_there : (us : List UnitContent) (offset len i : ℕ) (d : UnitContent) → offset + len ≤ length us → i < len →
    slice_get us (offset + i) ≡ Some (get_or (drop offset us) i d)
unit_there us offset len i d within less = slice_get-get_or us (offset + i) d (omega arith) ∙ ap (λ x. Some x) (sym (get_or-drop offset us i d))

-- one more of a part, behind the others
pub from_more : (id : Id) (us : List UnitContent) (offset len i : ℕ) (d : UnitContent) → offset + len ≤ length us → i < len →
    lent_from id false (take (i + 1) (drop offset us)) ≡ lent_from id false (take i (drop offset us)) ++ live (later_id id i) (get_or (drop offset us) i d) ∷ []
from_more id us offset len i d within less =
    ap (lent_from id false) (take_more xs i d inside) ∙ from-append id (take i xs) (get_or xs i d ∷ [])
    ∙ ap (λ n. lent_from id false (take i xs) ++ live (later_id id n) (get_or xs i d) ∷ []) many
  where
    xs : List UnitContent
    xs = drop offset us

    inside : i < length xs
    inside = omega (arith, length-drop offset us)

    many : length (take i xs) ≡ i
    many = length-take-le i xs (omega (arith, inside))

pub gathers_more : (way : Way) (show : Operation → AnyTree) (a b c : Gathering) (id : Id) (us : List UnitContent) (offset len i : ℕ) (d : UnitContent) → offset + len ≤ length us → i < len →
    Gathers way show a b (lent_from id false (take i (drop offset us))) → Gathers way show b c (live (later_id id i) (get_or (drop offset us) i d) ∷ []) →
    Gathers way show a c (lent_from id false (take (i + 1) (drop offset us)))
gathers_more way show a b c id us offset len i d within less first second =
    subst (Gathers way show a c) (sym (from_more id us offset len i d within less))
    (gathers_both way show a b c (lent_from id false (take i (drop offset us))) (live (later_id id i) (get_or (drop offset us) i d) ∷ []) first second)

-- ---- units that do nothing

pub idle_row : (way : Way) (id : Id) (us : List UnitContent) → AreIdleUnits way us → AreIdle way (lent_from id false us)
idle_row way id [] idle = tt
idle_row way id (u ∷ us) idle = (idle.0, idle_row way (later_id id 1) us idle.1)

pub length-from : (id : Id) (us : List UnitContent) → length (lent_from id false us) ≡ length us
length-from id [] = refl
length-from id (u ∷ us) = ap suc (length-from (later_id id 1) us)

-- ---- pieces that are lent

live_all : (id : Id) (us : List UnitContent) (rest : List Lent) → live_lent (lent_from id false us ++ rest) ≡ lent_from id false us ++ live_lent rest
live_all id [] rest = refl
live_all id (u ∷ us) rest = ap (λ (l : List Lent). live id u ∷ l) (live_all (later_id id 1) us rest)

live_none : (id : Id) (us : List UnitContent) (rest : List Lent) → live_lent (lent_from id true us ++ rest) ≡ live_lent rest
live_none id [] rest = refl
live_none id (u ∷ us) rest = live_none (later_id id 1) us rest

-- the units of a piece that is live are all live, and of one that is deleted none is
pub live_piece : (view : RunView) (old new : List Lent) → old ≡ units_of_view view ++ new → view.deleted ≡ false → live_lent old ≡ units_of_view view ++ live_lent new
live_piece view old new e live = ap live_lent e
    ∙ ap (λ d. live_lent (lent_from view.id d (take view.len (drop view.offset (units_of_content (content_value view.content.now)))) ++ new)) live
    ∙ live_all view.id (take view.len (drop view.offset (units_of_content (content_value view.content.now)))) new
    ∙ ap (λ d. lent_from view.id d (take view.len (drop view.offset (units_of_content (content_value view.content.now)))) ++ live_lent new) (sym live)

pub deleted_piece : (view : RunView) (old new : List Lent) → old ≡ units_of_view view ++ new → view.deleted ≡ true → live_lent old ≡ live_lent new
deleted_piece view old new e deleted = ap live_lent e
    ∙ ap (λ d. live_lent (lent_from view.id d (take view.len (drop view.offset (units_of_content (content_value view.content.now)))) ++ new)) deleted
    ∙ live_none view.id (take view.len (drop view.offset (units_of_content (content_value view.content.now)))) new

-- ---- single units of a part

-- the text unit at a place of a part
pub text_there : (units : List ℕ) (offset i unit : ℕ) (d : UnitContent) → slice_get units (offset + i) ≡ Some unit → text_unit unit ≡ get_or (drop offset (map text_unit units)) i d
text_there units offset i unit d there = sym (get_or-drop offset (map text_unit units) i d ∙ at units (offset + i) there)
  where
    one : {x y : ℕ} → Some x ≡ Some y → x ≡ y
    one e = cc

    at : (us : List ℕ) (n : ℕ) → slice_get us n ≡ Some unit → get_or (map text_unit us) n d ≡ text_unit unit
    at [] n e = absurd cc
    at (u ∷ us) zero e = ap text_unit (one e)
    at (u ∷ us) (suc n) e = at us n e

-- what holds of each unit holds of that at a place
pub each_at : (P : UnitContent → Type 0) (us : List UnitContent) (n : ℕ) (u : UnitContent) → Each P us → slice_get us n ≡ Some u → P u
each_at P [] n u each there = absurd cc
each_at P (v ∷ us) zero u each there = subst P (one there) each.0
  where
    one : Some v ≡ Some u → v ≡ u
    one e = cc
each_at P (v ∷ us) (suc n) u each there = each_at P us n u each.1 there

-- a part of text begins with a text unit
pub first_text : (id : Id) (units : List ℕ) (offset len : ℕ) → 0 < len → offset + len ≤ length units →
    (u : ℕ) × (rest : List Lent) × (lent_from id false (take len (drop offset (map text_unit units))) ≡ live id (text_unit u) ∷ rest)
first_text id [] offset len some within = absurd (omega (arith, some, within))
first_text id (u ∷ us) (suc offset) len some within = first_text id us offset len some (omega (arith, within))
first_text id (u ∷ us) zero zero some within = absurd (omega (arith, some))
first_text id (u ∷ us) zero (suc len) some within = (u, lent_from (later_id id 1) false (take len (map text_unit us)), refl)

-- what came behind an opening before a text unit came behind what was before it
pub gathers_opened : (way : Way) (show : Operation → AnyTree) (a b c : Gathering) (id : Id) (unit : ℕ) (rest came : List Lent) → came ≡ live id (text_unit unit) ∷ rest →
    ((us : List Lent) → gathered way show b (live id (text_unit unit) ∷ us) ≡ gathered way show a (live id (text_unit unit) ∷ us)) → Gathers way show b c came → Gathers way show a c came
gathers_opened way show a b c id unit rest came e same gathers = record {
  pieces = λ us. gathers.pieces us ∙ ap (λ l. gathered way show b (l ++ us)) e ∙ same (rest ++ us) ∙ ap (λ l. gathered way show a (l ++ us)) (sym e);
  settled = gathers.settled;
}

-- ---- whole pieces

take_each : (P : UnitContent → Type 0) (n : ℕ) (us : List UnitContent) → Each P us → Each P (take n us)
take_each P zero us each = tt
take_each P (suc n) [] each = tt
take_each P (suc n) (u ∷ us) each = (each.0, take_each P n us each.1)

drop_each : (P : UnitContent → Type 0) (n : ℕ) (us : List UnitContent) → Each P us → Each P (drop n us)
drop_each P zero us each = each
drop_each P (suc n) [] each = tt
drop_each P (suc n) (u ∷ us) each = drop_each P n us each.1

-- the units of a live piece, by its content
pub view_is : (view : RunView) (c : Content) → view.deleted ≡ false → view.content.now ≡ c →
    units_of_view view ≡ lent_from view.id false (take view.len (drop view.offset (units_of_content (content_value c))))
view_is view c live e =
    ap (λ d. lent_from view.id d (take view.len (drop view.offset (units_of_content (content_value view.content.now))))) live
    ∙ ap (λ v. lent_from view.id false (take view.len (drop view.offset (units_of_content (content_value v))))) e

-- a live piece of a content of one unit
pub one_view : (view : RunView) (c : Content) (u : UnitContent) → view.deleted ≡ false → view.content.now ≡ c → units_of_content (content_value c) ≡ u ∷ [] → 0 < view.len →
    view.offset + view.len ≤ 1 → units_of_view view ≡ live view.id u ∷ []
one_view view c u alive e one some within =
    view_is view c alive e ∙ ap (λ us. lent_from view.id false (take view.len (drop view.offset us))) one
    ∙ (λ i. lent_from view.id false (take (len i) (drop (offset i) (u ∷ []))))
  where
    len : view.len ≡ 1
    len = omega (arith, some, within)

    offset : view.offset ≡ 0
    offset = omega (arith, some, within)

-- the units of a live piece that do nothing
pub idle_view : (view : RunView) (way : Way) → view.deleted ≡ false → 0 < view.len → IsWithin view → AreIdleUnits way (units_of_content (content_value view.content.now)) →
    (0 < length (units_of_view view)) × AreIdle way (units_of_view view)
idle_view view way alive some within idle =
    subst (λ us. (0 < length us) × AreIdle way us) (sym (view_is view view.content.now alive refl)) (
      omega (arith, some, length-from view.id units, length-take-le view.len (drop view.offset all) inside),
      idle_row way view.id units (take_each P view.len (drop view.offset all) (drop_each P view.offset all idle)),
    )
  where
    P : UnitContent → Type 0
    P u = role_of way u ≡ is_idle

    all : List UnitContent
    all = units_of_content (content_value view.content.now)

    units : List UnitContent
    units = take view.len (drop view.offset all)

    inside : view.len ≤ length (drop view.offset all)
    inside = omega (arith, within.units, length-units_of_content (content_value view.content.now), length-drop view.offset all)

-- a content is no text, no mark and no type
pub is_other : (c : Content) → ((us : List ℕ) → c ≢ Str us) → ((key : List ℕ) (value : Json) → c ≢ Format key value) → ((kind : Kind) → c ≢ Nested kind) → IsOther c
is_other (JsonUnits units) text mark nested = tt
is_other (Binary blob) text mark nested = tt
is_other (Str units) text mark nested = text units refl
is_other (Embed value) text mark nested = tt
is_other (Format key value) text mark nested = mark key value refl
is_other (Nested kind) text mark nested = nested kind refl
is_other (Any values) text mark nested = tt
is_other (Deleted count) text mark nested = tt
