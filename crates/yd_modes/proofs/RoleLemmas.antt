-- What units give by their roles: the pieces of a delta and of a list, and units that are no text.
use Rattle.std.proofs.Common.{◌≡◌, ℕ, zero, suc, map, Bool, true, false, ◌&&◌, List, [], ◌∷◌, ◌++◌, Option, Some, None, refl, sym, ap, ◌∙◌, subst}
use Rattle.yd_any.specs.AnyView.{any_trees}
use Rattle.yd_any.specs.Tree.{AnyTree, AnyTrees, AnyFields, no_fields, no_trees, tree}
use Rattle.yd_ops.specs.declared.contents.Content.{Content}
use Rattle.yd_ops.specs.declared.contents.Content.TheVariants.{Json, Binary, Str, Embed, Format, Nested, Any, Deleted}
use Rattle.yd_ops.specs.View.{unit_value, content_value}
use Rattle.yd_ids.specs.Ids.{is_same}
use Rattle.yd_ops.specs.Operation.{UnitContent, text_unit, any_unit, json_unit, bytes, embedded, mark, nested_type, deleted_unit, gone_unit, Operation, later_id, units_of_trees, deleted_units, units_of_content}
use Rattle.yd_ops.specs.Pairs.{is_high, is_low}
use Rattle.yd_state.specs.Lent.{Lent}
use Rattle.yd_shown.specs.Pieces.{Piece, unit_before, value_piece, attributes_after, delta_before, delta_pieces, value_before, list_pieces}
use Rattle.yd_modes.specs.Roles.{Way, Delta, Values, Role, is_text, is_value, sets_attribute, is_idle, role_of, role_before, role_after, pieces_by, bare, joins_next, joins_last, whole_content, whole_units, AreIdle, ArePlainValues, AreIdleUnits, IsOther, are_values}
use Rattle.yd_view.specs.declared.halves.Seen.{Seen}
use Rattle.yd_view.specs.Halves.{is_unit_and, joins, joins_after, text_unit_of, seen_of}

-- ---- deltas and lists

pub by_delta : (show : Operation → AnyTree) (a : AnyFields) (os : List Operation) → pieces_by Delta show a os ≡ delta_pieces show a os
by_delta show a [] = refl
by_delta show a (o ∷ os) = go o.content (λ b. by_delta show b os)
  where
    go : (c : UnitContent) → ((b : AnyFields) → pieces_by Delta show b os ≡ delta_pieces show b os) → role_before show a o (role_of Delta c) (pieces_by Delta show (role_after a (role_of Delta c)) os)
        ≡ delta_before show a o c (delta_pieces show (attributes_after a c) os)
    go (text_unit unit) deep = ap (unit_before unit a) (deep a)
    go (any_unit t) deep = deep a
    go (json_unit t) deep = deep a
    go (bytes b) deep = deep a
    go (embedded t) deep = ap (λ (ps : List Piece). value_piece (show o) a ∷ ps) (deep a)
    go (mark key t) deep = deep (attributes_after a (mark key t))
    go (nested_type kind) deep = ap (λ (ps : List Piece). value_piece (show o) a ∷ ps) (deep a)
    go deleted_unit deep = deep a
    go gone_unit deep = deep a

pub by_list : (show : Operation → AnyTree) (os : List Operation) → pieces_by Values show no_fields os ≡ list_pieces show os
by_list show [] = refl
by_list show (o ∷ os) = go o.content (by_list show os)
  where
    go : (c : UnitContent) → pieces_by Values show no_fields os ≡ list_pieces show os → role_before show no_fields o (role_of Values c) (pieces_by Values show (role_after no_fields (role_of Values c)) os)
        ≡ value_before show o c (list_pieces show os)
    go (text_unit unit) deep = ap (unit_before unit no_fields) deep
    go (any_unit t) deep = ap (λ (ps : List Piece). value_piece (show o) no_fields ∷ ps) deep
    go (json_unit t) deep = ap (λ (ps : List Piece). value_piece (show o) no_fields ∷ ps) deep
    go (bytes b) deep = ap (λ (ps : List Piece). value_piece (show o) no_fields ∷ ps) deep
    go (embedded t) deep = ap (λ (ps : List Piece). value_piece (show o) no_fields ∷ ps) deep
    go (mark key t) deep = deep
    go (nested_type kind) deep = ap (λ (ps : List Piece). value_piece (show o) no_fields ∷ ps) deep
    go deleted_unit deep = deep
    go gone_unit deep = deep

-- ---- units that are no text

-- the role of a unit that is no text
abbrev pub IsNoText : Role → Type 0
IsNoText (is_text unit) = ⊥
IsNoText is_value = Unit {0}
IsNoText (sets_attribute key t) = Unit {0}
IsNoText is_idle = Unit {0}

pub text_role : (way : Way) (unit : ℕ) → role_of way (text_unit unit) ≡ is_text unit
text_role Delta unit = refl
text_role Values unit = refl

-- such a unit is seen as none of text, and is shown as it is
pub no_text_unit : (way : Way) (c : UnitContent) (r : Role) → role_of way c ≡ r → IsNoText r → text_unit_of c ≡ None
no_text_unit way (text_unit unit) r e none = absurd (subst IsNoText (sym e ∙ text_role way unit) none)
no_text_unit way (any_unit t) r e none = refl
no_text_unit way (json_unit t) r e none = refl
no_text_unit way (bytes b) r e none = refl
no_text_unit way (embedded t) r e none = refl
no_text_unit way (mark key t) r e none = refl
no_text_unit way (nested_type kind) r e none = refl
no_text_unit way deleted_unit r e none = refl
no_text_unit way gone_unit r e none = refl

pub whole_other : (c : UnitContent) (joined joins : Bool) → text_unit_of c ≡ None → whole_content joined c joins ≡ c
whole_other (text_unit unit) joined joins e = absurd cc
whole_other (any_unit t) joined joins e = refl
whole_other (json_unit t) joined joins e = refl
whole_other (bytes b) joined joins e = refl
whole_other (embedded t) joined joins e = refl
whole_other (mark key t) joined joins e = refl
whole_other (nested_type kind) joined joins e = refl
whole_other deleted_unit joined joins e = refl
whole_other gone_unit joined joins e = refl

-- it has no partner, before it and behind it
pub no_next : (s : Seen) (us : List Lent) → s.unit ≡ None → joins_next s us ≡ false
no_next s [] e = refl
no_next s (u ∷ us) e = ap (λ z. is_unit_and is_high z && is_unit_and is_low (text_unit_of u.content) && is_same u.id (later_id s.id 1)) e

pub no_before : (last : Option Seen) (s : Seen) → s.unit ≡ None → joins_after last s ≡ false
no_before None s e = refl
no_before (Some l) s e = ap (λ z. is_unit_and is_high l.unit && is_unit_and is_low z && is_same s.id (later_id l.id 1)) e
    ∙ neither (is_unit_and is_high l.unit) (is_same s.id (later_id l.id 1))
  where
    neither : (b c : Bool) → b && false && c ≡ false
    neither true c = refl
    neither false c = refl

pub last_first : (last : Option Seen) (u : Lent) (us : List Lent) → joins_last last (u ∷ us) ≡ joins_after last (seen_of u)
last_first None u us = refl
last_first (Some l) u us = refl

-- ---- one unit in front of others

-- a unit that is no text, in front of others
pub by_other : (way : Way) (show : Operation → AnyTree) (a : AnyFields) (joined : Bool) (u : Lent) (us : List Lent) → text_unit_of u.content ≡ None →
    pieces_by way show a (whole_units joined (u ∷ us))
    ≡ role_before show a (bare u.id u.content) (role_of way u.content) (pieces_by way show (role_after a (role_of way u.content)) (whole_units false us))
by_other way show a joined u us none =
    ap (λ n. pieces_by way show a (bare u.id (whole_content joined u.content n) ∷ whole_units n us)) (no_next (seen_of u) us none)
    ∙ ap (λ c. pieces_by way show a (bare u.id c ∷ whole_units false us)) (whole_other u.content joined false none)

-- units that do nothing, in front of others
pub by_idle : (way : Way) (show : Operation → AnyTree) (a : AnyFields) (came us : List Lent) → AreIdle way came →
    pieces_by way show a (whole_units false (came ++ us)) ≡ pieces_by way show a (whole_units false us)
by_idle way show a [] us idle = refl
by_idle way show a (u ∷ came) us idle =
    by_other way show a false u (came ++ us) (no_text_unit way u.content is_idle idle.0 tt)
    ∙ ap (λ r. role_before show a (bare u.id u.content) r (pieces_by way show (role_after a r) (whole_units false (came ++ us)))) idle.0
    ∙ by_idle way show a came us idle.1

-- ---- units of a content

values_of_trees : (ts : AnyTrees) → ArePlainValues Values (units_of_trees ts)
values_of_trees no_trees = tt
values_of_trees (tree t ts) = ((refl, refl), values_of_trees ts)

idle_of_trees : (ts : AnyTrees) → AreIdleUnits Delta (units_of_trees ts)
idle_of_trees no_trees = tt
idle_of_trees (tree t ts) = (refl, idle_of_trees ts)

values_of_json : (xs : List (Option AnyTree)) → ArePlainValues Values (map json_unit xs)
values_of_json [] = tt
values_of_json (x ∷ xs) = ((refl, refl), values_of_json xs)

idle_of_json : (xs : List (Option AnyTree)) → AreIdleUnits Delta (map json_unit xs)
idle_of_json [] = tt
idle_of_json (x ∷ xs) = (refl, idle_of_json xs)

idle_of_deleted : (way : Way) (count : ℕ) → AreIdleUnits way (deleted_units count)
idle_of_deleted way zero = tt
idle_of_deleted Delta (suc count) = (refl, idle_of_deleted Delta count)
idle_of_deleted Values (suc count) = (refl, idle_of_deleted Values count)

-- where they are values
pub content_values : (way : Way) (c : Content) → are_values way c ≡ true → ArePlainValues way (units_of_content (content_value c))
content_values Delta (Json units) e = absurd cc
content_values Values (Json units) e = values_of_json (map unit_value units)
content_values Delta (Binary blob) e = absurd cc
content_values Values (Binary blob) e = ((refl, refl), tt)
content_values way (Str units) e = absurd cc
content_values Delta (Embed value) e = ((refl, refl), tt)
content_values Values (Embed value) e = ((refl, refl), tt)
content_values way (Format key value) e = absurd cc
content_values way (Nested kind) e = absurd cc
content_values Delta (Any values) e = absurd cc
content_values Values (Any values) e = values_of_trees (any_trees values)
content_values way (Deleted count) e = absurd cc

-- and where they do nothing
pub content_idle : (way : Way) (c : Content) → are_values way c ≡ false → IsOther c → AreIdleUnits way (units_of_content (content_value c))
content_idle Delta (Json units) e other = idle_of_json (map unit_value units)
content_idle Values (Json units) e other = absurd cc
content_idle Delta (Binary blob) e other = (refl, tt)
content_idle Values (Binary blob) e other = absurd cc
content_idle way (Str units) e other = absurd other
content_idle way (Embed value) e other = absurd cc
content_idle way (Format key value) e other = absurd other
content_idle way (Nested kind) e other = absurd other
content_idle Delta (Any values) e other = idle_of_trees (any_trees values)
content_idle Values (Any values) e other = absurd cc
content_idle way (Deleted count) e other = idle_of_deleted way count
