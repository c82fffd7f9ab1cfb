-- The live units of a list as they are gathered: those that are seen of the document, but for their origins.
use Rattle.std.proofs.Common.{◌≡◌, ℕ, zero, suc, Bool, true, false, ◌&&◌, ◌||◌, not, List, [], ◌∷◌, Option, Some, None, inl, inr, map, refl, sym, ap, ◌∙◌}
use Rattle.std.specs.Prelude.{filter, if◌then◌else◌}
use Rattle.yd_words.specs.Member.{IsIn}
use Rattle.yd_words.proofs.FilterLemmas.{kept_one}
use Rattle.yd_any.specs.Tree.{AnyTree, AnyFields}
use Rattle.yd_ids.specs.declared.id.Id.{Id}
use Rattle.yd_ops.specs.declared.kinds.Kind.{Kind}
use Rattle.yd_ops.specs.declared.lists.List.{List as DocList}
use Rattle.yd_ops.specs.declared.lists.Parent.TheVariants.{Item}
use Rattle.yd_ops.specs.Operation.{UnitContent, text_unit, any_unit, json_unit, bytes, embedded, mark, nested_type, deleted_unit, gone_unit, Operation}
use Rattle.yd_ops.specs.Pairs.{is_high, is_low, is_text_and, as_torn}
use Rattle.yd_ops.specs.ReceivedLaw.{ArePaired}
use Rattle.yd_meaning.specs.Document.{Document}
use Rattle.yd_meaning.specs.Text.{live_units, has_partner_before, has_partner_behind}
use Rattle.yd_state.specs.Lent.{lent, lent_units}
use Rattle.yd_shown.specs.Pieces.{Piece, unit_before, value_piece}
use Rattle.yd_shown.specs.Seen.{without_lone, seen_units}
use Rattle.yd_shown.specs.Shown.{value_of_content, shown_type, too_deep, value_within}
use Rattle.yd_modes.specs.Roles.{Way, Role, is_text, is_value, sets_attribute, is_idle, role_of, role_before, role_after, pieces_by, bare, joins_next, whole_content, whole_units, live_lent, is_nested, plain_value, ShowsPlain}
use Rattle.yd_view.specs.Halves.{joins, seen_of}
use Rattle.yd_view.proofs.ShownLemmas.{partners_join}

-- ---- origins do not count

-- an operation without its origins
abbrev pub without_origins : Operation → Operation
without_origins o = bare o.id o.content

-- operations that are shown alike without their origins have the same pieces
pub by_bare : (way : Way) (show : Operation → AnyTree) → ((o : Operation) → show (without_origins o) ≡ show o) → (a : AnyFields) (os : List Operation) →
    pieces_by way show a (map without_origins os) ≡ pieces_by way show a os
by_bare way show alike a [] = refl
by_bare way show alike a (o ∷ os) = go (role_of way o.content) (λ b. by_bare way show alike b os)
  where
    go : (r : Role) → ((b : AnyFields) → pieces_by way show b (map without_origins os) ≡ pieces_by way show b os) → role_before show a (without_origins o) r (pieces_by way show (role_after a r) (map without_origins os)) ≡ role_before show a o r (pieces_by way show (role_after a r) os)
    go (is_text unit) deep = ap (unit_before unit a) (deep a)
    go is_value deep = ap (λ v. value_piece v a ∷ pieces_by way show a (map without_origins os)) (alike o) ∙ ap (λ (ps : List Piece). value_piece (show o) a ∷ ps) (deep a)
    go (sets_attribute key t) deep = deep (role_after a (sets_attribute key t))
    go is_idle deep = deep a

-- so the values of a document are
pub within_bare : (most : ℕ) (d : Document) (o : Operation) → value_within most d (without_origins o) ≡ value_within most d o
within_bare zero d o = refl
within_bare (suc n) d o = refl

-- and what is no type is shown as its value
value_plain : (show : Kind → AnyTree) (c : UnitContent) → is_nested c ≡ false → value_of_content show c ≡ plain_value c
value_plain show (text_unit unit) plain = refl
value_plain show (any_unit t) plain = refl
value_plain show (json_unit None) plain = refl
value_plain show (json_unit (Some t)) plain = refl
value_plain show (bytes b) plain = refl
value_plain show (embedded t) plain = refl
value_plain show (mark key t) plain = refl
value_plain show (nested_type kind) plain = absurd cc
value_plain show deleted_unit plain = refl
value_plain show gone_unit plain = refl

pub within_plain : (most : ℕ) (d : Document) → ShowsPlain (value_within most d)
within_plain zero d id c plain = value_plain (λ kind. too_deep) c plain
within_plain (suc n) d id c plain = value_plain (shown_type (value_within n d) d (Item id)) c plain

-- ---- halves

-- the live units are those that are lent as live
live_is : (deleted : Id → Bool) (os : List Operation) → live_lent (map (lent deleted) os) ≡ map (lent deleted) (filter (λ o. not (deleted o.id)) os)
live_is deleted [] = refl
live_is deleted (o ∷ os) = go (deleted o.id) (live_is deleted os)
  where
    go : (d : Bool) → live_lent (map (lent deleted) os) ≡ map (lent deleted) (filter (λ o. not (deleted o.id)) os) →
        (if d then live_lent (map (lent deleted) os) else lent deleted o ∷ live_lent (map (lent deleted) os))
        ≡ map (lent deleted) (if not d then o ∷ filter (λ o. not (deleted o.id)) os else filter (λ o. not (deleted o.id)) os)
    go true e = e
    go false e = ap (λ us. lent deleted o ∷ us) e

-- a unit is torn alike
one_torn : (o : Operation) (joined joins : Bool) →
    without_origins (as_torn ((is_text_and is_high o.content && not joins) || (is_text_and is_low o.content && not joined)) o) ≡ bare o.id (whole_content joined o.content joins)
one_torn o joined joins = go o.content
  where
    torn_unit : (unit : ℕ) (t : Bool) → without_origins (as_torn t (record { id = o.id; left_origin = o.left_origin; right_origin = o.right_origin; list = o.list; content = text_unit unit }))
        ≡ bare o.id (text_unit (if t then 0xFFFD else unit))
    torn_unit unit true = refl
    torn_unit unit false = refl

    go : (c : UnitContent) → without_origins (as_torn ((is_text_and is_high c && not joins) || (is_text_and is_low c && not joined))
        (record { id = o.id; left_origin = o.left_origin; right_origin = o.right_origin; list = o.list; content = c })) ≡ bare o.id (whole_content joined c joins)
    go (text_unit unit) = torn_unit unit ((is_high unit && not joins) || (is_low unit && not joined))
    go (any_unit t) = refl
    go (json_unit t) = refl
    go (bytes b) = refl
    go (embedded t) = refl
    go (mark key t) = refl
    go (nested_type kind) = refl
    go deleted_unit = refl
    go gone_unit = refl

-- whether the one before is the partner of the first
abbrev JoinsFirst : Option Operation → Bool → List Operation → Type 0
JoinsFirst before joined [] = Unit {0}
JoinsFirst before joined (o ∷ os) = has_partner_before before o ≡ joined

whole_is : (received : List Operation) → ArePaired received → (deleted : Id → Bool) (before : Option Operation) (joined : Bool) (os : List Operation) →
    ((o : Operation) → IsIn o os → IsIn o received) → JoinsFirst before joined os → whole_units joined (map (lent deleted) os) ≡ map without_origins (without_lone before os)
whole_is received paired deleted before joined [] within first = refl
whole_is received paired deleted before joined (o ∷ os) within first =
    ap (λ us. bare o.id (whole_content joined o.content joined_next) ∷ us) (whole_is received paired deleted (Some o) joined_next os (λ p i. within p (inr i)) (next os (λ p i. within p (inr i))))
    ∙ ap (λ p. p ∷ map without_origins (without_lone (Some o) os)) (sym (one_torn o joined joined_next))
    ∙ ap (λ j. without_origins (as_torn ((is_text_and is_high o.content && not j) || (is_text_and is_low o.content && not joined)) o) ∷ map without_origins (without_lone (Some o) os))
    (sym (behind os (λ p i. within p (inr i))))
    ∙ ap (λ j. without_origins (as_torn ((is_text_and is_high o.content && not (has_partner_behind o os)) || (is_text_and is_low o.content && not j)) o) ∷ map without_origins (without_lone (Some o) os))
    (sym first)
  where
    joined_next : Bool
    joined_next = joins_next (seen_of (lent deleted o)) (map (lent deleted) os)

    behind : (ps : List Operation) → ((p : Operation) → IsIn p ps → IsIn p received) → has_partner_behind o ps ≡ joins_next (seen_of (lent deleted o)) (map (lent deleted) ps)
    behind [] inside = refl
    behind (p ∷ ps) inside = partners_join received paired o p (inside p (inl refl))

    next : (ps : List Operation) → ((p : Operation) → IsIn p ps → IsIn p received) → JoinsFirst (Some o) (joins_next (seen_of (lent deleted o)) (map (lent deleted) ps)) ps
    next [] inside = tt
    next (p ∷ ps) inside = partners_join received paired o p (inside p (inl refl))

-- ---- lemmas for callers

-- the live units that are lent of a list are shown as those that are seen of it, where its units are of a received set with whole pairs
pub lent_seen : (received : List Operation) (document : Document) (list : DocList) → ArePaired received →
    ((o : Operation) → IsIn o (document.units list) → IsIn o received) → whole_units false (live_lent (lent_units document list)) ≡ map without_origins (seen_units document list)
lent_seen received document list paired within =
    ap (whole_units false) (live_is document.deleted (document.units list))
    ∙ whole_is received paired document.deleted None false (live_units document list)
    (λ o i. within o (kept_one (λ p. not (document.deleted p.id)) (document.units list) o i).1) (first (live_units document list))
  where
    first : (os : List Operation) → JoinsFirst None false os
    first [] = tt
    first (o ∷ os) = refl

-- so their pieces are those of the units that are seen
pub pieces_seen : (received : List Operation) (document : Document) (list : DocList) → ArePaired received →
    ((o : Operation) → IsIn o (document.units list) → IsIn o received) → (way : Way) (most : ℕ) (a : AnyFields) →
    pieces_by way (value_within most document) a (whole_units false (live_lent (lent_units document list))) ≡ pieces_by way (value_within most document) a (seen_units document list)
pieces_seen received document list paired within way most a =
    ap (pieces_by way (value_within most document) a) (lent_seen received document list paired within)
    ∙ by_bare way (value_within most document) (within_bare most document) a (seen_units document list)
