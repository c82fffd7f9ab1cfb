use Rattle.std.proofs.Common.{◌≡◌, ◌≤◌, ◌+◌, Some, length, map, refl, sym, ap, ◌∙◌, subst, arith}
use Rattle.std.proofs.lemmas.Result.{IfOk-weaker, on_ok_weaker}
use Rattle.std.specs.Prelude.{codes, slice_get}
use Rattle.std.specs.Vec.Iter.{into_iter_items}
use Rattle.yd_any.specs.Tree.{field, no_fields, str}
use Rattle.yd_doc.specs.Kept.{received_of, own_document}
use Rattle.yd_ops.specs.Operation.{UnitContent, nested_type, units_of_content}
use Rattle.yd_ops.specs.Value.{len_of}
use Rattle.yd_ops.specs.View.{content_value}
use Rattle.yd_ops.specs.declared.contents.Content.TheVariants.{Nested}
use Rattle.yd_shown.specs.Shown.{fields_under, own_list, value_within}
use Rattle.yd_state.specs.Lent.{lent_units, units_left}
use Rattle.yd_value.specs.View.{shown_fields, shown_tree}
use Rattle.yd_view.proofs.TextLemmas.{fewer_left}
use Rattle.yd_modes.specs.Roles.{Delta, Values, bare, live_lent, plain_value}
use Rattle.yd_value.specs.declared.shown.Shown.{List as Listed}
use Rattle.yd_modes.specs.Gathering.{gathered, told, told_values, Gathers}
use Rattle.yd_modes.specs.Listed.{listed, Lists}
use Rattle.yd_doc.specs.Last.{unit_of_view}
use Rattle.yd_doc.proofs.LastLemmas.{unit_got}
use Rattle.yd_modes.proofs.ListLemmas.{delta_of, list_of, tree_of, no_items, same_shown}
use Rattle.yd_modes.proofs.ListedLemmas.{lists_none}
use Rattle.yd_modes.proofs.FieldLemmas.{all_made, none_made, one_made}
use Rattle.yd_modes.proofs.SeenLemmas.{pieces_seen, within_bare, within_plain}
use Rattle.yd_modes.proofs.ShowingLemmas.{deleted_view, live_view, piece_gathered, piece_listed, within_nested, nested_role, under_hidden, under_none, under_shown, nested_unit, not_nested}
use Rattle.yd_modes.proofs.TakingLemmas.{gathers_none, one_view}
use Rattle.yd_modes.proofs.nesting.+show.Goals as goal

-- ---- a list

pub gather-loop-piece-smaller : goal.gather-loop-piece-smaller
gather-loop-piece-smaller n c = fewer_left c.in-Some.piece (units_left c.loop-piece.view) (units_left c.next.new.self) c.in-Some.ensures.some c.in-Some.ensures.within c.in-Some.ensures.lends

pub gather-loop-piece-preserved : goal.gather-loop-piece-preserved
gather-loop-piece-preserved n c = record {
  pieces = piece_gathered Delta (value_within c.args.most (own_document c.args.replica.now)) c.loop-piece.gathering c.take_run.new.gathering c.in-Some.piece (units_left c.loop-piece.view) (units_left c.next.new.self)
      c.in-Some.ensures.lends c.in_ok-take_run.ensures
      ∙ c.loop-piece.invariant.pieces;
  settled = c.in_ok-take_run.ensures.settled;
}

pub gather-returns : goal.gather-returns
gather-returns n c =
    let d = own_document c.args.replica.now in
    let show = value_within c.args.most d in
    c.in_ok-pieces.ensures Delta show
    ∙ ap (λ us. gathered Delta show c.loop-piece.gathering (live_lent us)) (sym c.in_default.ensures.lends)
    ∙ c.loop-piece.invariant.pieces
    ∙ ap (λ us. gathered Delta show c.new-gathering.result (live_lent us)) c.list-view.ensures.units
    ∙ c.new-gathering.ensures.pieces Delta show (live_lent (lent_units d c.args.list.now))
    ∙ ap (map told) (pieces_seen (received_of c.args.replica.now).operations d c.args.list.now c.list-view.ensures.whole c.list-view.ensures.received Delta c.args.most no_fields)

pub take_run-returns-then-piece : goal.take_run-returns-then-piece
take_run-returns-then-piece n c =
    subst (λ us. Gathers Delta (value_within c.args.most (own_document c.args.replica.now)) c.args.gathering.now c.args.gathering.now us) (sym (deleted_view c.args.piece.now c.if-piece.true))
    (gathers_none Delta (value_within c.args.most (own_document c.args.replica.now)) c.args.gathering.now c.requires.settled)

pub take_run-returns-in_default : goal.take_run-returns-in_default
take_run-returns-in_default n c = on_ok_weaker c.take_piece.result (λ gathers.
    subst (λ us. Gathers Delta (value_within c.args.most (own_document c.args.replica.now)) c.args.gathering.now c.take_piece.new.gathering us) (sym (live_view c.args.piece.now c.if-piece.false))
    (gathers (value_within c.args.most (own_document c.args.replica.now)) (within_plain c.args.most (own_document c.args.replica.now)))) c.take_piece.ensures

pub take_run-returns-in_ok-value-in-Nested : goal.take_run-returns-in_ok-value-in-Nested
take_run-returns-in_ok-value-in-Nested n c = on_ok_weaker c.take_value.result (λ gathers.
    let show = value_within c.args.most (own_document c.args.replica.now) in
    let within = subst (λ v. c.args.piece.now.offset + c.args.piece.now.len ≤ len_of (content_value v)) c.in-Nested.is c.requires.within.units in
    subst (λ us. Gathers Delta show c.args.gathering.now c.take_value.new.self us)
    (sym (live_view c.args.piece.now c.if-piece.false ∙ one_view c.args.piece.now (Nested c.in-Nested.kind) (nested_type c.in-Nested.kind) c.if-piece.false c.in-Nested.is refl c.requires.some within))
    (gathers Delta show (nested_type c.in-Nested.kind) (nested_role Delta c.in-Nested.kind) c.in_ok-value-in-Nested.ensures)) c.take_value.ensures

-- ---- the values of a list

pub gather_values-loop-piece-smaller : goal.gather_values-loop-piece-smaller
gather_values-loop-piece-smaller n c = fewer_left c.in-Some.piece (units_left c.loop-piece.view) (units_left c.next.new.self) c.in-Some.ensures.some c.in-Some.ensures.within c.in-Some.ensures.lends

pub gather_values-loop-piece-preserved : goal.gather_values-loop-piece-preserved
gather_values-loop-piece-preserved n c =
    piece_listed (value_within c.args.most (own_document c.args.replica.now)) c.loop-piece.listed c.list_run.new.listed c.in-Some.piece (units_left c.loop-piece.view) (units_left c.next.new.self)
    c.in-Some.ensures.lends c.in_ok-list_run.ensures
    ∙ c.loop-piece.invariant

pub gather_values-returns : goal.gather_values-returns
gather_values-returns n c =
    let show = value_within c.args.most (own_document c.args.replica.now) in
    c.in_ok-values.ensures show
    ∙ ap told_values (ap (λ us. listed show c.loop-piece.listed (live_lent us)) (sym c.in_default.ensures.lends)
    ∙ c.loop-piece.invariant
    ∙ c.new-listed.ensures show (live_lent (units_left c.args.view)))

pub list_run-returns-then-piece : goal.list_run-returns-then-piece
list_run-returns-then-piece n c =
    let show = value_within c.args.most (own_document c.args.replica.now) in
    subst (Lists show c.args.listed.now c.args.listed.now) (sym (deleted_view c.args.piece.now c.if-piece.true)) (lists_none show c.args.listed.now)

pub list_run-returns-in_default : goal.list_run-returns-in_default
list_run-returns-in_default n c = on_ok_weaker c.list_piece.result (λ lists.
    let show = value_within c.args.most (own_document c.args.replica.now) in
    subst (Lists show c.args.listed.now c.list_piece.new.listed) (sym (live_view c.args.piece.now c.if-piece.false))
    (lists show (within_plain c.args.most (own_document c.args.replica.now)))) c.list_piece.ensures

pub list_run-returns-in_ok-value-in-Nested : goal.list_run-returns-in_ok-value-in-Nested
list_run-returns-in_ok-value-in-Nested n c = on_ok_weaker c.take_value.result (λ lists.
    let show = value_within c.args.most (own_document c.args.replica.now) in
    let within = subst (λ v. c.args.piece.now.offset + c.args.piece.now.len ≤ len_of (content_value v)) c.in-Nested.is c.requires.within.units in
    subst (Lists show c.args.listed.now c.take_value.new.self)
    (sym (live_view c.args.piece.now c.if-piece.false ∙ one_view c.args.piece.now (Nested c.in-Nested.kind) (nested_type c.in-Nested.kind) c.if-piece.false c.in-Nested.is refl c.requires.some within))
    (lists show (nested_type c.in-Nested.kind) (nested_role Values c.in-Nested.kind) c.in_ok-value-in-Nested.ensures)) c.take_value.ensures

-- ---- a type

pub show_element-returns : goal.show_element-returns
show_element-returns n c =
    let d = own_document c.args.replica.now in
    let show = value_within c.args.most d in
    same_shown c.element_of.result _ _
    (tree_of show d c.args.parent.now (field (codes "name") (str c.args.name.now) no_fields) (shown_fields c.in_ok-attributes.attributes) (shown_tree (Listed c.in_ok-children.children))
    (c.in_ok-attributes.ensures ∙ ap (fields_under show d c.args.parent.now) c.in_ok-lists.ensures.keys)
    (list_of (received_of c.args.replica.now).operations d c.args.parent.now (own_list c.args.parent.now) c.args.most c.in_ok-children.children (units_left c.in_ok-lists.lists.own)
    refl c.lists_of.ensures.whole c.lists_of.ensures.received c.in_ok-lists.ensures.units c.in_ok-children.ensures))
    c.element_of.ensures

pub show_delta-returns : goal.show_delta-returns
show_delta-returns n c =
    let d = own_document c.args.replica.now in
    same_shown c.delta_of.result _ _ (delta_of (value_within c.args.most d) d c.args.parent.now _ c.in_ok-list.list c.in_ok-list.ensures c.in_ok-pieces.ensures)
    c.delta_of.ensures

pub show_list-returns : goal.show_list-returns
show_list-returns n c =
    let d = own_document c.args.replica.now in
    list_of (received_of c.args.replica.now).operations d c.args.parent.now c.in_ok-list.list c.args.most c.in_ok-values.values (units_left c.list.result)
    c.in_ok-list.ensures c.list.ensures.whole c.list.ensures.received c.list.ensures.units c.in_ok-values.ensures

pub show_nested-returns : goal.show_nested-returns
show_nested-returns n c =
    same_shown c.show_type.result _ _ (sym (within_nested c.args.most (own_document c.args.replica.now) c.args.id c.args.kind.now (omega (arith, c.if-most-eq0.false))))
    c.show_type.ensures

-- ---- a map

pub show_map-returns : goal.show_map-returns
show_map-returns n c =
    let d = own_document c.args.replica.now in
    c.in_ok-fields.ensures ∙ ap (fields_under (value_within c.args.most d) d c.args.parent.now) c.in_ok-keys.ensures

pub show_keys-returns-then-count-eq0 : goal.show_keys-returns-then-count-eq0
show_keys-returns-then-count-eq0 n c =
    let d = own_document c.args.replica.now in
    c.new-fields.ensures ∙ ap (fields_under (value_within c.args.most d) d c.args.parent.now)
    (sym (no_items c.args.keys.items (ap length (sym c.as_slice-count.ensures.value) ∙ c.if-count-eq0.true)))

pub show_keys-loop-key-init : goal.show_keys-loop-key-init
show_keys-loop-key-init n c =
    let d = own_document c.args.replica.now in
    let gives = c.into_iter-key-iterator.ensures.into_iter_gives in
    record {
      shown = none_made (value_within c.args.most d) d c.args.parent.now _ _ _ c.new-fields.ensures gives.0;
      count = gives.1 ∙ sym c.as_slice-count.ensures.len ∙ ap length (c.as_slice-count.ensures.value ∙ sym gives.0);
    }

pub show_keys-loop-key-preserved : goal.show_keys-loop-key-preserved
show_keys-loop-key-preserved n c =
    let d = own_document c.args.replica.now in
    let steps = c.in-Some.ensures.steps in
    record {
      shown = one_made (value_within c.args.most d) d c.args.parent.now (shown_fields c.loop-key.fields) _ _ c.in-Some.key _ _ (into_iter_items c.next.new.self) c.in_ok-push_value.ensures
          c.in_ok-value.ensures steps.0 c.loop-key.invariant.shown;
      count = omega (arith, steps.1, c.loop-key.invariant.count, ap length steps.0);
    }

pub show_keys-returns : goal.show_keys-returns
show_keys-returns n c =
    let d = own_document c.args.replica.now in
    all_made (value_within c.args.most d) d c.args.parent.now (shown_fields c.loop-key.fields) _ _
    (no_items (into_iter_items c.loop-key.key-iterator) (sym c.loop-key.invariant.count ∙ c.in-None.ensures.steps.0)) c.loop-key.invariant.shown

pub show_under-returns-in_default : goal.show_under-returns-in_default
show_under-returns-in_default n c =
    let d = own_document c.args.replica.now in
    under_none (value_within c.args.most d) d c.args.parent.now c.args.key.now
    (ap (lent_units d) (sym c.in_ok-list.ensures) ∙ sym c.list.ensures.units ∙ c.in_default.ensures.none)

pub show_under-returns-then-not-is_shown : goal.show_under-returns-then-not-is_shown
show_under-returns-then-not-is_shown n c =
    let d = own_document c.args.replica.now in
    under_hidden (value_within c.args.most d) d c.args.parent.now c.args.key.now c.in-Some.unit (units_left c.list.result) c.in-Some.ensures.last.0 (within_bare c.args.most d)
    c.in-Some.ensures.within c.in-Some.ensures.one (c.list.ensures.units ∙ ap (lent_units d) c.in_ok-list.ensures) c.in-Some.ensures.last.1
    (sym c.is_shown.ensures ∙ c.if-not-is_shown.true)

pub show_under-returns : goal.show_under-returns
show_under-returns n c =
    let d = own_document c.args.replica.now in
    ap (λ v. Some v) c.in_ok-shown.ensures
    ∙ under_shown (value_within c.args.most d) d c.args.parent.now c.args.key.now c.in-Some.unit (units_left c.list.result) c.in-Some.ensures.last.0 (within_bare c.args.most d)
    c.in-Some.ensures.within c.in-Some.ensures.one (c.list.ensures.units ∙ ap (lent_units d) c.in_ok-list.ensures) c.in-Some.ensures.last.1 (sym c.is_shown.ensures ∙ c.if-not-is_shown.false)

pub show_unit-returns-in-Nested : goal.show_unit-returns-in-Nested
show_unit-returns-in-Nested n c =
    let show = value_within c.args.most (own_document c.args.replica.now) in
    same_shown c.show_nested.result _ _
    (ap (λ u. show (bare c.args.unit.now.id u)) (sym (nested_unit c.args.unit.now c.in-Nested.kind c.in-Nested.is c.requires.within c.requires.one))) c.show_nested.ensures

pub show_unit-returns-in_default : goal.show_unit-returns-in_default
show_unit-returns-in_default n c =
    let show = value_within c.args.most (own_document c.args.replica.now) in
    let unit = (unit_of_view c.args.unit.now).content in
    let there = unit_got c.args.unit.now c.requires.within c.requires.one in
    IfOk-weaker c.plain_at.result (λ shown. (u : UnitContent) → slice_get (units_of_content (content_value c.args.unit.now.content.now)) c.args.unit.now.offset ≡ Some u → shown_tree shown ≡ plain_value u)
    (λ shown. shown_tree shown ≡ show (bare c.args.unit.now.id unit))
    (λ shown told. told unit there ∙ sym (within_plain c.args.most (own_document c.args.replica.now) c.args.unit.now.id unit (not_nested c.args.unit.now.content.now c.in_default.not-Nested c.args.unit.now.offset unit there)))
    c.plain_at.ensures
