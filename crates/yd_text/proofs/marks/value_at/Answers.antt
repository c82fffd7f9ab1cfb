use Rattle.std.proofs.Common.{◌≡◌, Some, refl, sym, ap, ◌∙◌, subst}
use Rattle.std.specs.Prelude.{IsTrue, option_copied, if◌then◌else◌}
use Rattle.yd_any.specs.JsonView.{json_tree}
use Rattle.yd_any.specs.Tree.{AnyTree, null}
use Rattle.yd_any.specs.declared.json_value.Json.{Json as JsonValue}
use Rattle.yd_editing.specs.Made.{units_up_to}
use Rattle.yd_editing.specs.TextEdit.{value_in_force}
use Rattle.yd_meaning.specs.Text.{live_units}
use Rattle.yd_any.specs.Valid.{is_valid_json}
use Rattle.yd_ops.specs.View.{content_value}
use Rattle.yd_state.specs.Lent.{units_left}
use Rattle.yd_doc.specs.Kept.{received_of, own_document}
use Rattle.yd_doc.proofs.CountedLemmas.{fewer_left}
use Rattle.yd_text.specs.Marks.{value_given, value_behind, value_up_to, HoldValid}
use Rattle.yd_text.proofs.ValueLemmas.{value_lent, value_passed, value_in_piece, value_valid, hold_valid, valid_behind, ok_then}
use Rattle.yd_text.proofs.marks.value_at.Goals as goal

pub loop-piece-init : goal.loop-piece-init
loop-piece-init c = record {
  value = refl;
  valid = refl;
  hold = subst HoldValid (sym c.list-view.ensures.units) (hold_valid (own_document c.args.replica.now) c.args.list.now (received_of c.args.replica.now).operations
      c.received_can_be_grouped.ensures.valid c.list-view.ensures.received);
}

pub loop-piece-smaller-then-piece : goal.loop-piece-smaller-then-piece
loop-piece-smaller-then-piece c = fewer_left c.in-Some.piece (units_left c.loop-piece.view) (units_left c.next.new.self) c.in-Some.ensures.some c.in-Some.ensures.within c.in-Some.ensures.lends

pub loop-piece-smaller : goal.loop-piece-smaller
loop-piece-smaller c = fewer_left c.in-Some.piece (units_left c.loop-piece.view) (units_left c.next.new.self) c.in-Some.ensures.some c.in-Some.ensures.within c.in-Some.ensures.lends

pub loop-piece-preserved-then-piece : goal.loop-piece-preserved-then-piece
loop-piece-preserved-then-piece c = record {
  value = sym (value_passed c.args.key.now c.in-Some.piece c.if-piece.true c.args.unit (value_given (option_copied c.loop-piece.value)) (units_left c.loop-piece.view)
      (units_left c.next.new.self) c.in-Some.ensures.lends) ∙ c.loop-piece.invariant.value;
  valid = c.loop-piece.invariant.valid;
  hold = valid_behind c.in-Some.piece (units_left c.loop-piece.view) (units_left c.next.new.self) c.in-Some.ensures.lends c.loop-piece.invariant.hold;
}

pub copy_of-requires : goal.copy_of-requires
copy_of-requires c = subst (λ (t : AnyTree). IsTrue (is_valid_json t)) (sym c.value_behind-value.ensures)
    (value_valid c.args.key.now c.in-Some.piece c.in-Some.ensures.within c.in-Some.ensures.some (units_left c.loop-piece.view) (units_left c.next.new.self) c.in-Some.ensures.lends
    c.loop-piece.invariant.hold (value_given (option_copied c.loop-piece.value)) c.loop-piece.invariant.valid)

pub loop-piece-preserved : goal.loop-piece-preserved
loop-piece-preserved c =
    let old = units_left c.loop-piece.view in
    let new = units_left c.next.new.self in
    let before = value_given (option_copied c.loop-piece.value) in
    let key = c.args.key.now in
    record {
      value = ap (λ (t : AnyTree). value_up_to key c.args.unit t new) c.value_behind-value.ensures
          ∙ sym (value_in_piece key c.in-Some.piece c.in-Some.ensures.within c.in-Some.ensures.some c.if-piece.false c.args.unit c.has_id.result c.has_id.ensures before old new c.in-Some.ensures.lends
          ∙ ap (λ s. if s then value_behind key (content_value c.in-Some.piece.content.now) before
          else value_up_to key c.args.unit (value_behind key (content_value c.in-Some.piece.content.now) before) new) c.if-has_id.false)
          ∙ c.loop-piece.invariant.value;
      valid = subst (λ (t : AnyTree). IsTrue (is_valid_json t)) (sym c.value_behind-value.ensures)
          (value_valid key c.in-Some.piece c.in-Some.ensures.within c.in-Some.ensures.some old new c.in-Some.ensures.lends c.loop-piece.invariant.hold before c.loop-piece.invariant.valid);
      hold = valid_behind c.in-Some.piece old new c.in-Some.ensures.lends c.loop-piece.invariant.hold;
    }

pub returns-then-has_id-clause-value : goal.returns-then-has_id-clause-value
returns-then-has_id-clause-value c =
    let old = units_left c.loop-piece.view in
    let new = units_left c.next.new.self in
    let before = value_given (option_copied c.loop-piece.value) in
    let key = c.args.key.now in
    let document = own_document c.args.replica.now in
    let list = c.args.list.now in
    let unit = c.args.unit in
    let is : value_given (option_copied c.value_behind-value.result) ≡ value_in_force key (units_up_to (Some unit) (live_units document list)) null =
    c.value_behind-value.ensures
    ∙ sym (value_in_piece key c.in-Some.piece c.in-Some.ensures.within c.in-Some.ensures.some c.if-piece.false unit c.has_id.result c.has_id.ensures before old new c.in-Some.ensures.lends
    ∙ ap (λ s. if s then value_behind key (content_value c.in-Some.piece.content.now) before
    else value_up_to key unit (value_behind key (content_value c.in-Some.piece.content.now) before) new) c.if-has_id.true)
    ∙ c.loop-piece.invariant.value ∙ ap (value_up_to key unit null) c.list-view.ensures.units ∙ value_lent document.deleted key unit null (document.units list) in
    ok_then (λ (v : JsonValue). json_tree v ≡ value_given (option_copied c.value_behind-value.result))
    (λ (v : JsonValue). json_tree v ≡ value_in_force key (units_up_to (Some unit) (live_units document list)) null) (λ v e. e ∙ is) c.copy_of.result c.copy_of.ensures.value

pub returns-then-has_id-clause-valid : goal.returns-then-has_id-clause-valid
returns-then-has_id-clause-valid c =
    let is : IsTrue (is_valid_json (value_given (option_copied c.value_behind-value.result))) =
    subst (λ (t : AnyTree). IsTrue (is_valid_json t)) (sym c.value_behind-value.ensures)
    (value_valid c.args.key.now c.in-Some.piece c.in-Some.ensures.within c.in-Some.ensures.some (units_left c.loop-piece.view) (units_left c.next.new.self) c.in-Some.ensures.lends
    c.loop-piece.invariant.hold (value_given (option_copied c.loop-piece.value)) c.loop-piece.invariant.valid) in
    ok_then (λ (v : JsonValue). json_tree v ≡ value_given (option_copied c.value_behind-value.result)) (λ (v : JsonValue). IsTrue (is_valid_json (json_tree v)))
    (λ v e. subst (λ (t : AnyTree). IsTrue (is_valid_json t)) (sym e) is) c.copy_of.result c.copy_of.ensures.value

pub returns-clause-value : goal.returns-clause-value
returns-clause-value c =
    let document = own_document c.args.replica.now in
    let list = c.args.list.now in
    let key = c.args.key.now in
    let unit = c.args.unit in
    let is : value_given (option_copied c.loop-piece.value) ≡ value_in_force key (units_up_to (Some unit) (live_units document list)) null =
    ap (value_up_to key unit (value_given (option_copied c.loop-piece.value))) (sym c.in_default.ensures.lends)
    ∙ c.loop-piece.invariant.value ∙ ap (value_up_to key unit null) c.list-view.ensures.units ∙ value_lent document.deleted key unit null (document.units list) in
    ok_then (λ (v : JsonValue). json_tree v ≡ value_given (option_copied c.loop-piece.value))
    (λ (v : JsonValue). json_tree v ≡ value_in_force key (units_up_to (Some unit) (live_units document list)) null) (λ v e. e ∙ is) c.copy_of-2.result c.copy_of-2.ensures.value
