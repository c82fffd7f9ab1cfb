use Rattle.std.proofs.Common.{◌∙◌, sym, ap, map}
use Rattle.yd_any.specs.AnyView.{any_trees}
use Rattle.yd_ops.specs.Value.{string, any, json}
use Rattle.yd_ops.specs.View.{content_value, unit_value}
use Rattle.yd_ops.specs.declared.contents.Content.{Content}
use Rattle.yd_copying.specs.Content.{whole_units}
use Rattle.yd_copying.specs.Piece.{first_kind}
use Rattle.yd_copying.specs.declared.pieces.Piece.{Piece}
use Rattle.yd_copying.proofs.HeadLemmas.{copied_text, copied_trees, copied_json}
use Rattle.yd_copying.proofs.copying.copied.Goals as goal

pub returns-in_ok-whole-in-Str : goal.returns-in_ok-whole-in-Str
returns-in_ok-whole-in-Str c = record {
  content = ap string (c.of_units.ensures ∙ c.in_ok-whole-in-Str.ensures ∙ ap whole_units (c.deref.ensures.value ∙ c.in_ok-units-in-Str.ensures))
      ∙ sym (copied_text c.args.pieces.now c.index-pieces-0.result c.in-Str.field-0 (first_kind c.args.pieces.now) c.requires.some c.index-pieces-0.is c.requires.pieces
      (ap (λ (p : Piece). content_value p.content.now) c.index-pieces-0.is ∙ ap (λ (content : Content). content_value content) c.in-Str.is));
}

pub returns-in_ok-values-in-Any : goal.returns-in_ok-values-in-Any
returns-in_ok-values-in-Any c = record {
  content = ap any c.in_ok-values-in-Any.ensures
      ∙ sym (copied_trees c.args.pieces.now c.index-pieces-0.result (any_trees c.in-Any.field-0) (first_kind c.args.pieces.now) c.requires.some c.index-pieces-0.is c.requires.pieces
      (ap (λ (p : Piece). content_value p.content.now) c.index-pieces-0.is ∙ ap (λ (content : Content). content_value content) c.in-Any.is));
}

pub returns-in_ok-json_units-in-Json : goal.returns-in_ok-json_units-in-Json
returns-in_ok-json_units-in-Json c = record {
  content = ap json c.in_ok-json_units-in-Json.ensures
      ∙ sym (copied_json c.args.pieces.now c.index-pieces-0.result (map unit_value c.in-Json.field-0) (first_kind c.args.pieces.now) c.requires.some c.index-pieces-0.is c.requires.pieces
      (ap (λ (p : Piece). content_value p.content.now) c.index-pieces-0.is ∙ ap (λ (content : Content). content_value content) c.in-Json.is));
}
