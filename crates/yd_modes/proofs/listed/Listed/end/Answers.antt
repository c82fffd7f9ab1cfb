use Rattle.std.proofs.Common.{◌≡◌, [], ◌∷◌, length, sym, ap, ◌∙◌, arith}
use Rattle.std.proofs.lemmas.Bool.{eqb-false}
use Rattle.yd_any.specs.Tree.{str, no_fields}
use Rattle.yd_units.specs.Text.{text_of}
use Rattle.yd_value.specs.View.{shown_tree, shown_trees}
use Rattle.yd_modes.proofs.ListedLemmas.{one_text, closed_some}
use Rattle.yd_modes.proofs.listed.Listed.end.Goals as goal

pub returns : goal.returns
returns c =
    let shown = c.args.self.now.halves.shown in
    let some : length shown.items ≡ 0 → ⊥ = λ none. omega (arith, none, shown.ok.0, eqb-false shown.len 0 (sym c.is_empty.ensures ∙ c.if-is_empty.false)) in
    let text : shown_tree c.in_ok-text.text ≡ str (text_of shown.items) =
    c.in_ok-text.ensures ∙ ap (λ us. str (text_of us)) c.of_units.ensures ∙ (λ i. str (text_of ((c.replace-units.ensures.value i).items))) in
    record {
      values = one_text c.args.self.now (shown_trees c.push.new.self) (shown_tree c.in_ok-text.text) c.in_ok-push.ensures.appended
          (closed_some shown.items some ∙ ap (λ t. (t, no_fields) ∷ []) (sym text));
      shown = (λ i. (c.replace-units.ensures.after i).items) ∙ c.new.ensures.items;
      silent = λ silent. silent;
    }
