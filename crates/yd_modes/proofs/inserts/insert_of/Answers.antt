use Rattle.std.proofs.lemmas.Result.{IfOk-weaker}
use Rattle.std.proofs.Common.{◌≡◌, ◌∙◌, sym}
use Rattle.yd_value.specs.View.{shown_fields, shown_tree}
use Rattle.yd_modes.specs.Gathering.{made, told_insert}
use Rattle.yd_modes.proofs.ListLemmas.{some_items, with_some}
use Rattle.yd_modes.proofs.inserts.insert_of.Goals as goal

pub returns : goal.returns
returns c =
    IfOk-weaker c.marked_insert.result _ (λ shown. shown_tree shown ≡ told_insert (made c.args.piece))
    (λ shown e. e ∙ with_some c.as_slice.result.now (shown_fields c.args.piece.attributes) (shown_tree c.args.piece.insert) c.as_slice.ensures (some_items c.as_slice.result.now (sym c.is_empty.ensures ∙ c.if-is_empty.false)))
    c.marked_insert.ensures
