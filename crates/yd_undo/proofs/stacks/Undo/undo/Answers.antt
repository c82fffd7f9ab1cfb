use Rattle.std.proofs.Common.{◌-◌, List, [], ◌∷◌, ◌++◌, length, take, sym, ap, ap₂, ◌∙◌}
use Rattle.yd_ops.specs.View.{update_value}
use Rattle.yd_undo.specs.declared.entry.Entry.{Entry}
use Rattle.yd_undo.specs.Stacks.{Stacks, after_undo}
use Rattle.yd_undo.proofs.TurnLemmas.{older_is}
use Rattle.yd_undo.proofs.stacks.Undo.undo.Goals as goal

pub returns-clause-stacks : goal.returns-clause-stacks
returns-clause-stacks c =
    let entries = c.self.inside.undo.items in
    let kept = c.in_ok-update.ensures.kept in
    let all = sym c.as_slice.ensures.len ∙ ap length c.as_slice.ensures.value in
    (λ i. record {
      depth = c.self.inside.depth;
      noted = kept.noted_is i;
      undo = (c.pop.ensures.rest ∙ ap (λ n. take (n - 1) entries) all ∙ older_is entries) i;
      redo = (c.push_reserved.ensures.items ∙ ap₂ (λ (es : List Entry) (e : Entry). es ++ e ∷ []) c.in_ok-reserve_one.ensures.kept kept.entry_is) i;
    })
    ∙ ap (λ (s : Stacks). after_undo s (update_value c.in_ok-update.field-0.update)) c.self.view_is
