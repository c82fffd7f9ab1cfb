use Rattle.std.proofs.Common.{◌+◌, List, [], ◌∷◌, sym, ◌∙◌, subst}
use Rattle.yd_ids.specs.declared.id.Span.{Span}
use Rattle.yd_ops.specs.View.{update_value}
use Rattle.yd_editing.specs.Step.{remove, first_or}
use Rattle.yd_editing.specs.TextEdit.{counted_units, end_refusal, index_refusal}
use Rattle.yd_doc.specs.Editing.{own_basis, IsEdit}
use Rattle.yd_doc.proofs.CauseLemmas.{accepted_given}
use Rattle.yd_text.proofs.RefusalLemmas.{delete_refused}
use Rattle.yd_text.proofs.deleting.delete.Goals as goal

pub returns-in-Ok-clause-done : goal.returns-in-Ok-clause-done
returns-in-Ok-clause-done c = subst (λ (spans : List Span). IsEdit c.args.replica.now c.remove.new.self (remove spans ∷ []) (update_value c.in-Ok.update)) c.in_ok-ids.ensures c.in-Ok.ensures.done

pub returns-in-Ok-clause-accepted : goal.returns-in-Ok-clause-accepted
returns-in-Ok-clause-accepted c =
    let basis = own_basis c.args.replica.now in
    let units = counted_units basis.document c.args.list.now in
    sym (delete_refused basis c.args.list.now c.args.index c.args.len c.in_ok-ids.ids
    (accepted_given (first_or (end_refusal units (c.args.index + c.args.len)) (first_or (index_refusal units c.args.index) (index_refusal units (c.args.index + c.args.len))))
    (sym c.in_default.is ∙ c.range_fault.ensures.fault)) c.in_ok-ids.ensures) ∙ c.in-Ok.ensures.done.accepted
