use Rattle.std.proofs.Common.{nat_lt, refl, sym, ap, ◌∙◌, subst}
use Rattle.yd_ops.specs.View.{content_value}
use Rattle.yd_editing.specs.Step.{first_or}
use Rattle.yd_editing.specs.TextEdit.{counted_units, insert_steps, list_refusal, end_refusal, index_refusal}
use Rattle.yd_making.specs.Steps.{IsCause}
use Rattle.yd_doc.specs.Editing.{own_basis}
use Rattle.yd_doc.proofs.CauseLemmas.{accepted_given}
use Rattle.yd_text.proofs.RefusalLemmas.{insert_refused}
use Rattle.yd_text.proofs.inserting.insert_content.Goals as goal

pub returns-in-Err-clause-refused : goal.returns-in-Err-clause-refused
returns-in-Err-clause-refused c =
    let basis = own_basis c.args.replica.now in
    let units = counted_units basis.document c.args.list.now in
    subst (IsCause c.in-Err.fault) (insert_refused basis c.args.list.now c.args.index (content_value c.args.content)
    (insert_steps basis.document c.args.list.now c.args.index (content_value c.args.content))
    (nat_lt 0 c.len.result) (ap (nat_lt 0) c.len.ensures)
    (accepted_given (list_refusal basis c.args.list.now (nat_lt 0 c.len.result)) (sym c.in_default.is ∙ c.list_fault.ensures))
    (accepted_given (first_or (end_refusal units c.args.index) (index_refusal units c.args.index)) (sym c.in_default-place_fault.is ∙ c.place_fault.ensures))
    refl) c.in-Err.ensures.refused
