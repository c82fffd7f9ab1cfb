use Rattle.std.proofs.Common.{List, sym, subst}
use Rattle.std.specs.Prelude.{IfErr, IfOk}
use Rattle.yd_words.specs.Each.{Each}
use Rattle.yd_ops.specs.View.{update_value}
use Rattle.yd_editing.specs.Refused.{refusal_of}
use Rattle.yd_editing.specs.Step.{Step}
use Rattle.yd_making.specs.Steps.{IsProper, IsCause}
use Rattle.yd_doc.specs.Editing.{own_basis, IsPrepared}
use Rattle.yd_undo.proofs.ProperLemmas.{undo_proper}
use Rattle.yd_undo.proofs.turn.update_of.Goals as goal

pub prepare-requires : goal.prepare-requires
prepare-requires c = subst (Each IsProper) (sym c.in_ok-steps.ensures)
    (undo_proper c.args.replica.now c.own_document_is_replicas.ensures c.received_can_be_grouped.ensures c.args.entry.now)

pub returns-clause-refused : goal.returns-clause-refused
returns-clause-refused c =
    subst (λ (steps : List Step). IfErr c.prepare.result (λ fault. IsCause fault (refusal_of (own_basis c.args.replica.now) steps))) c.in_ok-steps.ensures c.prepare.ensures.refused

pub returns-clause-made : goal.returns-clause-made
returns-clause-made c =
    subst (λ (steps : List Step). IfOk c.prepare.result (λ update. IsPrepared c.args.replica.now steps (update_value update))) c.in_ok-steps.ensures c.prepare.ensures.made
