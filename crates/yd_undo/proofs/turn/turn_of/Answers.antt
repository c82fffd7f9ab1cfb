use Rattle.std.proofs.Common.{Option, refl, ◌∙◌, subst}
use Rattle.std.specs.Prelude.{IfErr, IfOk}
use Rattle.yd_ops.specs.View.{update_value}
use Rattle.yd_making.specs.declared.fault.EditFault.TheVariants.{Nothing}
use Rattle.yd_undo.specs.declared.entry.Entry.{Entry}
use Rattle.yd_undo.specs.Stacks.{IsUndoCause}
use Rattle.yd_undo.specs.Turn.{IsReady}
use Rattle.yd_undo.proofs.TurnLemmas.{newest_is}
use Rattle.yd_undo.proofs.turn.turn_of.Goals as goal

pub returns-in-None-clause-refused : goal.returns-in-None-clause-refused
returns-in-None-clause-refused c =
    subst (λ (e : Option Entry). IsUndoCause Nothing e c.args.replica.now) (c.in-None.ensures.value ∙ newest_is c.args.entries.now) refl

pub returns-in-Some-clause-ready : goal.returns-in-Some-clause-ready
returns-in-Some-clause-ready c =
    subst (λ (e : Option Entry). IfOk c.turn_for.result (λ turn. IsReady e c.args.replica.now (update_value turn.update))) (c.in-Some.ensures.value ∙ newest_is c.args.entries.now)
    c.turn_for.ensures.ready

pub returns-in-Some-clause-refused : goal.returns-in-Some-clause-refused
returns-in-Some-clause-refused c =
    subst (λ (e : Option Entry). IfErr c.turn_for.result (λ fault. IsUndoCause fault e c.args.replica.now)) (c.in-Some.ensures.value ∙ newest_is c.args.entries.now)
    c.turn_for.ensures.refused
