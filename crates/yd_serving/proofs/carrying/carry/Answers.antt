use Rattle.std.proofs.Common.{◌∙◌, refl}
use Rattle.yd_serving.proofs.CarryLemmas.{carries_none, cut_on, orders_next, orders_stop}
use Rattle.yd_serving.proofs.carrying.carry.Goals as goal

pub loop-action-init : goal.loop-action-init
loop-action-init g c = record { carried = carries_none _ _; calm = λ calm. calm; faults = refl }

pub returns-in_err-carry_one-clause-carried : goal.returns-in_err-carry_one-clause-carried
returns-in_err-carry_one-clause-carried g c =
    let loop = c.loop-action in
    cut_on _ _ _ _ _ c.from_residual.result c.from_residual.ensures.0
    (orders_stop c.args.actions.now loop.action-index c.action-item.result _ _ _ _ _ c.loop-action-test.true c.action-item.is loop.invariant.carried c.in_err-carry_one.ensures.carried)

pub loop-action-preserved : goal.loop-action-preserved
loop-action-preserved g c =
    let loop = c.loop-action in
    let done = c.in_ok-carry_one.ensures in
    record {
      carried = orders_next c.args.actions.now loop.action-index c.action-item.result _ _ _ _ _ _ c.loop-action-test.true c.action-item.is loop.invariant.carried done.carried;
      calm = λ calm. done.calm (loop.invariant.calm calm);
      faults = done.faults ∙ loop.invariant.faults;
    }
