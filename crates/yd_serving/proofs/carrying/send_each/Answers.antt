use Rattle.std.proofs.Common.{◌∙◌, refl}
use Rattle.yd_serving.proofs.CarryLemmas.{carries_none, cut_on, same_at, sends_next, sends_stop}
use Rattle.yd_serving.proofs.carrying.send_each.Goals as goal

pub loop-session-init : goal.loop-session-init
loop-session-init g c = record { sent = λ message is. carries_none _ _; calm = λ calm. calm; faults = refl }

pub returns-in_err-send-clause-sent : goal.returns-in_err-send-clause-sent
returns-in_err-send-clause-sent g c = λ message is.
    let loop = c.loop-session in
    cut_on _ _ _ _ _ c.from_residual.result c.from_residual.ensures.0
    (sends_stop message c.args.to.now loop.session-index _ _ _ _ _ _ c.loop-session-test.true (same_at c.args.to.now loop.session-index _ c.loop-session-test.true)
    (loop.invariant.sent message is) (c.in_err-send.ensures.sent message is))

pub loop-session-preserved : goal.loop-session-preserved
loop-session-preserved g c =
    let loop = c.loop-session in
    let done = c.in_ok-send.ensures in
    record {
      sent = λ message is. sends_next message c.args.to.now loop.session-index _ _ _ _ _ _ _ c.loop-session-test.true (same_at c.args.to.now loop.session-index _ c.loop-session-test.true)
          (loop.invariant.sent message is) (done.sent message is);
      calm = λ calm. done.calm (loop.invariant.calm calm);
      faults = done.faults ∙ loop.invariant.faults;
    }
