use Rattle.std.proofs.Common.{◌≡◌, true, false}
use Rattle.yd_hub.specs.Sessions.{is_open}
use Rattle.yd_serving.proofs.BoardLemmas.{trades_close, trades_unclosed}
use Rattle.yd_serving.proofs.CarryLemmas.{close_skipped, close_went, cut_on, front_untold}
use Rattle.yd_serving.proofs.carrying.close.Goals as goal

pub returns-then-has_failed-clause-closed : goal.returns-then-has_failed-clause-closed
returns-then-has_failed-clause-closed g c =
    let says = c.has_failed.ensures in
    let failed = c.if-has_failed.true in
    let gone : is_open c.args.failed.now c.args.to.0 ≡ true = cc in
    close_skipped c.args.to.0 c.args.cause c.args.failed.now _ gone

pub returns-in_err-close-clause-closed : goal.returns-in_err-close-clause-closed
returns-in_err-close-clause-closed g c =
    let still = c.in_err-close.ensures in
    cut_on _ _ _ _ _ c.from_residual.result c.from_residual.ensures.0 (front_untold _ _ _ _ (trades_unclosed _ _ still.closes still.send_faults still.faults))

pub returns-clause-closed : goal.returns-clause-closed
returns-clause-closed g c =
    let says = c.has_failed.ensures in
    let failed = c.if-has_failed.false in
    let there : is_open c.args.failed.now c.args.to.0 ≡ false = cc in
    let closed = c.in_ok-close.ensures in
    close_went c.args.to.0 c.reason.result.now c.args.cause c.args.failed.now _ _ c.reason.ensures there (trades_close _ _ c.args.to.0 c.reason.result.now closed.closes closed.send_faults closed.faults)
