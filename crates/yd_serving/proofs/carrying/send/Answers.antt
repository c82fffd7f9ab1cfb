use Rattle.std.proofs.Common.{◌≡◌, [], ◌∷◌, true, false}
use Rattle.yd_hub.specs.Actions.{send}
use Rattle.yd_hub.specs.Sessions.{is_open}
use Rattle.yd_serving.specs.Board.{board_of}
use Rattle.yd_serving.proofs.BoardLemmas.{trades_both, trades_close, trades_fail, trades_send, trades_unclosed, trades_unsent}
use Rattle.yd_serving.proofs.CarryLemmas.{cut_on, front_untold, send_fell, send_skipped, send_unclosed, send_unnoted, send_went}
use Rattle.yd_serving.proofs.carrying.send.Goals as goal

pub returns-then-has_failed-clause-sent : goal.returns-then-has_failed-clause-sent
returns-then-has_failed-clause-sent g c = λ message is.
    let value = c.deref.ensures.value in
    let says = c.has_failed.ensures in
    let failed = c.if-has_failed.true in
    let gone : is_open c.args.failed.now.items c.args.to ≡ true = cc in
    send_skipped c.args.to message c.args.failed.now.items _ gone

pub returns-in-Ok-clause-sent : goal.returns-in-Ok-clause-sent
returns-in-Ok-clause-sent g c = λ message is.
    let value = c.deref.ensures.value in
    let says = c.has_failed.ensures in
    let failed = c.if-has_failed.false in
    let there : is_open c.args.failed.now.items c.args.to ≡ false = cc in
    send_went c.args.to c.args.bytes.now message c.args.failed.now.items _ _ is there
    (trades_send {X = Unit {0}} _ _ c.args.to c.args.bytes.now tt c.in-Ok.ensures.sends c.in-Ok.ensures.cause c.in-Ok.ensures.others c.in-Ok.ensures.faults)

pub returns-in-Err-NoMemory-clause-sent : goal.returns-in-Err-NoMemory-clause-sent
returns-in-Err-NoMemory-clause-sent g c = λ message is.
    front_untold (send c.args.to message ∷ []) _ _ _
    (trades_unsent _ _ c.args.to (rw c.in-Err-NoMemory.field-0-is at c.in-Err-NoMemory.ensures.sends) (rw c.in-Err-NoMemory.field-0-is at c.in-Err-NoMemory.ensures.cause) c.in-Err-NoMemory.ensures.others c.in-Err-NoMemory.ensures.faults)

pub returns-in_err-close-in-Err-Failed-clause-sent : goal.returns-in_err-close-in-Err-Failed-clause-sent
returns-in_err-close-in-Err-Failed-clause-sent g c = λ message is.
    let value = c.deref.ensures.value in
    let says = c.has_failed.ensures in
    let failed = c.if-has_failed.false in
    let there : is_open c.args.failed.now.items c.args.to ≡ false = cc in
    let fell = c.in-Err-Failed.ensures in
    let open_still = c.in_err-close-in-Err-Failed.ensures in
    let middle = board_of (g.B.Switchboard.told c.send.new.self) (g.B.Switchboard.faults c.send.new.self) (g.B.Switchboard.send_faults c.send.new.self) in
    cut_on _ _ _ _ _ c.from_residual.result c.from_residual.ensures.0
    (send_unclosed c.args.to c.args.bytes.now message c.args.failed.now.items _ _ is there
    (trades_both _ middle _ [] [] _ []
    (trades_fail _ _ c.args.to c.args.bytes.now (rw c.in-Err-Failed.field-0-is at fell.sends) (rw c.in-Err-Failed.field-0-is at fell.cause) fell.others fell.faults)
    (trades_unclosed _ _ open_still.closes open_still.send_faults open_still.faults)))

pub returns-in_err-push-in-Err-Failed-clause-sent : goal.returns-in_err-push-in-Err-Failed-clause-sent
returns-in_err-push-in-Err-Failed-clause-sent g c = λ message is.
    let value = c.deref.ensures.value in
    let says = c.has_failed.ensures in
    let failed = c.if-has_failed.false in
    let there : is_open c.args.failed.now.items c.args.to ≡ false = cc in
    let fell = c.in-Err-Failed.ensures in
    let closed = c.in_ok-close-in-Err-Failed.ensures in
    let middle = board_of (g.B.Switchboard.told c.send.new.self) (g.B.Switchboard.faults c.send.new.self) (g.B.Switchboard.send_faults c.send.new.self) in
    cut_on _ _ _ _ _ c.from_residual-in_err-push-in-Err-Failed.result c.from_residual-in_err-push-in-Err-Failed.ensures.0
    (send_unnoted c.args.to c.args.bytes.now message c.args.failed.now.items _ _ is there
    (trades_both _ middle _ [] [] _ _
    (trades_fail _ _ c.args.to c.args.bytes.now (rw c.in-Err-Failed.field-0-is at fell.sends) (rw c.in-Err-Failed.field-0-is at fell.cause) fell.others fell.faults)
    (trades_close _ _ c.args.to _ closed.closes closed.send_faults closed.faults)))

pub returns-in_ok-push-in-Err-Failed-clause-sent : goal.returns-in_ok-push-in-Err-Failed-clause-sent
returns-in_ok-push-in-Err-Failed-clause-sent g c = λ message is.
    let value = c.deref.ensures.value in
    let says = c.has_failed.ensures in
    let failed = c.if-has_failed.false in
    let there : is_open c.args.failed.now.items c.args.to ≡ false = cc in
    let fell = c.in-Err-Failed.ensures in
    let closed = c.in_ok-close-in-Err-Failed.ensures in
    let middle = board_of (g.B.Switchboard.told c.send.new.self) (g.B.Switchboard.faults c.send.new.self) (g.B.Switchboard.send_faults c.send.new.self) in
    rw c.in_ok-push-in-Err-Failed.ensures.items (send_fell c.args.to c.args.bytes.now message c.args.failed.now.items _ _ is there
    (trades_both _ middle _ [] [] _ _
    (trades_fail _ _ c.args.to c.args.bytes.now (rw c.in-Err-Failed.field-0-is at fell.sends) (rw c.in-Err-Failed.field-0-is at fell.cause) fell.others fell.faults)
    (trades_close _ _ c.args.to _ closed.closes closed.send_faults closed.faults)))
