use Rattle.std.proofs.Common.{◌∙◌, [], arith, refl}
use Rattle.yd_serving.proofs.BoardLemmas.{trades_both, trades_fail, trades_none, trades_send, trades_unsent}
use Rattle.yd_serving.proofs.SayLemmas.{says_all, says_front, says_next, says_stop, valid_at}
use Rattle.yd_serving.proofs.syncing.say.Goals as goal

pub loop-message-init : goal.loop-message-init
loop-message-init g c = record { said = trades_none _; calm = λ calm. calm; faults = refl }

pub write_message-requires : goal.write_message-requires
write_message-requires g c = valid_at c.args.messages.now c.loop-message.message-index c.message-item.result c.loop-message-test.true c.message-item.is c.requires

pub returns-in_err-bytes-clause-said : goal.returns-in_err-bytes-clause-said
returns-in_err-bytes-clause-said g c = says_front _ _ _ _ c.from_residual.result c.from_residual.ensures.0 c.loop-message.invariant.said

pub loop-message-preserved : goal.loop-message-preserved
loop-message-preserved g c =
    let loop = c.loop-message in
    let went = c.in-Ok.ensures in
    record {
      said = says_next c.args.messages.now loop.message-index c.message-item.result _ _ _ _ c.loop-message-test.true c.message-item.is (c.deref.ensures.value ∙ c.in_ok-bytes.ensures.written) loop.invariant.said
          (trades_send {X = Unit {0}} _ _ 0 _ tt went.sends went.cause went.others went.faults);
      calm = λ calm. (went.calm (loop.invariant.calm calm)).0;
      faults = went.faults ∙ loop.invariant.faults;
    }

pub returns-in-Err-NoMemory-clause-said : goal.returns-in-Err-NoMemory-clause-said
returns-in-Err-NoMemory-clause-said g c =
    let none = c.in-Err-NoMemory in
    record {
      events = [];
      told = _;
      few = omega arith;
      trades = trades_both _ _ _ [] [] _ [] c.loop-message.invariant.said
          (trades_unsent _ _ 0 (rw none.field-0-is at none.ensures.sends) (rw none.field-0-is at none.ensures.cause) none.ensures.others none.ensures.faults);
    }

pub returns-in-Err-Failed-clause-said : goal.returns-in-Err-Failed-clause-said
returns-in-Err-Failed-clause-said g c =
    let loop = c.loop-message in
    let fell = c.in-Err-Failed in
    says_stop c.args.messages.now loop.message-index c.message-item.result _ _ _ _ c.loop-message-test.true c.message-item.is (c.deref.ensures.value ∙ c.in_ok-bytes.ensures.written) loop.invariant.said
    (trades_fail _ _ 0 _ (rw fell.field-0-is at fell.ensures.sends) (rw fell.field-0-is at fell.ensures.cause) fell.ensures.others fell.ensures.faults)

pub returns-clause-said : goal.returns-clause-said
returns-clause-said g c = says_all c.args.messages.now c.loop-message.message-index _ _ (omega (arith, c.loop-message-test.false)) c.loop-message.invariant.said
