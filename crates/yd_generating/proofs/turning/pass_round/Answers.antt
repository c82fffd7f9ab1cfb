use Rattle.yd_doc.specs.Kept.{received_of}
use Rattle.yd_generating.proofs.TurnLemmas.{round_shared, round_taken, second_plain, third_plain}
use Rattle.yd_generating.proofs.turning.pass_round.Goals as goal

pub pass-requires-2 : goal.pass-requires-2
pass-requires-2 c = second_plain (received_of c.args.first.now) (received_of c.args.second.now) (received_of c.args.third.now) (received_of c.pass.new.asker)
    c.requires c.in_ok-pass.ensures.passed

pub pass-requires-3 : goal.pass-requires-3
pass-requires-3 c = third_plain (received_of c.args.first.now) (received_of c.args.second.now) (received_of c.args.third.now) (received_of c.pass.new.asker)
    c.requires c.in_ok-pass.ensures.passed (received_of c.pass-2.new.asker) c.in_ok-pass-2.ensures.passed

pub returns-clause-rounded : goal.returns-clause-rounded
returns-clause-rounded c = round_taken (received_of c.args.first.now) (received_of c.args.second.now) (received_of c.args.third.now) (received_of c.pass.new.asker)
    c.requires c.in_ok-pass.ensures.passed (received_of c.pass-2.new.asker) (received_of c.pass-3.new.asker) c.in_ok-pass-2.ensures.passed c.in_ok-pass-3.ensures.passed

pub returns-clause-shared : goal.returns-clause-shared
returns-clause-shared c = round_shared (received_of c.args.first.now) (received_of c.args.second.now) (received_of c.args.third.now) (received_of c.pass.new.asker)
    c.requires c.in_ok-pass.ensures.passed (received_of c.pass-2.new.asker) (received_of c.pass-3.new.asker) c.in_ok-pass-2.ensures.passed c.in_ok-pass-3.ensures.passed
