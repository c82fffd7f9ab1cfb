use Rattle.std.proofs.Common.{◌∙◌, ap}
use Rattle.yd_ops.specs.Received.{Received}
use Rattle.yd_generator.specs.Generated.{passed_at}
use Rattle.yd_doc.specs.Kept.{received_of}
use Rattle.yd_generating.proofs.TurnLemmas.{edited_plain}
use Rattle.yd_generating.proofs.turning.turn.Goals as goal

pub hand_on-requires : goal.hand_on-requires
hand_on-requires c = edited_plain c.args.own.now.client c.requires.client (received_of c.args.own.now) c.requires.plain c.args.draws c.in_ok-edit.ensures.accepted
    (received_of c.edit.new.replica) c.in_ok-edit.ensures.edited

pub returns-in-Ok-clause-passed : goal.returns-in-Ok-clause-passed
returns-in-Ok-clause-passed c = c.in-Ok.ensures.passed ∙ ap (λ (r : Received). passed_at c.args.step r (received_of c.args.next.now)) c.in_ok-edit.ensures.edited
