use Rattle.std.proofs.Common.{refl}
use Rattle.yd_ops.specs.View.{update_value}
use Rattle.yd_merge.proofs.JoiningLemmas.{same_received}
use Rattle.yd_merge.proofs.joining.join_runs.Goals as goal

pub returns-clause-received : goal.returns-clause-received
returns-clause-received c =
    same_received (update_value c.args.update) (update_value (record { blocks = c.in_ok-blocks.blocks; deletes = c.args.update.deletes })) c.requires
    (record { blocks = c.in_ok-blocks.ensures.valid c.requires.blocks; deletes = c.requires.deletes }) (c.in_ok-blocks.ensures.operations c.requires.blocks) refl
