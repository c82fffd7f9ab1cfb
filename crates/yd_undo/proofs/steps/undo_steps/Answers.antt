use Rattle.yd_undo.specs.Remade.{seen_of}
use Rattle.yd_undo.proofs.KeyLemmas.{all_steps}
use Rattle.yd_undo.proofs.steps.undo_steps.Goals as goal

pub returns : goal.returns
returns c = all_steps (seen_of c.args.replica.now) c.args.entry.now c.in_ok-live.live c.new-steps.result c.push.new.self c.add_groups.new.steps c.add_keys.new.steps
    c.new-steps.ensures c.in_ok-push.ensures.appended c.in_ok-live.ensures c.in_ok-add_groups.ensures c.in_ok-add_keys.ensures
