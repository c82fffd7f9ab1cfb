use Rattle.yd_value.specs.View.{shown_tree, shown_trees}
use Rattle.yd_modes.proofs.ListedLemmas.{value_listed}
use Rattle.yd_modes.proofs.listed.Listed.take_value.Goals as goal

pub returns : goal.returns
returns c = λ show content role shows. value_listed show c.args.self.now c.silence.new.self c.end.new.self c.args.id content (shown_tree c.args.value) (shown_trees c.push.new.self)
    c.in_ok-silence.ensures c.in_ok-end.ensures c.in_ok-push.ensures.appended role shows
