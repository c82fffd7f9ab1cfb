use Rattle.yd_grouping.proofs.GroupableLemmas.{received_groupable, after_groupable, written_groupable}
use Rattle.yd_grouping.proofs.law.received_is_groupable.Goals as goal

pub returns : goal.returns
returns c = record { set = received_groupable; update = written_groupable; step = after_groupable }
