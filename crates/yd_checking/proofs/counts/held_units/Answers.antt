use Rattle.std.proofs.Common.{◌∙◌}
use Rattle.yd_meaning.specs.Held.{held_set}
use Rattle.yd_state.specs.State.{received_in}
use Rattle.yd_checking.proofs.HeldCountLemmas.{clocks_count}
use Rattle.yd_checking.proofs.counts.held_units.Goals as goal

pub returns : goal.returns
returns c = c.sum_of_clocks.ensures.sum ∙ clocks_count c.vector.result.now c.sum_of_clocks.ensures.vector (held_set (received_in c.args.state.now).operations) c.vector.ensures
