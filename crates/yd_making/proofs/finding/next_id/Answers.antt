use Rattle.std.proofs.Common.{◌∙◌}
use Rattle.yd_state.specs.Lent.{units_left}
use Rattle.yd_making.proofs.FindingLemmas.{first_of_piece}
use Rattle.yd_making.proofs.finding.next_id.Goals as goal

pub returns-in-Some : goal.returns-in-Some
returns-in-Some c = first_of_piece c.in-Some.piece (units_left c.args.view.now) (units_left c.next.new.self) c.in-Some.ensures.some c.in-Some.ensures.within c.in-Some.ensures.lends
