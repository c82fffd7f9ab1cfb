use Rattle.yd_state.specs.Lent.{units_left}
use Rattle.yd_making.proofs.FindingLemmas.{in_piece}
use Rattle.yd_making.proofs.finding.found_at.Goals as goal

pub returns : goal.returns
returns c = in_piece c.args.piece.now c.requires.within c.args.skipped (units_left c.args.view.now) c.is_high_at.result c.next_behind.result c.requires.inside
    c.is_high_at.ensures c.next_behind.ensures
