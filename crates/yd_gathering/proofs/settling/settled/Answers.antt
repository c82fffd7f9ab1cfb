use Rattle.std.proofs.Common.{map}
use Rattle.yd_ops.specs.View.{update_value}
use Rattle.yd_gathering.specs.Late.{updates_late}
use Rattle.yd_gathering.proofs.SaidLemmas.{says_both}
use Rattle.yd_gathering.proofs.StandingLemmas.{says_stands}
use Rattle.yd_gathering.proofs.settling.settled.Goals as goal

pub gathered-requires : goal.gathered-requires
gathered-requires c = rw c.places.ensures c.requires.late

pub returns : goal.returns
returns c = λ taken says.
    says_stands _ _ (says_both taken (map update_value c.args.before.now) (updates_late c.args.late.now) (map update_value c.in_ok-list-2.list) says (rw c.places.ensures at c.in_ok-list-2.ensures))
