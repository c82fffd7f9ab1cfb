use Rattle.std.proofs.Common.{sym, subst, take}
use Rattle.yd_names.specs.Parents.{AreOwned}
use Rattle.yd_names.proofs.OwnedLemmas.{owned_front}
use Rattle.yd_names.proofs.parents.Parents.truncate.Goals as goal

pub returns : goal.returns
returns c = λ names o. subst (AreOwned (take c.args.len names) c.truncate.new.self) (sym c.keep_below.ensures)
    (owned_front names c.args.self.now.groups c.args.self.now.crowd.items o c.truncate.new.self c.args.len c.truncate.ensures)
