use Rattle.yd_meaning.proofs.LeastLemmas.{least_stays}
use Rattle.yd_meaning.proofs.law.least_stays.Goals as goal

pub returns : goal.returns
returns c = λ part held stays old_lists lists before named more deleted among least other closed x e.
    least_stays part held stays old_lists lists before named more among deleted least other closed x e
