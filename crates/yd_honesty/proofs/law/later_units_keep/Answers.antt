use Rattle.yd_honesty.proofs.LaterLemmas.{later_meets}
use Rattle.yd_honesty.proofs.law.later_units_keep.Goals as goal

pub returns : goal.returns
returns c os w o p i j follows strict = later_meets os w o p i j follows strict.one_way
