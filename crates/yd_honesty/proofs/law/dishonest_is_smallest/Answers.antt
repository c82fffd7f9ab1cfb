use Rattle.yd_honesty.proofs.DishonestLemmas.{dishonest_none, dishonest_some}
use Rattle.yd_honesty.proofs.law.dishonest_is_smallest.Goals as goal

pub returns : goal.returns
returns c = record { none = dishonest_none; some = dishonest_some }
