use Rattle.yd_ids.proofs.MaximumLemmas.{raise_alone, raise_one, raise_none, raises_commute}
use Rattle.yd_ids.proofs.law.raise_is_maximum.Goals as goal

pub returns : goal.returns
returns c = record { alone = raise_alone; one = raise_one; none = raise_none; any_order = raises_commute }
