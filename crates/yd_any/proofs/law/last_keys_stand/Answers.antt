use Rattle.yd_any.proofs.KeyLemmas.{last_stands}
use Rattle.yd_any.proofs.law.last_keys_stand.Goals as goal

pub returns : goal.returns
returns c = last_stands
