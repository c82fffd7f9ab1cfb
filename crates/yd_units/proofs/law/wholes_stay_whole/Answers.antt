use Rattle.yd_units.proofs.CutLemmas.{front_whole, back_whole, joined_whole}
use Rattle.yd_units.proofs.law.wholes_stay_whole.Goals as goal

pub returns : goal.returns
returns c = record { front = front_whole; back = back_whole; joined = joined_whole }
