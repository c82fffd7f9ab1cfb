use Rattle.yd_serving.proofs.CarryLemmas.{cut_on, front_none}
use Rattle.yd_serving.proofs.carrying.carry_one.Goals as goal

pub returns-in_err-bytes-in-Send-clause-carried : goal.returns-in_err-bytes-in-Send-clause-carried
returns-in_err-bytes-in-Send-clause-carried g c = cut_on _ _ _ _ _ c.from_residual.result c.from_residual.ensures.0 (front_none _ _ _)
