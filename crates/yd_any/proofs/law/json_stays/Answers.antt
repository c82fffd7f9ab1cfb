use Rattle.yd_any.proofs.StayLemmas.{carried-valid}
use Rattle.yd_any.proofs.law.json_stays.Goals as goal

pub returns : goal.returns
returns c = carried-valid
