use Rattle.yd_checking.proofs.ConvergeLemmas.{findings_alike}
use Rattle.yd_checking.proofs.law.findings_converge.Goals as goal

pub returns : goal.returns
returns c = findings_alike
