use Rattle.yd_app.proofs.GenerateLemmas.{generates_equal}
use Rattle.yd_app.proofs.law.generates_equal.Goals as goal

pub returns : goal.returns
returns c = generates_equal
