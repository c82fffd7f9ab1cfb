use Rattle.yd_app.proofs.LawLemmas.{shows_same}
use Rattle.yd_app.proofs.law.shows_converge.Goals as goal

pub returns : goal.returns
returns c = shows_same
