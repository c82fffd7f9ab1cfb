use Rattle.yd_app.proofs.OnceLemmas.{ends_online}
use Rattle.yd_app.proofs.law.one_ends_online.Goals as goal

pub returns : goal.returns
returns c = ends_online
