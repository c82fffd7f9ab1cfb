use Rattle.yd_serving.proofs.OnceLemmas.{ends_once}
use Rattle.yd_serving.proofs.law.sync_ends_once.Goals as goal

pub returns : goal.returns
returns c = ends_once
