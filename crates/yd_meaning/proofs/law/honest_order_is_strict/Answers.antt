use Rattle.yd_meaning.proofs.HonestListLemmas.{strict_order}
use Rattle.yd_meaning.proofs.law.honest_order_is_strict.Goals as goal

pub returns : goal.returns
returns c = strict_order
