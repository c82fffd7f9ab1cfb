use Rattle.yd_origins.proofs.TableLemmas.{total}
use Rattle.yd_origins.proofs.law.one_is_before.Goals as goal

pub returns : goal.returns
returns c = λ table a b t p q ne. total table t a b p q ne
